-- What loading a site makes of the files that a folder tells.
use Rattle.std.specs.Prelude.{◌≡◌, List, Option, Some, None, ⊤, Result, Ok, Err}
use Rattle.sws_link.specs.Told.{FolderContents}
use Rattle.sws_site.specs.declared.options.SiteOptions.{SiteOptions}
use Rattle.sws_site.specs.declared.site_faults.SiteFault.{SiteFault}
use Rattle.sws_site.specs.Files.{File}
use Rattle.sws_site.specs.Site.{SiteState}
use Rattle.sws_site.specs.Limits.{limit_of, IsLimitOf}

-- none of the files was given
abbrev pub IsInitialFolder : Option FolderContents → Type 0
IsInitialFolder None = ⊤
IsInitialFolder (Some folder) = folder.given ≡ 0

-- the files are those that the folder tells, in its order, and they meet no limit of a site with
-- these options; or a refusal that names a limit is theirs
abbrev pub Loads
    : SiteOptions → Option FolderContents → Result (List File) SiteFault → Type 0
Loads options None loaded = ⊤
Loads options (Some folder) (Ok files) =
    (files ≡ folder.files) × (limit_of options folder.files ≡ None)
Loads options (Some folder) (Err fault) = IsLimitOf options folder.files fault

-- the files of the site are those that the folder tells, and they meet no limit of a site with
-- these options; or a refusal that names a limit is theirs
abbrev pub LoadsSite : SiteOptions → Option FolderContents → Result SiteState SiteFault → Type 0
LoadsSite options folder (Ok site) = Loads options folder (Ok site.files)
LoadsSite options folder (Err fault) = Loads options folder (Err fault)

-- the folder tells the same path and the same files as before, or still nothing
abbrev pub IsSameFolder : Option FolderContents → Option FolderContents → Type 0
IsSameFolder None now = now ≡ None
IsSameFolder (Some before) None = ⊥
IsSameFolder (Some before) (Some now) = (now.path ≡ before.path) × (now.files ≡ before.files)
