-- The site of a run: the folder that the words name, its files, and its limits.
use Rattle.std.specs.Prelude.{◌≡◌, ◌⊎◌, ℕ, List, Option, Some, None, Result, Ok, Err}
use Rattle.sws_link.specs.Counts.{Rose, IsLater}
use Rattle.sws_link.specs.Told.{FolderContents}
use Rattle.sws_link.specs.declared.Folder.{Ghosts as FolderWords}
use Rattle.sws_site.specs.Limits.{IsWithinOptions, limit_of}
use Rattle.sws_site.specs.Options.{plain_options}
use Rattle.sws_site.specs.Site.{SiteState, IsDateAt}
use Rattle.sws_top.specs.declared.faults.TopFault.{TopFault}
use Rattle.sws_top.specs.declared.faults.TopFault.TheVariants.{ReadFault, Memory, SiteFull}
use Rattle.sws_top.specs.Faults.{refusal_of}

-- the folder was opened with the path, and has the same files
pub record IsOpenAt (path : List ℕ) (before now : FolderContents) : Type 0 where
  pub path_is : now.path ≡ Some path
  pub same_files : now.files ≡ before.files

-- the folder, which goes on telling nothing where it tells nothing, was opened with the path
abbrev pub OpensAt : List ℕ → Option FolderContents → Option FolderContents → Type 0
OpensAt path None now = now ≡ None
OpensAt path (Some before) None = ⊥
OpensAt path (Some before) (Some now) = IsOpenAt path before now

-- the folder tells files that are no more than a plain site holds
abbrev pub TellsWithinLimits : Option FolderContents → Type 0
TellsWithinLimits None = ⊥
TellsWithinLimits (Some folder) = IsWithinOptions plain_options folder.files

module _ {F : Type 0} (f : FolderWords F) (path : List ℕ) (folder now : F) where
  -- The folder was opened with the path, and the site has the files that it tells, in its order,
  -- and the date; they meet no limit, and the site does nothing beyond sending them.
  pub record IsLoaded (date : Option ℕ) (site : SiteState) : Type 0 where
    pub date_is : IsDateAt date site.date
    pub files : (told : FolderContents) → f.tells folder ≡ Some told → site.files ≡ told.files
    pub plain : site.options ≡ plain_options
    pub within : (told : FolderContents) → f.tells folder ≡ Some told
        → limit_of plain_options told.files ≡ None
    pub opened : OpensAt path (f.tells folder) (f.tells now)
    pub no_fault : f.faults now ≡ f.faults folder

  -- Why there is no site: the folder failed, there was no memory, or the files meet this limit
  -- first. Only in the last case it is known that the folder was opened.
  abbrev pub LacksSite : TopFault → Type 0
  LacksSite ReadFault = Rose (f.faults folder) (f.faults now)
      × (OpensAt path (f.tells folder) (f.tells now) ⊎ (f.tells now ≡ f.tells folder))
  LacksSite Memory = (f.faults now ≡ f.faults folder)
      × (OpensAt path (f.tells folder) (f.tells now) ⊎ (f.tells now ≡ f.tells folder))
  LacksSite (SiteFull limit) = (f.faults now ≡ f.faults folder)
      × OpensAt path (f.tells folder) (f.tells now)
      × ((told : FolderContents) → f.tells folder ≡ Some told
      → limit_of plain_options told.files ≡ Some (refusal_of limit))
  LacksSite other = ⊥

  -- There is no site, for the reason that the fault names; the folder may have
  -- been opened all the same.
  pub record HasNoSite (fault : TopFault) : Type 0 where
    pub why : LacksSite fault
    pub later : IsLater (f.faults folder) (f.faults now)

  -- the site, or why there is none
  abbrev pub OpensSite : Option ℕ → Result SiteState TopFault → Type 0
  OpensSite date (Ok site) = IsLoaded date site
  OpensSite date (Err fault) = HasNoSite fault

  -- A run on the site: it ended before there was one, with all else untouched, or went on with it.
  abbrev pub RunsOnSite : Option ℕ → Option TopFault → Type 0 → (SiteState → Type 0) → Type 0
  RunsOnSite date fault Untouched GoesOn =
      ((cause : TopFault) × (fault ≡ Some cause) × HasNoSite cause × Untouched)
      ⊎ ((site : SiteState) × IsLoaded date site × GoesOn site)
