-- What a folder tells from one file to the next, while they are read.
use Rattle.std.specs.Prelude.{◌≡◌, ℕ, ◌+◌, ◌<◌, ◌≤◌, List, [], ◌++◌, length, take, drop, Option, Some, None, slice_get, ⊤}
use Rattle.sws_link.specs.Told.{FolderContents}
use Rattle.sws_link.specs.declared.Got.{Got}
use Rattle.sws_link.specs.declared.Got.TheVariants.{Took, End, Failed}
use Rattle.sws_site.specs.declared.options.SiteOptions.{SiteOptions}
use Rattle.sws_site.specs.declared.site_faults.SiteFault.{SiteFault}
use Rattle.sws_site.specs.declared.site_faults.SiteFault.TheVariants.{TooManyFiles, LongName, TooManyBytes, Fault, Memory}
use Rattle.sws_site.specs.Files.{File}
use Rattle.sws_site.specs.Limits.{most_files, name_limit, first_limit, limit_of}

-- these bytes of the current file were read
abbrev pub HasRead : Option FolderContents → Option FolderContents → List ℕ → Type 0
HasRead None now bytes = now ≡ None
HasRead (Some before) now bytes =
    (rest : List ℕ) × (now ≡ Some (record before { left = rest })) × (before.left ≡ bytes ++ rest)

-- all of it was read
abbrev pub HasReadAll : Option FolderContents → Option FolderContents → List ℕ → Type 0
HasReadAll None now bytes = now ≡ None
HasReadAll (Some before) now bytes = (before.left ≡ bytes)
    × (now ≡ Some (record before { left = [] }))

-- a read of the current file put what it took behind the bytes that were there
abbrev pub HasReadMore : Option FolderContents → Option FolderContents
    → Got → List ℕ → List ℕ → Type 0
HasReadMore before now (Took count) old new =
    (more : List ℕ) × (new ≡ old ++ more) × (0 < length more) × HasRead before now more
HasReadMore before now End old new = (new ≡ old) × HasReadAll before now []
HasReadMore before now Failed old new = (new ≡ old) × (now ≡ before)

-- it is more than there is room for
abbrev pub ReadFails : ℕ → ℕ → Option FolderContents → SiteFault → Type 0
ReadFails number room before (TooManyFiles count) = ⊥
ReadFails number room before (LongName found) = ⊥
ReadFails number room None (TooManyBytes found) = ⊤
ReadFails number room (Some before) (TooManyBytes found) = (found ≡ number)
    × (room < length before.left)
ReadFails number room before Fault = ⊤
ReadFails number room before Memory = ⊤

-- the next file was read, or there is none
abbrev pub StepsTo : Option FolderContents → Option FolderContents → Option File → Type 0
StepsTo None now file = now ≡ None
StepsTo (Some before) now None = (before.given ≡ length before.files) × (now ≡ Some before)
StepsTo (Some before) now (Some file) =
    (slice_get before.files before.given ≡ Some file)
    × (now ≡ Some (record before { given = before.given + 1; left = [] }))

-- a file of this number is within the limits of a site with these options, where there is room for
-- so many bytes
pub record IsWithin (options : SiteOptions) (number room : ℕ) (file : File) : Type 0 where
  pub count : number ≤ most_files options
  pub name : length file.0 ≤ name_limit
  pub bytes : length file.1 ≤ room

-- the limit of a site with these options that the next file meets
abbrev pub StepFails : SiteOptions → ℕ → ℕ → Option FolderContents → SiteFault → Type 0
StepFails options number room None _ = ⊤
StepFails options number room (Some before) (TooManyFiles found) =
    (found ≡ number) × (file : File) × (slice_get before.files before.given ≡ Some file)
    × (most_files options < number)
StepFails options number room (Some before) (LongName found) =
    (found ≡ number) × (file : File) × (slice_get before.files before.given ≡ Some file)
    × (number ≤ most_files options) × (name_limit < length file.0)
StepFails options number room (Some before) (TooManyBytes found) =
    (found ≡ number) × (file : File) × (slice_get before.files before.given ≡ Some file)
    × (number ≤ most_files options)
    × (length file.0 ≤ name_limit) × (room < length file.1)
StepFails options number room (Some before) Fault = ⊤
StepFails options number room (Some before) Memory = ⊤

-- the files so far are the first ones, and the first limit that all meet is that
-- of the others beside them
abbrev pub HasLoaded
    : SiteOptions → Option FolderContents → Option FolderContents → List File → Type 0
HasLoaded options None now files = now ≡ None
HasLoaded options (Some before) now files =
    (left : List ℕ) × (now ≡ Some (record before { given = length files; left = left }))
    × (files ≡ take (length files) before.files)
    × (limit_of options before.files
    ≡ first_limit options files (drop (length files) before.files))
