-- How much a site holds, and the first file that is too much.
use Rattle.std.specs.Prelude.{◌≡◌, ℕ, ◌+◌, ◌≤◌, min, if◌then◌else◌, nat_lt, List, [], ◌∷◌, ◌++◌, length, sum_by, All, Option, Some, None, ⊤}
use Rattle.std.specs.Option.{option_or}
use Rattle.sws_site.specs.declared.options.SiteOptions.{SiteOptions}
use Rattle.sws_site.specs.declared.site_faults.SiteFault.{SiteFault}
use Rattle.sws_site.specs.declared.site_faults.SiteFault.TheVariants.{TooManyFiles, LongName, TooManyBytes, Fault, Memory}
use Rattle.sws_site.specs.Files.{File}

-- the most files of any site
abbrev pub file_limit : ℕ
file_limit = 1048576

-- the most bytes of a name
abbrev pub name_limit : ℕ
name_limit = 1024

-- the most bytes of all contents of any site together
abbrev pub size_limit : ℕ
size_limit = 8589934592

-- the most files of a site with these options
abbrev pub most_files : SiteOptions → ℕ
most_files options = min options.max_files file_limit

-- the most bytes of all its contents together
abbrev pub most_bytes : SiteOptions → ℕ
most_bytes options = min options.max_bytes size_limit

-- how many bytes the contents have together
abbrev pub bytes_of : List File → ℕ
bytes_of files = sum_by (λ file. length file.1) files

-- the files are so many at most, their names are short, and their contents have so many bytes
-- together at most
pub record AreAtMost (count_limit bytes_limit : ℕ) (files : List File) : Type 0 where
  pub count : length files ≤ count_limit
  pub names : All (λ file. length file.0 ≤ name_limit) files
  pub bytes : bytes_of files ≤ bytes_limit

-- the files are no more than any site holds
abbrev pub IsWithinLimits : List File → Type 0
IsWithinLimits files = AreAtMost file_limit size_limit files

-- the files are no more than a site with these options holds
abbrev pub IsWithinOptions : SiteOptions → List File → Type 0
IsWithinOptions options files = AreAtMost (most_files options) (most_bytes options) files

-- the limit of a site with these options that a file meets beside the files before it, if it meets
-- one; files are counted from 1
abbrev pub met_limit : SiteOptions → List File → File → Option SiteFault
met_limit options before file =
    let number = length before + 1 in
    if nat_lt (most_files options) number then Some (TooManyFiles number)
    else (if nat_lt name_limit (length file.0) then Some (LongName number)
    else (if nat_lt (most_bytes options) (bytes_of before + length file.1)
    then Some (TooManyBytes number)
    else None))

-- the first limit that files meet beside those before them
abbrev pub first_limit : SiteOptions → List File → List File → Option SiteFault
first_limit options before [] = None
first_limit options before (file ∷ files) =
    option_or (met_limit options before file) (first_limit options (before ++ file ∷ []) files)

-- the first limit of a site with these options that the files of a folder meet
abbrev pub limit_of : SiteOptions → List File → Option SiteFault
limit_of options files = first_limit options [] files

-- a refusal that names a limit is that of the files
abbrev pub IsLimitOf : SiteOptions → List File → SiteFault → Type 0
IsLimitOf options files (TooManyFiles count) = limit_of options files ≡ Some (TooManyFiles count)
IsLimitOf options files (LongName number) = limit_of options files ≡ Some (LongName number)
IsLimitOf options files (TooManyBytes number) = limit_of options files ≡ Some (TooManyBytes number)
IsLimitOf options files Fault = ⊤
IsLimitOf options files Memory = ⊤
