-- The first limit that files meet.
use Rattle.std.proofs.Common.{◌≡◌, ℕ, ◌+◌, ◌<◌, ◌≤◌, List, [], ◌∷◌, ◌++◌, length, Option, Some, None, zero, suc, refl, ap, ◌∙◌, arith, length-append, lt-ltb, le-ltb}
use Rattle.std.proofs.lemmas.List.Sums.{sum_by-append}
use Rattle.std.proofs.lemmas.List.Elements.{All-append}
use Rattle.std.specs.Prelude.{nat_lt, if◌then◌else◌, All}
use Rattle.std.specs.Option.{option_or}
use Rattle.sws_site.specs.declared.options.SiteOptions.{SiteOptions}
use Rattle.sws_site.specs.declared.site_faults.SiteFault.{SiteFault}
use Rattle.sws_site.specs.declared.site_faults.SiteFault.TheVariants.{TooManyFiles, LongName, TooManyBytes}
use Rattle.sws_site.specs.Files.{File}
use Rattle.sws_site.specs.Limits.{AreAtMost, IsWithinLimits, IsWithinOptions, bytes_of, most_files, most_bytes, met_limit, first_limit, limit_of}

pub bytes_of-push : (files : List File) (file : File) → bytes_of (files ++ file ∷ []) ≡ bytes_of files + length file.1
bytes_of-push files file =
    let both : bytes_of (files ++ file ∷ []) ≡ bytes_of files + bytes_of (file ∷ []) = sum_by-append (λ (f : File). length f.1) files (file ∷ []) in
    omega (arith, both)

bytes_of-front : (file : File) (files : List File) → bytes_of (file ∷ files) ≡ length file.1 + bytes_of files
bytes_of-front file files =
    let both : bytes_of (file ∷ files) ≡ bytes_of (file ∷ []) + bytes_of files = sum_by-append (λ (f : File). length f.1) (file ∷ []) files in
    omega (arith, both)

pub length-push : (files : List File) (file : File) → length (files ++ file ∷ []) ≡ length files + 1
length-push files file = length-append files (file ∷ [])

-- ---- sums

one-more-le : (before files limit : ℕ) → before + suc files ≤ limit → before + 1 ≤ limit
one-more-le before files limit few = omega arith

moved-le : (before files pushed limit : ℕ) → pushed ≡ before + 1 → before + suc files ≤ limit → pushed + files ≤ limit
moved-le before files pushed limit long few = omega arith

front-le : (before file files all limit : ℕ) → all ≡ file + files → before + all ≤ limit → before + file ≤ limit
front-le before file files all limit front fits = omega arith

all-le : (before file files all pushed limit : ℕ) → all ≡ file + files → pushed ≡ before + file → before + all ≤ limit → pushed + files ≤ limit
all-le before file files all pushed limit front more fits = omega arith

from-none : (n limit : ℕ) → n ≤ limit → 0 + n ≤ limit
from-none n limit few = omega arith

-- ---- one file

module _ (options : SiteOptions) where
  -- the file meets no limit
  pub met_limit-none : (before : List File) (file : File) → length before + 1 ≤ most_files options → length file.0 ≤ 1024
      → bytes_of before + length file.1 ≤ most_bytes options → met_limit options before file ≡ None
  met_limit-none before file few short fits = λ i.
      if le-ltb (most_files options) (length before + 1) few i then Some (TooManyFiles (length before + 1))
      else (if le-ltb 1024 (length file.0) short i then Some (LongName (length before + 1))
      else (if le-ltb (most_bytes options) (bytes_of before + length file.1) fits i then Some (TooManyBytes (length before + 1))
      else None))

  pub met_limit-files : (before : List File) (file : File) → most_files options < length before + 1
      → met_limit options before file ≡ Some (TooManyFiles (length before + 1))
  met_limit-files before file many = λ i.
      if lt-ltb (most_files options) (length before + 1) many i then Some (TooManyFiles (length before + 1))
      else (if nat_lt 1024 (length file.0) then Some (LongName (length before + 1))
      else (if nat_lt (most_bytes options) (bytes_of before + length file.1) then Some (TooManyBytes (length before + 1))
      else None))

  pub met_limit-name : (before : List File) (file : File) → length before + 1 ≤ most_files options → 1024 < length file.0
      → met_limit options before file ≡ Some (LongName (length before + 1))
  met_limit-name before file few long = λ i.
      if le-ltb (most_files options) (length before + 1) few i then Some (TooManyFiles (length before + 1))
      else (if lt-ltb 1024 (length file.0) long i then Some (LongName (length before + 1))
      else (if nat_lt (most_bytes options) (bytes_of before + length file.1) then Some (TooManyBytes (length before + 1))
      else None))

  pub met_limit-bytes : (before : List File) (file : File) → length before + 1 ≤ most_files options → length file.0 ≤ 1024
      → most_bytes options < bytes_of before + length file.1 → met_limit options before file ≡ Some (TooManyBytes (length before + 1))
  met_limit-bytes before file few short over = λ i.
      if le-ltb (most_files options) (length before + 1) few i then Some (TooManyFiles (length before + 1))
      else (if le-ltb 1024 (length file.0) short i then Some (LongName (length before + 1))
      else (if lt-ltb (most_bytes options) (bytes_of before + length file.1) over i then Some (TooManyBytes (length before + 1))
      else None))

  -- ---- all files

  -- files that are within the limits meet none
  first_limit-none : (before files : List File) → length before + length files ≤ most_files options → All (λ file. length file.0 ≤ 1024) files
      → bytes_of before + bytes_of files ≤ most_bytes options → first_limit options before files ≡ None
  first_limit-none before [] few short fits = refl
  first_limit-none before (file ∷ files) few short fits =
      let front = bytes_of-front file files in
      let met : met_limit options before file ≡ None =
      met_limit-none before file (one-more-le (length before) (length files) (most_files options) few) (short 0 file (omega arith))
      (front-le (bytes_of before) (length file.1) (bytes_of files) (bytes_of (file ∷ files)) (most_bytes options) front fits) in
      let long = length-push before file in
      let more = bytes_of-push before file in
      ap (λ (found : Option SiteFault). option_or found (first_limit options (before ++ file ∷ []) files)) met
      ∙ first_limit-none (before ++ file ∷ []) files (moved-le (length before) (length files) (length (before ++ file ∷ [])) (most_files options) long few)
      (λ k d h. short (suc k) d (omega arith))
      (all-le (bytes_of before) (length file.1) (bytes_of files) (bytes_of (file ∷ files)) (bytes_of (before ++ file ∷ [])) (most_bytes options) front more fits)

  pub limit_of-none : (files : List File) → IsWithinOptions options files → limit_of options files ≡ None
  limit_of-none files within =
      first_limit-none [] files (from-none (length files) (most_files options) within.count) within.names
      (from-none (bytes_of files) (most_bytes options) within.bytes)

only : (file : File) → length file.0 ≤ 1024 → All (λ (f : File). length f.0 ≤ 1024) (file ∷ [])
only file short zero d h = short
only file short (suc k) d h = absurd (omega arith)

-- one file more that is within the limits
pub AreAtMost-push : (most_count most_size : ℕ) (files : List File) (file : File) → AreAtMost most_count most_size files → length files + 1 ≤ most_count
    → length file.0 ≤ 1024 → bytes_of files + length file.1 ≤ most_size → AreAtMost most_count most_size (files ++ file ∷ [])
AreAtMost-push most_count most_size files file within few short fits = record {
  count = let long = length-push files file in omega arith;
  names = All-append (λ (f : File). length f.0 ≤ 1024) files (file ∷ []) within.names (only file short);
  bytes = let more = bytes_of-push files file in omega arith;
}

pub AreAtMost-nil : (most_count most_size : ℕ) → AreAtMost most_count most_size []
AreAtMost-nil most_count most_size = record { count = omega arith; names = λ k d h. absurd (omega arith); bytes = omega arith }

-- what is within the limits of any options is within those of any site
pub within_any : (options : SiteOptions) (files : List File) → IsWithinOptions options files → IsWithinLimits files
within_any options files within = record {
  count = let few = within.count in omega arith;
  names = within.names;
  bytes = let fits = within.bytes in omega arith;
}
