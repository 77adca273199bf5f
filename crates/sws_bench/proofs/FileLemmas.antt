-- The files of the bench: how they lie in a folder in memory, and that they are
-- within the limits of a site.
use Rattle.std.proofs.Common.{◌≡◌, ℕ, ◌+◌, ◌*◌, ◌%◌, ◌<◌, ◌≤◌, List, [], ◌∷◌, ◌++◌, length, codes, sym, ap, subst, ◌∙◌, arith, length-append, lit≤, refl, inl, inr, Vec, Global}
use Rattle.std.specs.Prelude.{◌⊎◌, sum_by, None}
use Rattle.std.specs.List.{range_with_len}
use Rattle.std.specs.Fmt.{decimal}
use Rattle.std.proofs.lemmas.List.{map-append}
use Rattle.std.proofs.lemmas.List.FromFn.{length-map-range_with_len, get_or-map-range_with_len}
use Rattle.std.proofs.lemmas.Fmt.{length-decimal-le}
use Rattle.sws_link.specs.FolderFiles.{files_of}
use Rattle.sws_site.specs.Files.{File}
use Rattle.sws_site.specs.Limits.{IsWithinOptions, IsLimitOf, bytes_of, limit_of}
use Rattle.sws_site.specs.Options.{plain_options}
use Rattle.sws_site.specs.declared.site_faults.SiteFault.{SiteFault}
use Rattle.sws_site.specs.declared.site_faults.SiteFault.TheVariants.{TooManyFiles, LongName, TooManyBytes, Fault, Memory}
use Rattle.sws_site.proofs.LimitLemmas.{limit_of-none}
use Rattle.sws_bench.specs.BenchSite.{file, file_name, contents, bench_files}

-- one file more
pub files_of-push : (files after : List (Vec ℕ Global × Vec ℕ Global)) (name bytes : Vec ℕ Global) (number : ℕ) → after ≡ files ++ (name, bytes) ∷ []
    → name.items ≡ file_name number → bytes.items ≡ contents number → files_of after ≡ files_of files ++ file number ∷ []
files_of-push files after name bytes number pushed named filled =
    ap files_of pushed ∙ map-append (λ (f : Vec ℕ Global × Vec ℕ Global). (f.0.items, f.1.items)) files ((name, bytes) ∷ [])
    ∙ (λ i. files_of files ++ (named i, filled i) ∷ [])

length-contents : (number : ℕ) → length (contents number) ≡ 64 * (number + 1)
unfolding contents
length-contents number = length-map-range_with_len (λ (place : ℕ). 97 + (place + number) % 26) 0 (64 * (number + 1))

length-file_name : (number : ℕ) → number < 16 → length (file_name number) ≤ 1024
unfolding file_name
length-file_name number few =
    let digits = length-decimal-le 2 number (omega arith) (omega arith) (omega arith) in
    let all = length-append (decimal number) (codes ".txt") in
    omega arith

bytes_of-bench_files : bytes_of bench_files ≡ 8704
unfolding bench_files
bytes_of-bench_files = λ i. sum_by (λ (number : ℕ). length-contents number i) (range_with_len 0 16)

-- sixteen files of 8,704 bytes in all
within_limits : IsWithinOptions plain_options bench_files
unfolding bench_files
within_limits = record {
  count = lit≤ tt;
  names = λ k d few.
      let P : File → Type 0 = λ f. length f.0 ≤ 1024 in
      subst P (sym (get_or-map-range_with_len file 0 16 k k d few (omega arith))) (length-file_name k few);
  bytes = let all = bytes_of-bench_files in omega arith;
}

limit_of-bench_files : limit_of plain_options bench_files ≡ None
limit_of-bench_files = limit_of-none plain_options bench_files within_limits

-- so loading them meets none
pub meets_none : (files : List File) (fault : SiteFault) → files ≡ bench_files → IsLimitOf plain_options files fault → (fault ≡ Fault) ⊎ (fault ≡ Memory)
meets_none files (TooManyFiles count) same met = let none = ap (limit_of plain_options) same ∙ limit_of-bench_files in absurd (cc)
meets_none files (LongName number) same met = let none = ap (limit_of plain_options) same ∙ limit_of-bench_files in absurd (cc)
meets_none files (TooManyBytes number) same met = let none = ap (limit_of plain_options) same ∙ limit_of-bench_files in absurd (cc)
meets_none files Fault same met = inl refl
meets_none files Memory same met = inr refl
