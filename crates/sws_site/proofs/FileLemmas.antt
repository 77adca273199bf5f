-- The first file of a name.
use Rattle.std.proofs.Common.{inl, inr, ◌≡◌, ℕ, ◌+◌, ◌<◌, ◌≤◌, zero, suc, Bool, true, false, List, [], ◌∷◌, length, None, refl, sym, ap, ◌∙◌, arith}
use Rattle.std.proofs.lemmas.Bool.{cases_lt}
use Rattle.std.specs.Prelude.{◌⊎◌, All, Some, slice_get, if◌then◌else◌}
use Rattle.std.specs.Str.{bytes_eq}
use Rattle.std.proofs.lemmas.List.Sums.{sum_by-append}
use Rattle.std.proofs.lemmas.Slice.Eq.{bytes_eq-Decides}
use Rattle.sws_site.specs.Files.{File, file_named}
use Rattle.sws_site.specs.Limits.{IsWithinLimits, bytes_of}

-- names of another length differ
other_name : (a b : List ℕ) → length a < length b → bytes_eq a b ≡ false
other_name a b shorter = by_test (bytes_eq a b) refl
  where
    by_test : (t : Bool) → bytes_eq a b ≡ t → bytes_eq a b ≡ false
    by_test false is = is
    by_test true is = (let same = ap length ((bytes_eq-Decides a b).0 is) in absurd (omega arith))

no_file-longer : (files : List File) (name : List ℕ) → All (λ file. length file.0 ≤ 1024) files → 1024 < length name
    → file_named name files ≡ None
no_file-longer [] name short long = refl
no_file-longer (file ∷ files) name short long =
    let here : length file.0 ≤ 1024 = short 0 file (omega arith) in
    ap (λ t. if t then Some file else file_named name files) (other_name file.0 name (omega arith))
    ∙ no_file-longer files name (λ k d h. short (suc k) d (omega arith)) long

-- a site has no file of a name that is too long
pub file_named-long : (files : List File) (name : List ℕ) → IsWithinLimits files → 1024 < length name → file_named name files ≡ None
file_named-long files name within long = no_file-longer files name within.names long

-- the file that is found has the name
pub file_named-name : (files : List File) (name : List ℕ) (file : File) → file_named name files ≡ Some file → file.0 ≡ name
file_named-name [] name file e = absurd (cc)
file_named-name (first ∷ files) name file e = by_test (bytes_eq first.0 name) refl (λ f. file_named-name files name file f) e
  where
    by_test : (t : Bool) → bytes_eq first.0 name ≡ t → (file_named name files ≡ Some file → file.0 ≡ name)
        → (if t then Some first else file_named name files) ≡ Some file → file.0 ≡ name
    by_test true is later f = (let same : first ≡ file = cc in sym (ap (λ (x : File). x.0) same) ∙ (bytes_eq-Decides first.0 name).0 is)
    by_test false is later f = later f

-- so its name is no longer than a name may be
pub file_named-name-short : (files : List File) (name : List ℕ) (file : File) → IsWithinLimits files → file_named name files ≡ Some file → length file.0 ≤ 1024
file_named-name-short files name file within e = by_length (cases_lt 1024 (length name))
  where
    same : length file.0 ≡ length name
    same = ap length (file_named-name files name file e)

    by_length : (1024 < length name) ⊎ (length name ≤ 1024) → length file.0 ≤ 1024
    by_length (inl long) = (let none = file_named-long files name within long in absurd (cc))
    by_length (inr short) = omega (arith, same)

-- the contents of a file are some of the contents of all
pub file_named-short : (files : List File) (name : List ℕ) (file : File) → file_named name files ≡ Some file → length file.1 ≤ bytes_of files
file_named-short [] name file e = absurd (cc)
file_named-short (first ∷ files) name file e = by_test (bytes_eq first.0 name) (λ f. file_named-short files name file f) e
  where
    sum : bytes_of (first ∷ files) ≡ bytes_of (first ∷ []) + bytes_of files
    sum = sum_by-append (λ (f : File). length f.1) (first ∷ []) files

    by_test : (t : Bool) → (file_named name files ≡ Some file → length file.1 ≤ bytes_of files)
        → (if t then Some first else file_named name files) ≡ Some file → length file.1 ≤ bytes_of (first ∷ files)
    by_test true later f = let same : first ≡ file = cc in let long = ap (λ (x : File). length x.1) same in omega (arith, sum)
    by_test false later f = let short = later f in omega (arith, sum)

-- and so are those of a file at a place
pub file_at-short : (files : List File) (i : ℕ) (file : File) → slice_get files i ≡ Some file → length file.1 ≤ bytes_of files
file_at-short [] i file e = absurd (cc)
file_at-short (first ∷ files) zero file e =
    let sum = sum_by-append (λ (f : File). length f.1) (first ∷ []) files in
    let same : first ≡ file = cc in
    let long = ap (λ (x : File). length x.1) same in
    omega (arith, sum)
file_at-short (first ∷ files) (suc i) file e =
    let sum = sum_by-append (λ (f : File). length f.1) (first ∷ []) files in
    let short = file_at-short files i file e in
    omega (arith, sum)
