-- What reading the files of a folder finds.
use Rattle.std.proofs.Common.{◌≡◌, ℕ, ◌+◌, ◌<◌, ◌≤◌, List, [], ◌∷◌, ◌++◌, length, take, drop, Option, Some, None, slice_get, refl, sym, ap, ◌∙◌, subst, arith, take_all, append_assoc, drop-cons, take-suc, add-one, get_or, Err, inl, inr}
use Rattle.std.proofs.lemmas.Option.{slice_get_cases}
use Rattle.std.specs.Prelude.{min}
use Rattle.std.specs.Option.{option_or}
use Rattle.sws_link.specs.Told.{FolderContents}
use Rattle.std.proofs.lemmas.List.{take-take, take-append-le, length-take-le}
use Rattle.std.proofs.Math.Seq.{take-append-add, take-append_seam}
use Rattle.sws_link.specs.Folders.{Gives, TakesOfFile}
use Rattle.sws_link.specs.declared.Got.{Got}
use Rattle.sws_link.specs.declared.Got.TheVariants.{Took}
use Rattle.sws_link.specs.declared.NextFile.TheVariants.{File as NextOne}
use Rattle.sws_site.specs.declared.options.SiteOptions.{SiteOptions}
use Rattle.sws_site.specs.declared.site_faults.SiteFault.{SiteFault}
use Rattle.sws_site.specs.declared.site_faults.SiteFault.TheVariants.{TooManyFiles, LongName, TooManyBytes, Fault, Memory}
use Rattle.sws_site.specs.Files.{File}
use Rattle.sws_site.specs.Limits.{most_files, most_bytes, bytes_of, first_limit, limit_of, met_limit}
use Rattle.sws_site.specs.Loading.{IsInitialFolder, Loads, IsSameFolder}
use Rattle.sws_site.specs.Steps.{HasRead, HasReadMore, HasReadAll, StepsTo, StepFails, HasLoaded}
use Rattle.sws_site.proofs.LimitLemmas.{met_limit-none, met_limit-files, met_limit-name, met_limit-bytes, length-push}

pub HasRead-nil : (folder : Option FolderContents) (bytes : List ℕ) → bytes ≡ [] → HasRead folder folder bytes
HasRead-nil None bytes none = refl
HasRead-nil (Some before) bytes none = (before.left, refl, ap (λ (read : List ℕ). read ++ before.left) (sym none))

-- ---- one file

pub StepsTo-file : (len : ℕ) (before middle after : Option FolderContents) (name kept contents : List ℕ) (file : File)
    → Gives before middle (NextOne len) name → len ≤ 1024 → kept ≡ take len name → HasReadAll middle after contents
    → file ≡ (kept, contents) → StepsTo before after (Some file)
StepsTo-file len None None after name kept contents file gives few is read same = read
StepsTo-file len None (Some middle) after name kept contents file gives few is read same = cc
StepsTo-file len (Some before) None after name kept contents file gives few is read same =
    let no : None ≡ Some (record before { given = before.given + 1; left = gives.file.1 }) = gives.given in cc
StepsTo-file len (Some before) (Some middle) after name kept contents file gives few is read same =
    let given : middle ≡ record before { given = before.given + 1; left = gives.file.1 } =
    (let e : Some middle ≡ Some (record before { given = before.given + 1; left = gives.file.1 }) = gives.given in cc) in
    let contents_are : gives.file.1 ≡ contents = sym (ap (λ (t : FolderContents). t.left) given) ∙ read.0 in
    let len_is = gives.len_is in
    let least : min len 1024 ≡ len = omega arith in
    let name_is : kept ≡ gives.file.0 =
    is ∙ ap (λ n. take n name) (sym least) ∙ gives.copied ∙ take_all 1024 gives.file.0 (omega (arith, len_is)) in
    let file_is : gives.file ≡ file = (λ i. (sym name_is i, contents_are i)) ∙ sym same in
    (gives.next ∙ ap Some file_is, read.1 ∙ ap (λ (t : FolderContents). Some (record t { left = [] })) given)

-- ---- all files

pub HasLoaded-nil : (options : SiteOptions) (folder : Option FolderContents) (files : List File) → IsInitialFolder folder → files ≡ []
    → HasLoaded options folder folder files
HasLoaded-nil options None files initial none = refl
HasLoaded-nil options (Some before) files initial none = (
  before.left,
  ap (λ n. Some (record before { given = n })) (initial ∙ ap length (sym none)),
  none ∙ ap (λ (f : List File). take (length f) before.files) (sym none),
  ap (λ (f : List File). first_limit options f (drop (length f) before.files)) (sym none),
)

-- the file at a place begins the files from there
from_place : (files : List File) (i : ℕ) (file : File) → slice_get files i ≡ Some file
    → (drop i files ≡ file ∷ drop (i + 1) files) × (take (i + 1) files ≡ take i files ++ file ∷ [])
from_place files i file at = elim (slice_get_cases files i).1 [
  | inl found ↦ (
      let same : found.0 ≡ file = (let e : Some found.0 ≡ Some file = sym found.2 ∙ at in cc) in
      let value : get_or files i found.0 ≡ file = found.3 ∙ same in (
        drop-cons files i found.0 found.1 ∙ ap (λ n. get_or files i found.0 ∷ drop n files) (sym (add-one i)) ∙ ap (λ f. f ∷ drop (i + 1) files) value,
        ap (λ n. take n files) (add-one i) ∙ take-suc files i found.0 found.1 ∙ ap (λ f. take i files ++ f ∷ []) value,
      ))
  | inr past ↦ (let e : None ≡ Some file = sym past.1 ∙ at in absurd (cc))
]

-- the next file decides, where it meets a limit
next_decides : (options : SiteOptions) (first before : FolderContents) (files : List File) (file : File) (found : Option SiteFault)
    → HasLoaded options (Some first) (Some before) files → slice_get before.files before.given ≡ Some file → met_limit options files file ≡ found
    → limit_of options first.files ≡ option_or found (first_limit options (files ++ file ∷ []) (drop (length files + 1) first.files))
next_decides options first before files file found (left, now, is, limit) at met =
    let same : before ≡ record first { given = length files; left = left } = cc in
    let place = from_place first.files (length files) file (subst (λ (t : FolderContents). slice_get t.files t.given ≡ Some file) same at) in
    limit ∙ ap (first_limit options files) place.0
    ∙ ap (λ (f : Option SiteFault). option_or f (first_limit options (files ++ file ∷ []) (drop (length files + 1) first.files))) met

pub HasLoaded-step : (options : SiteOptions) (first before after : Option FolderContents) (files : List File) (file : File)
    → HasLoaded options first before files → StepsTo before after (Some file) → length files + 1 ≤ most_files options → length file.0 ≤ 1024
    → bytes_of files + length file.1 ≤ most_bytes options → HasLoaded options first after (files ++ file ∷ [])
HasLoaded-step options None None after files file loaded step few short fits = step
HasLoaded-step options None (Some before) after files file loaded step few short fits = cc
HasLoaded-step options (Some first) None after files file (left, now, is, limit) step few short fits = cc
HasLoaded-step options (Some first) (Some before) after files file (left, now, is, limit) (at, next) few short fits =
    let same : before ≡ record first { given = length files; left = left } = cc in
    let place = from_place first.files (length files) file (subst (λ (t : FolderContents). slice_get t.files t.given ≡ Some file) same at) in
    let count : length (files ++ file ∷ []) ≡ length files + 1 = length-push files file in (
      [],
      next ∙ ap (λ (t : FolderContents). Some (record t { given = t.given + 1; left = [] })) same ∙ ap (λ n. Some (record first { given = n; left = [] })) (sym count),
      ap (λ (f : List File). f ++ file ∷ []) is ∙ sym place.1 ∙ ap (λ n. take n first.files) (sym count),
      next_decides options first before files file None (left, now, is, limit) at (met_limit-none options files file few short fits)
          ∙ ap (λ n. first_limit options (files ++ file ∷ []) (drop n first.files)) (sym count),
    )

-- a number that is another one is where that is
over-as : (number other most : ℕ) → number ≡ other → most < number → most < other
over-as number other most same over = omega arith

within-as : (number other most : ℕ) → number ≡ other → number ≤ most → other ≤ most
within-as number other most same within = omega arith

-- what is more than is left is more than all with what there is
over-all : (before left all file : ℕ) → before + left ≡ all → left < file → all < before + file
over-all before left all file whole over = omega arith

pub HasLoaded-fails : (options : SiteOptions) (first before : Option FolderContents) (files : List File) (number room : ℕ) (fault : SiteFault)
    → HasLoaded options first before files → StepFails options number room before fault → number ≡ length files + 1
    → bytes_of files + room ≡ most_bytes options → Loads options first (Err fault)
HasLoaded-fails options None before files number room _ loaded fails n all = tt
HasLoaded-fails options (Some first) None files number room _ (left, now, is, limit) fails n all = cc
HasLoaded-fails options (Some first) (Some before) files number room (TooManyFiles found) loaded (is_found, file, at, many) n all =
    next_decides options first before files file (Some (TooManyFiles (length files + 1))) loaded at
    (met_limit-files options files file (over-as number (length files + 1) (most_files options) n many))
    ∙ ap (λ k. Some (TooManyFiles k)) (sym (is_found ∙ n))
HasLoaded-fails options (Some first) (Some before) files number room (LongName found) loaded (is_found, file, at, few, long) n all =
    next_decides options first before files file (Some (LongName (length files + 1))) loaded at
    (met_limit-name options files file (within-as number (length files + 1) (most_files options) n few) long)
    ∙ ap (λ k. Some (LongName k)) (sym (is_found ∙ n))
HasLoaded-fails options (Some first) (Some before) files number room (TooManyBytes found) loaded (is_found, file, at, few, short, over) n all =
    next_decides options first before files file (Some (TooManyBytes (length files + 1))) loaded at
    (met_limit-bytes options files file (within-as number (length files + 1) (most_files options) n few) short
    (over-all (bytes_of files) room (most_bytes options) (length file.1) all over))
    ∙ ap (λ k. Some (TooManyBytes k)) (sym (is_found ∙ n))
HasLoaded-fails options (Some first) (Some before) files number room Fault loaded fails n all = tt
HasLoaded-fails options (Some first) (Some before) files number room Memory loaded fails n all = tt

pub IsSameFolder-refl : (folder : Option FolderContents) → IsSameFolder folder folder
IsSameFolder-refl None = refl
IsSameFolder-refl (Some folder) = (refl, refl)

pub IsSameFolder-trans : (a b c : Option FolderContents) → IsSameFolder a b → IsSameFolder b c → IsSameFolder a c
IsSameFolder-trans None None c first second = second
IsSameFolder-trans None (Some b) c first second = cc
IsSameFolder-trans (Some a) None c first second = absurd first
IsSameFolder-trans (Some a) (Some b) None first second = absurd second
IsSameFolder-trans (Some a) (Some b) (Some c) first second = (second.0 ∙ first.0, second.1 ∙ first.1)

-- ---- a read of the current file

-- the room behind the bytes that were read, after a read into it
pub read_behind : (old items held room rest others : List ℕ) (filled count len : ℕ) → held ≡ items → length items ≡ len → take filled items ≡ old
    → filled + count ≤ len → count ≤ length room
    → take (filled + count) (take len ((take filled held ++ (room ++ rest)) ++ others)) ≡ old ++ take count room
read_behind old items held room rest others filled count len is_held is_len front within few =
    let read : List ℕ = take filled held in
    let filled_is : length read ≡ filled = length-take-le filled held (let l = ap length is_held in omega arith) in
    let old_is : read ≡ old = ap (take filled) is_held ∙ front in
    take-take (filled + count) len ((read ++ (room ++ rest)) ++ others) within
    ∙ ap (take (filled + count)) (append_assoc read (room ++ rest) others)
    ∙ ap (λ n. take (n + count) (read ++ ((room ++ rest) ++ others))) (sym filled_is)
    ∙ take-append-add read ((room ++ rest) ++ others) count
    ∙ ap (λ (x : List ℕ). read ++ take count x) (append_assoc room rest others)
    ∙ ap (λ (x : List ℕ). read ++ x) (take-append-le count room (rest ++ others) few)
    ∙ ap (λ (x : List ℕ). x ++ take count room) old_is

pub HasReadMore-took : (before now : Option FolderContents) (got : Got) (count : ℕ) (room old new : List ℕ) → got ≡ Took count
    → TakesOfFile before now got room → 0 < count → count ≤ length room → new ≡ old ++ take count room
    → HasReadMore before now (Took count) old new
HasReadMore-took before now got count room old new is takes some few is_new = (
  take count room,
  is_new,
  (let long = length-take-le count room few in omega arith),
  by_folder before (subst (λ (g : Got). TakesOfFile before now g room) is takes),
)
  where
    by_folder : (folder : Option FolderContents) → TakesOfFile folder now (Took count) room → HasRead folder now (take count room)
    by_folder None none = none
    by_folder (Some folder) read = read

-- the bytes that were there before the room was made
pub room_behind : (old items zeros : List ℕ) (filled len : ℕ) → items ≡ take len old ++ zeros → filled ≡ length old → filled ≤ len
    → take filled items ≡ old
room_behind old items zeros filled len is filled_is within =
    ap (take filled) (is ∙ ap (λ (x : List ℕ). x ++ zeros) (take_all len old (omega arith)))
    ∙ ap (λ n. take n (old ++ zeros)) filled_is
    ∙ take-append_seam old zeros
