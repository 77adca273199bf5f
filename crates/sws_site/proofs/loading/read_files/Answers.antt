use Rattle.std.proofs.Common.{◌≡◌, ◌≤◌, ◌+◌, ℕ, ◌++◌, ◌∷◌, [], zero, suc, List, length, Option, ◌∙◌, refl, ap, sym, subst, arith}
use Rattle.std.proofs.lemmas.List.{map-append, length-map}
use Rattle.std.proofs.lemmas.List.Elements.{All-append}
use Rattle.sws_link.proofs.CountLemmas.{HasCause-as}
use Rattle.httpdate.specs.declared.date.HttpDate.{HttpDate}
use Rattle.sws_site.specs.declared.options.SiteOptions.{SiteOptions}
use Rattle.sws_site.specs.declared.stored.StoredFile.{StoredFile}
use Rattle.sws_site.specs.Files.{File}
use Rattle.sws_site.specs.Limits.{IsWithinOptions, bytes_of, most_files, most_bytes}
use Rattle.sws_site.specs.Steps.{HasLoaded}
use Rattle.sws_site.specs.Stored.{file_of, files_of, HasHeads, AllHaveHeads}
use Rattle.sws_site.proofs.LimitLemmas.{AreAtMost-nil, AreAtMost-push, bytes_of-push}
use Rattle.sws_site.proofs.LoadLemmas.{HasLoaded-nil, HasLoaded-step, HasLoaded-fails, IsSameFolder-refl, IsSameFolder-trans}
use Rattle.sws_site.proofs.loading.read_files.Goals as goal

AllHaveHeads-nil : (options : SiteOptions) (date : Option HttpDate) → AllHaveHeads options date []
AllHaveHeads-nil options date k d h = absurd (omega arith)

AllHaveHeads-one : (options : SiteOptions) (date : Option HttpDate) (file : StoredFile) → HasHeads options date file → AllHaveHeads options date (file ∷ [])
AllHaveHeads-one options date file has zero d h = has
AllHaveHeads-one options date file has (suc k) d h = absurd (omega arith)

-- before the first file all is left
all_left : (room most : ℕ) → room ≡ most → 0 + room ≡ most
all_left room most is = omega (arith, is)

pub files-init : goal.files-init
files-init g c =
    let none : files_of c.new-files.result.items ≡ [] = ap files_of c.new-files.ensures.items in record {
      loaded = HasLoaded-nil c.args.options.now (g.F.Folder.tells c.args.folder.now) (files_of c.new-files.result.items) c.requires none;
      limits = subst (IsWithinOptions c.args.options.now) (sym none) (AreAtMost-nil (most_files c.args.options.now) (most_bytes c.args.options.now));
      room = ap (λ (files : List File). bytes_of files + c.most_bytes-room.result) none
          ∙ all_left c.most_bytes-room.result (most_bytes c.args.options.now) c.most_bytes-room.ensures;
      heads = subst (AllHaveHeads c.args.options.now c.args.date.now) (sym c.new-files.ensures.items) (AllHaveHeads-nil c.args.options.now c.args.date.now);
      same = IsSameFolder-refl (g.F.Folder.tells c.args.folder.now);
      same_faults = refl;
    }

pub files-preserved : goal.files-preserved
files-preserved g c =
    let files : List File = files_of c.files.files.items in
    let file : File = file_of c.in-Ok-Some.file in
    let steps = rw c.in-Ok-Some.field-0-is at c.in-Ok-Some.ensures.steps in
    let within = rw c.in-Ok-Some.field-0-is at c.in-Ok-Some.ensures.within in
    let heads = rw c.in-Ok-Some.field-0-is at c.in-Ok-Some.ensures.heads in
    let more : files_of c.push.new.self.items ≡ files ++ file ∷ [] =
    ap files_of c.in-Ok.ensures.items ∙ map-append file_of c.files.files.items (c.in-Ok-Some.file ∷ []) in
    let count : length files + 1 ≤ most_files c.args.options.now = (let long = length-map c.files.files.items file_of in let few = within.count in omega arith) in
    let bytes : bytes_of files + length file.1 ≤ most_bytes c.args.options.now = (let room = c.files.invariant.room in let fits = within.bytes in omega arith) in
    record {
      loaded = subst (HasLoaded c.args.options.now (g.F.Folder.tells c.args.folder.now) (g.F.Folder.tells c.next_file.new.folder)) (sym more)
          (HasLoaded-step c.args.options.now (g.F.Folder.tells c.args.folder.now) (g.F.Folder.tells c.files.folder) (g.F.Folder.tells c.next_file.new.folder) files file
          c.files.invariant.loaded steps count within.name bytes);
      limits = subst (IsWithinOptions c.args.options.now) (sym more)
          (AreAtMost-push (most_files c.args.options.now) (most_bytes c.args.options.now) files file c.files.invariant.limits count within.name bytes);
      room = (let total = ap bytes_of more ∙ bytes_of-push files file in let room = c.files.invariant.room in omega arith);
      heads = subst (AllHaveHeads c.args.options.now c.args.date.now) (sym c.in-Ok.ensures.items)
          (All-append (HasHeads c.args.options.now c.args.date.now) c.files.files.items (c.in-Ok-Some.file ∷ []) c.files.invariant.heads
          (AllHaveHeads-one c.args.options.now c.args.date.now c.in-Ok-Some.file heads));
      same = IsSameFolder-trans (g.F.Folder.tells c.args.folder.now) (g.F.Folder.tells c.files.folder) (g.F.Folder.tells c.next_file.new.folder)
          c.files.invariant.same c.in-Ok-Some.ensures.same;
      same_faults = c.next_file.ensures.cause.stays (λ fails. (cc)) ∙ c.files.invariant.same_faults;
    }

pub returns-in-Err-clause-loads : goal.returns-in-Err-clause-loads
returns-in-Err-clause-loads g c =
    HasLoaded-fails c.args.options.now (g.F.Folder.tells c.args.folder.now) (g.F.Folder.tells c.files.folder) (files_of c.files.files.items)
    (c.len.result + 1) c.files.room c.in-Err.fault c.files.invariant.loaded c.in-Err.ensures.fails
    (let long = length-map c.files.files.items file_of in omega arith) c.files.invariant.room

pub returns-in-Err-push-clause-cause : goal.returns-in-Err-push-clause-cause
returns-in-Err-push-clause-cause g c = HasCause-as _ _ _ _ _ c.files.invariant.same_faults c.next_file.ensures.cause (λ fails. (cc)) (λ fails. (cc))

pub returns-in-Ok-None-clause-cause : goal.returns-in-Ok-None-clause-cause
returns-in-Ok-None-clause-cause g c = HasCause-as _ _ _ _ _ c.files.invariant.same_faults c.next_file.ensures.cause (λ fails. (cc)) (λ fails. (cc))

pub returns-in-Err-clause-cause : goal.returns-in-Err-clause-cause
returns-in-Err-clause-cause g c = HasCause-as _ _ _ _ _ c.files.invariant.same_faults c.next_file.ensures.cause (λ fails. (cc)) (λ fails. (cc))
