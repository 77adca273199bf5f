-- What was heard of a journal, behind one more line.
use Rattle.std.proofs.Common.{◌≡◌, ℕ, zero, suc, ◌+◌, ◌*◌, ◌<◌, ◌≤◌, ◌%◌, ◌⊎◌, Bool, true, false, cond, eqb, List, [], ◌∷◌, ◌++◌, Option, None, Some, length, get_or, set, replicate, refl, sym, ap, subst, ◌∙◌, arith, inl, inr, append_assoc, append-nil, length-append, length-drop}
use Rattle.std.specs.Prelude.{MatchOption}
use Rattle.std.specs.List.{slice_get, sum_by, flat_map, AllByRecursion, cons_option}
use Rattle.std.proofs.lemmas.Bool.{cases_eq, cases_lt}
use Rattle.std.proofs.lemmas.Grind.{flat_map-append}
use Rattle.std.proofs.lemmas.List.{length-set, length-replicate}
use Rattle.std.proofs.lemmas.List.Sums.{sum_by-cons, sum_by_push, count_by-le-length}
use Rattle.std.proofs.Math.Seq.{get_or-append_seam}
use Rattle.mely_event.specs.declared.colour.Colour.{Colour}
use Rattle.mely_event.specs.declared.event.Event.{Event}
use Rattle.mely_history.specs.Setup.{shape_of, colours_of}
use Rattle.mely_history.specs.Entries.{colour_of, registration_on}
use Rattle.mely_history.specs.History.{registered_of, queued_of, last_take}
use Rattle.mely_history.specs.ColourAccount.{ColourAccount, account_of, next_account}
use Rattle.mely_history.specs.Legal.{IsAllowed, IsLegal, IsOfShard, AreLegal}
use Rattle.mely_history.specs.declared.setup.Setup.{Setup}
use Rattle.mely_history.specs.declared.entry.Entry.{Entry}
use Rattle.mely_history.specs.declared.entry.Entry.TheVariants.{Reg, Take, Fin, Steal}
use Rattle.mely_history.proofs.ColourAccountLemmas.{account-own, account-other}
use Rattle.mely_history.proofs.LegalLemmas.{legal-append, over_legal}
use Rattle.mely_history.proofs.LegalAccountLemmas.{begun_within, taken_within}
use Rattle.mely_history.proofs.BeyondLemmas.{none_registered}
use Rattle.mely_check.specs.Journals.{IsFit, entries_in}
use Rattle.mely_check.specs.Reports.{finished_by, steals, loses, core_report, all_entries, AreReports}
use Rattle.mely_check.specs.Verdicts.{IsFirstIllegal}
use Rattle.mely_check.specs.Watches.{Tells, Allows, Follows}
use Rattle.mely_check.specs.Judges.{AreInitialWatches, MayHear, HasRoom, report_after, Adds, Hears, LegalFrom, own_of, IsWatched, IsJudged}
use Rattle.mely_check.specs.declared.judge.Judge.{Judge}
use Rattle.mely_check.specs.declared.report.CoreReport.{CoreReport}
use Rattle.mely_check.specs.declared.watch.Watch.{Watch}
use Rattle.mely_check.proofs.ListLemmas.{at_changed, at_other, in_replicate}
use Rattle.mely_check.proofs.WatchLemmas.{allows_exactly, tells_next}
use Rattle.mely_check.proofs.WalkLemmas.{all_append}
use Rattle.mely_check.proofs.StepLemmas.{entries_in-push}

-- ---- the entries of all shards

flat-push : {X : Type 0} (done : List (List X)) (last : List X) → flat_map (λ h. h) (done ++ last ∷ []) ≡ flat_map (λ h. h) done ++ last
flat-push done last = flat_map-append (λ h. h) done (last ∷ []) ∙ ap (λ t. flat_map (λ h. h) done ++ t) (append-nil last)

all-push : (done : List (List Entry)) (last : List Entry) (e : Entry) → all_entries (done ++ (last ++ e ∷ []) ∷ []) ≡ all_entries (done ++ last ∷ []) ++ e ∷ []
all-push done last e =
    flat-push done (last ++ e ∷ []) ∙ sym (append_assoc (all_entries done) last (e ∷ [])) ∙ ap (λ t. t ++ e ∷ []) (sym (flat-push done last))

all-shard : (histories : List (List Entry)) → all_entries (histories ++ [] ∷ []) ≡ all_entries histories
all-shard histories = flat-push histories [] ∙ append-nil (all_entries histories)

pub length-all : (histories : List (List Entry)) → length (all_entries histories) ≡ entries_in histories
length-all [] = refl
length-all (h ∷ hs) = length-append h (all_entries hs) ∙ ap (λ n. length h + n) (length-all hs)

-- ---- a history legal, one by one

legal_from-append : (setup : Setup) (n k : ℕ) (hs more : List (List Entry)) → k ≡ n + length hs → LegalFrom setup n hs → LegalFrom setup k more → LegalFrom setup n (hs ++ more)
legal_from-append setup n k [] more is front back = subst (λ m. LegalFrom setup m more) (omega arith) back
legal_from-append setup n k (h ∷ hs) more is front back = (front.0, front.1, legal_from-append setup (n + 1) k hs more (omega arith) front.2 back)

record LegalLast (setup : Setup) (n k : ℕ) (done : List (List Entry)) (last : List Entry) : Type 0 where
  pub front : LegalFrom setup n done
  pub legal : IsLegal setup last
  pub of_shard : IsOfShard setup k last

legal_last : (setup : Setup) (n k : ℕ) (done : List (List Entry)) (last : List Entry) → k ≡ n + length done → LegalFrom setup n (done ++ last ∷ []) → LegalLast setup n k done last
legal_last setup n k [] last is all = record { front = tt; legal = all.0; of_shard = subst (λ m. IsOfShard setup m last) (omega arith) all.1 }
legal_last setup n k (h ∷ done) last is all =
    let rest = legal_last setup (n + 1) k done last (omega arith) all.2 in
    record { front = (all.0, all.1, rest.front); legal = rest.legal; of_shard = rest.of_shard }

pub legal_at : (setup : Setup) (n shard k : ℕ) (hs : List (List Entry)) (history : List Entry) → k ≡ n + shard → LegalFrom setup n hs → slice_get hs shard ≡ Some history → IsLegal setup history × IsOfShard setup k history
legal_at setup n shard k [] history is all there = absurd (cc)
legal_at setup n zero k (h ∷ hs) history is all there =
    let same : h ≡ history = ap (λ o. elim o as (λ _. List Entry) [ None ↦ h | Some x ↦ x ]) there in
    (subst (IsLegal setup) same all.0, subst (IsOfShard setup k) same (subst (λ m. IsOfShard setup m h) (omega arith) all.1))
legal_at setup n (suc shard) k (h ∷ hs) history is all there = legal_at setup (n + 1) shard k hs history (omega arith) all.2 there

pub are_legal : (setup : Setup) (hs : List (List Entry)) → LegalFrom setup 0 hs → AreLegal setup hs
are_legal setup hs all = record {
  legal = λ shard history there. (legal_at setup 0 shard shard hs history (omega arith) all there).0;
  of_shard = λ shard history there. (legal_at setup 0 shard shard hs history (omega arith) all there).1;
}

-- ---- the history of a colour's shard

own_here : (done : List (List Entry)) (last : List Entry) (k : ℕ) → k ≡ length done → get_or (done ++ last ∷ []) k [] ≡ last
own_here done last k is = ap (λ n. get_or (done ++ last ∷ []) n []) is ∙ get_or-append_seam done last [] []

own_elsewhere : (done : List (List Entry)) (last other : List Entry) (k : ℕ) → (k ≡ length done → ⊥) → get_or (done ++ last ∷ []) k [] ≡ get_or (done ++ other ∷ []) k []
own_elsewhere [] last other zero ne = absurd (ne refl)
own_elsewhere [] last other (suc k) ne = refl
own_elsewhere (h ∷ done) last other zero ne = refl
own_elsewhere (h ∷ done) last other (suc k) ne = own_elsewhere done last other k (λ e. ne (ap suc e))

own_empty : (histories : List (List Entry)) (k : ℕ) → get_or (histories ++ [] ∷ []) k [] ≡ get_or histories k []
own_empty [] zero = refl
own_empty [] (suc k) = refl
own_empty (h ∷ hs) zero = refl
own_empty (h ∷ hs) (suc k) = own_empty hs k

-- ---- entries of colours that there aren't

-- each take that may follow takes some event
some_more : (setup : Setup) (history : List Entry) (entry : Entry) → IsAllowed setup history entry → ((core count : ℕ) → last_take history (colour_of entry) ≡ Some (core, count) → 0 < count)
    → (core count : ℕ) → (next_account (account_of setup history (colour_of entry)) entry).last ≡ Some (core, count) → 0 < count
some_more setup history (Reg c event by) may old core count is = old core count is
some_more setup history (Take c by n) may old core count is =
    let some = (taken_within setup history c n may.ready.waiting may.whole_batch).0 in
    let same : n ≡ count = ap (λ (o : Option (ℕ × ℕ)). elim o as (λ _. ℕ) [ None ↦ 0 | Some p ↦ p.1 ]) is in omega arith
some_more setup history (Fin c by n) may old core count is = old core count is
some_more setup history (Steal c from to) may old core count is = old core count is

last_some : (setup : Setup) (history : List Entry) → IsLegal setup history → (c : Colour) (core count : ℕ) → last_take history c ≡ Some (core, count) → 0 < count
last_some setup = over_legal setup (λ history. (c : Colour) (core count : ℕ) → last_take history c ≡ Some (core, count) → 0 < count)
    (λ c core count is. absurd (cc))
    (λ history entry legal may old c core count is. elim (cases_eq (colour_of entry).0 c.0) [
      | inl own ↦
          some_more setup history entry may (old (colour_of entry)) core count
          (sym (ap (λ (a : ColourAccount). a.last) (account-own setup history entry (colour_of entry) refl)) ∙ subst (λ (d : Colour). last_take (history ++ entry ∷ []) d ≡ Some (core, count)) (sym (ap (λ k. record { 0 = k }) own)) is)
      | inr other ↦ old c core count (sym (ap (λ (a : ColourAccount). a.last) (account-other setup history entry c other)) ∙ is)
    ])

nothing_waits : (setup : Setup) (history : List Entry) (c : Colour) → IsLegal setup history → colours_of setup ≤ c.0 → length (queued_of history c) ≡ 0
nothing_waits setup history c legal high =
    let none = ap (λ t. length t) (none_registered setup history legal c high) in
    let less = length-drop (account_of setup history c).begun (registered_of history c) in omega (arith, none, less)

-- none may follow
pub beyond : (setup : Setup) (history : List Entry) (entry : Entry) → IsLegal setup history → colours_of setup ≤ (colour_of entry).0 → IsAllowed setup history entry → ⊥
beyond setup history (Reg c event by) legal high may = (let low = may.colour in omega arith)
beyond setup history (Take c core count) legal high may = (let some = may.ready.waiting in let none = nothing_waits setup history c legal high in omega arith)
beyond setup history (Fin c core count) legal high may =
    let some = last_some setup history legal c core count may.last in
    let whole = may.whole in
    let within = begun_within setup history c legal in
    let none = ap (λ t. length t) (none_registered setup history legal c high) in omega (arith, some, whole, within, none)
beyond setup history (Steal c from to) legal high may = (let some = may.ready.waiting in let none = nothing_waits setup history c legal high in omega arith)

-- ---- sums of cores

ran_bound : (core : ℕ) (entry : Entry) → IsFit entry → finished_by core entry ≤ 65535
ran_bound core (Reg c event by) fit = omega arith
ran_bound core (Take c by n) fit = omega arith
ran_bound core (Fin c by n) fit = by_test (eqb by core)
  where
    by_test : (b : Bool) → cond b n 0 ≤ 65535
    by_test true = (let few = fit.2 in omega arith)
    by_test false = omega arith
ran_bound core (Steal c from to) fit = omega arith

ran_few : (core : ℕ) (entries : List Entry) → AllByRecursion IsFit entries → sum_by (finished_by core) entries ≤ 65535 * length entries
ran_few core [] fit = omega arith
ran_few core (e ∷ entries) fit =
    let one = ran_bound core e fit.0 in
    let rest = ran_few core entries fit.1 in
    let all = sum_by-cons (finished_by core) e entries in omega (arith, one, rest, all)

room : (core : ℕ) (entries : List Entry) → AllByRecursion IsFit entries → length entries < 4294967295 → HasRoom (core_report core entries) 65535 1 1
room core entries fit few =
    let ran = ran_few core entries fit in
    let stolen = count_by-le-length (steals core) entries in
    let lost = count_by-le-length (loses core) entries in
    record { ran_fits = omega (arith, ran); in_fits = omega (arith, stolen); out_fits = omega (arith, lost) }

same_report : {a b c x y z : ℕ} → a ≡ x → b ≡ y → c ≡ z → (let one : CoreReport = record { ran = a; stolen_in = b; stolen_out = c } in one) ≡ record { ran = x; stolen_in = y; stolen_out = z }
same_report p q r = λ i. record { ran = p i; stolen_in = q i; stolen_out = r i }

report_more : (core : ℕ) (entries : List Entry) (e : Entry) → report_after core e (core_report core entries) ≡ core_report core (entries ++ e ∷ [])
report_more core entries e =
    same_report (sym (sum_by_push (finished_by core) entries e)) (sym (sum_by_push (λ x. cond (steals core x) 1 0) entries e)) (sym (sum_by_push (λ x. cond (loses core x) 1 0) entries e))

-- ---- before the first line, and behind a shard's

pub judged_new : (setup : Setup) (judge : Judge) → judge.setup ≡ setup → judge.fault ≡ None → AreInitialWatches setup (colours_of setup) judge.watches.items → judge.cores.items ≡ replicate (shape_of setup).cores (record { ran = 0; stolen_in = 0; stolen_out = 0 }) → IsJudged setup [] judge
judged_new setup judge same none blank cores =
    subst (λ o. MatchOption o (IsWatched setup [] judge) (IsFirstIllegal setup [])) (sym none)
    (record {
      setup_is = same;
      legal = tt;
      fit = tt;
      many = blank.many;
      watched = blank.each;
      reports = record {
        many = ap (λ t. length t) cores ∙ length-replicate (shape_of setup).cores (record { ran = 0; stolen_in = 0; stolen_out = 0 });
        each = λ core lt. ap (λ t. slice_get t core) cores ∙ in_replicate (shape_of setup).cores core (record { ran = 0; stolen_in = 0; stolen_out = 0 }) lt;
      };
    })

watched_shard : (setup : Setup) (histories : List (List Entry)) (judge : Judge) → IsWatched setup histories judge → IsWatched setup (histories ++ [] ∷ []) judge
watched_shard setup histories judge w = record {
  setup_is = w.setup_is;
  legal = legal_from-append setup 0 (length histories) histories ([] ∷ []) (omega arith) w.legal ((λ at entry there. absurd (cc)), tt, tt);
  fit = subst (AllByRecursion IsFit) (sym (all-shard histories)) w.fit;
  many = w.many;
  watched = λ c watch there. subst (λ h. Tells setup (account_of setup h c) watch) (sym (own_empty histories (c.0 % (shape_of setup).shards))) (w.watched c watch there);
  reports = subst (λ es. AreReports setup es judge.cores.items) (sym (all-shard histories)) w.reports;
}

illegal_shard : (setup : Setup) (histories : List (List Entry)) (line : ℕ) → IsFirstIllegal setup histories line → IsFirstIllegal setup (histories ++ [] ∷ []) line
illegal_shard setup histories line f = record {
  before = f.before;
  front = f.front;
  entry = f.entry;
  behind = f.behind;
  more = f.more ++ [] ∷ [];
  is = ap (λ t. t ++ [] ∷ []) f.is ∙ append_assoc f.before ((f.front ++ f.entry ∷ f.behind) ∷ f.more) ([] ∷ []);
  counted = f.counted;
  legal = f.legal;
  fault = f.fault;
}

pub judged_shard : (setup : Setup) (histories : List (List Entry)) (judge : Judge) → IsJudged setup histories judge → IsJudged setup (histories ++ [] ∷ []) judge
judged_shard setup histories judge judged = by_fault judge.fault judged
  where
    by_fault : (o : Option ℕ) → MatchOption o (IsWatched setup histories judge) (IsFirstIllegal setup histories) → MatchOption o (IsWatched setup (histories ++ [] ∷ []) judge) (IsFirstIllegal setup (histories ++ [] ∷ []))
    by_fault None w = watched_shard setup histories judge w
    by_fault (Some line) f = illegal_shard setup histories line f

-- ---- behind an entry's

-- one more entry of the last history stands behind, and changes nothing of what stands before it
record Longer (before : List (List Entry)) (whole : List Entry) (front behind : List Entry) (x : Entry) (histories : List (List Entry)) : Type 0 where
  pub behind' : List Entry
  pub more' : List (List Entry)
  pub is : histories ≡ before ++ (front ++ x ∷ behind') ∷ more'

longer : (done : List (List Entry)) (last : List Entry) (e : Entry) (before : List (List Entry)) (front behind : List Entry) (x : Entry) (more : List (List Entry)) → done ++ last ∷ [] ≡ before ++ (front ++ x ∷ behind) ∷ more
    → Longer before last front behind x (done ++ (last ++ e ∷ []) ∷ [])
longer [] last e [] front behind x more is =
    let first : last ≡ front ++ x ∷ behind = cc in
    record { behind' = behind ++ e ∷ []; more' = []; is = ap (λ h. (h ++ e ∷ []) ∷ []) first ∙ ap (λ h. h ∷ []) (append_assoc front (x ∷ behind) (e ∷ [])) }
longer [] last e (b ∷ before) front behind x more is =
    let rest : [] ≡ before ++ (front ++ x ∷ behind) ∷ more = cc in
    absurd (let long = ap (λ t. length t) rest in omega (arith, long, length-append before ((front ++ x ∷ behind) ∷ more)))
longer (h ∷ done) last e [] front behind x more is =
    let first : h ≡ front ++ x ∷ behind = cc in
    record { behind' = behind; more' = done ++ (last ++ e ∷ []) ∷ []; is = ap (λ g. g ∷ (done ++ (last ++ e ∷ []) ∷ [])) first }
longer (h ∷ done) last e (b ∷ before) front behind x more is =
    let first : h ≡ b = cc in
    let rest : done ++ last ∷ [] ≡ before ++ (front ++ x ∷ behind) ∷ more = cc in
    let tail = longer done last e before front behind x more rest in
    record { behind' = tail.behind'; more' = tail.more'; is = ap (λ t. h ∷ t) tail.is ∙ ap (λ g. g ∷ (before ++ (front ++ x ∷ tail.behind') ∷ tail.more')) first }

illegal_more : (setup : Setup) (done : List (List Entry)) (last : List Entry) (e : Entry) (line : ℕ) → IsFirstIllegal setup (done ++ last ∷ []) line → IsFirstIllegal setup (done ++ (last ++ e ∷ []) ∷ []) line
illegal_more setup done last e line f =
    let l = longer done last e f.before f.front f.behind f.entry f.more f.is in
    record { before = f.before; front = f.front; entry = f.entry; behind = l.behind'; more = l.more'; is = l.is; counted = f.counted; legal = f.legal; fault = f.fault }

length-registered : (history : List Entry) (c : Colour) → length (registered_of history c) ≤ length history
length-registered [] c = omega arith
length-registered (e ∷ history) c = let rest = length-registered history c in by_option (registration_on c e) rest
  where
    by_option : (o : Option Event) → length (registered_of history c) ≤ length history → length (cons_option o (registered_of history c)) ≤ suc (length history)
    by_option None rest = omega arith
    by_option (Some event) rest = omega arith

module _ (setup : Setup) (done : List (List Entry)) (last : List Entry) (judge : Judge) (w : IsWatched setup (done ++ last ∷ []) judge) where
  shards : ℕ
  shards = (shape_of setup).shards

  last_legal : LegalLast setup 0 (length done) done last
  last_legal = legal_last setup 0 (length done) done last (omega arith) w.legal

  -- what is kept of a colour of the last shard is what its history says
  tells_last : (c : Colour) (watch : Watch) → c.0 % (shape_of setup).shards ≡ length done → slice_get judge.watches.items c.0 ≡ Some watch → Tells setup (account_of setup last c) watch
  tells_last c watch here there = subst (λ h. Tells setup (account_of setup h c) watch) (own_here done last (c.0 % (shape_of setup).shards) here) (w.watched c watch there)

  -- an entry that was heard may follow
  heard_may : (e : Entry) (begun : ℕ) → begun ≡ length done + 1 → MayHear judge begun e → ((colour_of e).0 % (shape_of setup).shards ≡ length done) × IsAllowed setup last e
  heard_may e begun is may =
      let here : (colour_of e).0 % (shape_of setup).shards ≡ length done = (let of_shard = may.of_shard in let same = ap (λ s. (colour_of e).0 % (shape_of s).shards) w.setup_is in omega arith) in
      (here, (allows_exactly setup last e may.watch (tells_last (colour_of e) may.watch here may.there)).0 (subst (λ s. Allows s may.watch e) w.setup_is may.allows))

  -- an entry that was refused may not
  refused_not : (e : Entry) (begun : ℕ) → begun ≡ length done + 1 → (MayHear judge begun e → ⊥) → (colour_of e).0 % (shape_of setup).shards ≡ length done → IsAllowed setup last e → ⊥
  refused_not e begun is not here may = elim (cases_lt (colour_of e).0 (colours_of setup)) [
    | inl low ↦ (
        let legal = last_legal in
        let many = w.many in
        let within : (colour_of e).0 < length judge.watches.items = omega arith in
        found (in_there judge.watches.items (colour_of e).0 within)
        )
    | inr high ↦ beyond setup last e (last_legal).legal high may
  ]
    where
      in_there : (items : List Watch) (k : ℕ) → k < length items → (watch : Watch) × (slice_get items k ≡ Some watch)
      in_there [] k lt = absurd (omega arith)
      in_there (x ∷ items) zero lt = (x, refl)
      in_there (x ∷ items) (suc k) lt = in_there items k (omega arith)

      found : (watch : Watch) × (slice_get judge.watches.items (colour_of e).0 ≡ Some watch) → ⊥
      found f = not (record {
        watch = f.0;
        there = f.1;
        of_shard = (let same = ap (λ s. (colour_of e).0 % (shape_of s).shards) w.setup_is in omega arith);
        allows = subst (λ s. Allows s f.0 e) (sym w.setup_is) ((allows_exactly setup last e f.0 (tells_last (colour_of e) f.0 here f.1)).1 may);
      })

  -- the fault is the first
  first_fault : (e : Entry) (begun line : ℕ) → begun ≡ length done + 1 → line ≡ length done + 1 + entries_in done + length last + 1 → (MayHear judge begun e → ⊥) → IsFirstIllegal setup (done ++ (last ++ e ∷ []) ∷ []) line
  first_fault e begun line is number not = record {
    before = done;
    front = last;
    entry = e;
    behind = [];
    more = [];
    is = refl;
    counted = number;
    legal = are_legal setup (done ++ last ∷ []) w.legal;
    fault = refused_not e begun is not;
  }

  -- what is kept goes on
  watched_more : (e : Entry) (next : Judge) → (colour_of e).0 % (shape_of setup).shards ≡ length done → IsAllowed setup last e → MayHear judge (length done + 1) e → Adds judge e next → IsFit e → entries_in done + length last < 4294967295 → IsWatched setup (done ++ (last ++ e ∷ []) ∷ []) next
  watched_more e next here may heard adds fit few =
      let legal = last_legal in
      let count = length-all (done ++ last ∷ []) ∙ entries_in-push done last in
      let all_few : length (all_entries (done ++ last ∷ [])) < 4294967295 = omega (arith, count, few) in
      record {
        setup_is = adds.setup ∙ w.setup_is;
        legal = legal_from-append setup 0 (length done) done ((last ++ e ∷ []) ∷ []) (omega arith) legal.front
            (legal-append setup last e legal.legal may, all_append (λ x. (colour_of x).0 % (shape_of setup).shards ≡ length done) last (e ∷ []) legal.of_shard (here, tt), tt);
        fit = subst (AllByRecursion IsFit) (sym (all-push done last e)) (all_append IsFit (all_entries (done ++ last ∷ [])) (e ∷ []) w.fit (fit, tt));
        many = ap (λ t. length t) adds.watches ∙ length-set judge.watches.items (colour_of e).0 adds.now ∙ w.many;
        watched = λ c watch there. next_watch c watch (ap (λ t. slice_get t c.0) (sym adds.watches) ∙ there);
        reports = record {
          many = adds.cores.many ∙ w.reports.many;
          each = λ core lt. adds.cores.each core (core_report core (all_entries (done ++ last ∷ []))) (w.reports.each core lt) (room core (all_entries (done ++ last ∷ [])) w.fit all_few)
              ∙ ap (λ r. Some r) (report_more core (all_entries (done ++ last ∷ [])) e) ∙ ap (λ es. Some (core_report core es)) (sym (all-push done last e));
        };
      }
    where
      own_watch : Tells setup (account_of setup (last ++ e ∷ []) (colour_of e)) adds.now
      own_watch =
          let was = tells_last (colour_of e) adds.was here adds.there in
          let same : heard.watch ≡ adds.was = ap (λ (o : Option Watch). elim o as (λ _. Watch) [ None ↦ adds.was | Some x ↦ x ]) (sym heard.there ∙ adds.there) in
          let small = length-registered last (colour_of e) in
          subst (λ a. Tells setup a adds.now) (sym (account-own setup last e (colour_of e) refl))
          (tells_next setup (account_of setup last (colour_of e)) e adds.was adds.now was ((allows_exactly setup last e adds.was was).1 may) (subst (λ s. Follows s adds.was e adds.now) w.setup_is adds.follows) (omega (arith, small, few)))

      next_watch : (c : Colour) (watch : Watch) → slice_get (set judge.watches.items (colour_of e).0 adds.now) c.0 ≡ Some watch → Tells setup (account_of setup (own_of setup (done ++ (last ++ e ∷ []) ∷ []) c) c) watch
      next_watch c watch there = elim (cases_eq c.0 (colour_of e).0) [
        | inl same ↦ (
            let is : colour_of e ≡ c = ap (λ k. record { 0 = k }) (sym same) in
            let now : adds.now ≡ watch = ap (λ (o : Option Watch). elim o as (λ _. Watch) [ None ↦ watch | Some x ↦ x ]) (sym (at_changed judge.watches.items (colour_of e).0 adds.now adds.was adds.there) ∙ ap (slice_get (set judge.watches.items (colour_of e).0 adds.now)) (sym same) ∙ there) in
            let there' : c.0 % (shape_of setup).shards ≡ length done = ap (λ k. k % (shape_of setup).shards) same ∙ here in
            subst (λ h. Tells setup (account_of setup h c) watch) (sym (own_here done (last ++ e ∷ []) (c.0 % (shape_of setup).shards) there'))
            (subst (λ x. Tells setup (account_of setup (last ++ e ∷ []) c) x) now (subst (λ d. Tells setup (account_of setup (last ++ e ∷ []) d) adds.now) is own_watch))
            )
        | inr differ ↦ (
            let old = w.watched c watch (sym (at_other judge.watches.items (colour_of e).0 c.0 adds.now differ) ∙ there) in
            elim (cases_eq (c.0 % (shape_of setup).shards) (length done)) [
              | inl same ↦
                  subst (λ h. Tells setup (account_of setup h c) watch) (sym (own_here done (last ++ e ∷ []) (c.0 % (shape_of setup).shards) same))
                  (subst (λ a. Tells setup a watch) (sym (account-other setup last e c (λ is. differ (sym is)))) (subst (λ h. Tells setup (account_of setup h c) watch) (own_here done last (c.0 % (shape_of setup).shards) same) old))
              | inr other ↦ subst (λ h. Tells setup (account_of setup h c) watch) (own_elsewhere done last (last ++ e ∷ []) (c.0 % (shape_of setup).shards) other) old
            ]
            )
      ]

pub judged_entry : (setup : Setup) (done : List (List Entry)) (last : List Entry) (e : Entry) (judge next : Judge) (begun line : ℕ) → begun ≡ length done + 1 → line ≡ length done + 1 + entries_in done + length last + 1 → entries_in done + length last < 4294967295 → IsFit e
    → IsJudged setup (done ++ last ∷ []) judge → Hears judge begun line e next → IsJudged setup (done ++ (last ++ e ∷ []) ∷ []) next
judged_entry setup done last e judge next begun line is number few fit judged hears = by_fault judge.fault refl judged hears
  where
    after : List (List Entry)
    after = done ++ (last ++ e ∷ []) ∷ []

    with_fault : (o : Option ℕ) → next.fault ≡ o → MatchOption o (IsWatched setup (done ++ (last ++ e ∷ []) ∷ []) next) (IsFirstIllegal setup (done ++ (last ++ e ∷ []) ∷ [])) → IsJudged setup (done ++ (last ++ e ∷ []) ∷ []) next
    with_fault o same that = subst (λ p. MatchOption p (IsWatched setup (done ++ (last ++ e ∷ []) ∷ []) next) (IsFirstIllegal setup (done ++ (last ++ e ∷ []) ∷ []))) (sym same) that

    by_fault : (o : Option ℕ) → judge.fault ≡ o → MatchOption o (IsWatched setup (done ++ last ∷ []) judge) (IsFirstIllegal setup (done ++ last ∷ []))
        → MatchOption o ((MayHear judge begun e × Adds judge e next) ⊎ ((MayHear judge begun e → ⊥) × (next ≡ record judge { fault = Some line }))) (λ _. next ≡ judge) → IsJudged setup (done ++ (last ++ e ∷ []) ∷ []) next
    by_fault (Some found) told f same = with_fault (Some found) (ap (λ (j : Judge). j.fault) same ∙ told) (illegal_more setup done last e found f)
    by_fault None told w (inl both) =
        let may = heard_may setup done last judge w e begun is both.0 in
        with_fault None both.1.fault (watched_more setup done last judge w e next may.0 may.1 (subst (λ b. MayHear judge b e) is both.0) both.1 fit few)
    by_fault None told w (inr both) = with_fault (Some line) (ap (λ (j : Judge). j.fault) both.1) (first_fault setup done last judge w e begun line is number both.0)
