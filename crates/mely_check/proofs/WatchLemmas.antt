-- What is kept of a colour allows an entry exactly where it may follow, and goes on behind it.
use Rattle.std.proofs.Common.{◌≡◌, ℕ, ◌+◌, ◌-◌, ◌^◌, ◌<◌, ◌≤◌, List, [], ◌∷◌, ◌++◌, Option, None, Some, length, drop, min, map, sum, unwrap_or, refl, sym, ap, subst, ◌∙◌, arith, length-append, length-drop}
use Rattle.std.specs.List.{sum_by}
use Rattle.std.proofs.lemmas.List.{length-map, drop-map, map-append, drop-append-le, drop-drop, nil_from_length}
use Rattle.std.proofs.lemmas.List.Sums.{sum_by_push, sum_by-take-drop, sum-map}
use Rattle.mely_event.specs.declared.colour.Colour.{Colour}
use Rattle.mely_history.specs.Setup.{shape_of}
use Rattle.mely_history.specs.Entries.{colour_of}
use Rattle.mely_history.specs.History.{weight, queued_of}
use Rattle.mely_history.specs.Legal.{IsAllowed, IsDrainedOf}
use Rattle.mely_history.specs.ColourAccount.{ColourAccount, account_of, next_account}
use Rattle.mely_history.specs.declared.setup.Setup.{Setup}
use Rattle.mely_history.specs.declared.entry.Entry.{Entry}
use Rattle.mely_history.specs.declared.entry.Entry.TheVariants.{Reg, Take, Fin, Steal}
use Rattle.mely_check.specs.Watches.{Tells, RunsAs, Allows, Follows}
use Rattle.mely_check.specs.declared.watch.Watch.{Watch}

-- ---- the colour rests or runs

rests : (account : ColourAccount) (running : Option (ℕ × ℕ)) → RunsAs account running → account.begun ≡ account.ended → running ≡ None
rests account None runs same = refl
rests account (Some turn) runs same = (let more = runs.1 in let some = runs.2 in absurd (omega arith))

at_rest : (account : ColourAccount) (running : Option (ℕ × ℕ)) → RunsAs account running → running ≡ None → account.begun ≡ account.ended
at_rest account running runs is = subst (RunsAs account) is runs

on_turn : (account : ColourAccount) (running : Option (ℕ × ℕ)) (core count : ℕ) → RunsAs account running → running ≡ Some (core, count) → (account.last ≡ Some (core, count)) × (account.begun ≡ account.ended + count) × (0 < count)
on_turn account running core count runs is = subst (RunsAs account) is runs

turns : (account : ColourAccount) (running : Option (ℕ × ℕ)) (core count : ℕ) → RunsAs account running → 0 < count → account.last ≡ Some (core, count) → account.begun ≡ account.ended + count → running ≡ Some (core, count)
turns account None core count runs some last whole = (let same : account.begun ≡ account.ended = runs in absurd (omega arith))
turns account (Some turn) core count runs some last whole = sym runs.0 ∙ last

-- ---- what is kept allows an entry exactly where it may follow

waits : (setup : Setup) (account : ColourAccount) (watch : Watch) → Tells setup account watch → length watch.queued.items ≡ length (drop account.begun account.registered)
waits setup account watch tells = ap (λ t. length t) tells.queued ∙ length-map (drop account.begun account.registered) (weight setup)

worth_is : (setup : Setup) (account : ColourAccount) (watch : Watch) → Tells setup account watch → watch.worth ≡ sum_by (weight setup) (drop account.begun account.registered)
worth_is setup account watch tells = tells.worth ∙ ap (λ t. sum t) tells.queued ∙ sum-map (weight setup) (drop account.begun account.registered)

pub allows_exactly : (setup : Setup) (history : List Entry) (entry : Entry) (watch : Watch) → Tells setup (account_of setup history (colour_of entry)) watch
    → (Allows setup watch entry → IsAllowed setup history entry) × (IsAllowed setup history entry → Allows setup watch entry)
allows_exactly setup history (Reg c event by) watch tells = ((λ may. may), (λ may. may))
allows_exactly setup history (Take c core count) watch tells =
    let long = waits setup (account_of setup history c) watch tells in (
      (λ may. record {
        by_owner = may.0 ∙ tells.owner;
        ready = record { at_rest = at_rest (account_of setup history c) watch.running tells.runs may.1; waiting = (let some = may.2 in omega (arith, long)) };
        whole_batch = may.3 ∙ ap (min (shape_of setup).batch) long;
      }),
      (λ may. (
        may.by_owner ∙ sym tells.owner,
        rests (account_of setup history c) watch.running tells.runs may.ready.at_rest,
        (let some = may.ready.waiting in omega (arith, long)),
        may.whole_batch ∙ ap (min (shape_of setup).batch) (sym long),
      )),
    )
allows_exactly setup history (Fin c core count) watch tells = (
  (λ may. let turn = on_turn (account_of setup history c) watch.running core count tells.runs may in record { last = turn.0; whole = turn.1 }),
  (λ may. turns (account_of setup history c) watch.running core count tells.runs (tells.some core count may.last) may.last may.whole),
)
allows_exactly setup history (Steal c from to) watch tells =
    let long = waits setup (account_of setup history c) watch tells in
    let worth = worth_is setup (account_of setup history c) watch tells in (
      (λ may. record {
        not_pinned = may.0;
        from_owner = may.1 ∙ tells.owner;
        other = may.2;
        core = may.3;
        ready = record { at_rest = at_rest (account_of setup history c) watch.running tells.runs may.4; waiting = (let some = may.5 in omega (arith, long)) };
        worthy = subst (λ n. (shape_of setup).steal_cost < n) worth may.6;
      }),
      (λ may. (
        may.not_pinned,
        may.from_owner ∙ sym tells.owner,
        may.other,
        may.core,
        rests (account_of setup history c) watch.running tells.runs may.ready.at_rest,
        (let some = may.ready.waiting in omega (arith, long)),
        subst (λ n. (shape_of setup).steal_cost < n) (sym worth) may.worthy,
      )),
    )

-- ---- one more entry of the colour

pub tells_next : (setup : Setup) (account : ColourAccount) (entry : Entry) (before after : Watch) → Tells setup account before → Allows setup before entry → Follows setup before entry after → length account.registered < 4294967295
    → Tells setup (next_account account entry) after
tells_next setup account (Reg c event by) before after tells may follows few =
    let long = length-append account.registered (event ∷ []) in
    let within = tells.begun in
    let light = tells.light in
    let small = follows.4 in
    let fits : before.worth + weight setup event ≤ 2 ^ 64 - 1 = omega arith in
    let sum_is : after.worth ≡ before.worth + weight setup event = omega (arith, follows.3) in
    let behind : drop account.begun (account.registered ++ event ∷ []) ≡ drop account.begun account.registered ++ event ∷ [] = drop-append-le account.begun account.registered (event ∷ []) within in
    record {
      owner = follows.0 ∙ tells.owner;
      runs = subst (RunsAs (next_account account (Reg c event by))) (sym follows.1) tells.runs;
      some = tells.some;
      queued = follows.2 ∙ ap (λ t. t ++ weight setup event ∷ []) tells.queued ∙ sym (map-append (weight setup) (drop account.begun account.registered) (event ∷ [])) ∙ ap (map (weight setup)) (sym behind);
      worth = sum_is ∙ ap (λ n. n + weight setup event) tells.worth ∙ sym (sum_by_push (λ n. n) before.queued.items (weight setup event)) ∙ ap (λ t. sum t) (sym follows.2);
      begun = omega (arith, long);
      light = omega (arith, long, sum_is);
    }
tells_next setup account (Take c core count) before after tells may follows few =
    let long = waits setup account before tells in
    let dropped = length-drop account.begun account.registered in
    let batch : 1 ≤ (shape_of setup).batch = setup.batch_in.0 in
    let some : 0 < count = (let m = may.3 in let w = may.2 in omega arith) in
    let within : account.begun + count ≤ length account.registered = (let m = may.3 in let w = may.2 in let b = tells.begun in omega (arith, long, dropped)) in
    let resting = at_rest account before.running tells.runs may.1 in
    let split = sum_by-take-drop (λ n. n) before.queued.items count in
    let whole = tells.worth in
    let light = tells.light in
    let less = follows.3 in
    let left : after.worth ≡ sum (drop count before.queued.items) = omega (arith, split, whole, less) in
    record {
      owner = follows.0 ∙ tells.owner;
      runs = subst (RunsAs (next_account account (Take c core count))) (sym follows.1) (refl, (omega (arith, resting)), some);
      some = λ by n is. (let same : count ≡ n = ap (λ (o : Option (ℕ × ℕ)). (unwrap_or {T = ℕ × ℕ} o (0, 0)).1) is in omega arith);
      queued = follows.2 ∙ ap (drop count) tells.queued ∙ drop-map (weight setup) count (drop account.begun account.registered) ∙ ap (map (weight setup)) (drop-drop count account.begun account.registered);
      worth = left ∙ ap (λ t. sum t) (sym follows.2);
      begun = within;
      light = omega (arith, less, light);
    }
tells_next setup account (Fin c core count) before after tells may follows few =
    let turn = on_turn account before.running core count tells.runs may in
    record {
      owner = follows.0 ∙ tells.owner;
      runs = subst (RunsAs (next_account account (Fin c core count))) (sym follows.1) turn.1;
      some = tells.some;
      queued = follows.2 ∙ tells.queued;
      worth = follows.3 ∙ tells.worth ∙ ap (λ t. sum t) (sym follows.2);
      begun = tells.begun;
      light = (let same = follows.3 in let light = tells.light in omega arith);
    }
tells_next setup account (Steal c from to) before after tells may follows few = record {
  owner = follows.0;
  runs = subst (RunsAs (next_account account (Steal c from to))) (sym follows.1) tells.runs;
  some = tells.some;
  queued = follows.2 ∙ tells.queued;
  worth = follows.3 ∙ tells.worth ∙ ap (λ t. sum t) (sym follows.2);
  begun = tells.begun;
  light = (let same = follows.3 in let light = tells.light in omega arith);
}

-- ---- nothing of the colour runs or waits

pub drained_exactly : (setup : Setup) (history : List Entry) (c : Colour) (watch : Watch) → Tells setup (account_of setup history c) watch
    → ((watch.running ≡ None) × (watch.queued.items ≡ []) → IsDrainedOf history c) × (IsDrainedOf history c → (watch.running ≡ None) × (watch.queued.items ≡ []))
drained_exactly setup history c watch tells = (
  (λ is. record {
    at_rest = at_rest (account_of setup history c) watch.running tells.runs is.0;
    none_queued = nil_from_length (queued_of history c) (sym (waits setup (account_of setup history c) watch tells) ∙ ap (λ t. length t) is.1);
  }),
  (λ is. (
    rests (account_of setup history c) watch.running tells.runs is.at_rest,
    tells.queued ∙ ap (map (weight setup)) is.none_queued,
  )),
)
