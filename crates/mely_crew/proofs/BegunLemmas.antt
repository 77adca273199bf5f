-- What was registered before a fleet was closed is in the histories that its run leaves.
use Rattle.std.proofs.Common.{◌≡◌, ◌≤◌, ◌++◌, ◌∷◌, [], ℕ, List, Some, length, sym, ap, ◌∙◌, subst, arith, append_assoc}
use Rattle.std.specs.Prelude.{slice_get}
use Rattle.mely_event.specs.declared.colour.Colour.{Colour}
use Rattle.mely_event.specs.declared.event.Event.{Event}
use Rattle.mely_history.specs.declared.entry.Entry.{Entry}
use Rattle.mely_history.specs.declared.entry.Entry.TheVariants.{Reg}
use Rattle.mely_history.specs.declared.setup.Setup.{Setup}
use Rattle.mely_history.specs.Setup.{shape_of}
use Rattle.mely_shard.specs.Shard.{ShardState}
use Rattle.mely_weave.specs.Side.{shard_of}
use Rattle.mely_weave.specs.Weave.{WeaveState}
use Rattle.mely_weave.specs.WeaveRun.{HistoriesGrow}
use Rattle.mely_crew.specs.Crew.{IsRegistered}
use Rattle.mely_crew.proofs.CrewLemmas.{there_of}

-- an entry, and more behind it, and still more
behind : (point between more : List Entry) (entry : Entry) → ((point ++ entry ∷ []) ++ between) ++ more ≡ point ++ entry ∷ (between ++ more)
behind point between more entry = ap (λ l. l ++ more) (append_assoc point (entry ∷ []) between) ∙ append_assoc point (entry ∷ between) more

-- the history of the event's shard began with what its caller had seen, and has grown since
pub registered_after : {S P : Type 0} (colour : Colour) (event : Event) (by : ℕ) (closed final : WeaveState S P) (front point : List Entry) → final.setup ≡ closed.setup → length closed.shards ≡ (shape_of closed.setup).shards → (shape_of closed.setup).cores ≤ by
    → front ≡ point ++ Reg colour event by ∷ [] → ((has : ShardState S P) → slice_get closed.shards (shard_of closed.setup colour) ≡ Some has → (between : List Entry) × (has.history ≡ front ++ between)) → HistoriesGrow closed final → IsRegistered colour event final
registered_after {S} {P} colour event by closed final front point same many outside is begins grow =
    let some : 1 ≤ (shape_of closed.setup).shards = closed.setup.shards_in.0 in
    let first = there_of closed.shards (shard_of closed.setup colour) (omega (arith, some, many)) in
    let seen = begins first.0 first.1 in
    let grown = grow (shard_of closed.setup colour) first.0 first.1 in
    record {
      has = grown.0;
      there = subst (λ (s : Setup). slice_get final.shards (shard_of s colour) ≡ Some grown.0) (sym same) grown.1;
      registered = record {
        by = by;
        outside = subst (λ (s : Setup). (shape_of s).cores ≤ by) (sym same) outside;
        before = point;
        after = seen.0 ++ grown.2.0;
        is = grown.2.1 ∙ ap (λ h. h ++ grown.2.0) (seen.1 ∙ ap (λ h. h ++ seen.0) is) ∙ behind point seen.0 grown.2.0 (Reg colour event by);
      };
    }

-- the first of a list that begins with one alone
pub first_of : {A : Type 0} (xs ys : List A) (x : A) → xs ≡ x ∷ [] → slice_get (xs ++ ys) 0 ≡ Some x
first_of xs ys x is = ap (λ l. slice_get (l ++ ys) 0) is
