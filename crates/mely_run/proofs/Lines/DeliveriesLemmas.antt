-- What follows a registration, and what it does to the list of a chain.
use Rattle.std.proofs.Common.{◌≡◌, ◌<◌, ◌+◌, ℕ, Bool, ltb, List, [], ◌∷◌, ◌++◌, Option, None, Some, Ok, length, map, arith, sym, ap, subst, ◌∙◌, refl}
use Rattle.std.specs.Prelude.{MatchOption}
use Rattle.std.proofs.lemmas.Bool.{cond-true, cond-false, lt-ltb, le-ltb}
use Rattle.mely_event.specs.declared.colour.Colour.{Colour}
use Rattle.mely_event.specs.declared.event.Event.{Event}
use Rattle.mely_event.specs.declared.mark.Mark.{Mark}
use Rattle.mely_history.specs.declared.setup.Setup.{Setup}
use Rattle.mely_history.specs.declared.entry.Entry.{Entry}
use Rattle.mely_history.specs.declared.registered.Registered.{Registered}
use Rattle.mely_history.specs.declared.registered.Registered.TheVariants.{Woke, Told, Running}
use Rattle.mely_history.specs.History.{begun_of, ended_of, queued_of}
use Rattle.mely_shard.specs.Shard.{RegisteredAs}
use Rattle.mely_steal.specs.Marks.{after_replacement}
use Rattle.mely_steal.specs.StealQueue.{after_mark_change}
use Rattle.mely_core.specs.CoreQueue.{CoreQueueState, HoldTogether, told_of}
use Rattle.mely_core.proofs.ChainLemmas.{absent-worthy}
use Rattle.mely_worker.specs.declared.delivery.Delivery.TheVariants.{Nothing, PushMark, Report}
use Rattle.mely_worker.specs.Delivery.{delivery_after}
use Rattle.mely_weave.specs.Calls.{PushAs, RetellAs}
use Rattle.mely_machine.specs.Rules.{rules_of}
use Rattle.mely_machine.specs.Listing.{Listed, hears}
use Rattle.mely_machine.specs.MachineStep.{delivery_by, delivery_at_rest}
use Rattle.mely_run.specs.Corresponds.{IsListed}
use Rattle.mely_run.proofs.Lists.PushesLemmas.{after_push}
use Rattle.mely_run.proofs.Lists.ReportsLemmas.{untold, after_told}

-- what is to be delivered after a registration is what the reply says
pub delivery_is : (setup : Setup) (before after : List Entry) (c : Colour) (reply : Registered) → RegisteredAs setup before after c reply → delivery_by (rules_of setup) before after c ≡ delivery_after c reply
delivery_is setup before after c (Running core) said = cond-true (ltb (ended_of before c) (begun_of before c)) Nothing (delivery_at_rest (rules_of setup) (queued_of before c) after c) (lt-ltb (ended_of before c) (begun_of before c) said.0)
delivery_is setup before after c (Woke core started worth) said =
    let rests = said.0 in
    cond-false (ltb (ended_of before c) (begun_of before c)) Nothing (delivery_at_rest (rules_of setup) (queued_of before c) after c) (le-ltb (ended_of before c) (begun_of before c) (omega (arith, rests)))
    ∙ ap (λ q. delivery_at_rest (rules_of setup) q after c) said.1
    ∙ (λ i. PushMark (sym said.2 i) (record { colour = c; started = sym said.3 i; worth = sym said.4 i }))
delivery_is setup before after c (Told core started worth) said =
    let rests = said.0 in
    cond-false (ltb (ended_of before c) (begun_of before c)) Nothing (delivery_at_rest (rules_of setup) (queued_of before c) after c) (le-ltb (ended_of before c) (begun_of before c) (omega (arith, rests)))
    ∙ by_queued (queued_of before c) said.1
  where
    by_queued : (queued : List Event) → 0 < length queued → delivery_at_rest (rules_of setup) queued after c ≡ Report core c started worth
    by_queued [] some = absurd (omega (arith, some))
    by_queued (event ∷ queued) some = λ i. Report (sym said.2 i) c (sym said.3 i) (sym said.4 i)

-- the list of a chain that a mark is pushed to
pub push_listed : (now : ℕ) (old new : CoreQueueState) (together : HoldTogether old) (list : List Listed) → IsListed now old list → (mark : Mark) → PushAs mark (Ok tt) old new → IsListed (now + 1) new (list ++ record { mark = mark; since = now } ∷ [])
push_listed now old new together list is mark does =
    subst (λ (q : CoreQueueState). IsListed (now + 1) q (list ++ record { mark = mark; since = now } ∷ [])) (sym does.1)
    (after_push now old list is mark does.0 (absent-worthy old.cost old.pinned mark.colour old.chain old.worthy together.same does.0))

-- the list of a chain that a report is told to
pub report_listed : (now : ℕ) (old new : CoreQueueState) (together : HoldTogether old) (list : List Listed) → IsListed now old list → (c : Colour) (started worth : ℕ) (found : Bool) → RetellAs c started worth found old new → IsListed (now + 1) new (map (hears old.cost now c started worth) list)
report_listed now old new together list is c started worth found does = by_told (told_of c started worth old.chain) refl does.1
  where
    by_told : (told : Option Mark) → told_of c started worth old.chain ≡ told → MatchOption told (new ≡ old) (λ told. new ≡ record old { chain = after_replacement told old.chain; worthy = after_mark_change old.cost old.pinned told old.worthy })
        → IsListed (now + 1) new (map (hears old.cost now c started worth) list)
    by_told None none same = subst (λ (q : CoreQueueState). IsListed (now + 1) q (map (hears old.cost now c started worth) list)) (sym same) (untold now old together list is c started worth none)
    by_told (Some told) some becomes = subst (λ (q : CoreQueueState). IsListed (now + 1) q (map (hears old.cost now c started worth) list)) (sym becomes) (after_told now old together list is c started worth told some)
