use Rattle.std.proofs.Common.{ap, sym, ◌∙◌, ◌%◌, ◌+◌, ℕ}
use Rattle.std.proofs.lemmas.Bool.{false≢true}
use Rattle.mely_event.specs.declared.colour.Colour.{Colour}
use Rattle.mely_history.specs.Entries.{colour_of}
use Rattle.mely_check.proofs.HearingLemmas.{read_at, none_at, may_hear}
use Rattle.mely_check.proofs.judge.Judge.allows.Goals as goal

pub returns-then-colour-shards : goal.returns-then-colour-shards
returns-then-colour-shards c =
    let lookup = c.in-Some.ensures.lookup in
    let here = ap (λ (k : Colour). k.0) c.colour-colour.ensures in
    may_hear c.args.self.now c.args.begun c.args.entry.now c.in-Some.watch.now c.allows.result
    (read_at c.args.self.now.watches.items c.deref.result.now c.colour-colour.result.0 (colour_of c.args.entry.now).0 c.in-Some.watch.now c.deref.ensures.value here lookup.3.0 lookup.1)
    (ap (λ (n : ℕ). (colour_of c.args.entry.now).0 % n + 1) (sym c.shards.ensures.value) ∙ ap (λ (n : ℕ). n % c.shards.result + 1) (sym here) ∙ c.if-colour-shards.true)
    c.allows.ensures

pub returns-in-None : goal.returns-in-None
returns-in-None c = (
  (λ is. absurd (false≢true is)),
  (λ may. absurd (none_at c.args.self.now.watches.items c.deref.result.now c.colour-colour.result.0 (colour_of c.args.entry.now).0 may.watch c.deref.ensures.value (ap (λ (k : Colour). k.0) c.colour-colour.ensures) c.in-None.ensures.lookup.3 may.there)),
)
