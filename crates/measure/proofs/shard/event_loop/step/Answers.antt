use Rattle.std.proofs.Common.{◌<◌, All, subst}
use Rattle.std.proofs.lemmas.List.Elements.{All-tail}
use Rattle.measure.proofs.shard.event_loop.step.Goals as goal

pub returns-in-Some-default-Idle-clause-known : goal.returns-in-Some-default-Idle-clause-known
returns-in-Some-default-Idle-clause-known c =
    All-tail (λ colour. colour < 1024) c.in_ok-colour.colour c.pop_front.new.self.items (subst (All (λ colour. colour < 1024)) c.in_ok-colour.ensures.items c.requires.known)

pub returns-in-None-clause-known : goal.returns-in-None-clause-known
returns-in-None-clause-known c =
    All-tail (λ colour. colour < 1024) c.in_ok-colour.colour c.pop_front.new.self.items (subst (All (λ colour. colour < 1024)) c.in_ok-colour.ensures.items c.requires.known)
