use Rattle.std.proofs.Common.{refl}
use Rattle.sws_replay.proofs.RunLemmas.{given_refused, given_well, lose_nothing, run_well}
use Rattle.sws_replay.proofs.running.run_talks.Goals as goal

pub given-requires : goal.given-requires
given-requires g c = lose_nothing _ _ _ _ _ _ c.args.conns.now c.args.log _ c.talk_all.ensures.leaves c.in_ok-world.ensures.tells

pub returns-clause-ran : goal.returns-clause-ran
returns-clause-ran g c = given_well _ _ _ c.given.ensures (λ well.
    run_well _ _ _ _ _ _ c.args.conns.now c.args.log _ c.talk_all.ensures.leaves c.in_ok-world.ensures.tells (λ link. refl) well)

pub returns-clause-refused : goal.returns-clause-refused
returns-clause-refused g c = given_refused _ _ c.given.ensures

pub returns-clause-listed : goal.returns-clause-listed
returns-clause-listed g c = given_well _ _ _ c.given.ensures (λ well. c.talk_all.ensures.listed)
