use Rattle.std.proofs.Common.{map, refl, subst}
use Rattle.sws_script.specs.Scripted.{script_of}
use Rattle.sws_replay.specs.Expected.{Expected, by_http-is}
use Rattle.sws_replay.specs.Runs.{RunsWell}
use Rattle.sws_replay.proofs.RunLemmas.{given_refused, given_well, lose_nothing, run_well}
use Rattle.sws_replay.proofs.WorldLemmas.{scripts_told}
use Rattle.sws_replay.proofs.running.run_steps.Goals as goal

pub given-requires : goal.given-requires
given-requires g c = lose_nothing _ _ _ _ _ _ c.args.conns.now c.args.log _ c.serve_steps.ensures.leaves c.in_ok-world.ensures.tells

pub returns-clause-ran : goal.returns-clause-ran
returns-clause-ran g c = given_well _ _ _ c.given.ensures (λ well.
    subst (λ (e : Expected). RunsWell e c.args.shape.now c.args.conns.now c.args.log c.serve_steps.result) (by_http-is c.args.site.now)
    (run_well _ _ _ _ _ _ c.args.conns.now c.args.log _ c.serve_steps.ensures.leaves c.in_ok-world.ensures.tells (λ link. refl) well))

pub returns-clause-scheduled : goal.returns-clause-scheduled
returns-clause-scheduled g c = given_well _ _ _ c.given.ensures (λ well.
    c.serve_steps.ensures.scheduled (map script_of c.args.conns.now) (scripts_told _ c.in_ok-world.world c.args.conns.now c.in_ok-world.ensures.tells) well)

pub returns-clause-refused : goal.returns-clause-refused
returns-clause-refused g c = given_refused _ _ c.given.ensures

pub returns-clause-listed : goal.returns-clause-listed
returns-clause-listed g c = given_well _ _ _ c.given.ensures (λ well. c.serve_steps.ensures.listed)
