use Rattle.std.proofs.Common.{map, refl}
use Rattle.sws_conn.specs.Logs.{steps_of}
use Rattle.sws_weave.proofs.Model.ScriptsLemmas.{scripts_tell}
use Rattle.sws_engine.proofs.threads.serve_all.Goals as goal

pub returns-clause-scheduled : goal.returns-clause-scheduled
returns-clause-scheduled g c = λ one scripts tells ok.
    c.talk_all.ensures.model one (map (steps_of c.args.site.now) scripts)
    (scripts_tell g.W.World g.W.Link.Link _ c.args.site.now (steps_of c.args.site.now) (λ script. refl) c.args.world scripts tells)
    (c.each_path_opens_once.ensures c.args.site.now scripts c.limits.ensures) ok
