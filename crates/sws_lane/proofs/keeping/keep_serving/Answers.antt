use Rattle.std.proofs.Common.{refl}
use Rattle.sws_lane.proofs.GenerationLemmas.{keeps_all, serves_more, serves_so_far}
use Rattle.sws_lane.proofs.keeping.keep_serving.Goals as goal

pub serve_all_generations-requires-clause-begins : goal.serve_all_generations-requires-clause-begins
serve_all_generations-requires-clause-begins g c = λ lifetimes lives.
    serves_so_far g.W.World g.W.Link.Link _ _ c.args.terms.now g.K.Keeper c.args.lane.now c.are_kept.ensures

pub serve_all_generations-requires-clause-onward : goal.serve_all_generations-requires-clause-onward
serve_all_generations-requires-clause-onward g c = λ lifetimes lives p q r h next. serves_more g.W.World g.W.Link.Link _ _ c.args.terms.now g.K.Keeper p q r _ h next.served

pub serve_all_generations-requires-clause-stops : goal.serve_all_generations-requires-clause-stops
serve_all_generations-requires-clause-stops g c = λ lifetimes lives p q r h none. serves_more g.W.World g.W.Link.Link _ _ c.args.terms.now g.K.Keeper p q r _ h none.served

pub returns : goal.returns
returns g c = keeps_all g.W.World g.W.Link.Link _ _ c.args.terms.now g.K.Keeper c.responses_begin.ensures (λ site bytes. refl) c.args.lane.now c.serve_all_generations.new.lane c.serve_all_generations.ensures
