use Rattle.std.proofs.Common.{◌≡◌, Some, length, ap, ◌∙◌, sym, subst, rules}
use Rattle.std.specs.List.{AllByRecursion}
use Rattle.std.specs.Prelude.{slice_get}
use Rattle.mely_history.specs.Setup.{colours_of}
use Rattle.mely_actor.specs.Sending.{MaySend}
use Rattle.example_map.specs.Mapped.{one_event}
use Rattle.example_map.proofs.MapLemmas.{may_send, all_done, none_missing, take_all}
use Rattle.example_map.proofs.mapping.par_map.Goals as goal

pub run_actors-requires-clause-posts : goal.run_actors-requires-clause-posts
run_actors-requires-clause-posts g c =
    let may = subst (AllByRecursion _) (sym c.in_ok-posts.ensures) (may_send c.args.items.items) in
    λ lifetimes outlives. subst (λ items. AllByRecursion (MaySend (length items.items) 2 (λ _. one_event) (λ colour item. slice_get items.items colour.0 ≡ Some item)) c.in_ok-posts.posts.items) (sym c.of.ensures) may

pub take_each-requires : goal.take_each-requires
take_each-requires g c =
    let items = c.args.items.items in
    let colours : colours_of c.in-Ok-new.setup ≡ length items = search rules in
    let done = all_done _ g.T.Task.of _ items c.in-Ok-new.setup _ c.in_ok-ended.ended.values.items colours (λ colour item is. ap (λ (all : _). slice_get all.items colour.0) (sym c.of.ensures) ∙ is) (λ colour received sent value keeps. keeps) c.in_ok-posts.posts.items c.in_ok-posts.ensures c.in_ok-ended.ensures.kept in
    none_missing g.T.Task.of c.in_ok-ended.ended.values.items items done

pub returns : goal.returns
returns g c =
    let items = c.args.items.items in
    let colours : colours_of c.in-Ok-new.setup ≡ length items = search rules in
    let done = all_done _ g.T.Task.of _ items c.in-Ok-new.setup _ c.in_ok-ended.ended.values.items colours (λ colour item is. ap (λ (all : _). slice_get all.items colour.0) (sym c.of.ensures) ∙ is) (λ colour received sent value keeps. keeps) c.in_ok-posts.posts.items c.in_ok-posts.ensures c.in_ok-ended.ensures.kept in
    take_all g.T.Task.of c.in_ok-ended.ended.values.items items c.take_each.result done c.take_each.ensures
