use Rattle.std.proofs.Common.{◌≡◌, [], List, Option, None, Some, Vec, Global, map, length, vec_len, refl, sym, ◌∙◌, ap, arith}
use Rattle.std.proofs.lemmas.Bool.{eqb-true}
use Rattle.std.proofs.lemmas.List.{length-map}
use Rattle.std.proofs.lemmas.Option.{slice_get_read, slice_get-map}
use Rattle.std.specs.Prelude.{slice_get, option_map}
use Rattle.mely_history.specs.declared.setup.Setup.{Setup}
use Rattle.mely_history.specs.Setup.{colours_of}
use Rattle.mely_order.specs.Seen.{Put}
use Rattle.mely_event.specs.declared.event.Event.{Event}
use Rattle.mely_order.specs.Stream.{numbers_of, numbers_put}
use Rattle.example_order.specs.Telling.{telling}
use Rattle.example_order.proofs.TellingLemmas.{begins, initial_two, nothing_in}
use Rattle.example_order.proofs.running.tell.Goals as goal

pub returns-then-is_empty-2 : goal.returns-then-is_empty-2
returns-then-is_empty-2 g c = λ hears tells at_hears at_tells.
    let states = c.in-Ok.states.items in
    let first = c.an_initial_stream_is_in_order.ensures telling c.args.setup.now states c.in-Ok-new.weave (begins states c.in-Ok.ensures) (initial_two _ c.args.setup.now states (λ s. refl) (λ s. refl) (λ a b. refl) c.in-Ok.ensures c.requires.colours) c.in-Ok-new.ensures.first c.in-Ok-new.ensures.stands in
    let posted = c.a_post_keeps_a_stream_in_order.ensures telling (record { 0 = 1 }) (record { handler = 0; arg = c.args.more }) None c.post.result c.in-Ok-new.weave c.post.new.self c.post.ensures.call refl first in
    let drained = c.what_is_sent_in_order_is_received_in_order.ensures.drain (record {}) telling c.drain-drained.result c.post.new.self c.drain-drained.new.self
    (record {
      each = λ state event load becomes puts framed sound fit ran. ran;
    }) c.post.ensures.stands c.drain-drained.ensures.drains posted in
    let parts = c.into_parts-parts in
    let ends = c.what_is_left_of_a_stream_is_in_order.ensures telling c.drain-drained.new.self parts.result.states.items (map (λ queue. queue.items) parts.result.queued.items) parts.result.lost.items drained c.drain-drained.ensures.free parts.ensures.states parts.ensures.queued parts.ensures.lost in
    let queue = c.index.result.now in
    let many = parts.ensures.queued.many in
    let counted = length-map parts.result.queued.items (λ (q : Vec (Event × Option (Unit {0})) Global). q.items) in
    let colours : colours_of c.drain-drained.new.self.setup ≡ 2 = ap (λ (s : Setup). colours_of s) (c.drain-drained.ensures.same.setup ∙ c.post.ensures.same.setup ∙ c.in-Ok-new.ensures.first.of_setup) ∙ c.requires.colours in
    let there : slice_get parts.result.queued.items 0 ≡ Some queue = slice_get_read parts.result.queued.items (length parts.result.queued.items) 0 queue refl (omega (arith, many, counted, colours)) c.index.ensures in
    let events : slice_get (map (λ (q : Vec (Event × Option (Unit {0})) Global). q.items) parts.result.queued.items) 0 ≡ Some queue.items = slice_get-map (λ (q : Vec (Event × Option (Unit {0})) Global). q.items) parts.result.queued.items 0 ∙ ap (option_map (λ (q : Vec (Event × Option (Unit {0})) Global). q.items)) there in
    let none : queue.items ≡ [] = nothing_in queue.items (sym queue.ok.0 ∙ eqb-true (vec_len queue) 0 (sym c.if-is_empty-2.ensures)) in
    let lost : parts.result.lost.items ≡ [] = nothing_in parts.result.lost.items (sym parts.result.lost.ok.0 ∙ eqb-true (vec_len parts.result.lost) 0 (sym c.if-is_empty.ensures)) in
    ends.whole refl hears tells queue.items at_hears at_tells events (ap (λ (l : List (Event × Option (Unit {0}))). numbers_of telling l) none) (ap (λ (l : List (Put (Unit {0}))). numbers_put telling l) lost)
