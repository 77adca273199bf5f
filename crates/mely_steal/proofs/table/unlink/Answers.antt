use Rattle.std.proofs.Common.{◌≡◌, ◌-◌, true, cond, eqb, refl, sym, ap, subst, ◌∙◌}
use Rattle.mely_steal.specs.declared.links.Ends.{Ends}
use Rattle.mely_steal.specs.Links.{list_at, before_at, after_at, places_of, without_place, is_in, IsStrung}
use Rattle.mely_steal.proofs.TableLemmas.{Unlinks, ends_without, in-own, strung-unlink, unlink-spares, before-strung, after-strung}
use Rattle.mely_steal.proofs.table.unlink.Goals as goal
use Rattle.mely_steal.proofs.table.unlink.Goals.{Start}

-- the place is in the list with these ends
is_there : (c : Start) → is_in (places_of c.args.links.now c.args.ends.now) c.args.place ≡ true
is_there c = in-own c.args.links.now c.args.ends.now c.args.place c.requires.below c.requires.strung

pub join_behind-requires : goal.join_behind-requires
join_behind-requires c ne =
    let e = c.args.ends.now in
    c.requires.strung.below (before_at c.args.links.now c.args.place)
    (before-strung (list_at c.args.links.now c.args.place) c.args.links.now e.first e.last e.len c.args.place c.requires.strung (is_there (goal.at.join_behind-requires c).Start) ne)

pub join_before-requires : goal.join_before-requires
join_before-requires c ne =
    let e = c.args.ends.now in
    let last : c.join_behind.new.ends.last ≡ e.last = ap (λ (z : Ends). z.last) c.join_behind.ensures.first in
    let within = c.requires.strung.below (after_at c.args.links.now c.args.place)
    (after-strung (list_at c.args.links.now c.args.place) c.args.links.now e.first e.last e.len c.args.place c.requires.strung (is_there (goal.at.join_before-requires c).Start) (λ i. ne (last ∙ i))) in
    rw c.join_behind.ensures.links.long within

unlinks : (c : goal.After-ends-1) → Unlinks c.args.place c.args.ends.now c.args.links.now c.set_list.new.links
unlinks c =
    let one = c.join_behind.ensures.links in
    let two = c.join_before.ensures.links in
    let three = c.set_list.ensures in
    let ended : c.join_behind.new.ends.last ≡ c.args.ends.now.last = ap (λ (z : Ends). z.last) c.join_behind.ensures.first in
    record {
      moves = record { long = three.moves.long ∙ (two.long ∙ one.long); here = three.moves.here; others = λ y ne. three.moves.others y ne ∙ (two.lists y ∙ one.lists y) };
      front = λ ne. three.afters _ ∙ (two.afters _ ∙ one.here ne);
      far = λ y h. three.afters y ∙ (two.afters y ∙ one.others y h);
      back = λ ne. three.befores _ ∙ two.here (λ i. ne (sym ended ∙ i));
      near = λ y h. three.befores y ∙ (two.others y (rw ended h) ∙ one.befores y);
    }

whole : (c : goal.After-ends-1) → is_in (places_of c.args.links.now c.args.ends.now) c.args.place ≡ true
    → (places_of c.set_list.new.links (record { first = c.join_before.new.ends.first; last = c.join_before.new.ends.last; len = c.join_before.new.ends.len - 1 }) ≡ without_place c.args.place (places_of c.args.links.now c.args.ends.now))
    × IsStrung (list_at c.args.links.now c.args.place) c.set_list.new.links (record { first = c.join_before.new.ends.first; last = c.join_before.new.ends.last; len = c.join_before.new.ends.len - 1 })
whole c there =
    let L = c.args.links.now in
    let e = c.args.ends.now in
    let place = c.args.place in
    let shut : Ends → Ends = λ z. record { first = z.first; last = z.last; len = z.len - 1 } in
    let ended : Ends → Ends = λ z. record { first = z.first; last = cond (eqb z.last place) (before_at L place) z.last; len = z.len } in
    let now : shut c.join_before.new.ends ≡ ends_without L place e = ap shut c.join_before.ensures.last ∙ ap (λ z. shut (ended z)) c.join_behind.ensures.first in
    let Holds : Ends → Type 0 = λ z. (places_of c.set_list.new.links z ≡ without_place place (places_of L e)) × IsStrung (list_at L place) c.set_list.new.links z in
    subst Holds (sym now) (strung-unlink (list_at L place) L c.set_list.new.links e.first e.last e.len place c.requires.strung c.requires.number there (unlinks c))

pub returns-clause-listed : goal.returns-clause-listed
returns-clause-listed c = (whole c (is_there (goal.at.returns-clause-listed c).Start)).0

pub returns-clause-strung : goal.returns-clause-strung
returns-clause-strung c = (whole c (is_there (goal.at.returns-clause-strung c).Start)).1

pub returns-clause-spares : goal.returns-clause-spares
returns-clause-spares c =
    unlink-spares (list_at c.args.links.now c.args.place) c.args.place c.args.links.now c.set_list.new.links c.args.ends.now c.requires.strung
    (is_there (goal.at.returns-clause-spares c).Start) refl (unlinks c)
