use Rattle.std.proofs.Common.{◌≡◌, ◌<◌, ◌≤◌, None, Some, length, vec_len, get_or, slice_get, arith, sym, ap, subst, ◌∙◌, add-one}
use Rattle.std.proofs.lemmas.Grind.{common_steps}
use Rattle.std.proofs.lemmas.List.{get_or_read}
use Rattle.std.proofs.lemmas.Option.{slice_get_past}
use Rattle.mely_steal.specs.declared.links.Link.{Link}
use Rattle.mely_steal.specs.Links.{blank_link, after_at, places_of}
use Rattle.mely_steal.specs.ColourList.{ColourListState}
use Rattle.mely_steal.proofs.LinkLemmas.{walked, walked-more, walked-at, length-followed}
use Rattle.mely_steal.proofs.TableLemmas.{walked-below}
use Rattle.mely_steal.proofs.colour_list.ColourList.at.Goals as goal
use Rattle.mely_steal.proofs.colour_list.ColourList.at.Goals.{At-places}

-- a colour that was walked to is in the table
walked_within : (c : At-places) → c.places.counter < c.self.inside.ends.len → c.places.colour < length c.self.inside.links.items
walked_within c lt = rw c.places.invariant (walked-below c.self.invariant.strung c.places.counter lt)

pub returns-then-place-self-clause-value : goal.returns-then-place-self-clause-value
returns-then-place-self-clause-value c =
    let L = c.self.inside.links.items in
    let e = c.self.inside.ends in
    let long = length-followed (after_at L) e.len e.first in
    let short : length (places_of L e) ≤ c.args.place = let le = c.if-place-self.true in omega arith in
    let Past : ColourListState → Type 0 = λ v. None ≡ slice_get v.list c.args.place in
    subst Past c.self.view_is (sym (slice_get_past (places_of L e) c.args.place short))

pub index-requires : goal.index-requires
index-requires c =
    let within = walked_within (goal.at.index-requires c).At-places (omega (arith, c.places-test.true, c.if-place-self.false)) in
    let long : vec_len c.self.inside.links ≡ length c.self.inside.links.items = grind (arith, common_steps) in
    omega (arith, within, long)

pub places-preserved : goal.places-preserved
places-preserved c =
    let L = c.self.inside.links.items in
    let below = walked_within (goal.at.places-preserved c).At-places (omega (arith, c.places-test.true, c.if-place-self.false)) in
    let read : c.index.result.now ≡ get_or L c.places.colour blank_link = get_or_read L c.places.colour c.index.result.now below c.index.ensures blank_link in
    rw add-one (ap (λ (l : Link). l.after) read ∙ (ap (after_at L) c.places.invariant ∙ walked-more (after_at L) c.places.counter c.self.inside.ends.first))

pub returns-clause-value : goal.returns-clause-value
returns-clause-value c =
    let a = after_at c.self.inside.links.items in
    let first = c.self.inside.ends.first in
    let last : c.places.counter ≡ c.args.place = (let one = c.places-test.false in let two = c.places.auto.counter-end in omega arith) in
    let At : ColourListState → Type 0 = λ v. Some c.places.colour ≡ slice_get v.list c.args.place in
    subst At c.self.view_is
    (ap (λ n. Some n) (c.places.invariant ∙ ap (λ n. walked a n first) last) ∙ sym (walked-at a c.self.inside.ends.len c.args.place first c.if-place-self.false))

pub returns-clause-within : goal.returns-clause-within
returns-clause-within c =
    let walked_to = walked_within (goal.at.returns-clause-within c).At-places (omega (arith, c.places.auto.counter-end, c.if-place-self.false)) in
    let Within : ColourListState → Type 0 = λ v. c.places.colour < v.colours in
    let fits : c.places.colour < c.self.inside.colours = omega (arith, walked_to, c.self.invariant.long) in
    subst Within c.self.view_is fits
