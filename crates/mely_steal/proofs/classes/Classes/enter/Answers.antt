use Rattle.std.proofs.Common.{◌≡◌, ◌<◌, ◌+◌, ◌-◌, ◌∷◌, ◌++◌, ℕ, List, [], length, set, sym, ap, subst, ◌∙◌}
use Rattle.std.specs.Vec.{with_items}
use Rattle.std.proofs.lemmas.List.{with_items_is}
use Rattle.mely_steal.specs.declared.links.Ends.{Ends}
use Rattle.mely_steal.specs.declared.links.Link.{Link}
use Rattle.mely_steal.specs.Links.{list_at, places_of, SparesOthers, MovesOnly}
use Rattle.mely_steal.specs.Entering.{Ranked, ClassesState, class_in, entries_of, StandInOrder}
use Rattle.mely_steal.proofs.OrderLemmas.{class-from, class-is, enter-stands, list_of}
use Rattle.mely_steal.proofs.classes.Classes.enter.Goals as goal
use Rattle.mely_steal.proofs.classes.Classes.enter.Goals.{After-self, After-push_back}

-- the colour has a place in the table, and is in no list
record Off (c : After-self) : Type 0 where
  pub within : c.args.colour < length c.self.inside.links.items
  pub off : list_at c.self.inside.links.items c.args.colour ≡ 0

is_off : (c : After-self) → Off c
is_off c =
    let q = c.self.inside in
    let Within : ClassesState → Type 0 = λ v. c.args.colour < v.places in
    let Absent : ClassesState → Type 0 = λ v. class_in c.args.colour v.entries ≡ 0 in
    let within : c.args.colour < length q.links.items = subst Within (sym c.self.view_is) c.requires.place in
    record {
      within = within;
      off = sym (class-is q.links.items q.ends q.numbers.items q.next c.args.colour c.self.invariant within) ∙ subst Absent (sym c.self.view_is) c.requires.absent;
    }

pub push_back-requires-clause-free : goal.push_back-requires-clause-free
push_back-requires-clause-free c =
    let Free : List Link → Type 0 = λ l. list_at l c.args.colour ≡ 0 in
    subst Free (sym c.deref_mut-2.ensures.value) (is_off (goal.at.push_back-requires-clause-free c).After-self).off

-- the ends of the lists, once the colour is linked
abbrev late : After-push_back → List Ends
late c = set c.self.inside.ends (c.args.class - 1) c.push_back.new.ends

-- what stands once the colour is linked
entered : (c : After-push_back) → c.args.colour < length c.self.inside.links.items → list_at c.self.inside.links.items c.args.colour ≡ 0
    → (entries_of c.push_back.new.links (late c) (set c.next_number-number.new.numbers c.args.colour c.next_number-number.result)
    ≡ entries_of c.self.inside.links.items c.self.inside.ends c.self.inside.numbers.items ++ record { colour = c.args.colour; class = c.args.class } ∷ [])
    × StandInOrder c.push_back.new.links (late c) (set c.next_number-number.new.numbers c.args.colour c.next_number-number.result) (c.next_number-number.result + 1)
entered c within off =
    let L = c.self.inside.links.items in
    let M = c.push_back.new.links in
    let ends = c.self.inside.ends in
    let N = c.self.inside.numbers.items in
    let O = c.next_number-number.new.numbers in
    let next = c.next_number-number.result in
    let colour = c.args.colour in
    let k = c.args.class in
    let now = c.push_back.new.ends in
    let r : Ranked = record { colour = colour; class = k } in
    let Stands : List Link → Type 0 = λ l. StandInOrder l ends O next in
    let Same : List Link → Type 0 = λ l. entries_of l ends O ≡ entries_of l ends c.deref_mut.result.now in
    let same : entries_of L ends O ≡ entries_of L ends N = subst Same c.deref.ensures.value c.next_number-number.ensures.same ∙ ap (entries_of L ends) c.deref_mut.ensures.value in
    let begins : c.deref_mut-2.result.now ≡ L = c.deref_mut-2.ensures.value in
    let Listed : List Link → Type 0 = λ l. places_of M now ≡ list_of l ends k ++ colour ∷ [] in
    let Spares : List Link → Type 0 = λ l. SparesOthers k l M in
    let Moves : List Link → Type 0 = λ l. MovesOnly colour k l M in
    let done = enter-stands L M ends O next k colour now (subst Stands c.deref.ensures.value c.next_number-number.ensures.stand) (class-from k c.requires.class.0 c.requires.class.1) within off
    (subst Listed begins c.push_back.ensures.listed) c.push_back.ensures.strung (subst Spares begins c.push_back.ensures.spares) (subst Moves begins c.push_back.ensures.moves) in
    (done.0 ∙ ap (λ g. g ++ r ∷ []) same, done.1)

-- the links and the numbers that the fields hold at the end are those that were written
record Written (c : After-push_back) : Type 0 where
  pub links : (with_items c.self.inside.links c.push_back.new.links).items ≡ c.push_back.new.links
  pub numbers : (with_items c.self.inside.numbers c.next_number-number.new.numbers).items ≡ c.next_number-number.new.numbers

written : (c : After-push_back) → Written c
written c = record {
  links = with_items_is c.self.inside.links c.push_back.new.links (c.push_back.auto.links ∙ c.deref_mut-2.ensures.len);
  numbers = with_items_is c.self.inside.numbers c.next_number-number.new.numbers (c.next_number-number.auto.numbers ∙ c.deref_mut.ensures.len);
}

pub invariant_of-self : goal.invariant_of-self
invariant_of-self c =
    let p = (goal.at.invariant_of-self c).After-push_back in
    let o = is_off (goal.at.invariant_of-self c).After-self in
    let w = written p in
    let next = c.next_number-number.result in
    let Links : List Link → Type 0 = λ l. StandInOrder l (late p) (set (with_items c.self.inside.numbers c.next_number-number.new.numbers).items c.args.colour next) (next + 1) in
    let Numbers : List ℕ → Type 0 = λ n. StandInOrder c.push_back.new.links (late p) (set n c.args.colour next) (next + 1) in
    subst Links (sym w.links) (subst Numbers (sym w.numbers) (entered p o.within o.off).1)

pub returns : goal.returns
returns c =
    let p = (goal.at.returns c).After-push_back in
    let o = is_off (goal.at.returns c).After-self in
    let w = written p in
    let M = c.push_back.new.links in
    let O = c.next_number-number.new.numbers in
    let next = c.next_number-number.result in
    let r : Ranked = record { colour = c.args.colour; class = c.args.class } in
    let long : length M ≡ length c.self.inside.links.items = c.push_back.auto.links ∙ ap (λ (l : List Link). length l) c.deref_mut-2.ensures.value in
    let seen : List Link → List ℕ → ClassesState = λ l n. record { entries = entries_of l (late p) (set n c.args.colour next); places = length l } in
    let Entered : ClassesState → Type 0 = λ v. seen M O ≡ record { entries = v.entries ++ r ∷ []; places = v.places } in
    ap (λ l. seen l (with_items c.self.inside.numbers O).items) w.links
    ∙ (ap (seen M) w.numbers
    ∙ subst Entered c.self.view_is (λ i. record { entries = (entered p o.within o.off).0 i; places = long i }))
