use Rattle.std.proofs.Common.{◌≡◌, ◌==◌, ◌-◌, ◌<◌, ℕ, true, subst, suc, zero, None, Some, find, slice_get, refl, sym, ap, ◌∙◌}
use Rattle.std.specs.Option.{option_map}
use Rattle.mely_steal.specs.declared.links.Ends.{Ends}
use Rattle.mely_steal.specs.Links.{after_at, places_from, is_in}
use Rattle.mely_steal.specs.Entering.{Ranked, ClassesState, ranks_of, ends_at, entries_of}
use Rattle.mely_steal.proofs.EnterLemmas.{find-of_class}
use Rattle.mely_steal.proofs.LinkLemmas.{in-here}
use Rattle.mely_steal.proofs.OrderLemmas.{class-from, entries-class, strung-class}
use Rattle.mely_steal.proofs.classes.Classes.first.Goals as goal
use Rattle.mely_steal.proofs.classes.Classes.first.Goals.{After-self}

-- the first of a list that is followed
first-none : (a : ℕ → ℕ) (n x k : ℕ) → n ≡ 0 → None ≡ option_map (λ e. e.colour) (slice_get (ranks_of k (places_from a n x)) 0)
first-none a zero x k is = refl
first-none a (suc n) x k is = cc

first-some : (a : ℕ → ℕ) (n x k : ℕ) → (n ≡ 0 → ⊥) → Some x ≡ option_map (λ e. e.colour) (slice_get (ranks_of k (places_from a n x)) 0)
first-some a zero x k ne = absurd (ne refl)
first-some a (suc n) x k ne = refl

-- the ends of the class's list
abbrev its_ends : After-self → Ends
its_ends c = ends_at c.self.inside.ends (c.args.class - 1)

-- the first entry of the class is that of the first place of its list
first_entry : (c : After-self) → option_map (λ (e : Ranked). e.colour) (slice_get (ranks_of c.args.class (places_from (after_at c.self.inside.links.items) (its_ends c).len (its_ends c).first)) 0)
    ≡ option_map (λ (e : Ranked). e.colour) (find (λ (e : Ranked). e.class == c.args.class) (entries_of c.self.inside.links.items c.self.inside.ends c.self.inside.numbers.items))
first_entry c =
    let q = c.self.inside in
    let k = c.args.class in
    ap (λ es. option_map (λ (e : Ranked). e.colour) (slice_get es 0)) (sym (entries-class q.links.items q.ends q.numbers.items q.next k c.self.invariant (class-from k c.requires.0 c.requires.1)))
    ∙ ap (option_map (λ (e : Ranked). e.colour)) (sym (find-of_class k (entries_of q.links.items q.ends q.numbers.items)))

pub returns-then-ends-eq0-clause-value : goal.returns-then-ends-eq0-clause-value
returns-then-ends-eq0-clause-value c =
    let s = (goal.at.returns-then-ends-eq0-clause-value c).After-self in
    first-none (after_at c.self.inside.links.items) (its_ends s).len (its_ends s).first c.args.class c.if-ends-eq0.true
    ∙ (first_entry s ∙ ap (λ (v : ClassesState). option_map (λ (e : Ranked). e.colour) (find (λ e. e.class == c.args.class) v.entries)) c.self.view_is)

pub returns-else-ends-eq0-clause-value : goal.returns-else-ends-eq0-clause-value
returns-else-ends-eq0-clause-value c =
    let s = (goal.at.returns-else-ends-eq0-clause-value c).After-self in
    first-some (after_at c.self.inside.links.items) (its_ends s).len (its_ends s).first c.args.class c.if-ends-eq0.false
    ∙ (first_entry s ∙ ap (λ (v : ClassesState). option_map (λ (e : Ranked). e.colour) (find (λ e. e.class == c.args.class) v.entries)) c.self.view_is)

first-in : (a : ℕ → ℕ) (n x : ℕ) → (n ≡ 0 → ⊥) → is_in (places_from a n x) x ≡ true
first-in a zero x ne = absurd (ne refl)
first-in a (suc n) x ne = in-here x (places_from a n (a x))

pub returns-else-ends-eq0-clause-within : goal.returns-else-ends-eq0-clause-within
returns-else-ends-eq0-clause-within c =
    let q = c.self.inside in
    let k = c.args.class in
    let its = its_ends (goal.at.returns-else-ends-eq0-clause-within c).After-self in
    let strung = strung-class q.links.items q.ends q.numbers.items q.next k c.self.invariant (class-from k c.requires.0 c.requires.1) in
    let Within : ClassesState → Type 0 = λ v. its.first < v.places in
    subst Within c.self.view_is (strung.below its.first (first-in (after_at q.links.items) its.len its.first c.if-ends-eq0.false))
