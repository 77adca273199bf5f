-- The registrations of all colours, each with the run of its event.
use Rattle.std.proofs.Common.{◌≡◌, ℕ, zero, suc, ◌+◌, ◌==◌, Bool, true, false, List, [], ◌∷◌, Option, Some, None, if◌then◌else◌, cond, map, filter, refl, sym, ◌∙◌, ap, ap₂, subst, inl, inr, arith}
use Rattle.std.specs.Prelude.{filter_map}
use Rattle.std.specs.List.{slice_get, cons_option}
use Rattle.std.proofs.lemmas.Bool.{eq-eqb, eqb-true}
use Rattle.mely_event.specs.declared.colour.Colour.{Colour}
use Rattle.mely_event.specs.declared.event.Event.{Event}
use Rattle.mely_history.proofs.LegalAccountLemmas.{same_colour}
use Rattle.mely_tally.specs.Account.{HandlerRun}
use Rattle.mely_chain.specs.Runs.{given_to, puts_on}
use Rattle.mely_cause.specs.Causes.{Registration}
use Rattle.mely_cause.proofs.AmongLemmas.{Among}

-- a registration on a colour, with its place there and the run of its event
pub record Item (S P : Type 0) : Type 0 where
  pub colour : Colour
  pub place : ℕ
  pub reg : Registration P
  pub run : HandlerRun S P

module _ {S P : Type 0} where
  -- what is under way by it
  abbrev pub what : Item S P → Colour × Event × Option P
  what x = (x.colour, x.reg.event.0, x.reg.event.1)

  abbrev pub on : Colour → Item S P → Bool
  on c x = x.colour.0 == c.0

  -- those of a colour, from this place on
  abbrev pub lane_from : Colour → ℕ → List (Registration P) → List (HandlerRun S P) → List (Item S P)
  lane_from c n [] runs = []
  lane_from c n (reg ∷ regs) [] = []
  lane_from c n (reg ∷ regs) (run ∷ runs) = record { colour = c; place = n; reg = reg; run = run } ∷ lane_from c (suc n) regs runs

  -- the runs are of the registered events
  abbrev pub AreFor : List (Registration P) → List (HandlerRun S P) → Type 0
  AreFor regs runs = map given_to runs ≡ map (λ one. one.event) regs

  pub lane-runs : (c : Colour) (n : ℕ) (regs : List (Registration P)) (runs : List (HandlerRun S P)) → AreFor regs runs → map (λ x. x.run) (lane_from c n regs runs) ≡ runs
  lane-runs c n [] [] same = refl
  lane-runs c n [] (run ∷ runs) same = absurd (cc)
  lane-runs c n (reg ∷ regs) [] same = refl
  lane-runs c n (reg ∷ regs) (run ∷ runs) same = ap (λ l. run ∷ l) (lane-runs c (suc n) regs runs (cc))

  pub lane-regs : (c : Colour) (n : ℕ) (regs : List (Registration P)) (runs : List (HandlerRun S P)) → AreFor regs runs → map (λ x. x.reg) (lane_from c n regs runs) ≡ regs
  lane-regs c n [] runs same = refl
  lane-regs c n (reg ∷ regs) [] same = absurd (cc)
  lane-regs c n (reg ∷ regs) (run ∷ runs) same = ap (λ l. reg ∷ l) (lane-regs c (suc n) regs runs (cc))

  -- what is known of each of them
  pub record IsOn (c : Colour) (n : ℕ) (regs : List (Registration P)) (runs : List (HandlerRun S P)) (x : Item S P) : Type 0 where
    pub colour : x.colour ≡ c
    pub k : ℕ
    pub place : x.place ≡ n + k
    pub at : slice_get (lane_from c n regs runs) k ≡ Some x
    pub reg : slice_get regs k ≡ Some x.reg
    pub run : given_to x.run ≡ x.reg.event
    pub ran : Among x.run runs

  pub lane_is : (c : Colour) (n : ℕ) (regs : List (Registration P)) (runs : List (HandlerRun S P)) → AreFor regs runs → (x : Item S P) → Among x (lane_from c n regs runs) → IsOn c n regs runs x
  lane_is c n [] runs same x there = elim there [ ]
  lane_is c n (reg ∷ regs) [] same x there = elim there [ ]
  lane_is c n (reg ∷ regs) (run ∷ runs) same x (inl is) = subst (λ x. IsOn c n (reg ∷ regs) (run ∷ runs) x) (sym is) (record { colour = refl; k = 0; place = omega arith; at = refl; reg = refl; run = cc; ran = inl refl })
  lane_is c n (reg ∷ regs) (run ∷ runs) same x (inr later) =
      let rest = lane_is c (suc n) regs runs (cc) x later in
      let place = rest.place in
      record { colour = rest.colour; k = suc rest.k; place = omega (arith, place); at = rest.at; reg = rest.reg; run = rest.run; ran = inr rest.ran }

  -- there is one for each place
  pub there_lane : (c : Colour) (n : ℕ) (regs : List (Registration P)) (runs : List (HandlerRun S P)) → AreFor regs runs → (k : ℕ) (reg : Registration P) → slice_get regs k ≡ Some reg → (x : Item S P) × Among x (lane_from c n regs runs) × (x.colour ≡ c) × (x.place ≡ n + k)
  there_lane c n [] runs same k reg is = absurd (cc)
  there_lane c n (reg ∷ regs) [] same k one is = absurd (cc)
  there_lane c n (reg ∷ regs) (run ∷ runs) same zero one is = (record { colour = c; place = n; reg = reg; run = run }, inl refl, refl, omega arith)
  there_lane c n (reg ∷ regs) (run ∷ runs) same (suc k) one is =
      let rest = there_lane c (suc n) regs runs (cc) k one is in
      let place = rest.3 in
      (rest.0, inr rest.1, rest.2, omega (arith, place))

  -- those of which a put is told are those that pass its test
  pub those : (put : Registration P → Option (Event × Option P)) (test : Registration P → Bool) → ((one : Registration P) → put one ≡ (if test one then Some one.event else None)) → (xs : List (Item S P)) → map (λ x. x.reg.event) (filter (λ x. test x.reg) xs) ≡ filter_map put (map (λ x. x.reg) xs)
  those put test tests [] = refl
  those put test tests (x ∷ xs) = for (test x.reg) (those put test tests xs) ∙ ap (λ o. cons_option o (filter_map put (map (λ x. x.reg) xs))) (sym (tests x.reg)) where
    for : (own : Bool) → map (λ x. x.reg.event) (filter (λ x. test x.reg) xs) ≡ filter_map put (map (λ x. x.reg) xs) → map (λ x. x.reg.event) (cond own (x ∷ filter (λ x. test x.reg) xs) (filter (λ x. test x.reg) xs)) ≡ cons_option (if own then Some x.reg.event else None) (filter_map put (map (λ x. x.reg) xs))
    for true rest = ap (λ l. x.reg.event ∷ l) rest
    for false rest = rest

  none_mapped : (xs : List (Item S P)) → map (λ x. x.reg.event) xs ≡ [] → [] ≡ xs
  none_mapped [] is = refl
  none_mapped (x ∷ xs) is = absurd (cc)

  -- the first of those whose events are these
  record Cut (event : Event × Option P) (more : List (Event × Option P)) (xs : List (Item S P)) : Type 0 where
    head : Item S P
    tail : List (Item S P)
    are : xs ≡ head ∷ tail
    event_of : head.reg.event ≡ event
    rest : map (λ x. x.reg.event) tail ≡ more

  cut : (event : Event × Option P) (more : List (Event × Option P)) (xs : List (Item S P)) → map (λ x. x.reg.event) xs ≡ event ∷ more → Cut event more xs
  cut event more [] is = absurd (cc)
  cut event more (x ∷ xs) is = record { head = x; tail = xs; are = refl; event_of = cc; rest = cc }

  module _ (put : Colour × Event × Option P) (puts : List (Colour × Event × Option P)) (lanes : Colour → List (Item S P)) (are : (c : Colour) → map (λ x. x.reg.event) (lanes c) ≡ puts_on c (put ∷ puts)) (own : (c : Colour) (x : Item S P) → Among x (lanes c) → x.colour ≡ c) where
    abbrev d : Colour
    d = put.0

    first : Cut (put.1, put.2) (puts_on d puts) (lanes d)
    first = cut (put.1, put.2) (puts_on d puts) (lanes d) (are d ∙ ap (λ own. cons_option (if own then Some (put.1, put.2) else None) (puts_on d puts)) (eq-eqb d.0 d.0 refl))

    -- what is left of each colour's
    abbrev tails : Bool → Colour → List (Item S P)
    tails true c = first.tail
    tails false c = lanes c

    are_later : (c : Colour) (of : Bool) → (d.0 == c.0) ≡ of → map (λ x. x.reg.event) (tails of c) ≡ puts_on c puts
    are_later c true is = subst (λ e. map (λ x. x.reg.event) first.tail ≡ puts_on e puts) (same_colour d c (eqb-true d.0 c.0 is)) first.rest
    are_later c false is = are c ∙ ap (λ own. cons_option (if own then Some (put.1, put.2) else None) (puts_on c puts)) is

    own_later : (c : Colour) (of : Bool) → (d.0 == c.0) ≡ of → (x : Item S P) → Among x (tails of c) → x.colour ≡ c
    own_later c true is x there = own d x (subst (λ l. Among x l) (sym first.are) (inr there)) ∙ same_colour d c (eqb-true d.0 c.0 is)
    own_later c false is x there = own c x there

    coloured : first.head.colour ≡ d
    coloured = own d first.head (subst (λ l. Among first.head l) (sym first.are) (inl refl))

    one : (x : Item S P) → x.colour ≡ d → x.reg.event ≡ (put.1, put.2) → what x ≡ put
    one x colour event = ap₂ (λ (c : Colour) (e : Event × Option P). let p : Colour × Event × Option P = (c, e.0, e.1) in p) colour event

    on_colour : (later : List (Item S P)) (c : Colour) (of : Bool) → (d.0 == c.0) ≡ of → filter (on c) later ≡ tails of c → cond of (first.head ∷ filter (on c) later) (filter (on c) later) ≡ lanes c
    on_colour later c true is rest = ap (λ l. first.head ∷ l) rest ∙ sym first.are ∙ ap lanes (same_colour d c (eqb-true d.0 c.0 is))
    on_colour later c false is rest = rest

    more : (later : List (Item S P)) → map what later ≡ puts → ((c : Colour) → filter (on c) later ≡ tails (d.0 == c.0) c) → (news : List (Item S P)) × (map what news ≡ put ∷ puts) × ((c : Colour) → filter (on c) news ≡ lanes c)
    more later rest on_each = (
      first.head ∷ later,
      ap₂ (λ p l. p ∷ l) (one first.head coloured first.event_of) rest,
      λ c.
          ap (λ (e : Colour). cond (e.0 == c.0) (first.head ∷ filter (on c) later) (filter (on c) later)) coloured ∙ on_colour later c (d.0 == c.0) refl (on_each c),
    )

  -- what is put can be told colour by colour: these are the items of what is put, in its order
  pub tagged : (puts : List (Colour × Event × Option P)) (lanes : Colour → List (Item S P)) → ((c : Colour) → map (λ x. x.reg.event) (lanes c) ≡ puts_on c puts) → ((c : Colour) (x : Item S P) → Among x (lanes c) → x.colour ≡ c) → (news : List (Item S P)) × (map what news ≡ puts) × ((c : Colour) → filter (on c) news ≡ lanes c)
  tagged [] lanes are own = ([], refl, λ c. none_mapped (lanes c) (are c))
  tagged (put ∷ puts) lanes are own =
      let later = tagged puts (λ c. tails put puts lanes are own (put.0.0 == c.0) c) (λ c. are_later put puts lanes are own c (put.0.0 == c.0) refl) (λ c. own_later put puts lanes are own c (put.0.0 == c.0) refl) in
      more put puts lanes are own later.0 later.1 later.2
