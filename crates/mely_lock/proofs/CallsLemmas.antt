-- What the calls of the table ask for and give, in the words of the functions that make them.
use Rattle.std.proofs.Common.{arith, ◌≡◌, ℕ, suc, ◌-◌, eqb, eq-eqb, ne_eqb, cond, not, ⊎_elim, length-append, ◌+◌, ◌%◌, ◌^◌, ◌<◌, Bool, true, false, List, [], ◌∷◌, ◌++◌, length, sym, refl, ap, ◌∙◌, subst, Option, Some, None, IfNone, IfSome}
use Rattle.std.proofs.lemmas.List.Sums.{sum_by-cons}
use mathlib.Core.Option.{some}
use lib.ListN.{get_elem?}
use prog.Atomic.{either}
use Rattle.atomic_table.specs.Table as table
use Rattle.atomic_table.specs.Table.{State, Allows, Splits, Joins, rest}
use Rattle.atomic_table.proofs.Lists.{at_longer, at_last}
use Rattle.mely_lock.specs.declared.claim.Claim.{Claim}
use Rattle.mely_lock.specs.declared.seat_knowledge.SeatKnowledge.{SeatKnowledge}
use Rattle.mely_lock.specs.Seen.{OthersSince, GrewByAtMostOne, GrewIf}
use Rattle.mely_lock.specs.Views.{claim, view, nobody, initial_claims, shares_of, HasClaim, head_number, head_front, head_frame}
use Rattle.mely_lock.specs.Rule.{inside_word, notes_word, Locked}
use Rattle.mely_lock.specs.Steps.{Seat, claim_with_front, kept_of, dealt_of, join_knowledge, seat_outside, seat_inside, Tried, Noted, Left, Meets, Enters, Leaves}
use Rattle.mely_lock.proofs.KeepsLemmas.{head_claim, tries, notes, leaves, splits, joins, sits}

module _ {N F : Type 0} where
  single : (cs : List (Claim N F)) → length cs ≡ 1 → (c : Claim N F) × (cs ≡ c ∷ [])
  single [] e = absurd (omega arith)
  single (c ∷ []) e = (c, refl)
  single (c ∷ d ∷ ds) e = absurd (omega arith)

  -- the shares of a seat with one claim
  pub shares_of-single : (n k : ℕ) (cs : List (Claim N F)) → length cs ≡ 1 → head_number cs ≡ k → shares_of n cs ≡ cond (eqb k n) 1 0
  shares_of-single n k [] one is = absurd (omega arith)
  shares_of-single n k (c ∷ []) one is = let all = sum_by-cons (λ (d : Claim N F). cond (eqb d.number n) 1 0) c [] in let same : ◌≡◌ {A = ℕ} (cond (eqb c.number n) 1 0) (cond (eqb k n) 1 0) = ap (λ (j : ℕ). cond (eqb j n) 1 0) is in omega arith
  shares_of-single n k (c ∷ d ∷ ds) one is = absurd (omega arith)

  -- a seat that takes in another keeps its claims, and has those of the other
  pub keeps_claim : (cs ds : List (Claim N F)) (n : ℕ) (front : List N) → HasClaim cs n front → HasClaim (cs ++ ds) n front
  keeps_claim cs ds n front (k, c, there, num, fr) = (k, c, at_longer cs ds k c there, num, fr)

  pub gains_claim : (cs ds : List (Claim N F)) → length ds ≡ 1 → HasClaim (cs ++ ds) (head_number ds) (head_front ds)
  gains_claim cs ds one = let t = single ds one in subst (λ (l : List (Claim N F)). HasClaim (cs ++ l) (head_number l) (head_front l)) (sym t.1) (length cs, t.0, at_last cs t.0 (length cs) refl, refl, refl)

same_some : {A : Type 0} (x y : A) → Some x ≡ Some y → x ≡ y
same_some x y e = cc

-- the slots in a hand
abbrev Hand : Type 0 → Type 0
Hand W = List (ℕ × Option W)

abbrev first_of : {W : Type 0} → Option W → Hand W → Option W
first_of d [] = d
first_of d (h ∷ hs) = h.1

same_slot : {W : Type 0} (hand : Hand W) (y z : Option W) → hand ≡ (0, y) ∷ [] → hand ≡ (0, z) ∷ rest hand → z ≡ y
same_slot hand y z a b = ap (first_of y) (sym b ∙ a)

module _ {W N F : Type 0} where
  pub has_slot : (m : Seat W N F) (c : Claim N F) (y : Option W) → m ≡ seat_inside c y → (x : Option W) × (m.1 ≡ (0, x) ∷ rest m.1)
  has_slot m c y e = (y, ap (λ (t : Seat W N F). t.1) e ∙ ap (λ (t : Seat W N F). (0, y) ∷ rest t.1) (sym e))

  -- another value is put into the slot in the hand
  pub put_in : (m m' : Seat W N F) (c : Claim N F) (y z : Option W) → m ≡ seat_inside c y → m' ≡ (m.0, (0, z) ∷ rest m.1) → m' ≡ seat_inside c z
  put_in m m' c y z e f = f ∙ ap (λ (t : Seat W N F). let u : Seat W N F = (t.0, (0, z) ∷ rest t.1) in u) e

  -- a seat with one claim, as the step that it makes next has it
  pub as_waiting : (m : Seat W N F) → length m.0.claims ≡ 1 → m.0.inside ≡ false → m.1 ≡ [] → (c : Claim N F) × (m ≡ seat_outside c) × (head_number m.0.claims ≡ c.number) × (head_front m.0.claims ≡ c.front) × (head_frame m.0.claims ≡ Some c.frame)
  as_waiting m one off empty = let t = single m.0.claims one in let P : List (Claim N F) × (Bool × Hand W) → Seat W N F = λ u. (view u.0 u.1.0, u.1.1) in
      (t.0, λ i. P (t.1 i, (off i, empty i)), ap head_number t.1, ap head_front t.1, ap head_frame t.1)

  as_holding : (m : Seat W N F) (y : Option W) → length m.0.claims ≡ 1 → m.0.inside ≡ true → m.1 ≡ (0, y) ∷ [] → (c : Claim N F) × (m ≡ seat_inside c y) × (head_number m.0.claims ≡ c.number) × (head_front m.0.claims ≡ c.front) × (head_frame m.0.claims ≡ Some c.frame)
  as_holding m y one on full = let t = single m.0.claims one in let P : List (Claim N F) × (Bool × Hand W) → Seat W N F = λ u. (view u.0 u.1.0, u.1.1) in
      (t.0, λ i. P (t.1 i, (on i, full i)), ap head_number t.1, ap head_front t.1, ap head_frame t.1)

module _ {W N F : Type 0} (history_of : W → List N) (pass_of : N → ℕ) (frame_of : W → F) where
  abbrev Rule : F → ℕ → State (Option W) (SeatKnowledge N F) → Type 0
  Rule = Locked history_of pass_of frame_of

  -- the try of a pass that is outside
  pub tries_at : (frame : F) (passes slots id ticket : ℕ) (m : Seat W N F) (c : Claim N F) → slots ≡ 1 → m ≡ seat_outside c → ticket ≡ c.number + 1
      → Allows (Rule frame passes) slots id m inside_word (λ n. either (eqb n 0) ticket n) (Tried history_of pass_of frame_of m)
  tries_at frame passes slots id ticket m c one is same =
      let P : ℕ × (Seat W N F × ℕ) → Type 0 = λ t. Allows (Rule frame passes) t.0 id t.1.0 inside_word (λ n. either (eqb n 0) t.1.1 n) (Tried history_of pass_of frame_of t.1.0) in
      subst P (λ i. (sym one i, (sym is i, sym same i))) (tries history_of pass_of frame_of frame passes id c)

  pub notes_at : (frame : F) (passes slots id : ℕ) (m : Seat W N F) (c : Claim N F) (x : W) (note : N) → slots ≡ 1 → m ≡ seat_inside c (Some x) → history_of x ≡ c.front ++ note ∷ [] → pass_of note ≡ c.number → length (history_of x) < 2 ^ 64
      → Allows (Rule frame passes) slots id m notes_word (λ n. (n + 1) % 2 ^ 64) (λ _. Noted history_of m)
  notes_at frame passes slots id m c x note one is grew own fits =
      let P : ℕ × Seat W N F → Type 0 = λ t. Allows (Rule frame passes) t.0 id t.1 notes_word (λ n. (n + 1) % 2 ^ 64) (λ _. Noted history_of t.1) in
      subst P (λ i. (sym one i, sym is i)) (notes history_of pass_of frame_of frame passes id c x note grew own fits)

  pub leaves_at : (frame : F) (passes slots id : ℕ) (m : Seat W N F) (c : Claim N F) (x : W) → slots ≡ 1 → m ≡ seat_inside c (Some x) → history_of x ≡ c.front → frame_of x ≡ c.frame
      → Allows (Rule frame passes) slots id m inside_word (λ _. 0) (λ _. Left m)
  leaves_at frame passes slots id m c x one is whole framed =
      let P : ℕ × Seat W N F → Type 0 = λ t. Allows (Rule frame passes) t.0 id t.1 inside_word (λ _. 0) (λ _. Left t.1) in
      subst P (λ i. (sym one i, sym is i)) (leaves history_of pass_of frame_of frame passes id c x whole framed)

  -- a try that found 0, and the value taken out of the slot
  pub came_in : (m m' m'' : Seat W N F) (found : ℕ) (taken : Option W) (c : Claim N F) → m ≡ seat_outside c → found ≡ 0 → Tried history_of pass_of frame_of m found m' → m'.1 ≡ (0, taken) ∷ rest m'.1 → m'' ≡ (m'.0, (0, None) ∷ rest m'.1)
      → IfNone taken (m'' ≡ m) × IfSome taken (λ x. Enters history_of pass_of frame_of m x m'')
  came_in m m' m'' found taken c is zero tried read written =
      let P : Option W → Type 0 = λ o. IfNone o (m'' ≡ m) × IfSome o (λ x. Enters history_of pass_of frame_of m x m'') in
      let got : (d : Claim N F) (e : m ≡ seat_outside d) → taken ≡ Some (tried.1 zero d e).0 = λ d e. let t = tried.1 zero d e in same_slot m'.1 (Some t.0) taken (ap (λ (u : Seat W N F). u.1) t.1) read in
      let x : W = (tried.1 zero c is).0 in
      let all : Enters history_of pass_of frame_of m x m'' = λ d e. let t = tried.1 zero d e in let same : t.0 ≡ x = same_some t.0 x (sym (got d e) ∙ got c is) in
      let Q : W → Type 0 = λ z. (m'' ≡ seat_inside (claim_with_front d (history_of z)) None) × Meets history_of pass_of frame_of d z in
      subst Q same (put_in m' m'' (claim_with_front d (history_of t.0)) (Some t.0) None t.1 written, t.2) in
      subst P (sym (got c is)) (tt, all)

  -- where the history did not grow, the pass has seen it as it is
  pub as_seen : (c : Claim N F) (x : W) → history_of x ≡ c.front → ◌≡◌ {A = Seat W N F} (seat_inside c (Some x)) (seat_inside (claim_with_front c (history_of x)) (Some x))
  as_seen c x e = λ i. seat_inside (claim_with_front c (sym e i)) (Some x)

  pub went_out : (m m' m'' : Seat W N F) (c : Claim N F) (x : W) → m ≡ seat_inside c None → m' ≡ seat_inside (claim_with_front c (history_of x)) (Some x) → Left m' m'' → Leaves history_of m x m''
  went_out m m' m'' c x is now go = λ d e. let same : c ≡ d = ap (λ (u : Seat W N F). head_claim c u.0.claims) (sym is ∙ e) in subst (λ (k : Claim N F). m'' ≡ seat_outside (claim_with_front k (history_of x))) same (go (claim_with_front c (history_of x)) x now)

  -- what a pass is once it came in and found x
  pub record CameIn (m : Seat W N F) (n : ℕ) (f : F) (x : W) (m' : Seat W N F) : Type 0 where
    pub single : length m'.0.claims ≡ 1
    pub number : head_number m'.0.claims ≡ n
    pub front : head_front m'.0.claims ≡ history_of x
    pub framed : head_frame m'.0.claims ≡ Some f
    pub on : m'.0.inside ≡ true
    pub hand : m'.1 ≡ (0, None) ∷ []
    pub since : OthersSince pass_of n (head_front m.0.claims) (history_of x)
    pub same_frame : frame_of x ≡ f

  pub come_in : (m m' : Seat W N F) (n : ℕ) (f : F) (x : W) → length m.0.claims ≡ 1 → head_number m.0.claims ≡ n → m.0.inside ≡ false → m.1 ≡ [] → head_frame m.0.claims ≡ Some f → Enters history_of pass_of frame_of m x m' → CameIn m n f x m'
  come_in m m' n f x one num off empty fr go = let t = as_waiting m one off empty in let c : Claim N F = t.0 in let w = go c t.1 in let fs : c.frame ≡ f = same_some c.frame f (sym t.4 ∙ fr) in record {
    single = ap (λ (u : Seat W N F). length u.0.claims) w.0;
    number = ap (λ (u : Seat W N F). head_number u.0.claims) w.0 ∙ (sym t.2 ∙ num);
    front = ap (λ (u : Seat W N F). head_front u.0.claims) w.0;
    framed = ap (λ (u : Seat W N F). head_frame u.0.claims) w.0 ∙ ap (λ (k : F). Some k) fs;
    on = ap (λ (u : Seat W N F). u.0.inside) w.0;
    hand = ap (λ (u : Seat W N F). u.1) w.0;
    since = let P : ℕ × List N → Type 0 = λ u. OthersSince pass_of u.0 u.1 (history_of x) in subst P (λ i. ((sym t.2 ∙ num) i, sym t.3 i)) w.1.0;
    same_frame = w.1.1 ∙ fs;
  }

  -- what a pass is once it put x back and went out
  pub record WentOut (m : Seat W N F) (n : ℕ) (x : W) (m' : Seat W N F) : Type 0 where
    pub single : length m'.0.claims ≡ 1
    pub number : head_number m'.0.claims ≡ n
    pub front : head_front m'.0.claims ≡ history_of x
    pub framed : head_frame m'.0.claims ≡ head_frame m.0.claims
    pub off : m'.0.inside ≡ false
    pub hand : m'.1 ≡ []

  pub go_out : (m m' : Seat W N F) (n : ℕ) (x : W) → length m.0.claims ≡ 1 → head_number m.0.claims ≡ n → m.0.inside ≡ true → m.1 ≡ (0, None) ∷ [] → Leaves history_of m x m' → WentOut m n x m'
  go_out m m' n x one num on full go = let t = as_holding m None one on full in let w = go t.0 t.1 in record {
    single = ap (λ (u : Seat W N F). length u.0.claims) w;
    number = ap (λ (u : Seat W N F). head_number u.0.claims) w ∙ (sym t.2 ∙ num);
    front = ap (λ (u : Seat W N F). head_front u.0.claims) w;
    framed = ap (λ (u : Seat W N F). head_frame u.0.claims) w ∙ sym t.4;
    off = ap (λ (u : Seat W N F). u.0.inside) w;
    hand = ap (λ (u : Seat W N F). u.1) w;
  }

  -- whether the count of notes has changed tells whether the history grew
  grew_if : (n seen notes : ℕ) (front : List N) (x : W) → length front ≡ seen → notes ≡ length (history_of x) → GrewByAtMostOne pass_of n front (history_of x) → GrewIf pass_of (not (eqb notes seen)) n front (history_of x)
  grew_if n seen notes front x was now grew = ⊎_elim
      (λ same. let e : eqb notes seen ≡ true = eq-eqb notes seen (now ∙ (ap length same ∙ was)) in ((λ t. let f : not (eqb notes seen) ≡ false = ap not e in absurd (cc)), λ _. same))
      (λ (more : (note : N) × (history_of x ≡ front ++ note ∷ []) × (pass_of note ≡ n)). let long : length (history_of x) ≡ length front + 1 = ap length more.1 ∙ length-append front (more.0 ∷ []) in
      let e : eqb notes seen ≡ false = ne_eqb notes seen (λ q. omega arith) in ((λ _. more), λ t. let f : not (eqb notes seen) ≡ true = ap not e in absurd (cc))) grew

  pub may_put : (m : Seat W N F) (n seen notes : ℕ) (x : W) → length m.0.claims ≡ 1 → head_number m.0.claims ≡ n → length (head_front m.0.claims) ≡ seen → m.0.inside ≡ true → m.1 ≡ (0, None) ∷ [] → head_frame m.0.claims ≡ Some (frame_of x)
      → notes ≡ length (history_of x) → GrewByAtMostOne pass_of n (head_front m.0.claims) (history_of x) → (c : Claim N F) × (m ≡ seat_inside c None) × (frame_of x ≡ c.frame) × GrewIf pass_of (not (eqb notes seen)) c.number c.front (history_of x)
  may_put m n seen notes x one num was on full fr now grew = let t = as_holding m None one on full in let g = grew_if n seen notes (head_front m.0.claims) x was now grew in
      let P : ℕ × List N → Type 0 = λ u. GrewIf pass_of (not (eqb notes seen)) u.0 u.1 (history_of x) in
      (t.0, t.1, same_some (frame_of x) t.0.frame (sym fr ∙ t.4), subst P (λ i. ((sym num ∙ t.2) i, t.3 i)) g)

  -- the first seat, when n passes of p are dealt out
  first_left : (v : SeatKnowledge N F) (n p : ℕ) (f : F) → n < p → v ≡ view (initial_claims n (p - n) f) false → v ≡ view (initial_claims n (suc (p - (n + 1))) f) false
  first_left v n p f l is = let e : p - n ≡ suc (p - (n + 1)) = omega arith in is ∙ ap (λ (k : ℕ). view (initial_claims n k f) false) e

  pub splits_at : (frame : F) (passes id n p : ℕ) (f : F) (m : Seat W N F) → n < p → m ≡ (view (initial_claims n (p - n) f) false, []) → Splits (Rule frame passes) id m.0 (kept_of m.0) (dealt_of m.0)
  splits_at frame passes id n p f m l is = subst (λ (v : SeatKnowledge N F). Splits (Rule frame passes) id v (kept_of v) (dealt_of v)) (sym (first_left m.0 n p f l (ap (λ (u : Seat W N F). u.0) is)))
      (splits history_of pass_of frame_of frame passes id (claim n [] f) (initial_claims (n + 1) (p - (n + 1)) f))

  pub dealt : (m m' q : Seat W N F) (n p : ℕ) (f : F) → n < p → m ≡ (view (initial_claims n (p - n) f) false, []) → m' ≡ (kept_of m.0, m.1) → q ≡ (dealt_of m.0, [])
      → (m' ≡ (view (initial_claims (n + 1) (p - (n + 1)) f) false, [])) × (q ≡ seat_outside (claim n [] f))
  dealt m m' q n p f l is left given = let v = first_left m.0 n p f l (ap (λ (u : Seat W N F). u.0) is) in let P : SeatKnowledge N F × Hand W → Seat W N F = λ u. (kept_of u.0, u.1) in let Q : SeatKnowledge N F → Seat W N F = λ u. (dealt_of u, []) in
      (left ∙ (λ i. P (v i, (is i).1)), given ∙ ap Q v)

  pub sits_at : (frame : F) (passes slots : ℕ) → table.Enters (Rule frame passes) slots inside_word (λ _ v. v ≡ nobody)
  sits_at frame passes slots = sits history_of pass_of frame_of frame passes slots

  pub joins_at : (frame : F) (passes id other : ℕ) (m q : Seat W N F) → m.0.inside ≡ false → q.0.inside ≡ false → Joins (Rule frame passes) id m.0 other q.0 (join_knowledge m.0 q.0) nobody
  joins_at frame passes id other m q m_off q_off = joins history_of pass_of frame_of frame passes id m.0 other q.0 m_off q_off

pub not_none : {W : Type 0} (xs : List (Option W)) (x : W) → get_elem? xs 0 ≡ some (Some x) → get_elem? xs 0 ≡ some None → ⊥
not_none xs x a b = let e : some (Some x) ≡ some None = sym a ∙ b in cc

pub same_value : {W : Type 0} (xs : List (Option W)) (x y : W) → get_elem? xs 0 ≡ some (Some x) → get_elem? xs 0 ≡ some (Some y) → x ≡ y
same_value xs x y a b = let e : some (Some x) ≡ some (Some y) = sym a ∙ b in cc
