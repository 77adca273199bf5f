-- Lists of those that wait.
use Rattle.std.proofs.Common.{get_or, Bool, true, ◌≡◌, ℕ, zero, suc, ◌+◌, ◌≤◌, ◌<◌, false, true≢false, List, [], ◌∷◌, ◌++◌, length, map, refl, sym, ◌∙◌, ap, arith, inl, inr, eq-eqb}
use Rattle.std.proofs.lemmas.Bool.{ne_eqb}
use Rattle.std.proofs.lemmas.Bool.Decides.{eqb_tells, nat_tests}
use Rattle.std.specs.Prelude.{◌==◌, ◌||◌, if◌then◌else◌, Contains, remove}
use Rattle.std.specs.List.{AllByRecursion, list_any}
use Rattle.sws_handlers.specs.Counting.{bit, times}
use Rattle.sws_handlers.specs.Waiting.{taken_off, TakenOff}
use Rattle.sws_link.specs.declared.Polled.{Polled}
use Rattle.sws_link.specs.declared.Polled.TheVariants as polled
use Rattle.sws_handlers.specs.Handling.{Asked, Answered, resume_first}
use Rattle.std.proofs.lemmas.List.Sums.{sum_by-cons, sum_by_push}

-- ---- how often one stands in a list

pub times_cons : (i w : ℕ) (ws : List ℕ) → times i (w ∷ ws) ≡ bit (w == i) + times i ws
times_cons i w ws = sum_by-cons (λ k. bit (k == i)) w ws

pub times_push : (i w : ℕ) (ws : List ℕ) → times i (ws ++ w ∷ []) ≡ times i ws + bit (w == i)
times_push i w ws = sum_by_push (λ k. bit (k == i)) ws w

-- who is in a list stands there
contained_at : (xs : List ℕ) (x k : ℕ) → k < length xs → get_or xs k x ≡ x → 1 ≤ times x xs
contained_at [] x k low is = absurd (omega (arith, low))
contained_at (y ∷ xs) x zero low is = let c = times_cons x y xs in let one = ap bit (eq-eqb y x is) in omega (arith, c, one)
contained_at (y ∷ xs) x (suc k) low is = let c = times_cons x y xs in let more = contained_at xs x k (omega (arith, low)) is in omega (arith, c, more)

pub contained : (xs : List ℕ) (x : ℕ) → Contains xs x → 1 ≤ times x xs
contained xs x is = contained_at xs x is.0 is.1 is.2

times_off : (i conn : ℕ) (waiting : List ℕ) → 1 ≤ times conn waiting → times i (taken_off conn waiting) + bit (conn == i) ≡ times i waiting
times_off i conn [] there = absurd (omega (arith, there))
times_off i conn (w ∷ ws) there = elim (eqb_tells w conn) [
  | inl same ↦
      let is = ap (λ b. times i (if b then ws else w ∷ taken_off conn ws)) same.0 in
      let as_conn = ap (λ k. bit (k == i)) same.1 in
      omega (arith, is, as_conn, times_cons i w ws)
  | inr apart ↦
      let is = ap (λ b. times i (if b then ws else w ∷ taken_off conn ws)) apart.0 in
      let none = ap bit apart.0 in
      let more = times_off i conn ws (omega (arith, there, none, times_cons conn w ws)) in
      omega (arith, is, more, times_cons i w ws, times_cons i w (taken_off conn ws))
]

pub times_taken : (i conn : ℕ) (waiting left : List ℕ) → TakenOff conn waiting left → times i left + bit (conn == i) ≡ times i waiting
times_taken i conn waiting left off = let is = ap (times i) off.is in omega (arith, is, times_off i conn waiting (contained waiting conn off.there))

-- where it stands once, it is taken out at that place
pub removed : (waiting : List ℕ) (at conn : ℕ) → at < length waiting → get_or waiting at conn ≡ conn → times conn waiting ≤ 1 → remove waiting at ≡ taken_off conn waiting
removed [] at conn within there once = absurd (omega (arith, within))
removed (w ∷ ws) zero conn within there once = sym (ap (λ b. if b then ws else w ∷ taken_off conn ws) (eq-eqb w conn there))
removed (w ∷ ws) (suc at) conn within there once =
    let low : at < length ws = omega (arith, within) in
    let later = contained_at ws conn at low there in
    elim (eqb_tells w conn) [
      | inl same ↦ let one = ap bit same.0 in absurd (omega (arith, once, later, one, times_cons conn w ws))
      | inr apart ↦ ap (λ l. w ∷ l) (removed ws at conn low there (let c = times_cons conn w ws in omega (arith, once, c))) ∙ sym (ap (λ b. if b then ws else w ∷ taken_off conn ws) apart.0)
    ]

pub count_answered : (i : ℕ) (waiting : List ℕ) (last : Bool) (answer : Polled) (asked : Asked) → Answered waiting last answer asked → times i asked.waiting + times i asked.resumed ≡ times i waiting
count_answered i waiting last (polled.Ready conn) asked is =
    let off = times_taken i conn waiting asked.waiting is.0 in
    let one = ap (λ ws. times i ws) is.3 ∙ times_cons i conn [] in
    omega (arith, off, one)
count_answered i waiting last polled.Quiet asked is = omega (arith, ap (λ (a : Asked). times i a.waiting) is, ap (λ (a : Asked). times i a.resumed) is)
count_answered i waiting last polled.Failed asked is = omega (arith, ap (λ (a : Asked). times i a.waiting) is, ap (λ (a : Asked). times i a.resumed) is)

pub count_resuming : (i : ℕ) (failed : Bool) (waiting : List ℕ) (asked : Asked) → asked.waiting ≡ waiting → times i (resume_first failed waiting asked).waiting + times i (resume_first failed waiting asked).resumed ≡ times i asked.waiting + times i asked.resumed
count_resuming i true [] asked is = refl
count_resuming i true (w ∷ ws) asked is =
    let more = times_push i w asked.resumed in
    let was = ap (λ l. times i l) is ∙ times_cons i w ws in
    omega (arith, more, was)
count_resuming i false waiting asked is = refl

-- ---- facts of each member

pub each_append : {A : Type 0} (P : A → Type 0) (xs ys : List A) → AllByRecursion P xs → AllByRecursion P ys → AllByRecursion P (xs ++ ys)
each_append P [] ys one other = other
each_append P (x ∷ xs) ys one other = (one.0, each_append P xs ys one.1 other)

pub each_map : {A B : Type 0} (P : A → Type 0) (Q : B → Type 0) (f : A → B) → ((a : A) → P a → Q (f a)) → (xs : List A) → AllByRecursion P xs → AllByRecursion Q (map f xs)
each_map P Q f goes [] all = tt
each_map P Q f goes (x ∷ xs) all = (goes x all.0, each_map P Q f goes xs all.1)

pub each_weaker : {A : Type 0} (P Q : A → Type 0) → ((a : A) → P a → Q a) → (xs : List A) → AllByRecursion P xs → AllByRecursion Q xs
each_weaker P Q goes [] all = tt
each_weaker P Q goes (x ∷ xs) all = (goes x all.0, each_weaker P Q goes xs all.1)

below_one : (n w : ℕ) → (n ≤ w → ⊥) → w < n
below_one n w never = grind (arith, nat_tests)

-- who doesn't stand in a list beyond a number is below it
pub all_below : (n : ℕ) (xs : List ℕ) → ((i : ℕ) → n ≤ i → times i xs ≡ 0) → AllByRecursion (λ w. w < n) xs
all_below n [] none = tt
all_below n (w ∷ ws) none = (
  below_one n w (λ high. let c = times_cons w w ws in let one = ap bit (eq-eqb w w refl) in let z = none w high in omega (arith, c, one, z)),
  all_below n ws (λ i high. let c = times_cons i w ws in let z = none i high in omega (arith, c, z)),
)

-- the sum of a function over the numbers below one
sum_to : ℕ → (ℕ → ℕ) → ℕ
sum_to zero f = 0
sum_to (suc n) f = sum_to n f + f n

sum_to_both : (n : ℕ) (f g h : ℕ → ℕ) → ((i : ℕ) → h i ≡ f i + g i) → sum_to n h ≡ sum_to n f + sum_to n g
unfolding sum_to
sum_to_both zero f g h each = omega arith
sum_to_both (suc n) f g h each = omega (arith, sum_to_both n f g h each, each n)

sum_to_beyond : (n w : ℕ) → n ≤ w → sum_to n (λ i. bit (w == i)) ≡ 0
unfolding sum_to
sum_to_beyond zero w high = refl
sum_to_beyond (suc n) w high = let e = ap bit (ne_eqb w n (λ same. omega (arith, same, high))) in omega (arith, sum_to_beyond n w (omega (arith, high)), e)

sum_to_one : (n w : ℕ) → w < n → sum_to n (λ i. bit (w == i)) ≡ 1
unfolding sum_to
sum_to_one zero w low = absurd (omega (arith, low))
sum_to_one (suc n) w low = elim (eqb_tells w n) [
  | inl same ↦ let e = ap bit same.0 in let is = same.1 in omega (arith, sum_to_beyond n w (omega (arith, is)), e)
  | inr apart ↦ let e = ap bit apart.0 in let isnt = apart.1 in omega (arith, sum_to_one n w (omega (arith, low, isnt)), e)
]

sum_to_none : (n : ℕ) → sum_to n (λ i. times i []) ≡ 0
unfolding sum_to
sum_to_none zero = refl
sum_to_none (suc n) = omega (arith, sum_to_none n)

length_is : (n : ℕ) (xs : List ℕ) → AllByRecursion (λ w. w < n) xs → length xs ≡ sum_to n (λ i. times i xs)
length_is n [] all = sym (sum_to_none n)
length_is n (w ∷ ws) all =
    omega (arith, sum_to_both n (λ i. bit (w == i)) (λ i. times i ws) (λ i. times i (w ∷ ws)) (λ i. times_cons i w ws), sum_to_one n w all.0, length_is n ws all.1)

sum_to_few : (n : ℕ) (f : ℕ → ℕ) → ((i : ℕ) → f i ≤ 1) → sum_to n f ≤ n
unfolding sum_to
sum_to_few zero f each = omega arith
sum_to_few (suc n) f each = omega (arith, sum_to_few n f each, each n)

sum_to_fewer : (n k : ℕ) (f : ℕ → ℕ) → ((i : ℕ) → f i ≤ 1) → k < n → f k ≡ 0 → sum_to n f < n
unfolding sum_to
sum_to_fewer zero k f each low none = absurd (omega (arith, low))
sum_to_fewer (suc n) k f each low none = elim (eqb_tells k n) [
  | inl same ↦ let e = ap f same.1 in omega (arith, sum_to_few n f each, e, none)
  | inr apart ↦ let isnt = apart.1 in omega (arith, sum_to_fewer n k f each (omega (arith, low, isnt)) none, each n)
]

pub any_false : (i : ℕ) (waiting : List ℕ) → list_any (λ w. w == i) waiting ≡ false → times i waiting ≡ 0
any_false i [] none = refl
any_false i (w ∷ ws) none =
    let c = times_cons i w ws in
    elim (eqb_tells w i) [
      | inl same ↦ absurd (true≢false (sym (ap (λ b. b || list_any (λ k. k == i) ws) same.0) ∙ none))
      | inr apart ↦ let e = ap bit apart.0 in omega (arith, c, e, any_false i ws (sym (ap (λ b. b || list_any (λ k. k == i) ws) apart.0) ∙ none))
    ]

-- of so many connections, each of which waits once at most, one that doesn't wait leaves room
pub has_room : (n k : ℕ) (waiting : List ℕ) → ((i : ℕ) → times i waiting ≤ 1) → ((i : ℕ) → n ≤ i → times i waiting ≡ 0) → k < n → times k waiting ≡ 0 → length waiting < n
has_room n k waiting once below low none =
    omega (arith, length_is n waiting (all_below n waiting below), sum_to_fewer n k (λ i. times i waiting) once low none)
