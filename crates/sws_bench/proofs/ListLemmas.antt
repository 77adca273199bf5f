-- Lists that grow at their end.
use Rattle.std.proofs.Common.{◌≡◌, ℕ, ◌+◌, ◌/◌, List, [], ◌∷◌, ◌++◌, map, sym, ap, ◌∙◌, arith, append_assoc, append-nil, add-one}
use Rattle.std.specs.List.{range_with_len, flat_map, sum}
use Rattle.std.proofs.lemmas.List.FromFn.{map-range_with_len_more, sum_by-map-range_with_len_more}
use Rattle.std.proofs.lemmas.Grind.{flat_map-append}
use Rattle.sws_bench.specs.Draws.{next_state, behind, draw, draws_from}
use Rattle.sws_bench.specs.BenchScript.{request}

-- the values at the first numbers, with the next one
pub map_more : {A : Type 0} (f : ℕ → A) (n : ℕ) (before after : List A) → before ≡ map f (range_with_len 0 n) → after ≡ before ++ f n ∷ [] → after ≡ map f (range_with_len 0 (n + 1))
map_more f n before after e pushed = pushed ∙ ap (λ xs. xs ++ f n ∷ []) e ∙ sym (map-range_with_len_more f 0 n n (omega arith))

-- three texts behind another
pub three : (a b c w x y z : List ℕ) → x ≡ w ++ a → y ≡ x ++ b → z ≡ y ++ c → z ≡ w ++ (a ++ (b ++ c))
three a b c w x y z e f g =
    g ∙ ap (λ t. t ++ c) (f ∙ ap (λ t. t ++ b) e) ∙ append_assoc (w ++ a) b c ∙ append_assoc w a (b ++ c)

-- ---- draws

pub behind_more : (start n now after : ℕ) → now ≡ behind start n → after ≡ next_state now → after ≡ behind start (n + 1)
behind_more start n now after e step = step ∙ ap next_state e ∙ ap (behind start) (sym (add-one n))

-- the request of one draw more
pub requests_more : (start n now drawn : ℕ) (before after : List ℕ) → now ≡ behind start n → drawn ≡ draw now 0 → before ≡ flat_map request (draws_from start n)
    → after ≡ before ++ request drawn → after ≡ flat_map request (draws_from start (n + 1))
requests_more start n now drawn before after e given made pushed =
    let this : drawn ≡ draw start n = given ∙ ap (λ (x : ℕ). next_state x / 65536) e in
    pushed
    ∙ ap (λ t. t ++ request drawn) made
    ∙ ap (λ (d : ℕ). flat_map request (draws_from start n) ++ request d) this
    ∙ ap (λ t. flat_map request (draws_from start n) ++ t) (sym (append-nil (request (draw start n))))
    ∙ sym (flat_map-append request (draws_from start n) (draw start n ∷ []))
    ∙ ap (flat_map request) (sym (map-range_with_len_more (draw start) 0 n n (omega arith)))

-- ---- sums

-- the sum of the values at the first numbers, with the next one
pub sum_more : (f : ℕ → ℕ) (n before after : ℕ) → before ≡ sum (map f (range_with_len 0 n)) → after ≡ before + f n → after ≡ sum (map f (range_with_len 0 (n + 1)))
sum_more f n before after e added = added ∙ ap (λ s. s + f n) e ∙ sym (sum_by-map-range_with_len_more (λ x. x) f 0 n n (omega arith))
