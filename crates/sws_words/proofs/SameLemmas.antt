-- A function at equal arguments.
use Rattle.std.proofs.Common.{◌≡◌, ◌∙◌, ap}

pub ap₃ : {A B C X : Type 0} (f : A → B → C → X) {a v : A} {b w : B} {c x : C} → a ≡ v → b ≡ w → c ≡ x → f a b c ≡ f v w x
ap₃ {A} {B} {C} {X} f {a} {v} {b} {w} {c} {x} p q r = ap (λ o. f o b c) p ∙ ap (λ o. f v o c) q ∙ ap (λ o. f v w o) r

pub ap₅ : {A B C D E X : Type 0} (f : A → B → C → D → E → X) {a v : A} {b w : B} {c x : C} {d y : D} {e z : E}
    → a ≡ v → b ≡ w → c ≡ x → d ≡ y → e ≡ z → f a b c d e ≡ f v w x y z
ap₅ {A} {B} {C} {D} {E} {X} f {a} {v} {b} {w} {c} {x} {d} {y} {e} {z} p q r s t =
    ap (λ o. f o b c d e) p ∙ ap (λ o. f v o c d e) q ∙ ap (λ o. f v w o d e) r ∙ ap (λ o. f v w x o e) s ∙ ap (λ o. f v w x y o) t
