-- Texts that are added one after another.
use Rattle.std.proofs.Common.{◌≡◌, ℕ, List, ◌++◌, ap, ◌∙◌, append_assoc}

pub five : (a b c d e x y z u v w : List ℕ) → x ≡ w ++ a → y ≡ x ++ b → z ≡ y ++ c → u ≡ z ++ d → v ≡ u ++ e → v ≡ w ++ (a ++ b ++ c ++ d ++ e)
five a b c d e x y z u v w is_x is_y is_z is_u is_v =
    is_v ∙ ap (λ t. t ++ e) (is_u ∙ ap (λ t. t ++ d) (is_z ∙ ap (λ t. t ++ c) (is_y ∙ ap (λ t. t ++ b) is_x)))
    ∙ regroup
  where
    regroup : ((((w ++ a) ++ b) ++ c) ++ d) ++ e ≡ w ++ (a ++ b ++ c ++ d ++ e)
    regroup = simp append_assoc
