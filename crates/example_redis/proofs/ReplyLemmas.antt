-- One piece is put behind another.
use Rattle.std.proofs.Common.{◌≡◌, ℕ, List, ◌++◌, ◌∙◌, ap, append_assoc}
use Rattle.std.specs.Prelude.{Result, Ok, Err, OnOk}

pub put_behind : {A E : Type 0} (answer : Result A E) (old mid new front back text : List ℕ) → mid ≡ old ++ front → OnOk answer (new ≡ mid ++ back) → front ++ back ≡ text → OnOk answer (new ≡ old ++ text)
put_behind (Ok one) old mid new front back text first second is = second ∙ ap (λ (l : List ℕ). l ++ back) first ∙ append_assoc old front back ∙ ap (λ (l : List ℕ). old ++ l) is
put_behind (Err error) old mid new front back text first second is = tt

pub put_twice : (old mid new front back : List ℕ) → mid ≡ old ++ front → new ≡ mid ++ back → new ≡ old ++ (front ++ back)
put_twice old mid new front back first second = second ∙ ap (λ (l : List ℕ). l ++ back) first ∙ append_assoc old front back
