-- A stamp's bytes, which are none, stand for any number: so a function that makes one may say which number goes with it.
use Rattle.std.proofs.Common.{List, ◌∷◌, [], ℕ, refl}
use denote.Shadow.{pure_i}
use mir.Val.{Val, vcons, vnil, vstruct}
use seplogic.Ra.Ura.{Ura}
use types.Kit.{Goal, Item, Step, ‵}
use types.Logic.{Logic}
use Rattle.mely_note.specs.contracts.stamp.Stamp.{the_row}

-- a struct whose one field is a struct without fields
abbrev pub no_bytes : Val
no_bytes = vstruct (vcons (vstruct vnil) vnil)

abbrev pub stamp_of : ℕ → the_row.Denot
stamp_of number = record { of = record {}; number = number }

module _ {M : Type 1} {𝓤 : Ura M} {𝓛 : Logic 𝓤} {K : Type 0} {Γ : List (Item 𝓤)} {G : Goal 𝓤 𝓛.H} where
  pub makes_stamp : K → (number : ℕ) → Step K 𝓛 (‵ (the_row.own_val (stamp_of number) (no_bytes ∷ [])) ∷ Γ) G Γ G
  makes_stamp t number =
      pure_i t (the_row.own_val (stamp_of number) (no_bytes ∷ []))
      ((λ vss. (tt, ((λ uss. (tt, tt)), tt))), tt)
      (((vstruct vnil ∷ [], tt), (refl, ((tt, (refl, tt)), tt))), tt)
