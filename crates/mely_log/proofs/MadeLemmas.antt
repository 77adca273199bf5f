-- A log's bytes, which are none, stand for any list: so a function that makes one may say which list goes with it.
use Rattle.std.proofs.Common.{List, ◌∷◌, [], refl}
use denote.RattleType.{RattleType}
use denote.Shadow.{pure_i}
use mir.Val.{Val, vcons, vnil, vstruct}
use seplogic.Ra.Ura.{Ura}
use types.Kit.{Goal, Item, Step, ‵}
use types.Logic.{Logic}
use Rattle.mely_log.specs.contracts.log.Log.{the_row}

-- a struct whose one field is a struct without fields
abbrev pub no_bytes : Val
no_bytes = vstruct (vcons (vstruct vnil) vnil)

abbrev pub log_of : (A : RattleType) → List A.Denot → (the_row A).Denot
log_of A items = record { of = record {}; items = items }

module _ {M : Type 1} {𝓤 : Ura M} {𝓛 : Logic 𝓤} {K : Type 0} {Γ : List (Item 𝓤)} {G : Goal 𝓤 𝓛.H} where
  pub makes_log : K → (A : RattleType) (items : List A.Denot)
      → Step K 𝓛 (‵ ((the_row A).own_val (log_of A items) (no_bytes ∷ [])) ∷ Γ) G Γ G
  makes_log t A items =
      pure_i t ((the_row A).own_val (log_of A items) (no_bytes ∷ []))
      ((λ vss. (tt, ((λ uss. (tt, tt)), tt))), tt)
      (((vstruct vnil ∷ [], tt), (refl, ((tt, (refl, tt)), tt))), tt)
