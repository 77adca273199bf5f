-- A folder's answer by the key of its menu.
use Rattle.std.proofs.Common.{◌≡◌, ◌≢◌, ℕ, ◌-◌, ◌&&◌, Bool, true, false, not, cond, List, [], ◌∷◌, ◌++◌, length, take, refl, sym, ap, ◌∙◌, Option, Some, None, arith, length-append}
use Rattle.std.specs.Prelude.{nat_eq}
use Rattle.std.specs.List.{ends_with}
use Rattle.std.specs.Str.{bytes_eq}
use Rattle.std.proofs.lemmas.Bool.Decides.{Decides-eqb}
use Rattle.std.proofs.lemmas.Slice.Eq.{bytes_eq-Decides, ends_is}
use Rattle.sws_gopher.specs.Texts.{without_last}
use Rattle.sws_gopher.specs.Menus.{Place, menu_of}
use Rattle.sws_gopher.specs.Replies.{is_folder, begins_name, reply_to_folder, not_found}
use Rattle.sws_gopher.specs.Halls.{menu_of_key}

-- what is kept, or the answer that there is nothing
abbrev pub or_not_found : Option (List ℕ) → List ℕ
or_not_found None = not_found
or_not_found (Some menu) = menu

-- a folder by its path
by_path : (place : Place) (key : List ℕ) → key ≢ [] → key ++ 47 ∷ [] ≢ 47 ∷ []
    → or_not_found (menu_of_key place key) ≡ cond (is_folder place.files (key ++ 47 ∷ [])) (menu_of place (key ++ 47 ∷ [])) not_found
by_path place [] some more = absurd (some refl)
by_path place (k ∷ key) some more =
    by_test (begins_name place.files ((k ∷ key) ++ 47 ∷ []))
    ∙ ap (λ b. cond (not b && begins_name place.files ((k ∷ key) ++ 47 ∷ [])) (menu_of place ((k ∷ key) ++ 47 ∷ [])) not_found) (sym (different (bytes_eq ((k ∷ key) ++ 47 ∷ []) (47 ∷ [])) refl))
  where
    by_test : (b : Bool) → or_not_found (cond b (Some (menu_of place ((k ∷ key) ++ 47 ∷ []))) None) ≡ cond (not false && b) (menu_of place ((k ∷ key) ++ 47 ∷ [])) not_found
    by_test true = refl
    by_test false = refl

    different : (b : Bool) → bytes_eq ((k ∷ key) ++ 47 ∷ []) (47 ∷ []) ≡ b → bytes_eq ((k ∷ key) ++ 47 ∷ []) (47 ∷ []) ≡ false
    different true e = absurd (more ((bytes_eq-Decides ((k ∷ key) ++ 47 ∷ []) (47 ∷ [])).0 e))
    different false e = e

not_one : (name : List ℕ) → name ≢ [] → name ++ 47 ∷ [] ≢ 47 ∷ []
not_one [] some = absurd (some refl)
not_one (byte ∷ name) some = λ e. let l = ap length e in omega (arith, length-append name (47 ∷ []))

-- the answer to a name that is no file's is the menu of its key
pub folder-by_key : (place : Place) (name : List ℕ) → name ≢ [] → name ≢ 47 ∷ []
    → or_not_found (menu_of_key place (without_last 47 name)) ≡ reply_to_folder place name
folder-by_key place name some more = by_end (ends_with nat_eq name (47 ∷ [])) refl
  where
    by_end : (b : Bool) → ends_with nat_eq name (47 ∷ []) ≡ b
        → or_not_found (menu_of_key place (without_last 47 name)) ≡ reply_to_folder place name
    by_end true e =
        let whole : name ≡ take (length name - 1) name ++ 47 ∷ [] = (ends_is Decides-eqb name (47 ∷ []) (ends_with nat_eq name (47 ∷ [])) refl).0 e in
        ap (λ b. or_not_found (menu_of_key place (cond b (take (length name - 1) name) name))) e
        ∙ by_path place (take (length name - 1) name) (λ none. more (whole ∙ ap (λ k. k ++ 47 ∷ []) none)) (λ one. more (whole ∙ one))
        ∙ ap (λ p. cond (is_folder place.files p) (menu_of place p) not_found) (sym whole ∙ sym (ap (λ b. cond b name (name ++ 47 ∷ [])) e))
    by_end false e =
        ap (λ b. or_not_found (menu_of_key place (cond b (take (length name - 1) name) name))) e
        ∙ by_path place name some (not_one name some)
        ∙ ap (λ p. cond (is_folder place.files p) (menu_of place p) not_found) (sym (ap (λ b. cond b name (name ++ 47 ∷ [])) e))
