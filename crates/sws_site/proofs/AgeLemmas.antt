-- For how many seconds a file may be kept, by the end of its name.
use Rattle.std.specs.Prelude.{◌≡◌, ℕ, ◌+◌, ◌-◌, ◌<◌, ◌≤◌, ◌^◌, ◌&&◌, nat_le, Bool, true, false, if◌then◌else◌, List, [], ◌∷◌, length, get_or, take, drop, Option, Some, None, is_some}
use Rattle.std.specs.List.{list_all}
use Rattle.std.specs.Option.{option_or, ForSome}
use Rattle.std.specs.Str.{bytes_eq}
use Rattle.std.proofs.Common.{suc, refl, sym, ap, ◌∙◌, arith, drop-cons, add-one, leb-true, take_all, length-drop}
use Rattle.sws_site.specs.declared.options.SiteOptions.{SiteOptions}
use Rattle.sws_site.specs.Ages.{age_of}
use Rattle.sws_site.specs.OwnAges.{own_age, longest_age, are_short_ages, age_limit}

is-none : (found : Option ℕ) → is_some found ≡ false → found ≡ None
is-none None none = refl
is-none (Some seconds) none = absurd (cc)

-- what is left of the name from a place on has no age of its own: it has that of what is left behind
-- its first byte
pub longest_age-next : (ages : List (List ℕ × ℕ)) (name : List ℕ) (start : ℕ) (found : Option ℕ) → start < length name
    → found ≡ own_age ages (take (length name - start) (drop start name)) → is_some found ≡ false
    → longest_age ages (drop (start + 1) name) ≡ longest_age ages (drop start name)
longest_age-next ages name start found within own none =
    let left : drop start name ≡ get_or name start 0 ∷ drop (suc start) name = drop-cons name start 0 within in
    let all : take (length name - start) (drop start name) ≡ drop start name = take_all (length name - start) (drop start name) (omega (arith, length-drop start name)) in
    let nothing : own_age ages (get_or name start 0 ∷ drop (suc start) name) ≡ None = ap (own_age ages) (sym (all ∙ left)) ∙ sym own ∙ is-none found none in
    ap (λ n. longest_age ages (drop n name)) (add-one start)
    ∙ ap (λ o. option_or o (longest_age ages (drop (suc start) name))) (sym nothing)
    ∙ ap (longest_age ages) (sym left)

-- ---- no age is longer than 32 bits can say

both : (a b : Bool) → (a && b) ≡ true → (a ≡ true) × (b ≡ true)
both true b e = (refl, e)
both false b e = absurd (cc)

abbrev IsShort : Option ℕ → Type 0
IsShort found = ForSome found (λ seconds. seconds < 2 ^ 32)

own_age-short : (ages : List (List ℕ × ℕ)) (end : List ℕ) → are_short_ages ages ≡ true → IsShort (own_age ages end)
own_age-short [] end short = λ seconds given. absurd (cc)
own_age-short (row ∷ rows) end short = by_test (bytes_eq row.0 end) (own_age-short rows end parts.1)
  where
    parts : (nat_le row.1 age_limit ≡ true) × (are_short_ages rows ≡ true)
    parts = both (nat_le row.1 age_limit) (are_short_ages rows) short

    by_test : (t : Bool) → IsShort (own_age rows end) → IsShort (if t then Some row.1 else own_age rows end)
    by_test true later = λ seconds given. (let same : row.1 ≡ seconds = cc in let few = leb-true row.1 age_limit parts.0 in omega (arith, same, few))
    by_test false later = later

or-short : (one other : Option ℕ) → IsShort one → IsShort other → IsShort (option_or one other)
or-short None other first second = second
or-short (Some seconds) other first second = first

longest_age-short : (ages : List (List ℕ × ℕ)) (name : List ℕ) → are_short_ages ages ≡ true → IsShort (longest_age ages name)
longest_age-short ages [] short = λ seconds given. absurd (cc)
longest_age-short ages (byte ∷ bytes) short =
    or-short (own_age ages (byte ∷ bytes)) (longest_age ages bytes) (own_age-short ages (byte ∷ bytes) short) (longest_age-short ages bytes short)

pub age_of-short : (options : SiteOptions) (name : List ℕ) → ForSome (age_of options name) (λ seconds. seconds < 2 ^ 32)
age_of-short options name =
    or-short (longest_age options.added.ages name) options.added.max_age (longest_age-short options.added.ages name options.added.short_ages) options.added.short_age
