-- A name is looked for among the commands, one after another.
use Rattle.std.proofs.Common.{◌≡◌, ◌<◌, ◌+◌, ℕ, List, ◌∷◌, Some, Bool, true, false, length, get_or, drop, ◌∙◌, ap, add-one, drop-cons, if◌then◌else◌}
use Rattle.std.specs.Str.{str_eq_ignore_ascii_case}
use Rattle.example_redis.specs.declared.verb.Verb.{Verb}
use Rattle.example_redis.specs.Verbs.{name_of, verb_among}

at_first : (name : List ℕ) (verbs : List Verb) (i : ℕ) (d : Verb) → i < length verbs → verb_among name (drop i verbs) ≡ (if str_eq_ignore_ascii_case name (name_of (get_or verbs i d)) then Some (get_or verbs i d) else verb_among name (drop (i + 1) verbs))
at_first name verbs i d low = ap (verb_among name) (let step : drop i verbs ≡ get_or verbs i d ∷ drop (i + 1) verbs = rw (add-one, drop-cons verbs i d) in step)

pub verb_found : (name : List ℕ) (verbs : List Verb) (i : ℕ) (d : Verb) (word : List ℕ) (is : Bool) → i < length verbs → word ≡ name_of (get_or verbs i d) → is ≡ str_eq_ignore_ascii_case name word → is ≡ true → verb_among name (drop i verbs) ≡ Some (get_or verbs i d)
verb_found name verbs i d word is low named tests so = at_first name verbs i d low ∙ ap (λ (b : Bool). if b then Some (get_or verbs i d) else verb_among name (drop (i + 1) verbs)) (ap (str_eq_ignore_ascii_case name) (let back : name_of (get_or verbs i d) ≡ word = cc in back) ∙ (let holds : str_eq_ignore_ascii_case name word ≡ true = cc in holds))

pub verb_passed : (name : List ℕ) (verbs : List Verb) (i : ℕ) (d : Verb) (word : List ℕ) (is : Bool) → i < length verbs → word ≡ name_of (get_or verbs i d) → is ≡ str_eq_ignore_ascii_case name word → is ≡ false → verb_among name (drop i verbs) ≡ verb_among name (drop (i + 1) verbs)
verb_passed name verbs i d word is low named tests so = at_first name verbs i d low ∙ ap (λ (b : Bool). if b then Some (get_or verbs i d) else verb_among name (drop (i + 1) verbs)) (ap (str_eq_ignore_ascii_case name) (let back : name_of (get_or verbs i d) ≡ word = cc in back) ∙ (let holds : str_eq_ignore_ascii_case name word ≡ false = cc in holds))
