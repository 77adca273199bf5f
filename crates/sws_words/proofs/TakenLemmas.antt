-- What `clap` takes and finds at a command without subcommands, and what the
-- grammar gives for bundles.
use Rattle.std.proofs.Common.{◌≡◌, ◌∙◌, ◌==◌, ◌&&◌, ℕ, suc, Bool, true, false, not, List, [], ◌∷◌, map, Option, Some, None, refl, sym, ap, ap₂, true≢false, nat_le, le-leb, arith, length}
use Rattle.std.specs.Prelude.{◌||◌, if◌then◌else◌, option_and_then, is_some, fold, codes, IfSome, ⊤}
use Rattle.std.specs.Str.{bytes_eq}
use Rattle.clap.specs.Lexer.{long_of}
use Rattle.clap.specs.Walk.{Row, Rule, Text, walk, settled, finished, with_default, has_row, is_empty, nothing_held}
use Rattle.clap.specs.Simple.{App, Shape, entered}
use Rattle.clap.specs.Kinds.{Kinds, or_else}
use Rattle.clap.specs.Faults.{walk_fault, settle_fault, default_fault, defaults_fault, given_default_fault, check_fault, entered_fault, built_fault}
use Rattle.sws_words.specs.Grammar.{Given, Known, place, option, flag, is_among, given_by, by_name, with_value, before, looks_like_option, is_bundle, has_bundle}
use Rattle.sws_words.proofs.Clap.ClapStepLemmas.{idle_at}
use Rattle.sws_words.proofs.Clap.ClapWalkLemmas.{unless, clap_rows}
use Rattle.sws_words.proofs.Clap.ClapEndLemmas.{rows_of_walk}
use Rattle.sws_words.proofs.GivenRows.{IsKnown, AllKnown}

-- ---- what is given is known

before_known : (known : Known) (g : Given) (rest : Option (List Given)) → IsKnown known g → IfSome rest (AllKnown known) → IfSome (before g rest) (AllKnown known)
before_known known g None is all = tt
before_known known g (Some rest) is all = (is, all)

map_known : (known : Known) (words : List Text) → AllKnown known (map place words)
map_known known [] = tt
map_known known (word ∷ words) = (tt, map_known known words)

value_known : (known : Known) (name : Text) (v : Option Text) (rest : Option Text → Option (List Given)) → is_among name known.options ≡ true
    → IfSome (rest None) (AllKnown known) → IfSome (rest (Some name)) (AllKnown known) → IfSome (with_value name v rest) (AllKnown known)
value_known known name None rest is idle awaiting = awaiting
value_known known name (Some value) rest is idle awaiting = before_known known (option name value) (rest None) is idle

named_known : (known : Known) (o : Option (Text × Option Text)) (rest : Option Text → Option (List Given))
    → IfSome (rest None) (AllKnown known) → ((name : Text) → is_among name known.options ≡ true → IfSome (rest (Some name)) (AllKnown known))
    → IfSome (by_name known o rest) (AllKnown known)
named_known known None rest idle awaiting = tt
named_known known (Some (name, v)) rest idle awaiting = by_kind (is_among name known.options) (is_among name known.flags) v refl refl
  where
    by_kind : (o f : Bool) (v : Option Text) → is_among name known.options ≡ o → is_among name known.flags ≡ f → IfSome (by_name known (Some (name, v)) rest) (AllKnown known)
    by_kind true f v eo ef = rw eo (value_known known name v rest eo idle (awaiting name eo))
    by_kind false true None eo ef = rw (eo, ef) (before_known known (flag name) (rest None) ef idle)
    by_kind false true (Some value) eo ef = rw (eo, ef) tt
    by_kind false false v eo ef = rw (eo, ef) tt

both_known : (known : Known) (words : List Text)
    → IfSome (given_by known None words) (AllKnown known)
    × ((name : Text) → is_among name known.options ≡ true → IfSome (given_by known (Some name) words) (AllKnown known))
unfolding given_by
both_known known [] = (tt, λ name is. tt)
both_known known (word ∷ words) =
    let later = both_known known words in
    (idle (bytes_eq word (codes "--")) (looks_like_option word) refl refl later.0 later.1, λ name is. awaiting name is (looks_like_option word) refl later.0)
  where
    idle : (d l : Bool) → bytes_eq word (codes "--") ≡ d → looks_like_option word ≡ l → IfSome (given_by known None words) (AllKnown known)
        → ((name : Text) → is_among name known.options ≡ true → IfSome (given_by known (Some name) words) (AllKnown known))
        → IfSome (given_by known None (word ∷ words)) (AllKnown known)
    idle true l ed el later awaits = rw ed (map_known known words)
    idle false true ed el later awaits = rw (ed, el) (named_known known (long_of word) (λ awaited. given_by known awaited words) later awaits)
    idle false false ed el later awaits = rw (ed, el) (before_known known (place word) (given_by known None words) tt later)

    awaiting : (name : Text) → is_among name known.options ≡ true → (l : Bool) → looks_like_option word ≡ l → IfSome (given_by known None words) (AllKnown known)
        → IfSome (given_by known (Some name) (word ∷ words)) (AllKnown known)
    awaiting name is true el later = rw el tt
    awaiting name is false el later = rw el (before_known known (option name word) (given_by known None words) is later)

pub all_known : (known : Known) (words : List Text) → IfSome (given_by known None words) (AllKnown known)
all_known known words = (both_known known words).0

-- ---- bundles

two : (n : ℕ) → nat_le 2 (suc (suc n)) ≡ true
two n = le-leb 2 (suc (suc n)) (omega arith)

bundle_looks : (word : Text) → is_bundle word ≡ true → (looks_like_option word ≡ true) × (long_of word ≡ None)
bundle_looks [] e = absurd (true≢false (sym e))
bundle_looks (x ∷ []) e = absurd (true≢false (sym e))
bundle_looks (x ∷ y ∷ rest) e = by_bytes (x == 45) (y == 45) refl refl e
  where
    by_bytes : (p q : Bool) → (x == 45) ≡ p → (y == 45) ≡ q → (p && not q) ≡ true → (looks_like_option (x ∷ y ∷ rest) ≡ true) × (long_of (x ∷ y ∷ rest) ≡ None)
    by_bytes false q hp hq t = absurd (true≢false (sym t))
    by_bytes true true hp hq t = absurd (true≢false (sym t))
    by_bytes true false hp hq t = (rw (hp, two (length rest)) refl, rw (hp, hq) refl)

none_before : (g : Given) (o : Option (List Given)) → o ≡ None → before g o ≡ None
none_before g o e = ap (before g) e

named_none : (known : Known) (o : Option (Text × Option Text)) (rest : Option Text → Option (List Given)) → ((a : Option Text) → rest a ≡ None) → by_name known o rest ≡ None
named_none known None rest none = refl
named_none known (Some (name, v)) rest none = by_kind (is_among name known.options) (is_among name known.flags) v refl refl
  where
    by_kind : (o f : Bool) (v : Option Text) → is_among name known.options ≡ o → is_among name known.flags ≡ f → by_name known (Some (name, v)) rest ≡ None
    by_kind true f None eo ef = rw eo (none (Some name))
    by_kind true f (Some value) eo ef = rw eo (none_before (option name value) (rest None) (none None))
    by_kind false true None eo ef = rw (eo, ef) (none_before (flag name) (rest None) (none None))
    by_kind false true (Some value) eo ef = rw (eo, ef) refl
    by_kind false false v eo ef = rw (eo, ef) refl

-- words with a bundle before `--` give nothing
pub bundle_gives_none : (known : Known) (words : List Text) → has_bundle words ≡ true → (a : Option Text) → given_by known a words ≡ None
unfolding given_by
bundle_gives_none known [] e a = absurd (true≢false (sym e))
bundle_gives_none known (word ∷ words) e None = by_word (bytes_eq word (codes "--")) (is_bundle word) (looks_like_option word) refl refl refl (bundle_gives_none known words) e
  where
    by_word : (d b l : Bool) → bytes_eq word (codes "--") ≡ d → is_bundle word ≡ b → looks_like_option word ≡ l
        → (has_bundle words ≡ true → (a : Option Text) → given_by known a words ≡ None)
        → (if d then false else if b then true else has_bundle words) ≡ true → given_by known None (word ∷ words) ≡ None
    by_word true b l ed eb el later t = absurd (true≢false (sym t))
    by_word false true l ed eb el later t = let is = bundle_looks word eb in rw (ed, is.0, is.1) refl
    by_word false false true ed eb el later t = rw (ed, el) (named_none known (long_of word) (λ awaited. given_by known awaited words) (later t))
    by_word false false false ed eb el later t = rw (ed, el) (none_before (place word) (given_by known None words) (later t None))
bundle_gives_none known (word ∷ words) e (Some name) = by_word (bytes_eq word (codes "--")) (is_bundle word) (looks_like_option word) refl refl refl (bundle_gives_none known words) e
  where
    by_word : (d b l : Bool) → bytes_eq word (codes "--") ≡ d → is_bundle word ≡ b → looks_like_option word ≡ l
        → (has_bundle words ≡ true → (a : Option Text) → given_by known a words ≡ None)
        → (if d then false else if b then true else has_bundle words) ≡ true → given_by known (Some name) (word ∷ words) ≡ None
    by_word d b true ed eb el later t = rw el refl
    by_word true b false ed eb el later t = absurd (true≢false (sym t))
    by_word false true false ed eb el later t = absurd (true≢false (sym (bundle_looks word eb).0 ∙ el))
    by_word false false false ed eb el later t = rw el (none_before (option name word) (given_by known None words) (later t None))

-- ---- the end of the parse

-- each rule's default is one that it takes
abbrev pub TakeDefaults : List Rule → Type 0
TakeDefaults [] = ⊤
TakeDefaults (a ∷ rules) = (given_default_fault a a.defaults ≡ []) × TakeDefaults rules

default_taken : (rows : List Row) (a : Rule) → given_default_fault a a.defaults ≡ [] → default_fault rows a ≡ []
default_taken rows a e = by_test (has_row a.id rows || is_empty a.defaults)
  where
    by_test : (t : Bool) → (if t then [] else given_default_fault a a.defaults) ≡ []
    by_test true = refl
    by_test false = e

defaults_taken : (rules : List Rule) (rows : List Row) → TakeDefaults rules → defaults_fault rows rules ≡ []
unfolding defaults_fault
defaults_taken [] rows all = refl
defaults_taken (a ∷ rules) rows all = ap₂ or_else (default_taken rows a all.0) (defaults_taken rules (with_default rows a) all.1)

-- the rows with the defaults, where the last checks pass
abbrev pub checked : Shape → List Row → Option (List Row)
checked s rows = unless (check_fault s (fold with_default rows s.rules) false) (Some (fold with_default rows s.rules))

split : (s : Shape) (walks settles : Kinds) (rows : List Row)
    → unless (or_else walks (or_else [] (or_else settles (or_else [] (check_fault s (fold with_default rows s.rules) false))))) (Some (fold with_default rows s.rules))
    ≡ option_and_then (checked s) (unless (or_else walks settles) (Some rows))
split s (k ∷ kinds) settles rows = refl
split s [] (k ∷ kinds) rows = refl
split s [] [] rows = refl

abbrev pub alone : Shape → App
alone s = record { top = s; subs = [] }

none_entered : (s : Shape) (stop : Option (Text × List Text)) → entered_fault (alone s) stop ≡ []
none_entered s None = refl
none_entered s (Some p) = refl

not_entered : (s : Shape) (stop : Option (Text × List Text)) → is_some (entered (alone s) stop) ≡ false
not_entered s None = refl
not_entered s (Some p) = refl

-- the rows that `clap` finds, where it takes the words
pub taken : (s : Shape) → TakeDefaults s.rules → (words : List Text)
    → unless (built_fault (alone s) nothing_held words) (Some (finished s.rules (walk s.rules [] nothing_held words).held))
    ≡ option_and_then (checked s) (clap_rows s (idle_at nothing_held 1) words)
taken s defaults words =
    let end = walk s.rules [] nothing_held words in
    let walks = walk_fault s [] (idle_at nothing_held 1) words in
    let settles = settle_fault s.rules s.args_override_self end.held in
    let rows = (settled s.rules end.held).rows in
    let found = fold with_default rows s.rules in
    ap (λ b. unless (or_else walks (or_else b (or_else settles (or_else (defaults_fault rows s.rules) (check_fault s found (is_some (entered (alone s) end.stopped))))))) (Some found)) (none_entered s end.stopped)
    ∙ ap (λ d. unless (or_else walks (or_else settles (or_else d (check_fault s found (is_some (entered (alone s) end.stopped)))))) (Some found)) (defaults_taken s.rules rows defaults)
    ∙ ap (λ (b : Bool). unless (or_else walks (or_else settles (check_fault s found b))) (Some found)) (not_entered s end.stopped)
    ∙ split s walks settles rows
    ∙ ap (option_and_then (checked s)) (sym (rows_of_walk s (idle_at nothing_held 1) words))
