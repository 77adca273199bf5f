-- What `clap` makes of all words behind a command: what the grammar gives, one thing after another.
use Rattle.std.proofs.Common.{◌≡◌, ◌∙◌, ◌&&◌, ◌+◌, ℕ, Bool, true, false, List, [], ◌∷◌, map, Option, Some, None, refl, sym, ap, min}
use Rattle.clap.specs.Lexer.{usize_max}
use Rattle.clap.specs.Walk.{Held, Row, Rule, Text, Walk, Waiting, idle, walked, settled, pushed, used, arg_by_long, arg_by_id, arg_by_index, is_pending, is_multiple, takes_several}
use Rattle.clap.specs.Simple.{Shape}
use Rattle.clap.specs.Kinds.{Kinds}
use Rattle.clap.specs.Faults.{turn_fault, settle_fault, use_fault}
use Rattle.clap.specs.declared.error.kind.ErrorKind.TheVariants as kind
use Rattle.sws_words.specs.Grammar.{Given, place}
use Rattle.sws_words.specs.Grammar as grammar

-- the value, where there is no fault
abbrev pub unless : {X : Type 0} → Kinds → Option X → Option X
unless [] x = x
unless (k ∷ kinds) x = None

-- the rows, once what is pending is used
abbrev pub ends : Shape → Held → Option (List Row)
ends s h = unless (settle_fault s.rules s.args_override_self h) (Some (settled s.rules h).rows)

-- the rows at the end of the words, where nothing is at fault
abbrev pub clap_rows : Shape → Walk → List Text → Option (List Row)
clap_rows s w [] = ends s w.held
clap_rows s w (word ∷ words) = unless (turn_fault s [] w word) (clap_rows s (walked s.rules [] w word) words)

-- the rows with one more use
abbrev pub add : Shape → Option Rule → List Text → Option (List Row) → Option (List Row)
add s a values None = None
add s None values (Some rows) = None
add s (Some a) values (Some rows) = unless (use_fault s.args_override_self a values rows) (Some (used a values rows))

-- the rows with all that is given
abbrev pub add_all : Shape → Option (List Row) → ℕ → List Given → Option (List Row)
add_all s rows p [] = rows
add_all s rows p (place word ∷ rest) = add_all s (add s (arg_by_index s.rules p) (word ∷ []) rows) (min (p + 1) usize_max) rest
add_all s rows p (grammar.option name value ∷ rest) = add_all s (add s (arg_by_long s.rules name) (value ∷ []) rows) p rest
add_all s rows p (grammar.flag name ∷ rest) = add_all s (add s (arg_by_long s.rules name) [] rows) p rest

pub none_added : (s : Shape) (p : ℕ) (given : List Given) → add_all s None p given ≡ None
none_added s p [] = refl
none_added s p (place word ∷ rest) = none_added s (min (p + 1) usize_max) rest
none_added s p (grammar.option name value ∷ rest) = none_added s p rest
none_added s p (grammar.flag name ∷ rest) = none_added s p rest

-- a fault before a use is one of all
pub fault_first : (s : Shape) (faults : Kinds) (a : Option Rule) (values : List Text) (rows : List Row) (p : ℕ) (given : List Given)
    → unless faults (add_all s (add s a values (Some rows)) p given) ≡ add_all s (add s a values (unless faults (Some rows))) p given
fault_first s [] a values rows p given = refl
fault_first s (k ∷ kinds) a values rows p given = sym (none_added s p given)

pub no_rule : (s : Shape) (values : List Text) (rows : Option (List Row)) (p : ℕ) (given : List Given) → add_all s (add s None values rows) p given ≡ None
no_rule s values None p given = none_added s p given
no_rule s values (Some rows) p given = none_added s p given

-- ---- what a command's rules are

-- the rule of a place
pub record IsPlace (c : List Rule) (a : Rule) : Type 0 where
  pub by_id : arg_by_id c a.id ≡ Some a
  pub one : takes_several a ≡ false
  pub once : is_multiple a ≡ false
  pub goes_on : a.trailing_var_arg ≡ false

pub and_false : (a b : Bool) → b ≡ false → (a && b) ≡ false
and_false true b e = e
and_false false b e = refl

-- ---- after `--`

abbrev pub trailing_at : Waiting → Held → ℕ → Walk
trailing_at waiting h position = record { held = h; waiting = waiting; position = position; is_trailing = true; stopped = None }

-- the place of a word after `--`, and what is held then
abbrev pub placed : List Rule → Rule → Text → Held → Held
placed c a word h = pushed a.id word (settled c h)

module _ (s : Shape) (leaf : s.is_leaf ≡ true) (places : (p : ℕ) (a : Rule) → arg_by_index s.rules p ≡ Some a → IsPlace s.rules a) where
  stray-trailing : (waiting : Waiting) (h : Held) (p : ℕ) (word : Text) → arg_by_index s.rules p ≡ None
      → turn_fault s [] (trailing_at waiting h p) word ≡ kind.UnknownArgument ∷ []
  stray-trailing waiting h p word e = rw (e, leaf) refl

  place-trailing-fault : (waiting : Waiting) (h : Held) (p : ℕ) (word : Text) (a : Rule) → arg_by_index s.rules p ≡ Some a → takes_several a ≡ false
      → turn_fault s [] (trailing_at waiting h p) word ≡ settle_fault s.rules s.args_override_self h
  place-trailing-fault waiting h p word a e one = rw (e, and_false (is_pending a h.pending) (takes_several a) one) refl

  place-trailing : (waiting : Waiting) (h : Held) (p : ℕ) (word : Text) (a : Rule) → arg_by_index s.rules p ≡ Some a → IsPlace s.rules a
      → walked s.rules [] (trailing_at waiting h p) word ≡ trailing_at idle (placed s.rules a word h) (min (p + 1) usize_max)
  unfolding walked
  place-trailing waiting h p word a e is = rw (e, and_false (is_pending a h.pending) (takes_several a) is.one, is.once) refl

  pub placed-ends : (h : Held) (word : Text) (a : Rule) → arg_by_id s.rules a.id ≡ Some a
      → ends s (placed s.rules a word h) ≡ add s (Some a) (word ∷ []) (Some (settled s.rules h).rows)
  placed-ends h word a e = rw e refl

  pub after_dashes : (words : List Text) (waiting : Waiting) (h : Held) (p : ℕ)
      → clap_rows s (trailing_at waiting h p) words ≡ add_all s (ends s h) p (map place words)
  after_dashes [] waiting h p = refl
  after_dashes (word ∷ words) waiting h p =
      by_place (λ a. after_dashes words idle (placed s.rules a word h) (min (p + 1) usize_max)) (arg_by_index s.rules p) refl
    where
      rest : List Given
      rest = map place words

      next : ℕ
      next = min (p + 1) usize_max

      by_place : ((a : Rule) → clap_rows s (trailing_at idle (placed s.rules a word h) next) words ≡ add_all s (ends s (placed s.rules a word h)) next rest)
          → (o : Option Rule) → arg_by_index s.rules p ≡ o
          → clap_rows s (trailing_at waiting h p) (word ∷ words) ≡ add_all s (add s (arg_by_index s.rules p) (word ∷ []) (ends s h)) next rest
      by_place later None e =
          ap (λ faults. unless faults (clap_rows s (walked s.rules [] (trailing_at waiting h p) word) words)) (stray-trailing waiting h p word e)
          ∙ sym (ap (λ o. add_all s (add s o (word ∷ []) (ends s h)) next rest) e ∙ no_rule s (word ∷ []) (ends s h) next rest)
      by_place later (Some a) e =
          let is = places p a e in
          let faults = settle_fault s.rules s.args_override_self h in
          ap (λ kinds. unless kinds (clap_rows s (walked s.rules [] (trailing_at waiting h p) word) words)) (place-trailing-fault waiting h p word a e is.one)
          ∙ ap (λ w. unless faults (clap_rows s w words)) (place-trailing waiting h p word a e is)
          ∙ ap (unless faults) (later a)
          ∙ ap (λ rows. unless faults (add_all s rows next rest)) (placed-ends h word a is.by_id)
          ∙ fault_first s faults (Some a) (word ∷ []) (settled s.rules h).rows next rest
          ∙ sym (ap (λ o. add_all s (add s o (word ∷ []) (ends s h)) next rest) e)
