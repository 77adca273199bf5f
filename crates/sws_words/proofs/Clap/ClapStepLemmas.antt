-- What `clap` makes of one word of each kind, as a step of its walk and as the fault of that step.
use Rattle.std.proofs.Common.{◌≡◌, ℕ, true, false, List, [], ◌∷◌, Some, None, refl}
use Rattle.std.specs.Str.{bytes_eq}
use Rattle.clap.specs.Lexer.{long_of, short_of}
use Rattle.clap.specs.Walk.{Held, Rule, Text, Walk, idle, option, walked, reacted, settled, pushed, arg_by_long, arg_by_id, arg_by_index, takes_values, most_values, pending_count, to_positional, to_positional}
use Rattle.clap.specs.Simple.{Shape}
use Rattle.clap.specs.Kinds.{Kinds, or_else}
use Rattle.clap.specs.Faults.{turn_fault, react_fault}

-- the walk between two words, where nothing waits, and where an option waits for its value
abbrev pub idle_at : Held → ℕ → Walk
idle_at h position = record { held = h; waiting = idle; position = position; is_trailing = false; stopped = None }

abbrev pub awaiting_at : Text → Held → ℕ → Walk
awaiting_at id h position = record { held = h; waiting = option id; position = position; is_trailing = false; stopped = None }

pub or_else_nil : (kinds : Kinds) → or_else kinds [] ≡ kinds
or_else_nil [] = refl
or_else_nil (k ∷ kinds) = refl

-- `--name=value`
pub attached : (c : List Rule) (h : Held) (position : ℕ) (word name v : Text) (a : Rule)
    → bytes_eq word (45 ∷ 45 ∷ []) ≡ false → long_of word ≡ Some (name, Some v) → arg_by_long c name ≡ Some a → takes_values a ≡ true
    → walked c [] (idle_at h position) word ≡ idle_at (reacted c a (v ∷ []) h) position
unfolding walked
attached c h position word name v a e1 e2 e3 e4 = rw (e1, e2, e3, e4) refl

pub attached-fault : (s : Shape) (h : Held) (position : ℕ) (word name v : Text) (a : Rule)
    → bytes_eq word (45 ∷ 45 ∷ []) ≡ false → long_of word ≡ Some (name, Some v) → arg_by_long s.rules name ≡ Some a → takes_values a ≡ true
    → turn_fault s [] (idle_at h position) word ≡ react_fault s.rules s.args_override_self a (v ∷ []) h
attached-fault s h position word name v a e1 e2 e3 e4 = rw (e1, e2, e3, e4) (or_else_nil (react_fault s.rules s.args_override_self a (v ∷ []) h))

-- `--name`, of an option
pub awaits : (c : List Rule) (h : Held) (position : ℕ) (word name : Text) (a : Rule)
    → bytes_eq word (45 ∷ 45 ∷ []) ≡ false → long_of word ≡ Some (name, None) → arg_by_long c name ≡ Some a → takes_values a ≡ true
    → walked c [] (idle_at h position) word ≡ awaiting_at a.id (record (settled c h) { pending = Some (a.id, []) }) position
unfolding walked
awaits c h position word name a e1 e2 e3 e4 = rw (e1, e2, e3, e4) refl

-- `--name`, of a flag
pub flagged : (c : List Rule) (h : Held) (position : ℕ) (word name : Text) (a : Rule)
    → bytes_eq word (45 ∷ 45 ∷ []) ≡ false → long_of word ≡ Some (name, None) → arg_by_long c name ≡ Some a → takes_values a ≡ false
    → walked c [] (idle_at h position) word ≡ idle_at (reacted c a [] h) position
unfolding walked
flagged c h position word name a e1 e2 e3 e4 = rw (e1, e2, e3, e4) refl

-- `--`
pub dashes : (c : List Rule) (h : Held) (position : ℕ) (word : Text) → bytes_eq word (45 ∷ 45 ∷ []) ≡ true
    → walked c [] (idle_at h position) word ≡ record (idle_at h position) { is_trailing = true }
unfolding walked
dashes c h position word e1 = rw e1 refl

-- a word that is no option
pub plain : (c : List Rule) (h : Held) (position : ℕ) (word : Text)
    → bytes_eq word (45 ∷ 45 ∷ []) ≡ false → long_of word ≡ None → short_of word ≡ None
    → walked c [] (idle_at h position) word ≡ to_positional c (arg_by_index c position) word (idle_at h position) h
unfolding walked
plain c h position word e1 e2 e3 = rw (e1, e2, e3) refl

-- the value that an option waited for
pub gets : (c : List Rule) (h : Held) (position : ℕ) (word id : Text) (a : Rule)
    → bytes_eq word (45 ∷ 45 ∷ []) ≡ false → long_of word ≡ None → short_of word ≡ None
    → arg_by_id c id ≡ Some a → Rattle.std.specs.Prelude.nat_lt (pending_count a (pushed id word h).pending) (most_values a) ≡ false
    → walked c [] (awaiting_at id h position) word ≡ idle_at (pushed id word h) position
unfolding walked
gets c h position word id a e1 e2 e3 e4 e5 = rw (e1, e2, e3, e4, e5) refl
