-- What the store is, as a service.
use Rattle.std.specs.Prelude.{◌≡◌, ◌≢◌, ℕ, Vec, List, [], ◌∷◌, Option, filter, flat_map, if◌then◌else◌, length, max, not}
use Rattle.std.specs.BTreeMap.{BTreeMap, get_by}
use Rattle.std.specs.Cmp.Lexicographic.{slice_cmp}
use Rattle.std.specs.Global.{Global}
use Rattle.std.specs.Ordering.{nat_cmp}
use Rattle.example_redis.specs.declared.life.Kept.{Kept}
use Rattle.example_redis.specs.declared.reply.Reply.{Reply}
use Rattle.example_redis.specs.declared.reply.Reply.TheVariants.{Count, Okay}
use Rattle.example_redis.specs.declared.request.Sweep.{Sweep}
use Rattle.example_redis.specs.declared.request.Sweep.TheVariants as sweep
use Rattle.example_redis.specs.declared.request.Timed.{Timed}
use Rattle.example_redis.specs.declared.store.Cell.{Cell}
use Rattle.example_redis.specs.Globs.{Part, matches, parts_of}
use Rattle.example_redis.specs.Lives.{Entry, entry_in, is_over, there_at}
use Rattle.example_redis.specs.Replies.{keys_in, shown_reply}
use Rattle.example_redis.specs.Values.{Deed, IsCounted, Of, All, Lists, Wish, turn_of, wish_of}

-- what a cell has under keys
abbrev pub Store : Type 0
Store = BTreeMap (Vec ℕ Global) Kept

-- the value of a key, where it has one, be its time over or not
abbrev pub entry_at : Store → List ℕ → Option Entry
entry_at store key = entry_in (get_by (λ other. slice_cmp nat_cmp key other.items) store)

-- the value of a key as it is seen at a moment
abbrev pub value_at : ℕ → Store → List ℕ → Option Entry
value_at now store key = there_at now (entry_at store key)

-- one key has this value then, where it has one, and all others have what they had
pub record Puts (key : List ℕ) (value : Option Entry) (before after : Store) : Type 0 where
  pub at_key : entry_at after key ≡ value
  pub others : (other : List ℕ) → other ≢ key → entry_at after other ≡ entry_at before other

-- A key is asked at a moment: a value whose time is over then isn't there. Its value is as the turn
-- has it, and so is the reply; no other key changes.
pub record IsServed (now : ℕ) (key : List ℕ) (deed : Deed) (before after : Store) (answer : Reply)
    : Type 0 where
  pub puts : Puts key (turn_of now deed (value_at now before key)).value before after
  pub reply : shown_reply answer ≡ (turn_of now deed (value_at now before key)).reply
  pub counted : IsCounted deed (value_at now before key) answer

-- the keys that have a value at a moment, with it
abbrev pub entries_there : ℕ → List (Vec ℕ Global × Kept) → List (Vec ℕ Global × Kept)
entries_there now entries = filter (λ entry. not (is_over now entry.1.until)) entries

-- DBSIZE and FLUSHALL, of one cell: the keys that have a value are counted, and all stay; or there
-- is none then
abbrev pub IsSwept : ℕ → Sweep → Store → Store → Reply → Type 0
IsSwept now sweep.Count before after answer =
    (after ≡ before) × (answer ≡ Count (length (entries_there now before.entries)))
IsSwept now sweep.Clear before after answer = (after.entries ≡ []) × (answer ≡ Okay)

-- a key, if it has a value at a moment and the parts of a pattern match it
abbrev pub name_there : ℕ → List Part → Vec ℕ Global → Kept → List (List ℕ)
name_there now parts key kept = if is_over now kept.until then []
    else if matches parts key.items then key.items ∷ [] else []

-- the keys of a cell that have a value at a moment and that the parts of a pattern match
abbrev pub names_there : ℕ → List Part → List (Vec ℕ Global × Kept) → List (List ℕ)
names_there now parts entries = flat_map (λ entry. name_there now parts entry.0 entry.1) entries

-- KEYS, of one cell: its keys that a pattern matches are listed, and all stay
abbrev pub IsListed : ℕ → List ℕ → Store → Store → Reply → Type 0
IsListed now pattern before after answer =
    (after ≡ before) × (keys_in answer ≡ names_there now (parts_of pattern) before.entries)

-- what is wished of a cell at a moment is done
abbrev pub Grants : ℕ → Wish → Store → Store → Reply → Type 0
Grants now (Of key deed) before after answer = IsServed now key deed before after answer
Grants now (All sweep) before after answer = IsSwept now sweep before after answer
Grants now (Lists pattern) before after answer = IsListed now pattern before after answer

-- A step of a cell: at the latest moment that it was told, so its time never goes back.
pub record IsStep (timed : Timed) (before after : Cell) (answer : Reply) : Type 0 where
  pub now : after.now ≡ max before.now timed.now
  pub grants : Grants after.now (wish_of timed.request) before.values after.values answer
