-- The rule of a lock: what holds of its words, its slot and what its seats know, between any two
-- steps. One word is 0 while nobody is inside, and otherwise one more than the number of the pass
-- inside. The next is the length of the history. Those before them are there only so that no other
-- lock's words lie beside, and the rule says nothing of them. The slot has the value.
use Rattle.std.specs.Prelude.{◌≡◌, ◌⊎◌, ℕ, ◌+◌, ◌<◌, ◌≤◌, true, false, List, [], ◌∷◌, length, slice_index, Option, Some}
use Rattle.std.specs.List.{AllByRecursion}
use mathlib.Core.Option.{some}
use lib.ListN.{get_elem?}
use Rattle.atomic_table.specs.Table.{State}
use Rattle.mely_lock.specs.declared.claim.Claim.{Claim}
use Rattle.mely_lock.specs.declared.seat_knowledge.SeatKnowledge.{SeatKnowledge}
use Rattle.mely_lock.specs.Seen.{notes_of, OthersSince}
use Rattle.mely_lock.specs.Views.{within, share_count, claim_count}

-- the place of the word that says who is inside, behind eight words that nobody touches
abbrev pub inside_word : ℕ
inside_word = 8

-- the place of the word that has the length of the history: it changes exactly
-- where a pass leaves a note
abbrev pub notes_word : ℕ
notes_word = 9

-- how many words a lock has: the two that are used are the last
abbrev pub lock_words : ℕ
lock_words = 10

-- P holds of each element and its place
abbrev pub EachAt : {A : Type 0} → (ℕ → A → Type 0) → List A → Type 0
EachAt {A} P xs = (k : ℕ) (x : A) → get_elem? xs k ≡ some x → P k x

-- P holds of each claim of each seat
abbrev pub EachClaim : {N F : Type 0} → (Claim N F → Type 0) → List (SeatKnowledge N F) → Type 0
EachClaim P views = EachAt (λ _ v. AllByRecursion P v.claims) views

module _ {W N F : Type 0} where
  -- nobody is inside
  pub record IsOpen (s : State (Option W) (SeatKnowledge N F)) : Type 0 where
    pub free : slice_index s.words inside_word ≡ 0
    pub all_outside : EachAt (λ _ v. v.inside ≡ false) s.views

  -- one seat is inside, which has one claim
  pub record IsShut (s : State (Option W) (SeatKnowledge N F)) : Type 0 where
    pub seat : ℕ
    pub holder : Claim N F
    pub taken : slice_index s.words inside_word ≡ holder.number + 1
    pub there : get_elem? s.views seat ≡ some (within holder)
    pub alone : EachAt (λ k v. v.inside ≡ true → k ≡ seat) s.views

  -- the value is in the slot
  abbrev pub IsHome : W → State (Option W) (SeatKnowledge N F) → Type 0
  IsHome x s = s.homes ≡ some (Some x) ∷ []

  -- the first part: the one word names who is inside
  abbrev pub DoorTells : State (Option W) (SeatKnowledge N F) → Type 0
  DoorTells s = IsOpen s ⊎ IsShut s

  -- the second part: the value is away from the slot only while a seat is inside
  abbrev pub AwayWhileInside : State (Option W) (SeatKnowledge N F) → Type 0
  AwayWhileInside s = IsOpen s → (x : W) × IsHome x s

  -- the third part: the other word has the length of the history, which is that of the value while
  -- nobody is inside, and which a seat inside has seen whole
  pub record TellsHistory (history_of : W → List N) (history : List N)
      (s : State (Option W) (SeatKnowledge N F)) : Type 0 where
    pub counted : slice_index s.words notes_word ≡ length history
    pub home : IsOpen s → (x : W) → IsHome x s → history_of x ≡ history
    pub inside : EachAt (λ _ v. v.inside ≡ true
        → AllByRecursion (λ c. c.front ≡ history) v.claims) s.views

  -- the fifth part: each claim has the frame that the value had when the lock was made, and
  -- the value at home has it
  pub record KeepsFrame (frame_of : W → F) (frame : F)
      (s : State (Option W) (SeatKnowledge N F)) : Type 0 where
    pub told : EachClaim (λ c. c.frame ≡ frame) s.views
    pub home : (x : W) → IsHome x s → frame_of x ≡ frame

-- the fourth part: each number below that of the passes is in one claim of one seat, and its
-- notes are those in the front of that claim, with which the history begins; other numbers have
-- neither claims nor notes
pub record EachOnce {N F : Type 0} (pass_of : N → ℕ) (passes : ℕ) (history : List N)
    (views : List (SeatKnowledge N F)) : Type 0 where
  pub once : (n : ℕ) → n < passes → share_count n views ≡ 1
  pub never : (n : ℕ) → passes ≤ n → share_count n views ≡ 0
  pub together : claim_count views ≡ passes
  pub fronts : EachClaim (λ c. OthersSince pass_of c.number c.front history) views
  pub strangers : (n : ℕ) → passes ≤ n → notes_of pass_of n history ≡ []

-- the rule of a lock with so many passes, round a value that had this frame
pub record Locked {W N F : Type 0} (history_of : W → List N) (pass_of : N → ℕ) (frame_of : W → F)
    (frame : F) (passes : ℕ) (s : State (Option W) (SeatKnowledge N F)) : Type 0 where
  pub history : List N
  pub words : length s.words ≡ lock_words
  pub door : DoorTells s
  pub away : AwayWhileInside s
  pub tells : TellsHistory history_of history s
  pub numbers : EachOnce pass_of passes history s.views
  pub frames : KeepsFrame frame_of frame s
