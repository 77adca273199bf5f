-- A part of a room that slides and grows.
use Rattle.std.proofs.Common.{◌≡◌, ℕ, ◌+◌, ◌-◌, ◌≤◌, List, [], ◌++◌, length, take, drop, refl, sym, ap, subst, ◌∙◌, arith, length-take, length-drop, append-nil}
use Rattle.std.specs.List.{slice_range}
use Rattle.std.specs.List.{copy_within}
use Rattle.std.proofs.lemmas.List.{drop-take, drop-drop, drop-append-le, take-append-le}
use Rattle.std.proofs.Math.Seq.{take-append-add, take-append_seam}
use Rattle.std.proofs.lemmas.List.Edits.{take-paste, length-paste}
use Rattle.sws_link.specs.declared.LinkRead.{LinkRead}
use Rattle.sws_link.specs.declared.LinkRead.TheVariants as read
use Rattle.sws_link.specs.Links.{given_by}
use Rattle.sws_conn.specs.declared.window.Window.TheInside.{Inside}
use Rattle.sws_conn.specs.WindowRooms.{bytes_of, IsInRoom}

-- without its first bytes
pub range_dropped : (room old : List ℕ) (start end n : ℕ) → slice_range room start end ≡ old → n ≤ length old
    → slice_range room (start + n) end ≡ drop n old
range_dropped room old start end n is fits =
    let long = ap length is in
    let rest : end - start ≡ n + (end - (start + n)) = omega (arith, length-take (end - start) (drop start room)) in
    sym (ap (drop n) (sym is)
    ∙ ap (λ m. drop n (take m (drop start room))) rest
    ∙ drop-take n (end - (start + n)) (drop start room)
    ∙ ap (take (end - (start + n))) (drop-drop n start room))

-- moved to the front
range_moved : (room moved : List ℕ) (start end : ℕ) → start ≤ end → end ≤ length room → moved ≡ copy_within room start end 0
    → slice_range moved 0 (end - start) ≡ slice_range room start end
range_moved room moved start end ordered within is =
    let count = end - start in
    ap (λ (r : List ℕ). slice_range r 0 count) is
    ∙ ap (λ n. take n (copy_within room start end 0)) (let same : count - 0 ≡ 0 + count = omega arith in same)
    ∙ take-paste room 0 (drop start room) count (omega arith) (omega (arith, length-drop start room))

-- with bytes behind it
range_grown : (room into rest : List ℕ) (start end count : ℕ) → start ≤ end → end ≤ length room → count ≤ length into
    → slice_range (take end room ++ (into ++ rest)) start (end + count) ≡ slice_range room start end ++ take count into
range_grown room into rest start end count ordered within fits =
    let front = drop start (take end room) in
    let long : length front ≡ end - start = omega (arith, length-drop start (take end room), length-take end room) in
    let sum : end + count - start ≡ length front + count = omega arith in
    let all : end ≡ start + (end - start) = omega arith in
    ap (take (end + count - start)) (drop-append-le start (take end room) (into ++ rest) (omega (arith, length-take end room)))
    ∙ ap (λ n. take n (front ++ (into ++ rest))) sum
    ∙ take-append-add front (into ++ rest) count
    ∙ ap (λ l. front ++ l) (take-append-le count into rest fits)
    ∙ ap (λ l. l ++ take count into) (ap (λ n. drop start (take n room)) all ∙ drop-take start (end - start) room)

-- any other answer than bytes gives none
pub nothing_given : (answer : LinkRead) (into : List ℕ) → ((count : ℕ) → answer ≡ read.Took count → ⊥) → given_by answer into ≡ []
nothing_given (read.Took count) into none = absurd (none count refl)
nothing_given read.End into none = refl
nothing_given read.NotReady into none = refl
nothing_given read.Failed into none = refl

-- the bytes lie in the room
pub record HoldsBytes (old : List ℕ) (window : Inside) : Type 0 where
  pub bytes : bytes_of window ≡ old
  pub ordered : window.start ≤ window.end
  pub within : window.end ≤ length window.room.items

pub holds-still : (old : List ℕ) (window after : Inside) → IsInRoom window → bytes_of window ≡ old → after ≡ window → HoldsBytes old after
holds-still old window after in_room is same = subst (HoldsBytes old) (sym same) (record {
  bytes = is;
  ordered = in_room.ordered;
  within = let size = in_room.size in let within = in_room.within in omega arith;
})

pub holds-moved : (old : List ℕ) (window after moved : Inside) → IsInRoom window → bytes_of window ≡ old
    → moved.room.items ≡ copy_within window.room.items window.start window.end 0 → moved.start ≡ 0 → moved.end ≡ window.end - window.start
    → after ≡ moved → HoldsBytes old after
holds-moved old window after moved in_room is items start end same =
    let room = window.room.items in
    let size = in_room.size in
    let most = in_room.within in
    let bytes : slice_range moved.room.items moved.start moved.end ≡ old =
    ap (λ n. slice_range moved.room.items n moved.end) start ∙ ap (slice_range moved.room.items 0) end
    ∙ range_moved room moved.room.items window.start window.end in_room.ordered (omega arith) items ∙ is in
    let fits : window.end - window.start ≤ length (drop window.start room) = omega (arith, length-drop window.start room) in
    let long : length moved.room.items ≡ length room = ap length items ∙ length-paste room 0 (drop window.start room) (window.end - window.start) (omega arith) fits in
    subst (HoldsBytes old) (sym same) (record { bytes = bytes; ordered = omega arith; within = omega arith })

-- a read behind them
pub holds-grown : (old into before rest after : List ℕ) (window : Inside) (count : ℕ) → HoldsBytes old window → before ≡ window.room.items → count ≤ length into
    → after ≡ take window.end before ++ (into ++ rest) → slice_range after window.start (window.end + count) ≡ old ++ take count into
holds-grown old into before rest after window count holds room fits is =
    ap (λ (r : List ℕ). slice_range r window.start (window.end + count)) (is ∙ ap (λ b. take window.end b ++ (into ++ rest)) room)
    ∙ range_grown window.room.items into rest window.start window.end count holds.ordered holds.within fits
    ∙ ap (λ l. l ++ take count into) holds.bytes

pub holds-nothing : (old into before rest after : List ℕ) (window : Inside) → HoldsBytes old window → before ≡ window.room.items
    → after ≡ take window.end before ++ (into ++ rest) → slice_range after window.start window.end ≡ old
holds-nothing old into before rest after window holds room is =
    ap (slice_range after window.start) (let same : window.end ≡ window.end + 0 = omega arith in same)
    ∙ holds-grown old into before rest after window 0 holds room (omega arith) is ∙ append-nil old

-- what a room of this size holds once it is written back
pub refilled : (room others : List ℕ) (start end size : ℕ) → length room ≡ size
    → slice_range (take size (room ++ others)) start end ≡ slice_range room start end
refilled room others start end size long =
    ap (λ (r : List ℕ). slice_range r start end) (ap (λ n. take n (room ++ others)) (sym long) ∙ take-append_seam room others)
