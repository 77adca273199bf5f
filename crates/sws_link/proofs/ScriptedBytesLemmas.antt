-- What a read of a link in memory changes in what it tells.
use Rattle.std.proofs.Common.{◌≡◌, ℕ, zero, suc, Bool, true, false, List, [], ◌∷◌, ◌++◌, length, take, drop, Option, Some, None, refl, sym, ap, ◌∙◌, subst, append_assoc, append-nil, take-append-drop}
use Rattle.std.specs.Prelude.{if◌then◌else◌}
use Rattle.sws_link.specs.declared.LinkRead.{LinkRead}
use Rattle.sws_link.specs.declared.LinkRead.TheVariants as read
use Rattle.sws_link.specs.Links.{TakesTold, ReadsAs, EndsRead, given_by}
use Rattle.sws_link.specs.Scripts.{Item, piece, wait, fault, read_of, left_of_limit}
use Rattle.sws_link.specs.LinkItems.{all_bytes, HasNoFault}
use Rattle.sws_link.specs.Calls.{next_fails}
use Rattle.sws_link.specs.MemLinks.{script_unless, bytes_tell, bytes_after_read}
use Rattle.sws_link.specs.ScriptedBytes.{ScriptedBytesState}

-- the bytes that a read gives are the next ones
read_bytes : (room : ℕ) (items : List Item) → all_bytes items ≡ (read_of room items).bytes ++ all_bytes (read_of room items).items
read_bytes room [] = refl
read_bytes room (piece [] ∷ items) = read_bytes room items
read_bytes room (piece (byte ∷ bytes) ∷ items) =
    ap (λ b. b ++ all_bytes items) (sym (take-append-drop room (byte ∷ bytes)))
    ∙ append_assoc (take room (byte ∷ bytes)) (drop room (byte ∷ bytes)) (all_bytes items)
read_bytes room (wait zero ∷ items) = read_bytes room items
read_bytes room (wait (suc count) ∷ items) = refl
read_bytes room (fault ∷ items) = refl

read_ends : (room : ℕ) (items : List Item) → EndsRead (read_of room items).answer (all_bytes items)
read_ends room [] = refl
read_ends room (piece [] ∷ items) = read_ends room items
read_ends room (piece (byte ∷ bytes) ∷ items) = tt
read_ends room (wait zero ∷ items) = read_ends room items
read_ends room (wait (suc count) ∷ items) = tt
read_ends room (fault ∷ items) = tt

-- a link that tells its script answers by it
reads_script : (failing : List ℕ) (step cut : Option ℕ) (items : List Item) (room : ℕ) (answer : LinkRead) (into : List ℕ)
    → answer ≡ (read_of room items).answer → given_by answer into ≡ (read_of room items).bytes
    → ReadsAs (script_unless failing (record { items = items; step = step; cut = cut })) room answer into
    (script_unless failing (record { items = (read_of room items).items; step = step; cut = cut }))
reads_script [] None cut items room answer into a b = (a, b, refl)
reads_script [] (Some zero) cut items room answer into a b = refl
reads_script [] (Some (suc limit)) cut items room answer into a b = (a, b, refl)
reads_script (call ∷ failing) step cut items room answer into a b = refl

pub takes_bytes : (failing : List ℕ) (before now : ScriptedBytesState) (room : ℕ) (answer : LinkRead) (into : List ℕ)
    → answer ≡ (read_of room before.input.items).answer → given_by answer into ≡ (read_of room before.input.items).bytes
    → now ≡ bytes_after_read before room
    → TakesTold (bytes_tell failing before) (Some (bytes_tell failing now)) room answer into
takes_bytes failing before now room answer into a b is =
    let said = read_of room before.input.items in
    record {
      after = bytes_tell failing (bytes_after_read before room);
      is = ap (λ (bytes : ScriptedBytesState). Some (bytes_tell failing bytes)) is;
      left = read_bytes room before.input.items ∙ ap (λ g. g ++ all_bytes said.items) (sym b);
      taken = ap (λ g. before.input.taken ++ g) (sym b);
      written = refl;
      to_come = reads_script failing before.step (left_of_limit before.cut (length before.written)) before.input.items room answer into a b;
      ends = subst (λ r. EndsRead r (all_bytes before.input.items)) (sym a) (read_ends room before.input.items);
      says_all = refl;
    }

-- a read that fails takes nothing; where some call is to fail, no script is told
fails_bytes : (call : ℕ) (failing : List ℕ) (before now : ScriptedBytesState) (room : ℕ) (answer : LinkRead) (into : List ℕ)
    → answer ≡ read.Failed → now ≡ before
    → TakesTold (bytes_tell (call ∷ failing) before) (Some (bytes_tell (call ∷ failing) now)) room answer into
fails_bytes call failing before now room answer into a is =
    let nothing : given_by answer into ≡ [] = ap (λ r. given_by r into) a in
    record {
      after = bytes_tell (call ∷ failing) before;
      is = ap (λ (bytes : ScriptedBytesState). Some (bytes_tell (call ∷ failing) bytes)) is;
      left = ap (λ g. g ++ all_bytes before.input.items) (sym nothing);
      taken = sym (append-nil before.input.taken) ∙ ap (λ g. before.input.taken ++ g) (sym nothing);
      written = refl;
      to_come = refl;
      ends = subst (λ r. EndsRead r (all_bytes before.input.items)) (sym a) tt;
      says_all = refl;
    }

-- a read that may be one that is to fail
pub takes_or_fails : (failing : List ℕ) (made failed : ℕ) (before now : ScriptedBytesState) (room : ℕ) (answer : LinkRead) (into : List ℕ)
    → (fails : Bool) → fails ≡ next_fails (record { failing = failing; made = made; failed = failed })
    → answer ≡ (if fails then read.Failed else (read_of room before.input.items).answer)
    → given_by answer into ≡ (if fails then [] else (read_of room before.input.items).bytes)
    → now ≡ (if fails then before else bytes_after_read before room)
    → TakesTold (bytes_tell failing before) (Some (bytes_tell failing now)) room answer into
takes_or_fails failing made failed before now room answer into false is a b bytes = takes_bytes failing before now room answer into a b bytes
takes_or_fails [] made failed before now room answer into true is a b bytes = cc
takes_or_fails (call ∷ failing) made failed before now room answer into true is a b bytes = fails_bytes call failing before now room answer into a bytes

-- ---- items of which none fails

read_no_fault : (room : ℕ) (items : List Item) → HasNoFault items → HasNoFault (read_of room items).items
read_no_fault room [] sure = tt
read_no_fault room (piece [] ∷ items) sure = read_no_fault room items sure
read_no_fault room (piece (byte ∷ bytes) ∷ items) sure = sure
read_no_fault room (wait zero ∷ items) sure = read_no_fault room items sure
read_no_fault room (wait (suc count) ∷ items) sure = sure
read_no_fault room (fault ∷ items) sure = absurd sure

-- after a read no item fails and no write is cut, where that was so before
pub stays_sure : (before now : ScriptedBytesState) (room : ℕ) → now ≡ bytes_after_read before room → HasNoFault before.input.items → before.cut ≡ None
    → HasNoFault now.input.items × (now.cut ≡ None)
stays_sure before now room is no_fault no_cut = (
  subst (λ (bytes : ScriptedBytesState). HasNoFault bytes.input.items) (sym is) (read_no_fault room before.input.items no_fault),
  ap (λ (bytes : ScriptedBytesState). bytes.cut) is ∙ no_cut,
)

pub never_fails : (room : ℕ) (items : List Item) → HasNoFault items → read.Failed ≡ (read_of room items).answer → ⊥
never_fails room [] sure e = cc
never_fails room (piece [] ∷ items) sure e = never_fails room items sure e
never_fails room (piece (byte ∷ bytes) ∷ items) sure e = cc
never_fails room (wait zero ∷ items) sure e = never_fails room items sure e
never_fails room (wait (suc count) ∷ items) sure e = cc
never_fails room (fault ∷ items) sure e = absurd sure
