-- Frames, as more bytes come, and lines behind one another.
use Rattle.std.proofs.Common.{◌≡◌, ℕ, Bool, true, false, List, [], ◌∷◌, ◌++◌, if◌then◌else◌, length, map, refl, sym, ◌∙◌, ap, subst, inl, inr}
use Rattle.std.proofs.lemmas.List.{append-nil, append_assoc, map-append}
use Rattle.std.proofs.lemmas.Grind.{flat_map-append}
use Rattle.std.specs.List.{AllByRecursion}
use Rattle.std.specs.Prelude.{nat_le}
use Rattle.mely_net.specs.declared.cut.Cut.{Cut}
use Rattle.mely_net.specs.declared.cut.Cut.TheVariants.{More, Frame, Fault}
use Rattle.mely_net.specs.Cutting.{AreFrames, IsSteady, Stands, cut_within, limited}
use Rattle.mely_net.specs.Lines.{EndAtLast, HasLast, IsLast, Line, exchanges_in, exchanges_of, shown_of}
use Rattle.mely_net.specs.Rules.{Rules}
use Rattle.mely_net.specs.Several.{SeveralState}

pub all_push : {X : Type 0} (P : X → Type 0) (xs : List X) (x : X) → AllByRecursion P xs → P x → AllByRecursion P (xs ++ x ∷ [])
all_push P [] x all so = (so, tt)
all_push P (y ∷ xs) x all so = (all.0, all_push P xs x all.1 so)

pub all_both : {X : Type 0} (P : X → Type 0) (xs ys : List X) → AllByRecursion P xs → AllByRecursion P ys → AllByRecursion P (xs ++ ys)
all_both P [] ys one two = two
all_both P (x ∷ xs) ys one two = (one.0, all_both P xs ys one.1 two)

if_more : (b : Bool) (size : ℕ) → (if b then More else Fault) ≡ Frame size → ⊥
if_more true size is = cc
if_more false size is = cc

if_frame : (b : Bool) (size other : ℕ) → (if b then Frame size else Fault) ≡ Frame other → (size ≡ other) × (b ≡ true)
if_frame true size other is = (cc, refl)
if_frame false size other is = absurd (let never : ⊥ = cc in never)

-- a frame within its limit is a frame
frame_so : (longest count size : ℕ) (cut : Cut) → limited longest count cut ≡ Frame size → (cut ≡ Frame size) × (nat_le size longest ≡ true)
frame_so longest count size More is = absurd (if_more (nat_le count longest) size is)
frame_so longest count size (Frame other) is =
    let both = if_frame (nat_le other longest) other size is in
    (ap Frame both.0, ap (λ n. nat_le n longest) (sym both.0) ∙ both.1)
frame_so longest count size Fault is = absurd (let never : ⊥ = cc in never)

module _ (cut : List ℕ → Cut) (longest : ℕ) (steady : IsSteady cut) where
  within_more : (bytes more : List ℕ) (size : ℕ) → cut_within cut longest bytes ≡ Frame size → cut_within cut longest (bytes ++ more) ≡ Frame size
  within_more bytes more size is =
      let both = frame_so longest (length bytes) size (cut bytes) is in
      let stands = subst (λ c. Stands c (cut (bytes ++ more))) both.0 (steady bytes more) in
      ap (limited longest (length (bytes ++ more))) stands ∙ ap (λ (b : Bool). if b then Frame size else Fault) both.1

  -- bytes that come behind others are the rest behind the same frames
  pub frames_more : (bytes : List ℕ) (frames : List (List ℕ)) (rest more : List ℕ) → AreFrames cut longest bytes frames rest → AreFrames cut longest (bytes ++ more) frames (rest ++ more)
  frames_more bytes [] rest more are = ap (λ b. b ++ more) are
  frames_more bytes (frame ∷ frames) rest more are = (
    are.0 ++ more,
    ap (λ b. b ++ more) are.1 ∙ append_assoc frame are.0 more,
    within_more bytes more (length frame) are.2,
    frames_more are.0 frames rest more are.3,
  )

-- a further frame is cut off the rest
pub frames_push : (cut : List ℕ → Cut) (longest : ℕ) (bytes : List ℕ) (frames : List (List ℕ)) (rest frame behind : List ℕ) → AreFrames cut longest bytes frames rest → rest ≡ frame ++ behind → cut_within cut longest rest ≡ Frame (length frame) → AreFrames cut longest bytes (frames ++ frame ∷ []) behind
frames_push cut longest bytes [] rest frame behind are parts is = (behind, are ∙ parts, ap (cut_within cut longest) are ∙ is, refl)
frames_push cut longest bytes (one ∷ frames) rest frame behind are parts is = (are.0, are.1, are.2, frames_push cut longest are.0 frames rest frame behind are.3 parts is)

module _ {Q P : Type 0} (lines : List (Line Q P)) (line : Line Q P) where
  pub exchanges_push : exchanges_in (lines ++ line ∷ []) ≡ exchanges_in lines ++ exchanges_of line.asked line.parts line.reply
  exchanges_push = flat_map-append (λ (one : Line Q P). exchanges_of one.asked one.parts one.reply) lines (line ∷ []) ∙ ap (λ l. exchanges_in lines ++ l) (append-nil (exchanges_of line.asked line.parts line.reply))

  pub frames_of_push : map (λ (one : Line Q P). one.frame) (lines ++ line ∷ []) ≡ map (λ (one : Line Q P). one.frame) lines ++ line.frame ∷ []
  frames_of_push = map-append (λ (one : Line Q P). one.frame) lines (line ∷ [])

  pub shown_push : {C : Type 0} (rules : Rules Q P C) → shown_of rules (lines ++ line ∷ []) ≡ shown_of rules lines ++ rules.shown line.reply line.parts
  shown_push rules = flat_map-append (λ (one : Line Q P). rules.shown one.reply one.parts) lines (line ∷ []) ∙ ap (λ l. shown_of rules lines ++ l) (append-nil (rules.shown line.reply line.parts))

-- a line that is the last
pub has_last_push : {Q P : Type 0} (lines : List (Line Q P)) (line : Line Q P) → IsLast line.asked → HasLast (lines ++ line ∷ [])
has_last_push [] line last = inl last
has_last_push (one ∷ lines) line last = inr (has_last_push lines line last)

-- a line may come behind those of which none is the last
pub last_push : {Q P : Type 0} (lines : List (Line Q P)) (line : Line Q P) → AllByRecursion (λ one. IsLast one.asked → ⊥) lines → EndAtLast (lines ++ line ∷ [])
last_push [] line none = (λ last. refl, tt)
last_push (one ∷ lines) line none = (λ last. absurd (none.0 last), last_push lines line none.1)

-- a request of several cells is what it has
pub same_state : {Q P : Type 0} (state : SeveralState Q P) (left : List (ℕ × Q)) (parts : List P) (reply : P) → state.left ≡ left → state.parts ≡ parts → state.reply ≡ reply → state ≡ record { left = left; parts = parts; reply = reply }
same_state {Q} {P} state left parts reply one two three =
    ap (λ (l : List (ℕ × Q)). let it : SeveralState Q P = record { left = l; parts = state.parts; reply = state.reply } in it) one
    ∙ ap (λ (p : List P). let it : SeveralState Q P = record { left = left; parts = p; reply = state.reply } in it) two
    ∙ ap (λ (r : P). let it : SeveralState Q P = record { left = left; parts = parts; reply = r } in it) three
