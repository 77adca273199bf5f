-- A text that is written piece by piece, as `sws_link` has it for its own.
use Rattle.std.proofs.Common.{◌≡◌, ◌≢◌, List, [], ℕ, ◌++◌, Option, ap, ◌∙◌, subst, append_assoc}
use Rattle.sws_link.specs.declared.Put.{Put}
use Rattle.sws_link.specs.declared.Put.TheVariants.{Done, Failed}
use Rattle.sws_link.specs.Counts.{Count, HasCause}
use Rattle.sws_link.specs.Contents.{Puts}
use Rattle.sws_link.proofs.ContentLemmas.{Puts-then, Puts-stop}
use Rattle.sws_link.proofs.CountLemmas.{HasCause-as}

-- so far a front of the whole was written, and no write failed; behind it are
-- the piece and what is left
pub record Going (before now : Option (List ℕ)) (faults_before faults_now : Count) (piece left whole : List ℕ) : Type 0 where
  pub front : List ℕ
  pub puts : Puts before now Done front
  pub is : front ++ (piece ++ left) ≡ whole
  pub same : faults_now ≡ faults_before

-- bytes went over into the piece
pub Going-moved : (a b : Option (List ℕ)) (m n : Count) (piece left more rest whole : List ℕ) → Going a b m n piece left whole → more ++ rest ≡ piece ++ left → Going a b m n more rest whole
Going-moved a b m n piece left more rest whole going e =
    record { front = going.front; puts = going.puts; is = ap (λ t. going.front ++ t) e ∙ going.is; same = going.same }

not_failed : Done ≢ Failed
not_failed e = cc

-- the piece was written
pub Going-written : (a b c : Option (List ℕ)) (m n k : Count) (piece none left whole : List ℕ) → Going a b m n piece left whole → Puts b c Done piece → HasCause n k (Done ≡ Failed)
    → none ≡ [] → Going a c m k none left whole
Going-written a b c m n k piece none left whole going puts cause e = record {
  front = going.front ++ piece;
  puts = Puts-then a b c Done going.front piece going.puts puts;
  is = ap (λ p. (going.front ++ piece) ++ (p ++ left)) e ∙ append_assoc going.front piece left ∙ going.is;
  same = cause.stays not_failed ∙ going.same;
}

-- a write stopped
pub Going-stopped : (a b c : Option (List ℕ)) (m n : Count) (piece left whole : List ℕ) (put : Put) → Going a b m n piece left whole → put ≢ Done → Puts b c put piece → Puts a c put whole
Going-stopped a b c m n piece left whole put going stop puts =
    subst (Puts a c put) (append_assoc going.front piece left ∙ going.is)
    (Puts-stop a c put (going.front ++ piece) left stop (Puts-then a b c put going.front piece going.puts puts))

-- a write is the cause of what fails with it
pub Going-cause : (a b : Option (List ℕ)) (m n k : Count) (piece left whole : List ℕ) (F : Type 0) → Going a b m n piece left whole → HasCause n k F → HasCause m k F
Going-cause a b m n k piece left whole F going cause = HasCause-as m n k F F going.same cause (λ f. f) (λ f. f)
