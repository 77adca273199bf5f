-- What several writes and reads come to, as far as a writer and a reader tell what they hold.
use Rattle.std.proofs.Common.{◌≡◌, ℕ, ◌+◌, ◌-◌, ◌≤◌, arith, Bool, true, false, List, [], ◌++◌, length, take, drop, Option, Some, None, Result, Ok, Err, refl, sym, ap, ◌∙◌, subst, append_assoc, append-nil, take-append-drop, length-drop}
use Rattle.std.proofs.Math.Seq.{take-add, take-length}
use Rattle.std.specs.Io.KnownBytes.{Appends, Keeps, Consumes, IsAtEnd, ReadConsumes}
use Rattle.sws_files.specs.Streams.{TookOf}

-- at first nothing was written
pub appends_none : (before : Option (List ℕ)) (bytes : List ℕ) → Appends before before (take 0 bytes)
appends_none None bytes = tt
appends_none (Some held) bytes = sym (append-nil held)

-- what a range to the end has
rest_is : (bytes : List ℕ) (at : ℕ) → take (length bytes - at) (drop at bytes) ≡ drop at bytes
rest_is bytes at = subst (λ (n : ℕ). take n (drop at bytes) ≡ drop at bytes) (length-drop at bytes) (take-length (drop at bytes))

more_is : (bytes : List ℕ) (at count : ℕ) → take at bytes ++ take count (take (length bytes - at) (drop at bytes)) ≡ take (at + count) bytes
more_is bytes at count =
    ap (λ (rest : List ℕ). take at bytes ++ take count rest) (rest_is bytes at) ∙ sym (take-add at count bytes)

-- no more is taken than is left
pub within_rest : (bytes : List ℕ) (at count : ℕ) → at ≤ length bytes → count ≤ length (take (length bytes - at) (drop at bytes)) → at + count ≤ length bytes
within_rest bytes at count within few = omega (arith, ap length (rest_is bytes at), length-drop at bytes)

-- one more write
pub appends_more : (before between now : Option (List ℕ)) (bytes : List ℕ) (at count : ℕ)
    → Appends before between (take at bytes) → Appends between now (take count (take (length bytes - at) (drop at bytes))) → Appends before now (take (at + count) bytes)
appends_more None between now bytes at count first then = tt
appends_more (Some held) None now bytes at count first then = absurd first
appends_more (Some held) (Some more) None bytes at count first then = absurd then
appends_more (Some held) (Some more) (Some all) bytes at count first then =
    let more = take count (take (length bytes - at) (drop at bytes)) in
    then ∙ ap (λ (b : List ℕ). b ++ more) first ∙ append_assoc held (take at bytes) more ∙ ap (λ (b : List ℕ). held ++ b) (more_is bytes at count)

-- a write that took nothing
pub appends_still : (before between now : Option (List ℕ)) (bytes : List ℕ) → Appends before between bytes → Keeps between now → Appends before now bytes
appends_still None between now bytes first then = tt
appends_still (Some held) None now bytes first then = absurd first
appends_still (Some held) (Some more) None bytes first then = absurd then
appends_still (Some held) (Some more) (Some all) bytes first then = then ∙ first

-- a writer that stopped took a front
pub took_front : (before now : Option (List ℕ)) (bytes : List ℕ) (at : ℕ) → Appends before now (take at bytes) → TookOf before now false bytes
took_front before now bytes at first = (take at bytes, (drop at bytes, sym (take-append-drop at bytes)), first)

-- what is kept stays kept
pub keeps_same : (before : Option (List ℕ)) → Keeps before before
keeps_same None = tt
keeps_same (Some held) = refl

pub keeps_on : (before between now : Option (List ℕ)) → Keeps before between → Keeps between now → Keeps before now
keeps_on None between now first then = tt
keeps_on (Some held) None now first then = absurd first
keeps_on (Some held) (Some more) None first then = absurd then
keeps_on (Some held) (Some more) (Some all) first then = then ∙ first

consumes_kept : (before between now : Option (List ℕ)) (bytes : List ℕ) → Keeps before between → Consumes between now bytes → Consumes before now bytes
consumes_kept None between now bytes first then = tt
consumes_kept (Some held) None now bytes first then = absurd first
consumes_kept (Some held) (Some more) None bytes first then = absurd then
consumes_kept (Some held) (Some more) (Some all) bytes first then = sym first ∙ then

-- a read behind others that took nothing
pub reads_behind : {E : Type 0} → (before between now : Option (List ℕ)) (answer : Result ℕ E) (into : List ℕ)
    → Keeps before between → ReadConsumes between now answer into → ReadConsumes before now answer into
reads_behind before between now (Ok count) into first (took, ends) = (consumes_kept before between now (take count into) first took, ends)
reads_behind before between now (Err error) into first then = keeps_on before between now first then
