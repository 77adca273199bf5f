-- One call more.
use Rattle.std.specs.Prelude.{IsTrue}
use Rattle.std.proofs.Common.{◌≡◌, ℕ, ◌+◌, Bool, List, [], ◌∷◌, ◌++◌, length, length-append, length-take, Option, Some, None, refl, sym, ap, ◌∙◌, subst, arith}
use Rattle.sws_link.specs.Counts.{Count}
use Rattle.sws_link.specs.declared.LinkRead.{LinkRead}
use Rattle.sws_link.specs.declared.LinkWrite.{LinkWrite}
use Rattle.sws_link.specs.declared.LinkWrite.TheVariants as write
use Rattle.sws_link.specs.Links.{LinkContents, LinkTakes, LinkPuts, IsWriteWithin, written_by}
use Rattle.sws_link.specs.Exchanges.{LinkCall, read_call, write_call, shut_call, wrote, taken_in, written_in, Makes, Exchanges}

pub taken_in-append : (calls more : List LinkCall) → taken_in (calls ++ more) ≡ taken_in calls + taken_in more
taken_in-append [] more = let same : taken_in more ≡ 0 + taken_in more = omega arith in same
taken_in-append (read_call room answer into ∷ calls) more = let later = taken_in-append calls more in omega arith
taken_in-append (write_call piece answer ∷ calls) more = taken_in-append calls more
taken_in-append (shut_call ∷ calls) more = taken_in-append calls more

pub written_in-append : (calls more : List LinkCall) → written_in (calls ++ more) ≡ written_in calls + written_in more
written_in-append [] more = let same : written_in more ≡ 0 + written_in more = omega arith in same
written_in-append (read_call room answer into ∷ calls) more = written_in-append calls more
written_in-append (write_call piece answer ∷ calls) more = let later = written_in-append calls more in omega arith
written_in-append (shut_call ∷ calls) more = written_in-append calls more

-- ---- what was written

-- a read leaves it
read-told : (before after : Option LinkContents) (room : ℕ) (answer : LinkRead) (into : List ℕ) → LinkTakes before after room answer into
    → (told : LinkContents) → before ≡ Some told → (now : LinkContents) → after ≡ Some now
    → (now.says_all ≡ told.says_all) × (now.written ≡ told.written)
read-told None after room answer into takes told e now f = cc
read-told (Some before) after room answer into takes told e now f =
    let first : before ≡ told = cc in
    let last : takes.after ≡ now = (let same : Some takes.after ≡ Some now = sym takes.is ∙ f in cc) in (
      sym (ap (λ (t : LinkContents). t.says_all) last) ∙ takes.says_all ∙ ap (λ (t : LinkContents). t.says_all) first,
      sym (ap (λ (t : LinkContents). t.written) last) ∙ takes.written ∙ ap (λ (t : LinkContents). t.written) first,
    )

write-says : (before after : Option LinkContents) (piece : List ℕ) (answer : LinkWrite) → LinkPuts before after answer piece
    → (told : LinkContents) → before ≡ Some told → (now : LinkContents) → after ≡ Some now → now.says_all ≡ told.says_all
write-says None after piece answer puts told e now f = cc
write-says (Some before) after piece answer puts told e now f =
    let first : before ≡ told = cc in
    let last : puts.after ≡ now = (let same : Some puts.after ≡ Some now = sym puts.is ∙ f in cc) in
    sym (ap (λ (t : LinkContents). t.says_all) last) ∙ puts.says_all ∙ ap (λ (t : LinkContents). t.says_all) first

-- what is told goes on being told
takes-on : (before after : Option LinkContents) (room : ℕ) (answer : LinkRead) (into : List ℕ) → LinkTakes before after room answer into
    → (told : LinkContents) → before ≡ Some told → (now : LinkContents) × (after ≡ Some now)
takes-on None after room answer into takes told e = cc
takes-on (Some before) after room answer into takes told e = (takes.after, takes.is)

puts-on : (before after : Option LinkContents) (piece : List ℕ) (answer : LinkWrite) → LinkPuts before after answer piece
    → (told : LinkContents) → before ≡ Some told → (now : LinkContents) × (after ≡ Some now)
puts-on None after piece answer puts told e = cc
puts-on (Some before) after piece answer puts told e = (puts.after, puts.is)

length-said : (answer : LinkWrite) (piece : List ℕ) → IsWriteWithin answer (length piece) → length (written_by answer piece) ≡ wrote answer
length-said (write.Wrote count) piece fits = let few = fits.1 in omega (arith, length-take count piece)
length-said write.NotReady piece fits = refl
length-said write.Failed piece fits = refl
length-said write.Memory piece fits = refl

-- a write that says all writes as much as it says
write-told : (before after : Option LinkContents) (piece : List ℕ) (answer : LinkWrite) → LinkPuts before after answer piece → IsWriteWithin answer (length piece)
    → (told : LinkContents) → before ≡ Some told → IsTrue told.says_all → (now : LinkContents) → after ≡ Some now
    → (now.says_all ≡ told.says_all) × (length now.written ≡ length told.written + wrote answer)
write-told None after piece answer puts fits told e all now f = cc
write-told (Some before) after piece answer puts fits told e all now f =
    let first : before ≡ told = cc in
    let last : puts.after ≡ now = (let same : Some puts.after ≡ Some now = sym puts.is ∙ f in cc) in
    let said : puts.front ≡ written_by answer piece = puts.said (subst (λ (t : LinkContents). IsTrue t.says_all) (sym first) all) in (
      sym (ap (λ (t : LinkContents). t.says_all) last) ∙ puts.says_all ∙ ap (λ (t : LinkContents). t.says_all) first,
      sym (ap (λ (t : LinkContents). length t.written) last) ∙ ap length puts.written ∙ length-append before.written puts.front
          ∙ ap (λ (f : List ℕ). length before.written + length f) said
          ∙ ap (λ n. length before.written + n) (length-said answer piece fits)
          ∙ ap (λ (t : LinkContents). length t.written + wrote answer) first,
    )

module _ {L : Type 0} (tells : L → Option LinkContents) (is_shut : L → Bool) (faults waits : L → Count) where
  pub exchanges-more : (calls : List LinkCall) (call : LinkCall) (first before after : L)
      → Exchanges tells is_shut faults waits calls first before → Makes tells is_shut faults waits call before after
      → Exchanges tells is_shut faults waits (calls ++ call ∷ []) first after
  unfolding Exchanges
  exchanges-more [] call first before after is made = (after, subst (λ l. Makes tells is_shut faults waits call l after) is made, refl)
  exchanges-more (one ∷ calls) call first before after (between, makes, later) made =
      (between, makes, exchanges-more calls call between before after later made)

  -- a call of a link that tells its contents: it goes on telling them, and where its writes say
  -- all, as much was written as the answer says
  makes-told : (call : LinkCall) (before after : L) → Makes tells is_shut faults waits call before after
      → (told : LinkContents) → tells before ≡ Some told → IsTrue told.says_all
      → (now : LinkContents) × (tells after ≡ Some now) × IsTrue now.says_all × (length now.written ≡ length told.written + written_in (call ∷ []))
  makes-told (read_call room answer into) before after made told e all =
      let told_after = takes-on (tells before) (tells after) room answer into made.takes told e in
      let same = read-told (tells before) (tells after) room answer into made.takes told e told_after.0 told_after.1 in (
        told_after.0,
        told_after.1,
        subst IsTrue (sym same.0) all,
        ap length same.1 ∙ (let none : length told.written ≡ length told.written + 0 = omega arith in none),
      )
  makes-told (write_call piece answer) before after made told e all =
      let told_after = puts-on (tells before) (tells after) piece answer made.puts told e in
      let same = write-told (tells before) (tells after) piece answer made.puts made.fits told e all told_after.0 told_after.1 in (
        told_after.0,
        told_after.1,
        subst IsTrue (sym same.0) all,
        same.1 ∙ (let none : length told.written + wrote answer ≡ length told.written + (wrote answer + 0) = omega arith in none),
      )
  makes-told shut_call before after made told e all =
      (told, made.same ∙ e, all, (let none : length told.written ≡ length told.written + 0 = omega arith in none))

  -- whether writes say all stays
  makes-says : (call : LinkCall) (before after : L) → Makes tells is_shut faults waits call before after
      → (told : LinkContents) → tells before ≡ Some told → (now : LinkContents) × (tells after ≡ Some now) × (now.says_all ≡ told.says_all)
  makes-says (read_call room answer into) before after made told e =
      let on = takes-on (tells before) (tells after) room answer into made.takes told e in
      (on.0, on.1, (read-told (tells before) (tells after) room answer into made.takes told e on.0 on.1).0)
  makes-says (write_call piece answer) before after made told e =
      let on = puts-on (tells before) (tells after) piece answer made.puts told e in
      (on.0, on.1, write-says (tells before) (tells after) piece answer made.puts told e on.0 on.1)
  makes-says shut_call before after made told e = (told, made.same ∙ e, refl)

  pub exchanges-says : (calls : List LinkCall) (first now : L) → Exchanges tells is_shut faults waits calls first now
      → (before : LinkContents) → tells first ≡ Some before → (after : LinkContents) → tells now ≡ Some after → after.says_all ≡ before.says_all
  unfolding Exchanges
  exchanges-says [] first now is before e after f =
      let same : Some before ≡ Some after = sym e ∙ ap tells (sym is) ∙ f in
      let told : before ≡ after = cc in
      ap (λ (t : LinkContents). t.says_all) (sym told)
  exchanges-says (call ∷ calls) first now (between, made, later) before e after f =
      let one = makes-says call first between made before e in
      exchanges-says calls between now later one.0 one.1 after f ∙ one.2

  -- the bytes that were written are as many as the answers say, where these say all
  pub exchanges-written : (calls : List LinkCall) (first now : L) → Exchanges tells is_shut faults waits calls first now
      → (before : LinkContents) → tells first ≡ Some before → IsTrue before.says_all
      → (after : LinkContents) → tells now ≡ Some after → length after.written ≡ length before.written + written_in calls
  unfolding Exchanges
  exchanges-written [] first now is before e all after f =
      let same : Some before ≡ Some after = sym e ∙ ap tells (sym is) ∙ f in
      let told : before ≡ after = cc in
      ap (λ (t : LinkContents). length t.written) (sym told) ∙ (let none : length before.written ≡ length before.written + 0 = omega arith in none)
  exchanges-written (call ∷ calls) first now (between, made, later) before e all after f =
      let one = makes-told call first between made before e all in
      let rest = exchanges-written calls between now later one.0 one.1 one.2 after f in
      let first_count = one.3 in
      let sum = written_in-append (call ∷ []) calls in
      omega (arith, rest, first_count, sum)
