use Rattle.std.proofs.Common.{◌≡◌, ◌<◌, ℕ, List, length, ap, arith, rules}
use Rattle.sws_text.specs.Texts.{StandsFor}
use Rattle.sws_text.proofs.TextLemmas.{StandsFor-unique}
use Rattle.sws_text.proofs.LengthLemmas.{StandsFor-few}
use Rattle.sws_script.proofs.reading.read_send.Goals as goal
use Rattle.sws_script.proofs.reading.read_send.Goals.{then-is_empty-via-then-is_empty, then-is_empty-via-else-is_empty+then-len-gt-MAX_PIECE}

pub returns-then-rest-gt-MAX_TEXT : goal.returns-then-rest-gt-MAX_TEXT
returns-then-rest-gt-MAX_TEXT c says of = let few = StandsFor-few c.args.rest.now of.0 of.2 in omega (arith, of.3.1)

pub returns-in_default : goal.returns-in_default
returns-in_default c says of =
    let none : (bytes : List ℕ) → StandsFor c.args.rest.now bytes → ⊥ = search rules in none of.0 of.2

pub returns-then-is_empty : goal.returns-then-is_empty
returns-then-is_empty c says of =
    let stands : StandsFor c.args.rest.now c.in-Some.bytes.items = search rules in
    let long = ap length (StandsFor-unique c.args.rest.now of.0 c.in-Some.bytes.items of.2 stands) in
    elim c.then-is_empty.branch [
      | then-is_empty-via-then-is_empty w ↦ let empty : length c.in-Some.bytes.items ≡ 0 = search rules in omega (arith, of.3.0)
      | then-is_empty-via-else-is_empty+then-len-gt-MAX_PIECE w ↦ let many : 4096 < length c.in-Some.bytes.items = search rules in omega (arith, of.3.1)
    ]
