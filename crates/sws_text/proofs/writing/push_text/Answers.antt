use Rattle.std.proofs.Common.{rules, ◌≡◌, ◌++◌, ◌-◌, ℕ, List, length, take, drop, None}
use Rattle.sws_text.specs.Signs.{spelling_of}
use Rattle.sws_text.specs.Texts.{text_of, sign_before}
use Rattle.sws_text.proofs.SignLemmas.{found_at}
use Rattle.sws_text.proofs.PlainLemmas.{front_written, sign_written, none_written}
use Rattle.sws_text.proofs.writing.push_text.Goals as goal
use Rattle.sws_text.proofs.writing.push_text.Goals.{In_ok-extend_from_slice}

-- the bytes behind those that are their own signs
abbrev left : In_ok-extend_from_slice → List ℕ
left c = take (length c.signs.rest.now - c.plain_front-count.result) (drop c.plain_front-count.result c.signs.rest.now)

-- with those written, what the text lacks is the text of the others
lacks : (c : In_ok-extend_from_slice) → c.extend_from_slice.new.self.items ++ text_of (left c) ≡ c.args.text.now.items ++ text_of c.args.bytes.now
lacks c =
    let pushed : c.extend_from_slice.new.self.items ≡ c.signs.text.items ++ take c.plain_front-count.result c.signs.rest.now = search rules in
    front_written c.signs.rest.now c.plain_front-count.result c.signs.text.items c.extend_from_slice.new.self.items (c.args.text.now.items ++ text_of c.args.bytes.now) c.plain_front-count.ensures.plain pushed c.signs.invariant

pub returns-in_default : goal.returns-in_default
returns-in_default c =
    let p = (goal.at.returns-in_default c).In_ok-extend_from_slice in
    let none : sign_before (left p) ≡ None = search rules in
    none_written (left p) c.extend_from_slice.new.self.items (c.args.text.now.items ++ text_of c.args.bytes.now) none (lacks p)

pub signs-preserved : goal.signs-preserved
signs-preserved c =
    let p = (goal.at.signs-preserved c).In_ok-extend_from_slice in
    let found : sign_before (left p) ≡ found_at c.in-Some.sign c.in-Some.after.now = search rules in
    let spelled : c.push_spelling.new.text.items ≡ c.extend_from_slice.new.self.items ++ spelling_of c.in-Some.sign = search rules in
    sign_written (left p) c.in-Some.sign c.in-Some.after.now c.extend_from_slice.new.self.items c.push_spelling.new.text.items (c.args.text.now.items ++ text_of c.args.bytes.now) found spelled (lacks p)
