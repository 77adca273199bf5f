-- Laws of answers, whatever was asked: which close, that a head is sent, and
-- how long head and body are.
use Rattle.std.specs.Prelude.{◌≡◌, ◌<◌, ◌++◌, Bool, true, false, ◌||◌, length}
use Rattle.std.proofs.Common.{refl, arith, length-append}
use Rattle.sws_site.specs.ResponseHeads.{ResponseHead, head_text, head_lines, lines_text, line_end}
use Rattle.sws_site.specs.Site.{SiteState}
use Rattle.sws_answer.specs.Asked.{Asked, request, not_request, too_long}
use Rattle.sws_site.specs.Statuses.{row_of}
use Rattle.sws_answer.specs.Cases.{request_status}
use Rattle.sws_answer.specs.Closing.{is_closing}
use Rattle.sws_answer.specs.Answers.{response, request_answer, answer_of}

-- ---- closing

or_true : (b : Bool) → (b || true) ≡ true
or_true true = refl
or_true false = refl

-- the last answer of a connection closes
pub closes-last : (site : SiteState) (asked : Asked) → (answer_of site asked true).closes ≡ true
unfolding request_answer response
closes-last site (request asked) = or_true ((row_of (request_status site asked)).closes || is_closing site.options asked)
closes-last site not_request = refl
closes-last site too_long = refl

-- and so does the one to a head that is too long
pub closes-too_long : (site : SiteState) (last : Bool) → (answer_of site too_long last).closes ≡ true
unfolding response
closes-too_long site last = refl

-- ---- a head

-- it is never empty
head_text-some : (head : ResponseHead) → 0 < length (head_text head)
unfolding head_text
head_text-some head = omega (arith, length-append (lines_text (head_lines head) ++ head.headers) line_end)

pub head-some : (site : SiteState) (asked : Asked) (last : Bool) → 0 < length (answer_of site asked last).head
unfolding request_answer response
head-some site (request asked) last = head_text-some _
head-some site not_request last = head_text-some _
head-some site too_long last = head_text-some _
