-- What the program's values say.
use Rattle.std.specs.Prelude.{◌≡◌}
use Rattle.sws_site.specs.Page.{PageState}
use Rattle.sws_site.specs.Site.{SiteState}
use Rattle.sws_answer.specs.declared.asking.Asked.{Asked as AskedHead}
use Rattle.sws_answer.specs.declared.asking.Asked.TheVariants.{Request as AskedRequest, NotARequest, TooLong}
use Rattle.sws_parts.specs.Parts.{PartsState}
use Rattle.sws_answer.specs.declared.answers.Answer.{Answer as Sent}
use Rattle.sws_answer.specs.declared.answers.Answered.{Answered}
use Rattle.sws_answer.specs.Asked.{Asked, request, not_request, too_long}
use Rattle.sws_answer.specs.Answers.{Answer}

-- what a cut head asks
abbrev pub asked_value : AskedHead → Asked
asked_value (AskedRequest view) = request view
asked_value NotARequest = not_request
asked_value TooLong = too_long

-- what is sent has the code, the head and the body of this answer, and closes where it does
pub record Sends (sent : Sent) (answer : Answer) : Type 0 where
  pub code : sent.code ≡ answer.code
  pub closes : sent.closes ≡ answer.closes
  pub head : sent.parts.head ≡ answer.head
  pub body : sent.parts.body ≡ answer.body

-- what is sent where the parts lie with whoever asked
abbrev pub sent_as : Answered → PartsState → Sent
sent_as answered parts = record { parts = parts; closes = answered.closes; code = answered.code }

-- the page is one of the site
pub record IsPageOf (site : SiteState) (page : PageState) : Type 0 where
  pub date : page.date ≡ site.date
  pub options : page.options ≡ site.options
