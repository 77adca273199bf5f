-- What a client asks by a head.
use Rattle.std.specs.Prelude.{ℕ, List, Option, Some, None}
use Rattle.sws_request.specs.Request.{Request}
use Rattle.sws_request.specs.Requests.{request_in}

-- a head asks something, or is no request; or there is only a beginning of one, which is too long
pub data Asked : Type 0 where
  request : Request → Asked
  not_request too_long : Asked

-- what a request asks, if the head is one
abbrev pub asked_in : Option Request → Asked
asked_in None = not_request
asked_in (Some asked) = request asked

-- what a whole head asks
abbrev pub asked_by : List ℕ → Asked
asked_by head = asked_in (request_in head)
