-- The request that a head says, if it says one: the one that `IsRequest` describes.
use Rattle.std.specs.Prelude.{ℕ, ◌⊎◌, List, Option, Some, None}
use Rattle.std.proofs.Common.{inl, inr}
use Rattle.sws_request.specs.Request.{Request, IsRequest, IsNoRequest}
use Rattle.sws_request.specs.RequestLaws.{find_request}

-- what was found, if it is a request
abbrev pub found_in : {head : List ℕ} → ((request : Request) × IsRequest head request)
    ⊎ IsNoRequest head → Option Request
found_in found = elim found [ inl said ↦ Some said.0 | inr none ↦ None ]

-- the request that the head says, if it says one
abbrev pub request_in : List ℕ → Option Request
request_in head = found_in (find_request head)
