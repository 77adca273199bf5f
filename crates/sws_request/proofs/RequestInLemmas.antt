-- Laws of the request that a head says: there is at most one.
use Rattle.std.specs.Prelude.{◌≡◌, ℕ, ◌⊎◌, List, [], Some, None}
use Rattle.std.proofs.Common.{refl, sym, ap, ◌∙◌, inl, inr}
use Rattle.httparse.proofs.GrammarLemmas.{request_unique}
use Rattle.sws_request.specs.Request.{Request, IsRequest, IsNoRequest, said_by}
use Rattle.sws_request.specs.RequestLaws.{find_request, SaysRequest-from}
use Rattle.sws_request.specs.Requests.{found_in, request_in}

-- there is no other request
IsRequest-unique : (head : List ℕ) (a b : Request) → IsRequest head a → IsRequest head b → a ≡ b
IsRequest-unique head a b x y =
    let p = SaysRequest-from head a x in
    let q = SaysRequest-from head b y in
    p.says ∙ ap said_by (request_unique head p.head q.head [] [] p.reads q.reads).0 ∙ sym q.says

pub request_in-request : (head : List ℕ) (request : Request) → IsRequest head request → request_in head ≡ Some request
request_in-request head request is = by_found (find_request head)
  where
    by_found : (found : ((request : Request) × IsRequest head request) ⊎ IsNoRequest head) → found_in found ≡ Some request
    by_found (inl said) = ap Some (IsRequest-unique head said.0 request said.1 is)
    by_found (inr none) = absurd (none request is)

pub request_in-none : (head : List ℕ) → IsNoRequest head → request_in head ≡ None
request_in-none head none = by_found (find_request head)
  where
    by_found : (found : ((request : Request) × IsRequest head request) ⊎ IsNoRequest head) → found_in found ≡ None
    by_found (inl said) = absurd (none said.0 said.1)
    by_found (inr other) = refl
