-- What the head of a request says, by the grammar of httparse (RFC 9112, sections 2.2 and
-- 3; RFC 9110, section 5).
use Rattle.std.specs.Prelude.{◌≡◌, ℕ, ◌≤◌, List, [], ◌++◌, length, map, All}
use Rattle.httparse.specs.Grammar.{RequestHead, ReadsRequest}
use Rattle.httparse.specs.Spans.{name_and_value}
use Rattle.sws_request.specs.Head.{join_lines, IsEmptyLine}

-- a head has at most so many fields
abbrev pub field_limit : ℕ
field_limit = 64

-- a request: the fields are pairs of name and value, in order
pub record Request : Type 0 where
  pub method : List ℕ
  pub target : List ℕ
  pub minor : ℕ
  pub fields : List (List ℕ × List ℕ)

-- the request that a head of the grammar says
abbrev pub said_by : RequestHead → Request
said_by head = record {
  method = head.method;
  target = head.target;
  minor = head.minor;
  fields = map name_and_value head.fields;
}

-- the bytes begin with an empty line
pub record BeginsEmpty (bytes : List ℕ) : Type 0 where
  pub line : List ℕ
  pub rest : List ℕ
  pub empty : IsEmptyLine line
  pub is : bytes ≡ line ++ rest

-- what is left of the bytes without the empty lines at their front (RFC 9112, section 2.2)
pub record IsLeftOf (bytes : List ℕ) (rest : List ℕ) : Type 0 where
  pub blank : List (List ℕ)
  pub blank_lines : All IsEmptyLine blank
  pub is : bytes ≡ join_lines blank ++ rest
  pub all_blank : BeginsEmpty rest → ⊥

-- the bytes as a whole are a head of the grammar, which has few enough
-- fields, and says this request
pub record SaysRequest (bytes : List ℕ) (request : Request) : Type 0 where
  pub head : RequestHead
  pub reads : ReadsRequest bytes head []
  pub few : length head.fields ≤ field_limit
  pub says : request ≡ said_by head

-- what is left of the head says this request
pub record IsRequest (head : List ℕ) (request : Request) : Type 0 where
  pub rest : List ℕ
  pub left : IsLeftOf head rest
  pub says : SaysRequest rest request

-- it says none
abbrev pub IsNoRequest : List ℕ → Type 0
IsNoRequest head = (request : Request) → IsRequest head request → ⊥
