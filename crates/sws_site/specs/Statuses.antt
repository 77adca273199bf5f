-- The statuses that the server answers with (RFC 9110, section 15; RFC 6585, section 5): one
-- row of a table for each.
use Rattle.std.specs.Prelude.{ℕ, Bool, true, false, ◌==◌, List, [], ◌∷◌, codes, find, Option}
use Rattle.sws_site.specs.declared.statuses.Status.{Status}
use Rattle.sws_site.specs.declared.statuses.Status.TheVariants.{Success, PartialContent, MovedPermanently, NotModified, BadRequest, NotFound, MethodNotAllowed, RangeNotSatisfiable, HeaderFieldsTooLarge, NotImplemented}
use Rattle.sws_site.specs.declared.statuses.Body.{Body}
use Rattle.sws_site.specs.declared.statuses.Body.TheVariants.{Nothing, WholeFile, PartOfFile, StatusText}
use Rattle.sws_site.specs.declared.statuses.StatusRow.{StatusRow}

-- what the responses of one status have: the code; the code with the reason phrase, as the status
-- line has them (RFC 9112, section 4); the lines that not every head has; what the content is; and
-- whether the connection ends with it, whatever the request says
pub record Row : Type 0 where
  pub code : ℕ
  pub text : List ℕ
  pub is_dated : Bool
  pub lists_methods : Bool
  pub has_range : Bool
  pub has_location : Bool
  pub body : Body
  pub closes : Bool

-- a status that has no line of its own, and that its content tells
abbrev pub plain_row : ℕ → List ℕ → Row
plain_row code text = record {
  code = code;
  text = text;
  is_dated = false;
  lists_methods = false;
  has_range = false;
  has_location = false;
  body = StatusText;
  closes = false;
}

-- the table: of each status its code and reason phrase, which lines its head has that not every
-- head has, what its content is, and whether the connection ends with it
abbrev pub row_of : Status → Row
row_of Success = record (plain_row 200 (codes "200 OK")) { is_dated = true; body = WholeFile }
row_of PartialContent = record (plain_row 206 (codes "206 Partial Content")) {
  is_dated = true;
  has_range = true;
  body = PartOfFile;
}
row_of MovedPermanently =
    record (plain_row 301 (codes "301 Moved Permanently")) { has_location = true }
row_of NotModified =
    record (plain_row 304 (codes "304 Not Modified")) { is_dated = true; body = Nothing }
row_of BadRequest = record (plain_row 400 (codes "400 Bad Request")) { closes = true }
row_of NotFound = plain_row 404 (codes "404 Not Found")
row_of MethodNotAllowed =
    record (plain_row 405 (codes "405 Method Not Allowed")) { lists_methods = true }
row_of RangeNotSatisfiable =
    record (plain_row 416 (codes "416 Range Not Satisfiable")) { has_range = true }
row_of HeaderFieldsTooLarge =
    record (plain_row 431 (codes "431 Request Header Fields Too Large")) { closes = true }
row_of NotImplemented = plain_row 501 (codes "501 Not Implemented")

-- the code of a status (RFC 9110, section 15)
abbrev pub code_of : Status → ℕ
code_of status = (row_of status).code

-- the code of a status with its reason phrase
abbrev pub status_text : Status → List ℕ
status_text status = (row_of status).text

-- what the program's row says
abbrev pub row_value : StatusRow → Row
row_value row =
    record {
      code = row.code;
      text = row.text.now;
      is_dated = row.is_dated;
      lists_methods = row.lists_methods;
      has_range = row.has_range;
      has_location = row.has_location;
      body = row.body;
      closes = row.closes;
    }

-- all statuses
abbrev pub statuses : List Status
statuses =
    Success ∷ PartialContent ∷ MovedPermanently ∷ NotModified ∷ BadRequest ∷ NotFound
    ∷ MethodNotAllowed ∷ RangeNotSatisfiable ∷ HeaderFieldsTooLarge
    ∷ NotImplemented ∷ []

-- the status of this code, if there is one
abbrev pub status_with : ℕ → Option Status
status_with code = find (λ status. code_of status == code) statuses
