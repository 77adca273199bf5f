-- What is sent for the bytes of a whole connection: heads are answered in order, one after another
-- (RFC 9112, section 9.3.2).
use Rattle.std.specs.Prelude.{◌≡◌, ◌++◌, ℕ, zero, suc, Bool, ◌==◌, if◌then◌else◌, min, max, List, [], ◌∷◌, take, drop}
use Rattle.std.specs.List.{flat_map, list_any}
use Rattle.sws_request.specs.declared.cuts.Cut.{Cut}
use Rattle.sws_request.specs.declared.cuts.Cut.TheVariants.{Head, TooLong, NotYet}
use Rattle.sws_request.specs.Cuts.{cut_of}
use Rattle.sws_site.specs.Site.{SiteState}
use Rattle.sws_answer.specs.Asked.{too_long, asked_by}
use Rattle.sws_answer.specs.Answers.{Answer, answer_of, text_of}

-- so many bytes of a connection count, one at least, and no more than 32 bits can say
abbrev pub input_limit : SiteState → ℕ
input_limit site = min (max site.options.input 1) 4294967295

-- and so many heads are answered, one at least, and no more than 16 bits can say
abbrev pub answer_limit : SiteState → ℕ
answer_limit site = min (max site.options.answers 1) 65535

-- an answer, and those after it unless it closes
abbrev pub answers_from : Answer → List Answer → List Answer
answers_from answer later = answer ∷ (if answer.closes then [] else later)

-- the answers to the bytes, by where their first head ends, with those to the bytes after it
abbrev pub answers_at : SiteState → List ℕ → Bool → Cut → (ℕ → List Answer) → List Answer
answers_at site bytes last NotYet later = []
answers_at site bytes last TooLong later = answer_of site too_long last ∷ []
answers_at site bytes last (Head len) later =
    answers_from (answer_of site (asked_by (take len bytes)) last) (later len)

-- the answers to the bytes, of which at most so many are given
unfoldable pub answers : ℕ → SiteState → List ℕ → List Answer
answers zero site bytes = []
answers (suc more) site bytes =
    answers_at site bytes (more == 0) (cut_of bytes) (λ len. answers more site (drop len bytes))

-- the answers to all bytes of a connection: of as many as count, head after head is cut and
-- answered until an answer closes, no head is left, or as many were answered as are
unfoldable pub answers_to : SiteState → List ℕ → List Answer
answers_to site bytes = answers (answer_limit site) site (take (input_limit site) bytes)

-- their texts, one after another
abbrev pub texts_of : List Answer → List ℕ
texts_of given = flat_map text_of given

-- whether one of them closes, which is then the last
abbrev pub is_closed : List Answer → Bool
is_closed given = list_any (λ answer. answer.closes) given

-- the responses to all bytes of a connection
unfoldable pub responses_of : SiteState → List ℕ → List ℕ
responses_of site bytes = texts_of (answers_to site bytes)

-- the whole begins with the first ones
pub record Begins {A : Type 0} (first whole : List A) : Type 0 where
  pub later : List A
  pub is : whole ≡ first ++ later
