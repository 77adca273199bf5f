-- A line of an access log in the combined format of nginx and Apache.
use Rattle.std.specs.Prelude.{ℕ, List, [], ◌∷◌, ◌++◌, take, drop, codes}
use Rattle.sws_text.specs.Numbers.{space_number}
use Rattle.sws_access.specs.Escapes.{quoted}
use Rattle.sws_access.specs.declared.visit.Visit.{Visit}

-- so many bytes of a text, from a place on
abbrev pub part : ℕ → ℕ → List ℕ → List ℕ
part start count text = take count (drop start text)

-- a date of HTTP, as `Sun, 06 Nov 1994 08:49:37 GMT`, as logs write it: `06/Nov/1994:08:49:37 +0000`
abbrev pub log_date : List ℕ → List ℕ
log_date date =
    part 5 2 date ++ 47 ∷ (part 8 3 date ++ 47 ∷ (part 12 4 date ++ 58 ∷ (part 17 8 date
    ++ codes " +0000")))

-- where it comes from: the address, two names that nobody gives, and the time
abbrev pub visit_front : Visit → List ℕ
visit_front visit =
    visit.address.now ++ codes " - - [" ++ log_date visit.date ++ codes "] "

-- what was asked for, the status code, and how long the body of the answer is
abbrev pub visit_answer : Visit → List ℕ
visit_answer visit =
    quoted visit.request.now ++ space_number visit.code ++ space_number visit.length

-- where the client says that it comes from, and what it says it is
abbrev pub visit_origin : Visit → List ℕ
visit_origin visit = 32 ∷ quoted visit.referer.now ++ 32 ∷ quoted visit.agent.now

-- all of it, on one line
abbrev pub combined_line : Visit → List ℕ
combined_line visit = visit_front visit ++ visit_answer visit ++ visit_origin visit ++ 10 ∷ []
