-- Where the head of a request ends in the bytes of a connection (RFC 9112, section 2.2).
use Rattle.std.specs.Prelude.{◌≡◌, ◌≢◌, ℕ, ◌<◌, ◌≤◌, ◌⊎◌, List, [], ◌∷◌, ◌++◌, length, take, All}
use Rattle.std.specs.List.{flat_map}
use Rattle.sws_request.specs.declared.cuts.Cut.{Cut}
use Rattle.sws_request.specs.declared.cuts.Cut.TheVariants.{Head, TooLong, NotYet}

-- the lines, one after another
abbrev pub join_lines : List (List ℕ) → List ℕ
join_lines lines = flat_map (λ line. line) lines

-- b'\n'
abbrev pub line_feed : ℕ
line_feed = 10

-- b'\r'
abbrev pub carriage_return : ℕ
carriage_return = 13

-- a text and the LF that ends it, which is the only one
pub record IsLine (line : List ℕ) : Type 0 where
  pub text : List ℕ
  pub no_feed : All (λ byte. byte ≢ line_feed) text
  pub is : line ≡ text ++ line_feed ∷ []

-- LF or CR LF
abbrev pub IsEmptyLine : List ℕ → Type 0
IsEmptyLine line = (line ≡ line_feed ∷ []) ⊎ (line ≡ carriage_return ∷ line_feed ∷ [])

-- any other line
abbrev pub IsOtherLine : List ℕ → Type 0
IsOtherLine line = IsLine line × (IsEmptyLine line → ⊥)

-- other lines up to and with the first empty line
pub record IsRestOfHead (bytes : List ℕ) : Type 0 where
  pub others : List (List ℕ)
  pub last : List ℕ
  pub other_lines : All IsOtherLine others
  pub last_line : IsEmptyLine last
  pub is : bytes ≡ join_lines others ++ last

-- any number of empty lines, then at least one other line, then other lines up to and
-- with the first empty line
pub record IsHead (bytes : List ℕ) : Type 0 where
  pub blank : List (List ℕ)
  pub first : List ℕ
  pub rest : List ℕ
  pub blank_lines : All IsEmptyLine blank
  pub first_line : IsOtherLine first
  pub rest_of_head : IsRestOfHead rest
  pub is : bytes ≡ join_lines blank ++ (first ++ rest)

-- the first len bytes are a head, and no shorter prefix is one
pub record BeginsWithHead (bytes : List ℕ) (len : ℕ) : Type 0 where
  pub fits : len ≤ length bytes
  pub head : IsHead (take len bytes)
  pub shortest : (n : ℕ) → n < len → IsHead (take n bytes) → ⊥

-- no prefix of at most limit bytes is a head
abbrev pub HasNoHeadWithin : ℕ → List ℕ → Type 0
HasNoHeadWithin limit bytes = (n : ℕ) → n ≤ limit → IsHead (take n bytes) → ⊥

-- a head has at most so many bytes
abbrev pub head_limit : ℕ
head_limit = 8192

-- the cut of the bytes: where their head ends, or that they are too many without one,
-- or that more are to come
abbrev pub IsCutOf : List ℕ → Cut → Type 0
IsCutOf bytes (Head len) = BeginsWithHead bytes len × (len ≤ head_limit)
IsCutOf bytes TooLong = HasNoHeadWithin head_limit bytes × (head_limit ≤ length bytes)
IsCutOf bytes NotYet = HasNoHeadWithin head_limit bytes × (length bytes < head_limit)
