-- Redirects to folders.
use Rattle.std.proofs.Common.{◌≡◌, ⊎_elim, ℕ, ◌<◌, ◌≤◌, Bool, true, false, List, [], ◌∷◌, ◌++◌, length, take, drop, refl, ap, ◌∙◌, Option, None, Some, append_assoc, length-append, lit≤, arith, ◌-◌, ◌+◌, ◌*◌}
use Rattle.std.proofs.lemmas.List.{length-take}
use Rattle.std.specs.Prelude.{codes, not, if◌then◌else◌}
use Rattle.std.specs.List.{flat_map}
use Rattle.std.proofs.lemmas.Bool.{agree_below_at, cases_lt}
use Rattle.std.proofs.lemmas.Bool.Decides.{nat_tests}
use Rattle.percent_encoding.specs.AsciiSet.{should_percent_encode}
use Rattle.percent_encoding.specs.Percent.{percent_encode, percent_encode_byte, encode_byte}
use Rattle.sws_site.specs.declared.folders.TheConstants.{ESCAPED}
use Rattle.sws_site.specs.declared.options.SiteOptions.{SiteOptions}
use Rattle.sws_site.specs.declared.statuses.Status.TheVariants.{MovedPermanently}
use Rattle.sws_site.specs.declared.statuses.Body.TheVariants.{StatusText}
use Rattle.sws_site.specs.ResponseHeads.{ResponseHead, head_text, status_line, server_line, lines_text, line_end, connection_lines, content_lines}
use Rattle.sws_site.proofs.HeadLengthsLemmas.{length-head_text}
use Rattle.sws_site.specs.Fixed.{plain_text, fixed_body}
use Rattle.sws_site.specs.Folders.{stays_in_path, escaped_path, folder_path, redirect_head}

-- ---- the bytes that are escaped

escapes_ascii : (byte : ℕ) → byte < 128 → should_percent_encode ESCAPED byte ≡ not (stays_in_path byte)
unfolding should_percent_encode stays_in_path
escapes_ascii byte small = agree_below_at (should_percent_encode ESCAPED) (λ b. not (stays_in_path b)) 128 byte refl small

escapes_others : (byte : ℕ) → 128 ≤ byte → should_percent_encode ESCAPED byte ≡ not (stays_in_path byte)
unfolding should_percent_encode stays_in_path
escapes_others byte large = grind (arith, nat_tests)

turned : (t : Bool) (this that : List ℕ) → (if not t then this else that) ≡ (if t then that else this)
turned true this that = refl
turned false this that = refl

escaped_one : (byte : ℕ) → encode_byte ESCAPED byte ≡ (if stays_in_path byte then byte ∷ [] else percent_encode_byte byte)
escaped_one byte = ap (λ t. if t then percent_encode_byte byte else byte ∷ []) test ∙ turned (stays_in_path byte) (percent_encode_byte byte) (byte ∷ [])
  where
    test : should_percent_encode ESCAPED byte ≡ not (stays_in_path byte)
    test = ⊎_elim (escapes_ascii byte) (escapes_others byte) (cases_lt byte 128)

pub escaped-is : (bytes : List ℕ) → percent_encode ESCAPED bytes ≡ escaped_path bytes
unfolding percent_encode escaped_path
escaped-is [] = refl
escaped-is (byte ∷ bytes) =
    ap (λ (front : List ℕ). front ++ flat_map (encode_byte ESCAPED) bytes) (escaped_one byte)
    ∙ ap (λ (rest : List ℕ). (if stays_in_path byte then byte ∷ [] else percent_encode_byte byte) ++ rest) (escaped-is bytes)

-- the path that was written
pub folder_path-is : (index old new text : List ℕ) → old ≡ 47 ∷ [] → new ≡ old ++ text → text ≡ percent_encode ESCAPED (take (length index - 10) index)
    → new ≡ folder_path index
unfolding folder_path
folder_path-is index old new text is_old is_new is_text =
    is_new ∙ ap (λ (x : List ℕ). x ++ text) is_old ∙ ap (λ (x : List ℕ). 47 ∷ x) (is_text ∙ escaped-is (take (length index - 10) index))

-- how long it is at most
escaped-short : (bytes : List ℕ) → length (escaped_path bytes) ≤ 3 * length bytes
unfolding escaped_path percent_encode_byte
escaped-short [] = omega arith
escaped-short (byte ∷ bytes) =
    let rest = escaped-short bytes in
    omega (arith, rest, one (stays_in_path byte), length-append (if stays_in_path byte then byte ∷ [] else percent_encode_byte byte) (escaped_path bytes))
  where
    one : (t : Bool) → length (if t then byte ∷ [] else percent_encode_byte byte) ≤ 3
    one true = lit≤ tt
    one false = lit≤ tt

pub folder_path-short : (index : List ℕ) → length (folder_path index) ≤ 3 * length index + 1
unfolding folder_path
folder_path-short index =
    omega (arith, escaped-short (take (length index - 10) index), length-take (length index - 10) index)

-- ---- the head of a redirect

abbrev moved_head : Option (List ℕ) → Bool → Bool → Option ℕ → List ℕ → ResponseHead
moved_head location closes says_kept max_age headers = record {
  status = MovedPermanently;
  location = location;
  closes = closes;
  says_kept = says_kept;
  date = None;
  max_age = max_age;
  range = None;
  media_type = plain_text;
  len = 22;
  headers = headers;
}

-- without its location
abbrev pub unplaced : SiteOptions → Bool → ResponseHead
unplaced options closes = moved_head None closes options.keeps_alive None options.added.headers

pub unplaced-long : (options : SiteOptions) (closes : Bool) → 45 ≤ length (head_text (unplaced options closes))
unplaced-long options closes =
    let status : length (status_line MovedPermanently ++ line_end) ≡ 32 = refl in
    let server : length (server_line ++ line_end) ≡ 13 = refl in
    omega (arith, length-head_text (unplaced options closes), status, server)

-- the lines behind the location
abbrev later : Bool → Bool → List ℕ
later closes says_kept = lines_text (connection_lines closes says_kept ++ content_lines StatusText plain_text 22)

regroup : (a b c d : List ℕ) → a ++ ((b ++ c) ++ d) ≡ ((a ++ b) ++ c) ++ d
regroup a b c d = simp append_assoc

-- the line of the location stands behind the first 45 bytes
placed : (closes says_kept : Bool) (max_age : Option ℕ) (headers path : List ℕ)
    → (((take 45 (head_text (moved_head None closes says_kept max_age headers)) ++ codes "Location: ") ++ path) ++ line_end) ++ drop 45 (head_text (moved_head None closes says_kept max_age headers))
    ≡ head_text (moved_head (Some path) closes says_kept max_age headers)
unfolding head_text
placed true says_kept max_age headers path =
    ap (λ (x : List ℕ). (take 45 (head_text (moved_head None true says_kept max_age headers)) ++ codes "Location: ") ++ x) (regroup (path ++ line_end) (later true says_kept) headers line_end)
placed false true max_age headers path =
    ap (λ (x : List ℕ). (take 45 (head_text (moved_head None false true max_age headers)) ++ codes "Location: ") ++ x) (regroup (path ++ line_end) (later false true) headers line_end)
placed false false max_age headers path =
    ap (λ (x : List ℕ). (take 45 (head_text (moved_head None false false max_age headers)) ++ codes "Location: ") ++ x) (regroup (path ++ line_end) (later false false) headers line_end)

pub redirect_head-is : (options : SiteOptions) (closes : Bool) (path lines head : List ℕ) → lines ≡ head_text (unplaced options closes)
    → head ≡ (((take 45 lines ++ codes "Location: ") ++ path) ++ line_end) ++ drop 45 lines
    → head ≡ redirect_head options path closes
unfolding redirect_head fixed_body
redirect_head-is options closes path lines head is_lines is_head =
    is_head
    ∙ ap (λ (x : List ℕ). (((take 45 x ++ codes "Location: ") ++ path) ++ line_end) ++ drop 45 x) is_lines
    ∙ placed closes options.keeps_alive None options.added.headers path
