-- The word with which a line begins, and what may stand behind it.
use Rattle.std.specs.Prelude.{◌≡◌, ◌≢◌, ℕ, ◌<◌, ◌⊎◌, ◌==◌, if◌then◌else◌, List, [], ◌∷◌, ◌++◌, length, codes, Option, Some, None, MatchOption}
use Rattle.std.specs.Fmt.{decimal}
use Rattle.sws_text.specs.Texts.{StandsFor}
pub use Rattle.sws_text.specs.Lines.{HasNo}
use Rattle.sws_script.specs.declared.input.Item.TheVariants as item
use Rattle.sws_script.specs.declared.line.Line.{Line}
use Rattle.sws_script.specs.declared.line.Line.TheVariants as line
use Rattle.sws_script.specs.declared.words.Word.{Word}
use Rattle.sws_script.specs.declared.words.Word.TheVariants.{ScheduleHead, End, ScriptHead, Conn, Step, Cut, Send, Fill, Pause, Fault}
use Rattle.sws_script.specs.Lines.{IsWithin}
use Rattle.sws_script.specs.Limits.{run_limit, write_limit, cut_limit, send_limit, fill_limit, pause_limit}

-- a word as it is spelled at the front of a line
abbrev pub word_text : Word → List ℕ
word_text ScheduleHead = codes "sws-schedule 1"
word_text End = codes "end"
word_text ScriptHead = codes "sws-script 1"
word_text Conn = codes "conn"
word_text Step = codes "step "
word_text Cut = codes "cut "
word_text Send = codes "send "
word_text Fill = codes "fill "
word_text Pause = codes "pause "
word_text Fault = codes "fault"

-- all words
abbrev pub all_words : List Word
all_words = ScheduleHead ∷ End ∷ ScriptHead ∷ Conn ∷ Step ∷ Cut ∷ Send ∷ Fill ∷ Pause ∷ Fault ∷ []

-- what stands behind a word at the front of a line
abbrev pub strip_word : List ℕ → List ℕ → Option (List ℕ)
strip_word [] line = Some line
strip_word (letter ∷ word) [] = None
strip_word (letter ∷ word) (byte ∷ line) = if byte == letter then strip_word word line else None

-- the word with what stands behind it, where the line begins with it, and else what was found
abbrev pub onward : Word → Option (List ℕ) → Option (Word × List ℕ) → Option (Word × List ℕ)
onward word None other = other
onward word (Some rest) other = Some (word, rest)

-- the first of the words with which a line begins
abbrev pub first_word : List Word → List ℕ → Option (Word × List ℕ)
first_word [] text = None
first_word (word ∷ words) text =
    onward word (strip_word (word_text word) text) (first_word words text)

-- the word with which a line begins, and what stands behind it; `None` where it begins with no word
unfoldable pub word_in : List ℕ → Option (Word × List ℕ)
word_in text = first_word all_words text

-- the lines that a word begins, by what stands behind it
abbrev pub Says : Word → List ℕ → Line → Type 0
Says ScheduleHead rest says = (rest ≡ []) × (says ≡ line.ScheduleHead)
Says End rest says = (rest ≡ []) × (says ≡ line.End)
Says ScriptHead rest says = (rest ≡ []) × (says ≡ line.ScriptHead)
Says Conn rest says = (rest ≡ []) × (says ≡ line.Conn)
Says Step rest says =
    ((count : ℕ) × (says ≡ line.Step count) × (rest ≡ decimal count)
    × IsWithin 1 write_limit count)
    ⊎ ((core : ℕ) × (count : ℕ) × (says ≡ line.Run core count)
    × (rest ≡ decimal core ++ 32 ∷ decimal count) × (core < 65536) × IsWithin 1 run_limit count)
Says Cut rest says = (count : ℕ) × (says ≡ line.Cut count) × (rest ≡ decimal count)
    × IsWithin 0 cut_limit count
Says Send rest says = (bytes : List ℕ) × (says ≡ line.Item (item.Send bytes)) × StandsFor rest bytes
    × IsWithin 1 send_limit (length bytes)
Says Fill rest says = (count : ℕ) × (says ≡ line.Item (item.Fill count)) × (rest ≡ decimal count)
    × IsWithin 1 fill_limit count
Says Pause rest says = (count : ℕ) × (says ≡ line.Item (item.Pause count)) × (rest ≡ decimal count)
    × IsWithin 1 pause_limit count
Says Fault rest says = (rest ≡ []) × (says ≡ line.Item item.Fault)

-- what was read of a line behind its word: the line that it says, or none where it says none
abbrev pub ReadsBehind : Word → List ℕ → Option Line → Type 0
ReadsBehind word rest read = MatchOption read ((says : Line)
    → Says word rest says → ⊥) (Says word rest)
