-- The marks of a history, one entry after the other.
use Rattle.std.proofs.Common.{◌≡◌, ℕ, ◌+◌, List, [], ◌∷◌, ◌++◌, sym, ap, ◌∙◌, refl, append-nil}
use Rattle.std.specs.List.{flat_map}
use Rattle.std.proofs.lemmas.Grind.{flat_map-append}
use Rattle.mely_history.specs.declared.entry.Entry.{Entry}
use Rattle.mely_event.specs.declared.colour.Colour.{Colour}
use Rattle.mely_history.specs.declared.entry.Entry.TheVariants.{Take, Steal}
use Rattle.mely_picture.specs.declared.bar.Bar.{Bar}
use Rattle.mely_picture.specs.declared.arrow.Arrow.{Arrow}
use Rattle.mely_picture.specs.Marks.{Mark, bar, arrow, before_finish, marks_of, marks_from}
use Rattle.mely_picture.specs.Texts.{mark_text}
use Rattle.mely_picture.proofs.ListLemmas.{text_more}

-- the text of the marks from a place on
abbrev pub marks_text : ℕ → ℕ → List Entry → List ℕ
marks_text top at entries = flat_map (mark_text top) (marks_from at entries)

-- the marks of an entry were added
pub marks_more : (top at : ℕ) (entry : Entry) (rest here : List Entry) (before after whole : List ℕ) → here ≡ entry ∷ rest
    → after ≡ before ++ flat_map (mark_text top) (marks_of at entry rest) → before ++ marks_text top at here ≡ whole → after ++ marks_text top (at + 1) rest ≡ whole
marks_more top at entry rest here before after whole parts is all =
    text_more before (flat_map (mark_text top) (marks_of at entry rest)) after (marks_text top (at + 1) rest) whole is
    (ap (λ t. before ++ t) (sym (flat_map-append (mark_text top) (marks_of at entry rest) (marks_from (at + 1) rest)) ∙ ap (λ es. marks_text top at es) (sym parts)) ∙ all)

-- the text of one mark
one_mark : (top : ℕ) (old new : List ℕ) (mark other : Mark) → mark ≡ other → new ≡ old ++ mark_text top mark → new ≡ old ++ flat_map (mark_text top) (other ∷ [])
one_mark top old new mark other same is = is ∙ ap (λ m. old ++ mark_text top m) same ∙ ap (λ t. old ++ t) (sym (append-nil (mark_text top other)))

abbrev pub bar_to : ℕ → ℕ → ℕ → ℕ → ℕ → Bar
bar_to colour core count at n = record { colour = colour; core = core; count = count; begin = at; end = at + 1 + n }

-- the bar of a take was added
pub take_marked : (top : ℕ) (old new : List ℕ) (at : ℕ) (entry : Entry) (rest : List Entry) (c : Colour) (core count n : ℕ) → entry ≡ Take c core count → n ≡ before_finish c rest
    → new ≡ old ++ mark_text top (bar (bar_to c.0 core count at n)) → new ≡ old ++ flat_map (mark_text top) (marks_of at entry rest)
take_marked top old new at entry rest c core count n is_take ends is =
    one_mark top old new (bar (bar_to c.0 core count at n)) (bar (bar_to c.0 core count at (before_finish c rest))) (ap (λ k. bar (bar_to c.0 core count at k)) ends) is
    ∙ ap (λ e. old ++ flat_map (mark_text top) (marks_of at e rest)) (sym is_take)

abbrev pub arrow_of : ℕ → ℕ → ℕ → ℕ → Arrow
arrow_of colour from to at = record { colour = colour; from = from; to = to; at = at }

-- the arrow of a steal was added
pub steal_marked : (top : ℕ) (old new : List ℕ) (at : ℕ) (entry : Entry) (rest : List Entry) (c : Colour) (from to : ℕ) → entry ≡ Steal c from to
    → new ≡ old ++ mark_text top (arrow (arrow_of c.0 from to at)) → new ≡ old ++ flat_map (mark_text top) (marks_of at entry rest)
steal_marked top old new at entry rest c from to is_steal is =
    one_mark top old new (arrow (arrow_of c.0 from to at)) (arrow (arrow_of c.0 from to at)) refl is ∙ ap (λ e. old ++ flat_map (mark_text top) (marks_of at e rest)) (sym is_steal)
