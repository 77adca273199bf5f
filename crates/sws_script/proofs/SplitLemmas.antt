-- Lines that are spelled, and how many bytes they have.
use Rattle.std.proofs.Common.{◌≡◌, ◌≢◌, ℕ, ◌+◌, ◌<◌, ◌≤◌, ◌⊎◌, Bool, true, false, cond, eqb, List, [], ◌∷◌, ◌++◌, length, refl, sym, ap, ◌∙◌, inl, inr, arith, length-append, true-eqb}
use Rattle.std.specs.List.{onto_first, AllZip, AllByRecursion}
use Rattle.sws_script.specs.declared.line.Line.{Line}
use Rattle.sws_script.specs.Lines.{SpellsLine, IsLine, IsSpelled}
use Rattle.sws_script.specs.Grammar.{lines_of, size_of}
use Rattle.sws_script.proofs.LineLemmas.{SpellsLine-unique}

pub size_of-last : (lines : List (List ℕ)) (line : List ℕ) → size_of (lines ++ line ∷ []) ≡ size_of lines + (length line + 1)
size_of-last [] line = omega arith
size_of-last (l ∷ lines) line = let more = size_of-last lines line in omega arith

-- ---- lines that are spelled

-- the lines behind a place, and the line there
pub record Middle (R : List ℕ → Line → Type 0) (done : List (List ℕ)) (text : List ℕ) (lines : List Line) : Type 0 where
  pub before : List Line
  pub says : Line
  pub after : List Line
  pub is : lines ≡ before ++ says ∷ after
  pub spelled : AllZip R done before
  pub here : R text says

pub AllZip-middle : (R : List ℕ → Line → Type 0) (done : List (List ℕ)) (text : List ℕ) (more : List (List ℕ)) (lines : List Line) → AllZip R (done ++ text ∷ more) lines → Middle R done text lines
AllZip-middle R [] text more [] zip = absurd zip
AllZip-middle R [] text more (l ∷ lines) zip = record { before = []; says = l; after = lines; is = refl; spelled = tt; here = zip.0 }
AllZip-middle R (d ∷ done) text more [] zip = absurd zip
AllZip-middle R (d ∷ done) text more (l ∷ lines) zip =
    let rest = AllZip-middle R done text more lines zip.1 in
    record { before = l ∷ rest.before; says = rest.says; after = rest.after; is = ap (λ ls. l ∷ ls) rest.is; spelled = (zip.0, rest.spelled); here = rest.here }

pub AllZip-append : (R : List ℕ → Line → Type 0) (a b : List (List ℕ)) (x y : List Line) → AllZip R a x → AllZip R b y → AllZip R (a ++ b) (x ++ y)
AllZip-append R [] b [] y zip_a zip_b = zip_b
AllZip-append R [] b (l ∷ x) y zip_a zip_b = absurd zip_a
AllZip-append R (d ∷ a) b [] y zip_a zip_b = absurd zip_a
AllZip-append R (d ∷ a) b (l ∷ x) y zip_a zip_b = (zip_a.0, AllZip-append R a b x y zip_a.1 zip_b)

-- each line that is spelled is in range
abbrev pub AreLines : List Line → Type 0
AreLines lines = AllByRecursion IsLine lines

pub AreLines-middle : (before : List Line) (says : Line) (after : List Line) → AreLines (before ++ says ∷ after) → AreLines before × IsLine says
AreLines-middle [] says after all = (tt, all.0)
AreLines-middle (l ∷ before) says after all = let rest = AreLines-middle before says after all.1 in ((all.0, rest.0), rest.1)

pub AreLines-append : (a b : List Line) → AreLines a → AreLines b → AreLines (a ++ b)
AreLines-append [] b all_a all_b = all_b
AreLines-append (l ∷ a) b all_a all_b = (all_a.0, AreLines-append a b all_a.1 all_b)

pub spells-of : (texts : List (List ℕ)) (lines : List Line) → AllZip IsSpelled texts lines → AllZip SpellsLine texts lines × AreLines lines
spells-of [] [] zip = (tt, tt)
spells-of [] (l ∷ lines) zip = absurd zip
spells-of (t ∷ texts) [] zip = absurd zip
spells-of (t ∷ texts) (l ∷ lines) zip = let rest = spells-of texts lines zip.1 in ((zip.0.spells, rest.0), (zip.0.is, rest.1))

pub to-spelled : (texts : List (List ℕ)) (lines : List Line) → AllZip SpellsLine texts lines → AreLines lines → AllZip IsSpelled texts lines
to-spelled [] [] zip all = tt
to-spelled [] (l ∷ lines) zip all = absurd zip
to-spelled (t ∷ texts) [] zip all = absurd zip
to-spelled (t ∷ texts) (l ∷ lines) zip all = (record { spells = zip.0; is = all.0 }, to-spelled texts lines zip.1 all.1)

-- some texts spell one list of lines
pub spelled-unique : (texts : List (List ℕ)) (a b : List Line) → AllZip IsSpelled texts a → AllZip IsSpelled texts b → a ≡ b
spelled-unique [] [] [] zip_a zip_b = refl
spelled-unique [] [] (y ∷ b) zip_a zip_b = absurd zip_b
spelled-unique [] (x ∷ a) b zip_a zip_b = absurd zip_a
spelled-unique (t ∷ texts) [] b zip_a zip_b = absurd zip_a
spelled-unique (t ∷ texts) (x ∷ a) [] zip_a zip_b = absurd zip_b
spelled-unique (t ∷ texts) (x ∷ a) (y ∷ b) zip_a zip_b =
    ap (λ l. l ∷ a) (SpellsLine-unique t x y zip_a.0 zip_b.0) ∙ ap (λ l. y ∷ l) (spelled-unique texts a b zip_a.1 zip_b.1)
