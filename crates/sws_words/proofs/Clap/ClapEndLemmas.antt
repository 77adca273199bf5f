-- From the rows at the end of the walk to the faults of a whole parse, and from
-- the words to their kinds.
use Rattle.std.proofs.Common.{◌≡◌, ◌∙◌, ◌⊎◌, ◌==◌, ◌&&◌, ℕ, suc, Bool, true, false, List, [], ◌∷◌, Some, refl, sym, inl, inr, true≢false, nat_le, le-leb, arith, length, not}
use Rattle.std.specs.Prelude.{fold, if◌then◌else◌}
use Rattle.std.specs.Str.{bytes_eq}
use Rattle.clap.specs.Lexer.{name_and_value}
use Rattle.clap.specs.Walk.{Text, Walk, walked, settled}
use Rattle.clap.specs.Simple.{Shape}
use Rattle.clap.specs.Kinds.{Kinds, or_else}
use Rattle.clap.specs.Faults.{walk_fault, settle_fault, turn_fault}
use Rattle.sws_words.specs.Grammar.{is_bundle, has_bundle}
use Rattle.sws_words.proofs.Clap.ClapWalkLemmas.{unless, clap_rows, and_false}
use Rattle.sws_words.proofs.Clap.ClapGrammarLemmas.{IsNamed, IsBare, IsDashes, Clear}

-- the faults of the walk and of the last settling, and the rows there, are those of `clap_rows`
pub rows_of_walk : (s : Shape) (w : Walk) (words : List Text)
    → clap_rows s w words ≡ unless (or_else (walk_fault s [] w words) (settle_fault s.rules s.args_override_self (fold (walked s.rules []) w words).held))
    (Some (settled s.rules (fold (walked s.rules []) w words).held).rows)
unfolding walk_fault
rows_of_walk s w [] = refl
rows_of_walk s w (word ∷ words) = by_turn (turn_fault s [] w word) (rows_of_walk s (walked s.rules [] w word) words)
  where
    after : Walk
    after = fold (walked s.rules []) (walked s.rules [] w word) words

    by_turn : (k : Kinds)
        → clap_rows s (walked s.rules [] w word) words ≡ unless (or_else (walk_fault s [] (walked s.rules [] w word) words) (settle_fault s.rules s.args_override_self after.held)) (Some (settled s.rules after.held).rows)
        → unless k (clap_rows s (walked s.rules [] w word) words)
        ≡ unless (or_else (or_else k (walk_fault s [] (walked s.rules [] w word) words)) (settle_fault s.rules s.args_override_self after.held)) (Some (settled s.rules after.held).rows)
    by_turn [] e = e
    by_turn (k ∷ kinds) e = refl

two : (n : ℕ) → nat_le 2 (suc (suc n)) ≡ true
two n = le-leb 2 (suc (suc n)) (omega arith)

-- what a word is that is no bundle
pub sorted : (word : Text) → is_bundle word ≡ false → IsDashes word ⊎ (IsNamed word ⊎ IsBare word)
sorted [] e = inr (inr (record { no_dashes = refl; looks = refl; long = refl; short = refl }))
sorted (x ∷ []) e = by_first (x == 45) refl
  where
    by_first : (b : Bool) → (x == 45) ≡ b → IsDashes (x ∷ []) ⊎ (IsNamed (x ∷ []) ⊎ IsBare (x ∷ []))
    by_first true h = inr (inr (record { no_dashes = rw h refl; looks = refl; long = rw h refl; short = rw h refl }))
    by_first false h = inr (inr (record { no_dashes = rw h refl; looks = refl; long = rw h refl; short = rw h refl }))
sorted (x ∷ y ∷ rest) e = by_first (x == 45) (y == 45) rest refl refl e
  where
    by_first : (b c : Bool) (more : Text) → (x == 45) ≡ b → (y == 45) ≡ c → is_bundle (x ∷ y ∷ more) ≡ false
        → IsDashes (x ∷ y ∷ more) ⊎ (IsNamed (x ∷ y ∷ more) ⊎ IsBare (x ∷ y ∷ more))
    by_first true true [] h i n = inl (record { dashes = rw (h, i) refl; looks = rw h refl })
    by_first true true (z ∷ zs) h i n = inr (inl (record { no_dashes = rw (h, i) refl; looks = rw (h, two (suc (length zs))) refl; name = (name_and_value (z ∷ zs)).0; attached_value = (name_and_value (z ∷ zs)).1; long = rw (h, i) refl }))
    by_first true false more h i n = let t : true ≡ false = sym (rw (h, i) refl) ∙ n in absurd (true≢false t)
    by_first false c more h i n = inr (inr (record { no_dashes = rw h refl; looks = rw h (and_false (nat_le 2 (suc (suc (length more)))) false refl); long = rw h refl; short = rw h refl }))

-- `--` is no bundle
no_both : (word : Text) → bytes_eq word (45 ∷ 45 ∷ []) ≡ true → is_bundle word ≡ true → ⊥
no_both [] d b = true≢false (sym d)
no_both (x ∷ []) d b = true≢false (sym b)
no_both (x ∷ y ∷ rest) d b = by_bytes (x == 45) (y == 45) refl refl d b
  where
    by_bytes : (p q : Bool) → (x == 45) ≡ p → (y == 45) ≡ q → bytes_eq (x ∷ y ∷ rest) (45 ∷ 45 ∷ []) ≡ true → (p && not q) ≡ true → ⊥
    by_bytes false q hp hq d b = true≢false (sym b)
    by_bytes true true hp hq d b = true≢false (sym b)
    by_bytes true false hp hq d b = let f : bytes_eq (x ∷ y ∷ rest) (45 ∷ 45 ∷ []) ≡ false = rw (hp, hq) refl in true≢false (sym d ∙ f)

pub clear : (words : List Text) → has_bundle words ≡ false → Clear words
clear [] e = tt
clear (word ∷ words) e = by_word (bytes_eq word (45 ∷ 45 ∷ [])) (is_bundle word) refl refl (clear words) e
  where
    by_word : (d b : Bool) → bytes_eq word (45 ∷ 45 ∷ []) ≡ d → is_bundle word ≡ b → (has_bundle words ≡ false → Clear words)
        → (if d then false else if b then true else has_bundle words) ≡ false → Clear (word ∷ words)
    by_word false true hd hb later n = absurd (true≢false n)
    by_word true true hd hb later n = absurd (no_both word hd hb)
    by_word true false hd hb later n = elim (sorted word hb) [
      | inl is ↦ inl is
      | inr (inl is) ↦ absurd (true≢false (sym hd ∙ is.no_dashes))
      | inr (inr is) ↦ absurd (true≢false (sym hd ∙ is.no_dashes))
    ]
    by_word false false hd hb later n = elim (sorted word hb) [
      | inl is ↦ inl is
      | inr is ↦ inr (is, later n)
    ]
