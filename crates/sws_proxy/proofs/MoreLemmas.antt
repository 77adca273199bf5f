-- What is told of some bytes but `More` is told of them with others behind.
use Rattle.std.proofs.Common.{◌≡◌, ◌⊎◌, ℕ, ◌+◌, ◌-◌, ◌*◌, ◌<◌, ◌≤◌, Bool, true, false, ◌||◌, cond, eqb, nat_eq, List, [], ◌∷◌, ◌++◌, length, take, drop, slice_index, codes, refl, sym, ap, subst, ◌∙◌, inl, inr, arith, length-append}
use Rattle.std.proofs.lemmas.Bool.{false≢true, cases_lt, cases_Bool, or_cases}
use Rattle.std.proofs.lemmas.Bool.Decides.{Decides-eqb}
use Rattle.std.proofs.lemmas.Slice.Eq.{starts_is}
use Rattle.std.proofs.lemmas.List.{get_or_append_left, take-append-le, take_all, append_assoc, length-take, length-drop, drop-append-le}
use Rattle.std.proofs.Math.Seq.{take-append-add}
use Rattle.std.specs.List.{starts_with}
use Rattle.sws_proxy.specs.declared.proxied.Proxied.{Proxied}
use Rattle.sws_proxy.specs.declared.proxied.Proxied.TheVariants as proxied
use Rattle.sws_proxy.specs.Blocks.{signature, is_sound, block_size, block_octets, source_octets, IsWhole, TellsBlock}
use Rattle.sws_proxy.specs.Lines.{before, first_line, IsOfLine, TellsLine}
use Rattle.sws_proxy.specs.Headers.{is_begun, TellsHeader}

-- the bytes begin with the text
front : (text bytes : List ℕ) → starts_with nat_eq bytes text ≡ true → bytes ≡ text ++ drop (length text) bytes
front text bytes = (starts_is Decides-eqb bytes text (starts_with nat_eq bytes text) refl).0

begins : (text bytes rest : List ℕ) → bytes ≡ text ++ rest → starts_with nat_eq bytes text ≡ true
begins text bytes = (starts_is Decides-eqb bytes text (starts_with nat_eq bytes text) refl).1

begins_more : (text bytes more : List ℕ) → starts_with nat_eq bytes text ≡ true → starts_with nat_eq (bytes ++ more) text ≡ true
begins_more text bytes more is =
    let rest = drop (length text) bytes in
    begins text (bytes ++ more) (rest ++ more) (ap (λ xs. xs ++ more) (front text bytes is) ∙ append_assoc text rest more)

-- two lists that go on to the same one: one begins with the other
parts : (a b c d : List ℕ) → a ++ b ≡ c ++ d → ((rest : List ℕ) × (a ≡ c ++ rest)) ⊎ ((rest : List ℕ) × (c ≡ a ++ rest))
parts a b [] d e = inl (a, refl)
parts [] b (y ∷ c) d e = inr (y ∷ c, refl)
parts (x ∷ a) b (y ∷ c) d e = with_rest (parts a b c d (ap (drop 1) e))
  where
    same : x ≡ y
    same = ap (λ xs. slice_index xs 0) e

    with_rest : ((rest : List ℕ) × (a ≡ c ++ rest)) ⊎ ((rest : List ℕ) × (c ≡ a ++ rest)) → ((rest : List ℕ) × (x ∷ a ≡ y ∷ c ++ rest)) ⊎ ((rest : List ℕ) × (y ∷ c ≡ x ∷ a ++ rest))
    with_rest (inl (rest, is)) = inl (rest, ap (λ b. b ∷ a) same ∙ ap (λ xs. y ∷ xs) is)
    with_rest (inr (rest, is)) = inr (rest, ap (λ b. b ∷ c) (sym same) ∙ ap (λ xs. x ∷ xs) is)

-- longer bytes that begin with the text: these do, or the text begins with them
either : (text bytes more : List ℕ) → starts_with nat_eq (bytes ++ more) text ≡ true → (starts_with nat_eq bytes text ≡ true) ⊎ (starts_with nat_eq text bytes ≡ true)
either text bytes more is = of (parts bytes more text (drop (length text) (bytes ++ more)) (front text (bytes ++ more) is))
  where
    of : ((rest : List ℕ) × (bytes ≡ text ++ rest)) ⊎ ((rest : List ℕ) × (text ≡ bytes ++ rest)) → (starts_with nat_eq bytes text ≡ true) ⊎ (starts_with nat_eq text bytes ≡ true)
    of (inl (rest, e)) = inl (begins text bytes rest e)
    of (inr (rest, e)) = inr (begins bytes text rest e)

-- a text that begins with longer bytes begins with these
shorter : (text bytes more : List ℕ) → starts_with nat_eq text (bytes ++ more) ≡ true → starts_with nat_eq text bytes ≡ true
shorter text bytes more is =
    let rest = drop (length (bytes ++ more)) text in
    begins bytes text (more ++ rest) (front (bytes ++ more) text is ∙ append_assoc bytes more rest)

-- ---- version 2

module _ (bytes more : List ℕ) (long : 16 ≤ length bytes) where
  at_same : (i : ℕ) → i < 16 → slice_index (bytes ++ more) i ≡ slice_index bytes i
  at_same i lt = get_or_append_left bytes more 0 i (omega arith)

  size_same : block_size (bytes ++ more) ≡ block_size bytes
  size_same = ap (λ n. n * 256 + slice_index (bytes ++ more) 15) (at_same 14 (omega arith)) ∙ ap (λ n. slice_index bytes 14 * 256 + n) (at_same 15 (omega arith))

  sound_same : is_sound (slice_index (bytes ++ more) 12) (slice_index (bytes ++ more) 13) (block_size (bytes ++ more)) ≡ is_sound (slice_index bytes 12) (slice_index bytes 13) (block_size bytes)
  sound_same =
      ap (λ c. is_sound c (slice_index (bytes ++ more) 13) (block_size (bytes ++ more))) (at_same 12 (omega arith))
      ∙ ap (λ f. is_sound (slice_index bytes 12) f (block_size (bytes ++ more))) (at_same 13 (omega arith))
      ∙ ap (is_sound (slice_index bytes 12) (slice_index bytes 13)) size_same

  octets_same : 16 + block_size bytes ≤ length bytes → block_octets (bytes ++ more) ≡ block_octets bytes
  octets_same there =
      let behind = drop 16 bytes in
      let room : block_size bytes ≤ length behind = omega (arith, length-drop 16 bytes) in
      let block : take (block_size (bytes ++ more)) (drop 16 (bytes ++ more)) ≡ take (block_size bytes) behind =
      ap (λ n. take n (drop 16 (bytes ++ more))) size_same
      ∙ ap (take (block_size bytes)) (drop-append-le 16 bytes more long)
      ∙ take-append-le (block_size bytes) behind more room in
      ap (λ c. source_octets c (slice_index (bytes ++ more) 13) (take (block_size (bytes ++ more)) (drop 16 (bytes ++ more)))) (at_same 12 (omega arith))
      ∙ ap (λ f. source_octets (slice_index bytes 12) f (take (block_size (bytes ++ more)) (drop 16 (bytes ++ more)))) (at_same 13 (omega arith))
      ∙ ap (source_octets (slice_index bytes 12) (slice_index bytes 13)) block

  block_long : (told : Proxied) → TellsBlock bytes told → (told ≡ proxied.More → ⊥) → TellsBlock (bytes ++ more) told
  block_long told tells not = by_sound (cases_Bool (is_sound (slice_index bytes 12) (slice_index bytes 13) (block_size bytes)))
    where
      longer : length (bytes ++ more) ≡ length bytes + length more
      longer = length-append bytes more

      whole : is_sound (slice_index bytes 12) (slice_index bytes 13) (block_size bytes) ≡ true → 16 + block_size bytes ≤ length bytes → TellsBlock (bytes ++ more) told
      whole holds there = record {
        short = λ s. absurd (omega (arith, longer, s, long));
        unsound = λ l fails. absurd (false≢true (sym fails ∙ sound_same ∙ holds));
        cut = λ l y s. absurd (omega (arith, longer, s, size_same, there));
        whole = λ y l. subst (λ n. IsWhole (16 + n) (block_octets (bytes ++ more)) told) (sym size_same) (subst (λ o. IsWhole (16 + block_size bytes) o told) (sym (octets_same there)) (tells.whole holds there));
      }

      by_end : is_sound (slice_index bytes 12) (slice_index bytes 13) (block_size bytes) ≡ true → (length bytes < 16 + block_size bytes) ⊎ (16 + block_size bytes ≤ length bytes) → TellsBlock (bytes ++ more) told
      by_end holds (inl cut) = absurd (not (tells.cut long holds cut))
      by_end holds (inr there) = whole holds there

      by_sound : (is_sound (slice_index bytes 12) (slice_index bytes 13) (block_size bytes) ≡ true) ⊎ (is_sound (slice_index bytes 12) (slice_index bytes 13) (block_size bytes) ≡ false) → TellsBlock (bytes ++ more) told
      by_sound (inl holds) = by_end holds (cases_lt (length bytes) (16 + block_size bytes))
      by_sound (inr fails) = record {
        short = λ s. absurd (omega (arith, longer, s, long));
        unsound = λ l n. tells.unsound long fails;
        cut = λ l holds s. absurd (false≢true (sym fails ∙ sym sound_same ∙ holds));
        whole = λ holds l. absurd (false≢true (sym fails ∙ sym sound_same ∙ holds));
      }

block_more : (bytes more : List ℕ) (told : Proxied) → TellsBlock bytes told → (told ≡ proxied.More → ⊥) → TellsBlock (bytes ++ more) told
block_more bytes more told tells not = by_length (cases_lt (length bytes) 16)
  where
    by_length : (length bytes < 16) ⊎ (16 ≤ length bytes) → TellsBlock (bytes ++ more) told
    by_length (inl short) = absurd (not (tells.short short))
    by_length (inr long) = block_long bytes more long told tells not

-- ---- version 1

length_before : (byte : ℕ) (text : List ℕ) → length (before byte text) ≤ length text
length_before byte [] = omega arith
length_before byte (b ∷ text) = by_test (length_before byte text) (eqb b byte)
  where
    by_test : length (before byte text) ≤ length text → (t : Bool) → length (cond t [] (b ∷ before byte text)) ≤ length (b ∷ text)
    by_test later true = omega arith
    by_test later false = omega (arith, later)

before_more : (byte : ℕ) (text more : List ℕ) → length (before byte text) < length text → before byte (text ++ more) ≡ before byte text
before_more byte [] more lt = absurd (omega arith)
before_more byte (b ∷ text) more lt = by_test (before_more byte text more) (eqb b byte) lt
  where
    by_test : (length (before byte text) < length text → before byte (text ++ more) ≡ before byte text) → (t : Bool) → length (cond t [] (b ∷ before byte text)) < length (b ∷ text) → cond t [] (b ∷ before byte (text ++ more)) ≡ cond t [] (b ∷ before byte text)
    by_test later true less = refl
    by_test later false less = ap (λ xs. b ∷ xs) (later (omega arith))

module _ (bytes more : List ℕ) (told : Proxied) (tells : TellsLine bytes told) (not : told ≡ proxied.More → ⊥) where
  within : length (first_line bytes) ≤ length bytes
  within = omega (arith, length_before 10 (take 107 bytes), length-take 107 bytes)

  -- a line that isn't ended is told of as long as it may go on
  ended : length (first_line bytes) < 107 → length (first_line bytes) < length bytes
  ended few = of (cases_lt (length (first_line bytes)) (length bytes))
    where
      of : (length (first_line bytes) < length bytes) ⊎ (length bytes ≤ length (first_line bytes)) → length (first_line bytes) < length bytes
      of (inl lt) = lt
      of (inr le) = absurd (not (tells.cut (omega (arith, le, within)) (omega (arith, le, few))))

  line_same : first_line (bytes ++ more) ≡ first_line bytes
  line_same = of (cases_lt (length bytes) 107)
    where
      of : (length bytes < 107) ⊎ (107 ≤ length bytes) → first_line (bytes ++ more) ≡ first_line bytes
      of (inr many) = ap (before 10) (take-append-le 107 bytes more many)
      of (inl few) =
          let all = take_all 107 bytes (omega arith) in
          let room : length bytes + (107 - length bytes) ≡ 107 = omega (arith, few) in
          let less = ended (omega (arith, within, few)) in
          let here = subst (λ xs. length (before 10 xs) < length bytes) all less in
          ap (λ n. before 10 (take n (bytes ++ more))) (sym room)
          ∙ ap (before 10) (take-append-add bytes more (107 - length bytes))
          ∙ before_more 10 bytes (take (107 - length bytes) more) here
          ∙ sym (ap (before 10) all)

  line_more : TellsLine (bytes ++ more) told
  line_more = record {
    cut = λ e few. tells.cut (omega (arith, e, within, ap length line_same, length-append bytes more)) (omega (arith, few, length-append bytes more));
    long = λ e. tells.long (sym (ap length line_same) ∙ e);
    line = λ less few.
        let short : length (first_line bytes) < 107 = omega (arith, few, ap length line_same) in
        subst (λ l. IsOfLine l told) (sym line_same) (tells.line (ended short) short);
  }

-- ---- either version

differ : (bytes : List ℕ) → starts_with nat_eq bytes signature ≡ true → starts_with nat_eq bytes (codes "PROXY ") ≡ true → ⊥
differ bytes one other =
    let first : 13 ≡ 80 = ap (λ xs. slice_index xs 0) (sym (front signature bytes one) ∙ front (codes "PROXY ") bytes other) in
    omega (arith, first)

or_left : (x y : Bool) → x ≡ true → (x || y) ≡ true
or_left x y e = ap (λ t. t || y) e

or_right : (x y : Bool) → y ≡ true → (x || y) ≡ true
or_right true y e = refl
or_right false y e = e

module _ (bytes more : List ℕ) (told : Proxied) (tells : TellsHeader bytes told) (not : told ≡ proxied.More → ⊥) where
  -- what has begun as neither isn't told to be none
  neither : starts_with nat_eq bytes signature ≡ false → starts_with nat_eq bytes (codes "PROXY ") ≡ false → is_begun bytes ≡ true → ⊥
  neither a b begun = not (tells.begun a b begun)

  block : starts_with nat_eq (bytes ++ more) signature ≡ true → TellsBlock (bytes ++ more) told
  block is = of (cases_Bool (starts_with nat_eq bytes signature)) (cases_Bool (starts_with nat_eq bytes (codes "PROXY "))) (either signature bytes more is)
    where
      of : (starts_with nat_eq bytes signature ≡ true) ⊎ (starts_with nat_eq bytes signature ≡ false) → (starts_with nat_eq bytes (codes "PROXY ") ≡ true) ⊎ (starts_with nat_eq bytes (codes "PROXY ") ≡ false) → (starts_with nat_eq bytes signature ≡ true) ⊎ (starts_with nat_eq signature bytes ≡ true) → TellsBlock (bytes ++ more) told
      of (inl holds) w e = block_more bytes more told (tells.block holds) not
      of (inr fails) (inl word) e = absurd (differ (bytes ++ more) is (begins_more (codes "PROXY ") bytes more word))
      of (inr fails) (inr none) (inl holds) = absurd (false≢true (sym fails ∙ holds))
      of (inr fails) (inr none) (inr begun) = absurd (neither fails none (or_left (starts_with nat_eq signature bytes) (starts_with nat_eq (codes "PROXY ") bytes) begun))

  line : starts_with nat_eq (bytes ++ more) (codes "PROXY ") ≡ true → TellsLine (bytes ++ more) told
  line is = of (cases_Bool (starts_with nat_eq bytes (codes "PROXY "))) (cases_Bool (starts_with nat_eq bytes signature)) (either (codes "PROXY ") bytes more is)
    where
      of : (starts_with nat_eq bytes (codes "PROXY ") ≡ true) ⊎ (starts_with nat_eq bytes (codes "PROXY ") ≡ false) → (starts_with nat_eq bytes signature ≡ true) ⊎ (starts_with nat_eq bytes signature ≡ false) → (starts_with nat_eq bytes (codes "PROXY ") ≡ true) ⊎ (starts_with nat_eq (codes "PROXY ") bytes ≡ true) → TellsLine (bytes ++ more) told
      of (inl holds) s e = line_more bytes more told (tells.line holds) not
      of (inr fails) (inl sign) e = absurd (differ (bytes ++ more) (begins_more signature bytes more sign) is)
      of (inr fails) (inr none) (inl holds) = absurd (false≢true (sym fails ∙ holds))
      of (inr fails) (inr none) (inr begun) = absurd (neither none fails (or_right (starts_with nat_eq signature bytes) (starts_with nat_eq (codes "PROXY ") bytes) begun))

  shorter_not : (text : List ℕ) → starts_with nat_eq (bytes ++ more) text ≡ false → starts_with nat_eq bytes text ≡ false
  shorter_not text fails = of (cases_Bool (starts_with nat_eq bytes text))
    where
      of : (starts_with nat_eq bytes text ≡ true) ⊎ (starts_with nat_eq bytes text ≡ false) → starts_with nat_eq bytes text ≡ false
      of (inl holds) = absurd (false≢true (sym fails ∙ begins_more text bytes more holds))
      of (inr none) = none

  begun_shorter : is_begun (bytes ++ more) ≡ true → is_begun bytes ≡ true
  begun_shorter is = of (or_cases (starts_with nat_eq signature (bytes ++ more)) (starts_with nat_eq (codes "PROXY ") (bytes ++ more)) is)
    where
      of : (starts_with nat_eq signature (bytes ++ more) ≡ true) ⊎ (starts_with nat_eq (codes "PROXY ") (bytes ++ more) ≡ true) → is_begun bytes ≡ true
      of (inl e) = or_left (starts_with nat_eq signature bytes) (starts_with nat_eq (codes "PROXY ") bytes) (shorter signature bytes more e)
      of (inr e) = or_right (starts_with nat_eq signature bytes) (starts_with nat_eq (codes "PROXY ") bytes) (shorter (codes "PROXY ") bytes more e)

  other : starts_with nat_eq bytes signature ≡ false → starts_with nat_eq bytes (codes "PROXY ") ≡ false → told ≡ proxied.Bad
  other a b = of (cases_Bool (is_begun bytes))
    where
      of : (is_begun bytes ≡ true) ⊎ (is_begun bytes ≡ false) → told ≡ proxied.Bad
      of (inl begun) = absurd (neither a b begun)
      of (inr none) = tells.other a b none

  pub more_same : TellsHeader (bytes ++ more) told
  more_same = record {
    block = block;
    line = line;
    begun = λ a b e. absurd (neither (shorter_not signature a) (shorter_not (codes "PROXY ") b) (begun_shorter e));
    other = λ a b e. other (shorter_not signature a) (shorter_not (codes "PROXY ") b);
  }
