-- What clients send is read back.
use Rattle.std.proofs.Common.{◌≡◌, ◌<◌, ◌≤◌, ◌+◌, ◌-◌, ◌*◌, ◌/◌, ◌%◌, ◌^◌, ◌==◌, ℕ, Bool, true, false, List, [], ◌∷◌, ◌++◌, Option, Some, None, length, refl, ◌∙◌, ap, arith, sym, subst, append_assoc, length-append, nat_lt, nat_le, if◌then◌else◌, ne_eqb}
use Rattle.std.proofs.lemmas.Fmt.{decimal_by_steps}
use Rattle.std.proofs.lemmas.Grind.{common_steps}
use Rattle.std.proofs.lemmas.List.{append-nil}
use Rattle.std.specs.Char.{is_ascii_digit}
use Rattle.std.specs.Fmt.{decimal}
use Rattle.std.specs.List.{AllByRecursion}
use Rattle.std.specs.Prelude.{codes, flat_map}
use Rattle.mely_net.specs.declared.cut.Cut.{Cut}
use Rattle.mely_net.specs.declared.cut.Cut.TheVariants as cut
use Rattle.example_redis.specs.declared.frame.Fault.{Fault}
use Rattle.example_redis.specs.declared.frame.Fault.TheVariants as fault
use Rattle.example_redis.specs.declared.frame.Next.{Next}
use Rattle.example_redis.specs.declared.frame.Next.TheVariants.{Goes, Whole, Wrong}
use Rattle.example_redis.specs.declared.frame.Place.{Place}
use Rattle.example_redis.specs.declared.frame.Place.TheVariants.{Start, Count, CountEnd, Word, Size, SizeEnd, Bytes, BytesEnd}
use Rattle.example_redis.specs.declared.frame.Role.{Role}
use Rattle.example_redis.specs.declared.frame.Role.TheVariants.{Between, Inside, Behind}
use Rattle.example_redis.specs.declared.limits.TheConstants.{MOST_VALUE, MOST_WORDS}
use Rattle.example_redis.specs.Frames.{Says, Words, counted, cut_by, cut_from, grown, heard_by, heard_from, longer, next_of, no_words, number_next, role_of, with_digit_of, words_after}
use Rattle.example_redis.specs.Replies.{bulk}
use Rattle.example_redis.specs.Sent.{AreSendable, IsReadBack, sent}

longer_both : (one two : ℕ) (of : Cut) → longer one (longer two of) ≡ longer (one + two) of
longer_both one two cut.More = refl
longer_both one two (cut.Frame size) = ap cut.Frame (let same : one + (two + size) ≡ one + two + size = omega arith in same)
longer_both one two cut.Fault = refl

-- these bytes lead from one place to another, and the words that are read from those to these
record Passes (place : Place) (words : Words) (bytes : List ℕ) (next : Place) (after : Words) : Type 0 where
  cuts : (more : List ℕ) → cut_from place (bytes ++ more) ≡ longer (length bytes) (cut_from next more)
  hears : (more : List ℕ) → heard_from place words (bytes ++ more) ≡ heard_from next after more

one_byte : (place : Place) (words : Words) (byte : ℕ) (next : Place) (role : Role) → next_of place byte ≡ Goes next → role_of place byte ≡ role → Passes place words (byte ∷ []) next (words_after role byte words)
one_byte place words byte next role goes is = record {
  cuts = λ more. ap (λ (n : Next). cut_by n (λ place. cut_from place more)) goes;
  hears = λ more. ap (λ (n : Next). heard_by n (words_after (role_of place byte) byte words) (λ place after. heard_from place after more)) goes ∙ ap (λ (r : Role). heard_from next (words_after r byte words) more) is;
}

both : (place between next : Place) (words some after : Words) (one two : List ℕ) → Passes place words one between some → Passes between some two next after → Passes place words (one ++ two) next after
both place between next words some after one two first second = record {
  cuts = λ more. ap (cut_from place) (append_assoc one two more) ∙ first.cuts (two ++ more) ∙ ap (longer (length one)) (second.cuts more) ∙ longer_both (length one) (length two) (cut_from next more)
      ∙ ap (λ (count : ℕ). longer count (cut_from next more)) (sym (length-append one two));
  hears = λ more. ap (heard_from place words) (append_assoc one two more) ∙ first.hears (two ++ more) ∙ second.hears more;
}

none_passes : (place : Place) (words : Words) → Passes place words [] place words
none_passes place words = record { cuts = λ more. sym (longer_none (cut_from place more)); hears = λ more. refl }
  where
    longer_none : (of : Cut) → longer 0 of ≡ of
    longer_none cut.More = refl
    longer_none (cut.Frame size) = ap cut.Frame (let same : 0 + size ≡ size = omega arith in same)
    longer_none cut.Fault = refl

-- ---- a number

digit_is : (digit : ℕ) → digit < 10 → is_ascii_digit (48 + digit) ≡ true
digit_is digit low = grind (arith, common_steps)

module _ (goes : Option ℕ → Place) (ends : ℕ → Place) (fault : Fault) (most : ℕ) (nexts : (number : Option ℕ) (byte : ℕ) → next_of (goes number) byte ≡ number_next goes ends fault number byte most) (roles : (number : Option ℕ) (byte : ℕ) → role_of (goes number) byte ≡ Between) where
  digit_passes : (words : Words) (number : Option ℕ) (digit now : ℕ) → digit < 10 → grown number digit most ≡ Some now → Passes (goes number) words ((48 + digit) ∷ []) (goes (Some now)) words
  digit_passes words number digit now low is =
      let apart : (48 + digit == 13) ≡ false = ne_eqb (48 + digit) 13 (λ same. omega (arith, same)) in
      let is_digit = digit_is digit low in
      let value : 48 + digit - 48 ≡ digit = omega arith in
      let read : with_digit_of number (48 + digit) most ≡ Some now = ap (λ (b : Bool). if b then grown number (48 + digit - 48) most else None) is_digit ∙ ap (λ (d : ℕ). grown number d most) value ∙ is in
      one_byte (goes number) words (48 + digit) (goes (Some now)) Between
      (nexts number (48 + digit) ∙ ap (λ (b : Bool). if b then counted ends fault number else counted (λ longer. goes (Some longer)) fault (with_digit_of number (48 + digit) most)) apart ∙ ap (counted (λ longer. goes (Some longer)) fault) read)
      (roles number (48 + digit))

  number_passes : (words : Words) (number : ℕ) → number ≤ most → number < 2 ^ 64 → Passes (goes None) words (decimal number) (goes (Some number)) words
  number_passes words number few small = decimal_by_steps (λ n digits. n ≤ most → Passes (goes None) words digits (goes (Some n)) words)
      (λ n low _. digit_passes words None n n low refl)
      (λ n digits high before within.
      let less : n / 10 ≤ most = omega arith in
      let digit : n % 10 < 10 = omega arith in
      both (goes None) (goes (Some (n / 10))) (goes (Some n)) words words words digits ((48 + n % 10) ∷ []) (before less) (digit_passes words (Some (n / 10)) (n % 10) n digit (further n high within)))
      number small few
    where
      further : (n : ℕ) → 10 ≤ n → n ≤ most → grown (Some (n / 10)) (n % 10) most ≡ Some n
      further n high within =
          let apart : (n / 10 == 0) ≡ false = ne_eqb (n / 10) 0 (λ none. omega (arith, none)) in
          let same : n / 10 * 10 + n % 10 ≡ n = omega arith in
          let low : nat_le n most ≡ true = grind arith in
          ap (λ (b : Bool). if b then None else if nat_le (n / 10 * 10 + n % 10) most then Some (n / 10 * 10 + n % 10) else None) apart
          ∙ ap (λ (m : ℕ). if nat_le m most then Some m else None) same ∙ ap (λ (b : Bool). if b then Some n else None) low

  -- with its line end
  number_ends : (words : Words) (number : ℕ) (next : Place) → number ≤ most → number < 2 ^ 64 → next_of (ends number) 10 ≡ Goes next → role_of (ends number) 10 ≡ Between → Passes (goes None) words (decimal number ++ codes "\r\n") next words
  number_ends words number next few small end role = both (goes None) (goes (Some number)) next words words words (decimal number) (codes "\r\n") (number_passes words number few small)
      (both (goes (Some number)) (ends number) next words words words (13 ∷ []) (10 ∷ []) (one_byte (goes (Some number)) words 13 (ends number) Between (nexts (Some number) 13) (roles (Some number) 13)) (one_byte (ends number) words 10 next Between end role))

-- ---- a word

bytes_pass : (left : ℕ) (whole : List (List ℕ)) (word bytes : List ℕ) → Passes (Bytes left (length bytes)) (record { whole = whole; word = word }) bytes (Bytes left 0) (record { whole = whole; word = word ++ bytes })
bytes_pass left whole word [] = subst (λ (l : List ℕ). Passes (Bytes left 0) (record { whole = whole; word = word }) [] (Bytes left 0) (record { whole = whole; word = l })) (sym (append-nil word)) (none_passes (Bytes left 0) (record { whole = whole; word = word }))
bytes_pass left whole word (byte ∷ bytes) =
    let some : nat_lt 0 (length (byte ∷ bytes)) ≡ true = grind arith in
    let less : length (byte ∷ bytes) - 1 ≡ length bytes = omega arith in
    let goes : next_of (Bytes left (length (byte ∷ bytes))) byte ≡ Goes (Bytes left (length bytes)) = ap (λ (b : Bool). if b then Goes (Bytes left (length (byte ∷ bytes) - 1)) else if byte == 13 then Goes (BytesEnd left) else Wrong fault.NoEnd) some ∙ ap (λ (n : ℕ). Goes (Bytes left n)) less in
    let is : role_of (Bytes left (length (byte ∷ bytes))) byte ≡ Inside = ap (λ (b : Bool). if b then Inside else Behind) some in
    subst (λ (l : List ℕ). Passes (Bytes left (length (byte ∷ bytes))) (record { whole = whole; word = word }) (byte ∷ bytes) (Bytes left 0) (record { whole = whole; word = l })) (append_assoc word (byte ∷ []) bytes)
    (both (Bytes left (length (byte ∷ bytes))) (Bytes left (length bytes)) (Bytes left 0) _ _ _ (byte ∷ []) bytes (one_byte (Bytes left (length (byte ∷ bytes))) (record { whole = whole; word = word }) byte (Bytes left (length bytes)) Inside goes is) (bytes_pass left whole (word ++ byte ∷ []) bytes))

-- up to its line feed
abbrev front : List ℕ → List ℕ
front word = ((36 ∷ [] ++ (decimal (length word) ++ codes "\r\n")) ++ word) ++ (13 ∷ [])

front_passes : (left : ℕ) (whole : List (List ℕ)) (word : List ℕ) → length word ≤ MOST_VALUE → Passes (Word left) (record { whole = whole; word = [] }) (front word) (BytesEnd left) (record { whole = whole ++ word ∷ []; word = [] })
front_passes left whole word short =
    let small : length word < 2 ^ 64 = omega (arith, short) in
    both (Word left) (Bytes left 0) (BytesEnd left) _ _ _ ((36 ∷ [] ++ (decimal (length word) ++ codes "\r\n")) ++ word) (13 ∷ [])
    (both (Word left) (Bytes left (length word)) (Bytes left 0) _ _ _ (36 ∷ [] ++ (decimal (length word) ++ codes "\r\n")) word
    (both (Word left) (Size left None) (Bytes left (length word)) _ _ _ (36 ∷ []) (decimal (length word) ++ codes "\r\n") (one_byte (Word left) (record { whole = whole; word = [] }) 36 (Size left None) Between refl refl)
    (number_ends (Size left) (SizeEnd left) fault.Size MOST_VALUE (λ number byte. refl) (λ number byte. refl) (record { whole = whole; word = [] }) (length word) (Bytes left (length word)) short small refl refl))
    (bytes_pass left whole [] word))
    (one_byte (Bytes left 0) (record { whole = whole; word = word }) 13 (BytesEnd left) Behind refl refl)

bulk_is : (word : List ℕ) → front word ++ (10 ∷ []) ≡ bulk word
bulk_is word = append_assoc ((36 ∷ [] ++ (decimal (length word) ++ codes "\r\n")) ++ word) (13 ∷ []) (10 ∷ [])

word_passes : (left : ℕ) (whole : List (List ℕ)) (word : List ℕ) → 1 < left → length word ≤ MOST_VALUE → Passes (Word left) (record { whole = whole; word = [] }) (bulk word) (Word (left - 1)) (record { whole = whole ++ word ∷ []; word = [] })
word_passes left whole word many short =
    let more : nat_lt 1 left ≡ true = grind arith in
    subst (λ (l : List ℕ). Passes (Word left) (record { whole = whole; word = [] }) l (Word (left - 1)) (record { whole = whole ++ word ∷ []; word = [] })) (bulk_is word)
    (both (Word left) (BytesEnd left) (Word (left - 1)) _ _ _ _ (10 ∷ []) (front_passes left whole word short)
    (one_byte (BytesEnd left) (record { whole = whole ++ word ∷ []; word = [] }) 10 (Word (left - 1)) Between (ap (λ (b : Bool). if b then Goes (Word (left - 1)) else Whole) more) refl))

-- ---- a request

-- these bytes end a request of these words
record Finish (place : Place) (words : Words) (bytes : List ℕ) (said : List (List ℕ)) : Type 0 where
  cuts : (more : List ℕ) → cut_from place (bytes ++ more) ≡ cut.Frame (length bytes)
  hears : heard_from place words bytes ≡ Says said

then_finish : (place next : Place) (words after : Words) (one two : List ℕ) (said : List (List ℕ)) → Passes place words one next after → Finish next after two said → Finish place words (one ++ two) said
then_finish place next words after one two said first second = record {
  cuts = λ more. ap (cut_from place) (append_assoc one two more) ∙ first.cuts (two ++ more) ∙ ap (longer (length one)) (second.cuts more) ∙ ap cut.Frame (sym (length-append one two));
  hears = first.hears two ∙ second.hears;
}

last_word : (whole : List (List ℕ)) (word : List ℕ) → length word ≤ MOST_VALUE → Finish (Word 1) (record { whole = whole; word = [] }) (bulk word) (whole ++ word ∷ [])
last_word whole word short = subst (λ (l : List ℕ). Finish (Word 1) (record { whole = whole; word = [] }) l (whole ++ word ∷ [])) (bulk_is word)
    (then_finish (Word 1) (BytesEnd 1) _ _ _ (10 ∷ []) (whole ++ word ∷ []) (front_passes 1 whole word short) (record { cuts = λ more. refl; hears = refl }))

all_words : (whole : List (List ℕ)) (word : List ℕ) (words : List (List ℕ)) → AllByRecursion (λ one. length one ≤ MOST_VALUE) (word ∷ words) → Finish (Word (length (word ∷ words))) (record { whole = whole; word = [] }) (flat_map bulk (word ∷ words)) (whole ++ word ∷ words)
all_words whole word [] short = subst (λ (l : List ℕ). Finish (Word 1) (record { whole = whole; word = [] }) l (whole ++ word ∷ [])) (sym (append-nil (bulk word))) (last_word whole word short.0)
all_words whole word (next ∷ words) short =
    let many : 1 < length (word ∷ next ∷ words) = omega arith in
    let less : length (word ∷ next ∷ words) - 1 ≡ length (next ∷ words) = omega arith in
    subst (λ (l : List (List ℕ)). Finish (Word (length (word ∷ next ∷ words))) (record { whole = whole; word = [] }) (flat_map bulk (word ∷ next ∷ words)) l) (append_assoc whole (word ∷ []) (next ∷ words))
    (then_finish (Word (length (word ∷ next ∷ words))) (Word (length (next ∷ words))) _ _ (bulk word) (flat_map bulk (next ∷ words)) _
    (subst (λ (n : ℕ). Passes (Word (length (word ∷ next ∷ words))) (record { whole = whole; word = [] }) (bulk word) (Word n) (record { whole = whole ++ word ∷ []; word = [] })) less (word_passes (length (word ∷ next ∷ words)) whole word many short.0))
    (all_words (whole ++ word ∷ []) next words short.1))

finish_sent : (words : List (List ℕ)) → AreSendable words → Finish Start no_words (sent words) words
finish_sent [] can = absurd (let some = can.some in omega (arith, some))
finish_sent (word ∷ words) can =
    let few = can.few in
    let small : length (word ∷ words) < 2 ^ 64 = omega (arith, few) in
    let apart : (length (word ∷ words) == 0) ≡ false = ne_eqb (length (word ∷ words)) 0 (λ none. omega (arith, none)) in
    then_finish Start (Count None) no_words no_words (42 ∷ []) ((decimal (length (word ∷ words)) ++ codes "\r\n") ++ flat_map bulk (word ∷ words)) (word ∷ words) (one_byte Start no_words 42 (Count None) Between refl refl)
    (then_finish (Count None) (Word (length (word ∷ words))) no_words no_words (decimal (length (word ∷ words)) ++ codes "\r\n") (flat_map bulk (word ∷ words)) (word ∷ words)
    (number_ends Count CountEnd fault.Count MOST_WORDS (λ number byte. refl) (λ number byte. refl) no_words (length (word ∷ words)) (Word (length (word ∷ words))) few small (ap (λ (b : Bool). if b then Whole else Goes (Word (length (word ∷ words)))) apart) refl)
    (all_words [] word words can.short))

pub read_back : (words : List (List ℕ)) → AreSendable words → IsReadBack words
read_back words can = let finish = finish_sent words can in record { cut = finish.cuts; heard = finish.hears }
