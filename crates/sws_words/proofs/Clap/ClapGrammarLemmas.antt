-- The words behind a command, as `clap` reads them and as the grammar does.
use Rattle.std.proofs.Common.{◌≡◌, ◌∙◌, ◌⊎◌, ◌+◌, ℕ, Bool, true, false, List, [], ◌∷◌, map, Option, Some, None, refl, sym, ap, min, inl, inr, true≢false}
use Rattle.std.specs.Prelude.{option_and_then, nat_lt, is_some, ⊤}
use Rattle.std.specs.Str.{bytes_eq}
use Rattle.clap.specs.Lexer.{long_of, short_of, usize_max}
use Rattle.clap.specs.Walk.{Held, Row, Rule, Text, idle, option, walked, reacted, settled, pushed, used, arg_by_long, arg_by_id, arg_by_index, is_pending, takes_values, takes_several, most_values, pending_count}
use Rattle.clap.specs.Simple.{Shape}
use Rattle.clap.specs.Kinds.{Kinds, or_else}
use Rattle.clap.specs.Faults.{turn_fault, settle_fault, use_fault, react_fault}
use Rattle.clap.specs.declared.error.kind.ErrorKind.TheVariants as kind
use Rattle.sws_words.specs.Grammar.{Given, Known, place, given_by, is_among, looks_like_option, before, by_name}
use Rattle.sws_words.specs.Grammar as grammar
use Rattle.sws_words.proofs.Clap.ClapStepLemmas.{idle_at, awaiting_at, attached, attached-fault, awaits, flagged, dashes, plain, gets, or_else_nil}
use Rattle.sws_words.proofs.Clap.ClapWalkLemmas.{unless, ends, clap_rows, add, add_all, none_added, fault_first, no_rule, IsPlace, trailing_at, placed, after_dashes, placed-ends, and_false}

-- an option of the command
pub record IsOption (c : List Rule) (name : Text) : Type 0 where
  pub rule : Rule
  pub by_long : arg_by_long c name ≡ Some rule
  pub by_id : arg_by_id c rule.id ≡ Some rule
  pub takes : takes_values rule ≡ true
  pub wants : (again : Bool) (rows : List Row) → use_fault again rule [] rows ≡ kind.InvalidValue ∷ []
  pub same : bytes_eq rule.id rule.id ≡ true
  pub full : nat_lt 1 (most_values rule) ≡ false

pub record IsFlag (c : List Rule) (name : Text) : Type 0 where
  pub rule : Rule
  pub by_long : arg_by_long c name ≡ Some rule
  pub takes : takes_values rule ≡ false

-- a word that is no `--` and no bundle
pub record IsNamed (word : Text) : Type 0 where
  pub no_dashes : bytes_eq word (45 ∷ 45 ∷ []) ≡ false
  pub looks : looks_like_option word ≡ true
  pub name : Text
  pub attached_value : Option Text
  pub long : long_of word ≡ Some (name, attached_value)

pub record IsBare (word : Text) : Type 0 where
  pub no_dashes : bytes_eq word (45 ∷ 45 ∷ []) ≡ false
  pub looks : looks_like_option word ≡ false
  pub long : long_of word ≡ None
  pub short : short_of word ≡ None

pub record IsDashes (word : Text) : Type 0 where
  pub dashes : bytes_eq word (45 ∷ 45 ∷ []) ≡ true
  pub looks : looks_like_option word ≡ true

-- no bundle stands before `--`
abbrev pub Clear : List Text → Type 0
Clear [] = ⊤
Clear (word ∷ words) = IsDashes word ⊎ ((IsNamed word ⊎ IsBare word) × Clear words)

-- ---- of what is given

then_given : {X : Type 0} (f : List Given → Option X) (g : Given) (o : Option (List Given))
    → option_and_then f (before g o) ≡ option_and_then (λ rest. f (g ∷ rest)) o
then_given f g None = refl
then_given f g (Some rest) = refl

some_is_none : {X : Type 0} {x : X} → Some x ≡ None → ⊥
some_is_none e = true≢false (ap is_some e)

nothing : {X : Type 0} (k : Kinds) → unless {X = X} k None ≡ None
nothing [] = refl
nothing (k ∷ kinds) = refl

-- a use whose fault, or one before it, stops all
reacts : (s : Shape) (faults : Kinds) (a : Rule) (values : List Text) (rows : List Row) (p : ℕ) (o : Option (List Given))
    → unless (or_else faults (use_fault s.args_override_self a values rows)) (option_and_then (add_all s (Some (used a values rows)) p) o)
    ≡ option_and_then (add_all s (add s (Some a) values (unless faults (Some rows))) p) o
reacts s faults a values rows p None = nothing (or_else faults (use_fault s.args_override_self a values rows))
reacts s [] a values rows p (Some rest) = by_use (use_fault s.args_override_self a values rows)
  where
    by_use : (k : Kinds) → unless k (add_all s (Some (used a values rows)) p rest) ≡ add_all s (unless k (Some (used a values rows))) p rest
    by_use [] = refl
    by_use (k ∷ kinds) = sym (none_added s p rest)
reacts s (k ∷ kinds) a values rows p (Some rest) = sym (none_added s p rest)

-- what stops before a use that is still to come
stops : (s : Shape) (faults : Kinds) (rows : List Row) (p : ℕ) (o : Option (List Given))
    → unless faults (option_and_then (add_all s (Some rows) p) o) ≡ option_and_then (add_all s (unless faults (Some rows)) p) o
stops s [] rows p o = refl
stops s (k ∷ kinds) rows p None = refl
stops s (k ∷ kinds) rows p (Some rest) = sym (none_added s p rest)

-- a place, likewise
places_then : (s : Shape) (faults : Kinds) (a : Rule) (values : List Text) (rows : List Row) (p : ℕ) (o : Option (List Given))
    → unless faults (option_and_then (add_all s (add s (Some a) values (Some rows)) p) o)
    ≡ option_and_then (add_all s (add s (Some a) values (unless faults (Some rows))) p) o
places_then s faults a values rows p None = nothing faults
places_then s faults a values rows p (Some rest) = fault_first s faults (Some a) values rows p rest

stray_then : (s : Shape) (values : List Text) (rows : Option (List Row)) (p : ℕ) (o : Option (List Given))
    → option_and_then (add_all s (add s None values rows) p) o ≡ None
stray_then s values rows p None = refl
stray_then s values rows p (Some rest) = no_rule s values rows p rest

-- ---- all words

abbrev wanting : Rule → List Row → ℕ → Held
wanting a rows skip = record { rows = rows; pending = Some (a.id, []); skip = skip }

module _ (s : Shape) (leaf : s.is_leaf ≡ true) (places : (p : ℕ) (a : Rule) → arg_by_index s.rules p ≡ Some a → IsPlace s.rules a)
    (known : Known)
    (options : (name : Text) → is_among name known.options ≡ true → IsOption s.rules name)
    (flags : (name : Text) → is_among name known.options ≡ false → is_among name known.flags ≡ true → IsFlag s.rules name)
    (others : (name : Text) → is_among name known.options ≡ false → is_among name known.flags ≡ false → arg_by_long s.rules name ≡ None) where
  abbrev IdleReads : List Text → Type 0
  IdleReads words = (h : Held) (p : ℕ) → clap_rows s (idle_at h p) words ≡ option_and_then (add_all s (ends s h) p) (given_by known None words)

  abbrev AwaitingReads : List Text → Type 0
  AwaitingReads words = (name : Text) (is : IsOption s.rules name) (rows : List Row) (skip p : ℕ)
      → clap_rows s (awaiting_at is.rule.id (wanting is.rule rows skip) p) words ≡ option_and_then (add_all s (Some rows) p) (given_by known (Some name) words)

  wants-value : (name : Text) (is : IsOption s.rules name) (rows : List Row) (skip : ℕ) → ends s (wanting is.rule rows skip) ≡ None
  wants-value name is rows skip = rw (is.by_id, is.wants s.args_override_self rows) refl

  idle-dashes : (word : Text) (words : List Text) → IsDashes word → (h : Held) (p : ℕ)
      → clap_rows s (idle_at h p) (word ∷ words) ≡ option_and_then (add_all s (ends s h) p) (given_by known None (word ∷ words))
  unfolding given_by
  idle-dashes word words is h p =
      rw (is.dashes, dashes s.rules h p word is.dashes) (after_dashes s leaf places words idle h p)

  idle-bare : (word : Text) (words : List Text) → IsBare word → IdleReads words → (h : Held) (p : ℕ)
      → clap_rows s (idle_at h p) (word ∷ words) ≡ option_and_then (add_all s (ends s h) p) (given_by known None (word ∷ words))
  unfolding given_by
  idle-bare word words is later h p = by_place (arg_by_index s.rules p) refl
    where
      next : ℕ
      next = min (p + 1) usize_max

      given : Option (List Given)
      given = given_by known None words

      grammars : option_and_then (add_all s (ends s h) p) (given_by known None (word ∷ words))
          ≡ option_and_then (add_all s (add s (arg_by_index s.rules p) (word ∷ []) (ends s h)) next) given
      grammars = rw (is.no_dashes, is.looks) (then_given (add_all s (ends s h) p) (place word) given)

      by_place : (o : Option Rule) → arg_by_index s.rules p ≡ o
          → clap_rows s (idle_at h p) (word ∷ words) ≡ option_and_then (add_all s (ends s h) p) (given_by known None (word ∷ words))
      by_place None e =
          let stray : turn_fault s [] (idle_at h p) word ≡ kind.UnknownArgument ∷ [] = rw (is.no_dashes, is.long, is.short, e, leaf) refl in
          ap (λ k. unless k (clap_rows s (walked s.rules [] (idle_at h p) word) words)) stray
          ∙ sym (grammars ∙ ap (λ o. option_and_then (add_all s (add s o (word ∷ []) (ends s h)) next) given) e ∙ stray_then s (word ∷ []) (ends s h) next given)
      by_place (Some a) e =
          let at = places p a e in
          let faults = settle_fault s.rules s.args_override_self h in
          let turn : turn_fault s [] (idle_at h p) word ≡ faults = rw (is.no_dashes, is.long, is.short, e, and_false (is_pending a h.pending) (takes_several a) at.one) refl in
          let went : walked s.rules [] (idle_at h p) word ≡ idle_at (placed s.rules a word h) next =
          plain s.rules h p word is.no_dashes is.long is.short ∙ rw (e, and_false (is_pending a h.pending) (takes_several a) at.one, at.once, at.goes_on) refl in
          ap (λ k. unless k (clap_rows s (walked s.rules [] (idle_at h p) word) words)) turn
          ∙ ap (λ w. unless faults (clap_rows s w words)) went
          ∙ ap (unless faults) (later (placed s.rules a word h) next)
          ∙ ap (λ rows. unless faults (option_and_then (add_all s rows next) given)) (placed-ends s leaf places h word a at.by_id)
          ∙ places_then s faults a (word ∷ []) (settled s.rules h).rows next given
          ∙ sym (grammars ∙ ap (λ o. option_and_then (add_all s (add s o (word ∷ []) (ends s h)) next) given) e)

  -- an option whose value stands in its word
  idle-attached : (word : Text) (words : List Text) (is : IsNamed word) (v : Text) → is.attached_value ≡ Some v → (named : is_among is.name known.options ≡ true)
      → IdleReads words → (h : Held) (p : ℕ)
      → clap_rows s (idle_at h p) (word ∷ words) ≡ option_and_then (add_all s (ends s h) p) (given_by known None (word ∷ words))
  unfolding given_by
  idle-attached word words is v ev named later h p =
      let a = options is.name named in
      let long : long_of word ≡ Some (is.name, Some v) = is.long ∙ ap (λ (o : Option Text). Some (is.name, o)) ev in
      let given = given_by known None words in
      let fault = react_fault s.rules s.args_override_self a.rule (v ∷ []) h in
      let grammars : option_and_then (add_all s (ends s h) p) (given_by known None (word ∷ words))
      ≡ option_and_then (add_all s (add s (arg_by_long s.rules is.name) (v ∷ []) (ends s h)) p) given =
      rw (is.no_dashes, is.looks, long, named) (then_given (add_all s (ends s h) p) (grammar.option is.name v) given) in
      ap (λ k. unless k (clap_rows s (walked s.rules [] (idle_at h p) word) words)) (attached-fault s h p word is.name v a.rule is.no_dashes long a.by_long a.takes)
      ∙ ap (λ w. unless fault (clap_rows s w words)) (attached s.rules h p word is.name v a.rule is.no_dashes long a.by_long a.takes)
      ∙ ap (unless fault) (later (reacted s.rules a.rule (v ∷ []) h) p)
      ∙ reacts s (settle_fault s.rules s.args_override_self h) a.rule (v ∷ []) (settled s.rules h).rows p given
      ∙ sym (grammars ∙ ap (λ o. option_and_then (add_all s (add s o (v ∷ []) (ends s h)) p) given) a.by_long)

  -- an option whose value is the next word
  idle-awaits : (word : Text) (words : List Text) (is : IsNamed word) → is.attached_value ≡ None → (named : is_among is.name known.options ≡ true)
      → AwaitingReads words → (h : Held) (p : ℕ)
      → clap_rows s (idle_at h p) (word ∷ words) ≡ option_and_then (add_all s (ends s h) p) (given_by known None (word ∷ words))
  unfolding given_by
  idle-awaits word words is ev named later h p =
      let a = options is.name named in
      let long : long_of word ≡ Some (is.name, None) = is.long ∙ ap (λ (o : Option Text). Some (is.name, o)) ev in
      let fault = settle_fault s.rules s.args_override_self h in
      let turn : turn_fault s [] (idle_at h p) word ≡ fault = rw (is.no_dashes, long, a.by_long, a.takes) (or_else_nil fault) in
      let grammars : given_by known None (word ∷ words) ≡ given_by known (Some is.name) words = rw (is.no_dashes, is.looks, long, named) refl in
      ap (λ k. unless k (clap_rows s (walked s.rules [] (idle_at h p) word) words)) turn
      ∙ ap (λ w. unless fault (clap_rows s w words)) (awaits s.rules h p word is.name a.rule is.no_dashes long a.by_long a.takes)
      ∙ ap (unless fault) (later is.name a (settled s.rules h).rows h.skip p)
      ∙ stops s fault (settled s.rules h).rows p (given_by known (Some is.name) words)
      ∙ ap (option_and_then (add_all s (ends s h) p)) (sym grammars)

  -- a flag
  idle-flag : (word : Text) (words : List Text) (is : IsNamed word) → is.attached_value ≡ None → (plain_name : is_among is.name known.options ≡ false)
      → (named : is_among is.name known.flags ≡ true) → IdleReads words → (h : Held) (p : ℕ)
      → clap_rows s (idle_at h p) (word ∷ words) ≡ option_and_then (add_all s (ends s h) p) (given_by known None (word ∷ words))
  unfolding given_by
  idle-flag word words is ev plain_name named later h p =
      let a = flags is.name plain_name named in
      let long : long_of word ≡ Some (is.name, None) = is.long ∙ ap (λ (o : Option Text). Some (is.name, o)) ev in
      let given = given_by known None words in
      let fault = react_fault s.rules s.args_override_self a.rule [] h in
      let turn : turn_fault s [] (idle_at h p) word ≡ fault = rw (is.no_dashes, long, a.by_long, a.takes) (or_else_nil fault) in
      let grammars : option_and_then (add_all s (ends s h) p) (given_by known None (word ∷ words))
      ≡ option_and_then (add_all s (add s (arg_by_long s.rules is.name) [] (ends s h)) p) given =
      rw (is.no_dashes, is.looks, long, plain_name, named) (then_given (add_all s (ends s h) p) (grammar.flag is.name) given) in
      ap (λ k. unless k (clap_rows s (walked s.rules [] (idle_at h p) word) words)) turn
      ∙ ap (λ w. unless fault (clap_rows s w words)) (flagged s.rules h p word is.name a.rule is.no_dashes long a.by_long a.takes)
      ∙ ap (unless fault) (later (reacted s.rules a.rule [] h) p)
      ∙ reacts s (settle_fault s.rules s.args_override_self h) a.rule [] (settled s.rules h).rows p given
      ∙ sym (grammars ∙ ap (λ o. option_and_then (add_all s (add s o [] (ends s h)) p) given) a.by_long)

  -- a flag with a value, and a name that the command hasn't
  idle-flag-with-value : (word : Text) (words : List Text) (is : IsNamed word) (v : Text) → is.attached_value ≡ Some v → (plain_name : is_among is.name known.options ≡ false)
      → (named : is_among is.name known.flags ≡ true) → (h : Held) (p : ℕ)
      → clap_rows s (idle_at h p) (word ∷ words) ≡ option_and_then (add_all s (ends s h) p) (given_by known None (word ∷ words))
  unfolding given_by
  idle-flag-with-value word words is v ev plain_name named h p =
      let a = flags is.name plain_name named in
      let long : long_of word ≡ Some (is.name, Some v) = is.long ∙ ap (λ (o : Option Text). Some (is.name, o)) ev in
      rw (is.no_dashes, is.looks, long, plain_name, named, a.by_long, a.takes) refl

  idle-other : (word : Text) (words : List Text) (is : IsNamed word) → (plain_name : is_among is.name known.options ≡ false)
      → (no_flag : is_among is.name known.flags ≡ false) → (h : Held) (p : ℕ)
      → clap_rows s (idle_at h p) (word ∷ words) ≡ option_and_then (add_all s (ends s h) p) (given_by known None (word ∷ words))
  unfolding given_by
  idle-other word words is plain_name no_flag h p =
      rw (is.no_dashes, is.looks, is.long, plain_name, no_flag, others is.name plain_name no_flag) refl

  idle-named : (word : Text) (words : List Text) (is : IsNamed word) → IdleReads words → AwaitingReads words → (h : Held) (p : ℕ)
      → clap_rows s (idle_at h p) (word ∷ words) ≡ option_and_then (add_all s (ends s h) p) (given_by known None (word ∷ words))
  idle-named word words is later later_value h p = by_name (is_among is.name known.options) (is_among is.name known.flags) is.attached_value refl refl refl
    where
      by_name : (o f : Bool) (v : Option Text) → is_among is.name known.options ≡ o → is_among is.name known.flags ≡ f → is.attached_value ≡ v
          → clap_rows s (idle_at h p) (word ∷ words) ≡ option_and_then (add_all s (ends s h) p) (given_by known None (word ∷ words))
      by_name true f (Some v) eo ef ev = idle-attached word words is v ev eo later h p
      by_name true f None eo ef ev = idle-awaits word words is ev eo later_value h p
      by_name false true None eo ef ev = idle-flag word words is ev eo ef later h p
      by_name false true (Some v) eo ef ev = idle-flag-with-value word words is v ev eo ef h p
      by_name false false v eo ef ev = idle-other word words is eo ef h p

  -- ---- where an option waits for its value

  awaiting-bare : (word : Text) (words : List Text) → IsBare word → IdleReads words
      → (name : Text) (is : IsOption s.rules name) (rows : List Row) (skip p : ℕ)
      → clap_rows s (awaiting_at is.rule.id (wanting is.rule rows skip) p) (word ∷ words) ≡ option_and_then (add_all s (Some rows) p) (given_by known (Some name) (word ∷ words))
  unfolding given_by
  awaiting-bare word words bare later name is rows skip p =
      let a = is.rule in
      let h = wanting a rows skip in
      let given = given_by known None words in
      let enough : nat_lt (pending_count a (pushed a.id word h).pending) (most_values a) ≡ false = rw (is.same) is.full in
      let turn : turn_fault s [] (awaiting_at a.id h p) word ≡ [] = rw (bare.no_dashes, bare.long, bare.short) refl in
      let used_up : ends s (pushed a.id word h) ≡ add s (Some a) (word ∷ []) (Some rows) = rw (is.by_id) refl in
      let grammars : option_and_then (add_all s (Some rows) p) (given_by known (Some name) (word ∷ words))
      ≡ option_and_then (add_all s (add s (arg_by_long s.rules name) (word ∷ []) (Some rows)) p) given =
      rw (bare.looks) (then_given (add_all s (Some rows) p) (grammar.option name word) given) in
      ap (λ k. unless k (clap_rows s (walked s.rules [] (awaiting_at a.id h p) word) words)) turn
      ∙ ap (λ w. clap_rows s w words) (gets s.rules h p word a.id a bare.no_dashes bare.long bare.short is.by_id enough)
      ∙ later (pushed a.id word h) p
      ∙ ap (λ r. option_and_then (add_all s r p) given) used_up
      ∙ sym (grammars ∙ ap (λ o. option_and_then (add_all s (add s o (word ∷ []) (Some rows)) p) given) is.by_long)

  awaiting-dashes : (word : Text) (words : List Text) → IsDashes word
      → (name : Text) (is : IsOption s.rules name) (rows : List Row) (skip p : ℕ)
      → clap_rows s (awaiting_at is.rule.id (wanting is.rule rows skip) p) (word ∷ words) ≡ option_and_then (add_all s (Some rows) p) (given_by known (Some name) (word ∷ words))
  unfolding given_by walked
  awaiting-dashes word words two name is rows skip p =
      let h = wanting is.rule rows skip in
      let went : walked s.rules [] (awaiting_at is.rule.id h p) word ≡ trailing_at (option is.rule.id) h p = rw (two.dashes) refl in
      let turn : turn_fault s [] (awaiting_at is.rule.id h p) word ≡ [] = rw (two.dashes) refl in
      let grammars : given_by known (Some name) (word ∷ words) ≡ None = rw (two.looks) refl in
      ap (λ k. unless k (clap_rows s (walked s.rules [] (awaiting_at is.rule.id h p) word) words)) turn
      ∙ ap (λ w. clap_rows s w words) went
      ∙ after_dashes s leaf places words (option is.rule.id) h p
      ∙ ap (λ r. add_all s r p (map place words)) (wants-value name is rows skip)
      ∙ none_added s p (map place words)
      ∙ ap (option_and_then (add_all s (Some rows) p)) (sym grammars)

  -- a word that looks like an option is no value
  missing : (word : Text) (named : IsNamed word) (name : Text) (is : IsOption s.rules name) (rows : List Row) (skip p : ℕ)
      → unless {X = List Row} (turn_fault s [] (awaiting_at is.rule.id (wanting is.rule rows skip) p) word) (Some []) ≡ None
  missing word named name is rows skip p =
      by_name (is_among named.name known.options) (is_among named.name known.flags) named.attached_value refl refl refl
    where
      by_name : (o f : Bool) (v : Option Text) → is_among named.name known.options ≡ o → is_among named.name known.flags ≡ f → named.attached_value ≡ v
          → unless {X = List Row} (turn_fault s [] (awaiting_at is.rule.id (wanting is.rule rows skip) p) word) (Some []) ≡ None
      by_name true f (Some v) eo ef ev =
          let a = options named.name eo in
          rw (named.no_dashes, named.long, ev, a.by_long, a.takes, is.by_id, is.wants s.args_override_self rows) refl
      by_name true f None eo ef ev =
          let a = options named.name eo in
          rw (named.no_dashes, named.long, ev, a.by_long, a.takes, is.by_id, is.wants s.args_override_self rows) refl
      by_name false true None eo ef ev =
          let a = flags named.name eo ef in
          rw (named.no_dashes, named.long, ev, a.by_long, a.takes, is.by_id, is.wants s.args_override_self rows) refl
      by_name false true (Some v) eo ef ev =
          let a = flags named.name eo ef in
          rw (named.no_dashes, named.long, ev, a.by_long, a.takes) refl
      by_name false false v eo ef ev = rw (named.no_dashes, named.long, others named.name eo ef) refl

  awaiting-named : (word : Text) (words : List Text) → IsNamed word
      → (name : Text) (is : IsOption s.rules name) (rows : List Row) (skip p : ℕ)
      → clap_rows s (awaiting_at is.rule.id (wanting is.rule rows skip) p) (word ∷ words) ≡ option_and_then (add_all s (Some rows) p) (given_by known (Some name) (word ∷ words))
  unfolding given_by
  awaiting-named word words named name is rows skip p =
      let h = wanting is.rule rows skip in
      let grammars : given_by known (Some name) (word ∷ words) ≡ None = rw (named.looks) refl in
      stopped (turn_fault s [] (awaiting_at is.rule.id h p) word) (clap_rows s (walked s.rules [] (awaiting_at is.rule.id h p) word) words) (missing word named name is rows skip p)
      ∙ ap (option_and_then (add_all s (Some rows) p)) (sym grammars)
    where
      stopped : (k : Kinds) (x : Option (List Row)) → unless {X = List Row} k (Some []) ≡ None → unless k x ≡ None
      stopped [] x e = absurd (some_is_none e)
      stopped (k ∷ kinds) x e = refl

  -- the words as `clap` reads them, and as the grammar does
  both : (words : List Text) → Clear words → IdleReads words × AwaitingReads words
  unfolding given_by
  both [] clear = (λ h p. refl, λ name is rows skip p. wants-value name is rows skip)
  both (word ∷ words) (inl two) = (λ h p. idle-dashes word words two h p, λ name is rows skip p. awaiting-dashes word words two name is rows skip p)
  both (word ∷ words) (inr (inl named, clear)) =
      let later = both words clear in
      (λ h p. idle-named word words named later.0 later.1 h p, λ name is rows skip p. awaiting-named word words named name is rows skip p)
  both (word ∷ words) (inr (inr bare, clear)) =
      let later = both words clear in
      (λ h p. idle-bare word words bare later.0 h p, λ name is rows skip p. awaiting-bare word words bare later.0 name is rows skip p)

  pub reads_alike : (words : List Text) → Clear words → (h : Held) (p : ℕ)
      → clap_rows s (idle_at h p) words ≡ option_and_then (add_all s (ends s h) p) (given_by known None words)
  reads_alike words clear h p = (both words clear).0 h p
