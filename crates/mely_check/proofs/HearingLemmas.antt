-- What is kept behind one more entry.
use Rattle.std.proofs.Common.{◌≡◌, ℕ, ◌+◌, ◌<◌, ◌≤◌, ◌%◌, ◌⊎◌, Bool, true, false, List, [], ◌∷◌, ◌++◌, Option, None, Some, length, take, drop, get_or, unwrap_or, refl, sym, ap, subst, ◌∙◌, arith, inl, inr, length-append}
use Rattle.std.specs.Prelude.{IsTrue, is_some, MatchOption, MatchBool}
use Rattle.std.proofs.lemmas.Bool.{false≢true}
use Rattle.std.specs.List.{slice_get}
use Rattle.std.proofs.Math.Seq.{take-append_seam}
use Rattle.std.proofs.lemmas.Option.{slice_get_within, slice_get-get_or}
use Rattle.mely_event.specs.declared.colour.Colour.{Colour}
use Rattle.mely_history.specs.Setup.{shape_of}
use Rattle.mely_history.specs.Entries.{colour_of}
use Rattle.mely_history.specs.ColourAccount.{account_of}
use Rattle.mely_history.specs.declared.setup.Setup.{Setup}
use Rattle.mely_history.proofs.LegalLemmas.{split_below}
use Rattle.mely_history.specs.declared.entry.Entry.{Entry}
use Rattle.mely_check.specs.Watches.{Tells, Allows}
use Rattle.mely_check.specs.Judges.{AreInitialWatches, MayHear, Adds, Hears, AreDrainedBelow, IsDrainedAt, IsOpenAt}
use Rattle.mely_check.specs.declared.judge.Judge.{Judge}
use Rattle.mely_check.specs.declared.watch.Watch.{Watch}
use Rattle.mely_check.proofs.ListLemmas.{in_pushed}

-- what is read of a list stands there
pub read_at : {X : Type 0} (xs ys : List X) (i k : ℕ) (x : X) → ys ≡ xs → i ≡ k → i < length ys → x ≡ get_or ys i x → slice_get xs k ≡ Some x
read_at xs ys i k x same here lt is =
    ap (λ zs. slice_get zs k) (sym same) ∙ ap (slice_get ys) (sym here) ∙ slice_get-get_or ys i x lt ∙ ap (λ y. Some y) (sym is)

-- nothing stands behind the end of a list
pub none_at : {X : Type 0} (xs ys : List X) (i k : ℕ) (x : X) → ys ≡ xs → i ≡ k → length ys ≤ i → slice_get xs k ≡ Some x → ⊥
none_at xs ys i k x same here past is =
    let within = slice_get_within xs k x is in let long = ap (λ t. length t) same in omega arith

-- one colour more
pub initial_more : (setup : Setup) (n : ℕ) (items more : List Watch) (watch : Watch) → AreInitialWatches setup n items → ((c : Colour) → c.0 ≡ n → Tells setup (account_of setup [] c) watch) → more ≡ items ++ watch ∷ [] → AreInitialWatches setup (n + 1) more
initial_more setup n items more watch blank next is = record {
  many = ap (λ t. length t) is ∙ length-append items (watch ∷ []) ∙ ap (λ k. k + 1) blank.many;
  each = λ c w there. elim (in_pushed items watch w c.0 (ap (λ t. slice_get t c.0) (sym is) ∙ there)) [
    | inl front ↦ blank.each c w front
    | inr last ↦ subst (λ v. Tells setup (account_of setup [] c) v) last.1 (next c (last.0 ∙ blank.many))
  ];
}

-- ---- a core's report

-- what a list of the same length was changed to
pub kept_items : {X : Type 0} (n : ℕ) (xs old : List X) → n ≡ length xs → take n (xs ++ drop (length xs) old) ≡ xs
kept_items n xs old is = ap (λ k. take k (xs ++ drop (length xs) old)) is ∙ take-append_seam xs (drop (length xs) old)

-- ---- what may be heard

pub may_hear : (judge : Judge) (shard : ℕ) (entry : Entry) (watch : Watch) (b : Bool) → slice_get judge.watches.items (colour_of entry).0 ≡ Some watch → (colour_of entry).0 % (shape_of judge.setup).shards + 1 ≡ shard
    → (IsTrue b → Allows judge.setup watch entry) × (Allows judge.setup watch entry → IsTrue b) → (IsTrue b → MayHear judge shard entry) × (MayHear judge shard entry → IsTrue b)
may_hear judge shard entry watch b there of_shard told = (
  (λ is. record { watch = watch; there = there; of_shard = of_shard; allows = told.0 is }),
  (λ may. told.1 (subst (λ w. Allows judge.setup w entry) (ap (λ o. unwrap_or o watch) (sym may.there ∙ there)) may.allows)),
)

pub no_fault : {X : Type 0} (fault : Option X) (b : Bool) → b ≡ is_some fault → b ≡ false → fault ≡ None
no_fault None b told is = refl
no_fault (Some x) b told is = absurd (let t : true ≡ false = sym told ∙ is in cc)

pub hears_heard : (before after : Judge) (shard line : ℕ) (entry : Entry) → before.fault ≡ None → MayHear before shard entry → Adds before entry after → Hears before shard line entry after
hears_heard before after shard line entry none may adds =
    subst (λ o. MatchOption o ((MayHear before shard entry × Adds before entry after) ⊎ ((MayHear before shard entry → ⊥) × (after ≡ record before { fault = Some line }))) (λ _. after ≡ before)) (sym none) (inl (may, adds))

-- ---- the first colour that is left

pub drained_more : (watches : List Watch) (n : ℕ) → AreDrainedBelow watches n → IsDrainedAt watches n → AreDrainedBelow watches (n + 1)
drained_more watches n below here colour lt = elim (split_below colour n lt) [ inl less ↦ below colour less | inr same ↦ subst (IsDrainedAt watches) (sym same) here ]

pub drained_at : (items list : List Watch) (k : ℕ) (watch : Watch) (b : Bool) → list ≡ items → k < length list → watch ≡ get_or list k watch → (IsTrue b → (watch.running ≡ None) × (watch.queued.items ≡ [])) × ((watch.running ≡ None) × (watch.queued.items ≡ []) → IsTrue b)
    → MatchBool b (IsDrainedAt items k) (IsOpenAt items k)
drained_at items list k watch true same lt is told =
    λ other there. subst (λ (w : Watch). (w.running ≡ None) × (w.queued.items ≡ [])) (ap (λ o. unwrap_or o watch) (sym (read_at items list k k watch same refl lt is) ∙ there)) (told.0 refl)
drained_at items list k watch false same lt is told = record { watch = watch; there = read_at items list k k watch same refl lt is; open_is = λ drained. false≢true (told.1 drained) }
