-- How a journal goes on.
use Rattle.std.proofs.Common.{◌≡◌, ℕ, suc, ◌+◌, ◌^◌, ◌<◌, ◌≤◌, List, [], ◌∷◌, ◌++◌, length, codes, sym, ap, subst, ◌∙◌, arith, append_assoc, append-nil}
use Rattle.std.specs.List.{flat_map, AllByRecursion}
use Rattle.mely_history.specs.declared.entry.Entry.{Entry}
use Rattle.mely_history.specs.declared.entry.Entry.TheVariants.{Reg, Take, Fin, Steal}
use Rattle.mely_journal.specs.Journal.{entry_line, shard_line, shard_text, journal_from, journal, IsSmall, AreSmall}
use Rattle.sws_text.specs.Numbers.{space_number}
use Rattle.mely_journal.proofs.UniqueJournalLemmas.{entry_split, shard_split, nil_is, cancel}
use Rattle.mely_check.proofs.ReadingLemmas.{spaced_split, tail_is}
use Rattle.mely_check.specs.Journals.{IsFit, IsFitHistory, AreFit}
use Rattle.mely_check.specs.Hearing.{Walk, start, within, begun_in, left_in}
use Rattle.mely_check.specs.Walks.{walk_text, IsFitWalk}

-- ---- numbers

small_entry : (e : Entry) → IsFit e → IsSmall e
small_entry (Reg c event by) fit = (let a = fit.0 in omega arith, let a = fit.1 in omega arith, let a = fit.2 in omega arith, let a = fit.3 in omega arith)
small_entry (Take c core count) fit = (let a = fit.0 in omega arith, let a = fit.1 in omega arith, let a = fit.2 in omega arith)
small_entry (Fin c core count) fit = (let a = fit.0 in omega arith, let a = fit.1 in omega arith, let a = fit.2 in omega arith)
small_entry (Steal c from to) fit = (let a = fit.0 in omega arith, let a = fit.1 in omega arith, let a = fit.2 in omega arith)

small_entries : (h : List Entry) → AllByRecursion IsFit h → AllByRecursion IsSmall h
small_entries [] all = tt
small_entries (e ∷ h) all = (small_entry e all.0, small_entries h all.1)

small_history : (h : List Entry) → IsFitHistory h → AreSmall h
small_history h fit = (small_entries h fit.0, fit.1)

pub small_histories : (hs : List (List Entry)) → AllByRecursion IsFitHistory hs → AllByRecursion AreSmall hs
small_histories [] all = tt
small_histories (h ∷ hs) all = (small_history h all.0, small_histories hs all.1)

-- ---- appending

pub all_append : {A : Type 0} (P : A → Type 0) (a b : List A) → AllByRecursion P a → AllByRecursion P b → AllByRecursion P (a ++ b)
all_append P [] b front back = back
all_append P (x ∷ a) b front back = (front.0, all_append P a b front.1 back)

pub journal_from-append : (number : ℕ) (a b : List (List Entry)) → journal_from number (a ++ b) ≡ journal_from number a ++ journal_from (number + length a) b
journal_from-append number [] b = ap (λ n. journal_from n b) (let same : number ≡ number + 0 = omega arith in same)
journal_from-append number (h ∷ a) b =
    let next : number + 1 + length a ≡ number + suc (length a) = omega arith in
    ap (λ t. shard_text number h ++ t) (journal_from-append (number + 1) a b)
    ∙ ap (λ n. shard_text number h ++ (journal_from (number + 1) a ++ journal_from n b)) next
    ∙ sym (append_assoc (shard_text number h) (journal_from (number + 1) a) (journal_from (number + suc (length a)) b))

pub journal-push : (done : List (List Entry)) (last : List Entry) → journal (done ++ last ∷ []) ≡ journal done ++ shard_text (length done) last
journal-push done last =
    let none : 0 + length done ≡ length done = omega arith in
    journal_from-append 0 done (last ∷ [])
    ∙ ap (λ n. journal done ++ journal_from n (last ∷ [])) none
    ∙ ap (λ t. journal done ++ t) (append-nil (shard_text (length done) last))

-- ---- what may come next

-- an entry
pub record NextEntry (more : List ℕ) : Type 0 where
  pub entry : Entry
  pub rest : List ℕ
  pub fit : IsFit entry
  pub is : more ≡ entry_line entry ++ rest

-- the line of this shard
pub record NextShard (number : ℕ) (more : List ℕ) : Type 0 where
  pub count : ℕ
  pub rest : List ℕ
  pub small : count < 2 ^ 64
  pub is : more ≡ shard_line number count ++ rest

-- an entry where one is left, else the next shard, and else nothing
pub record Next (left begun shards : ℕ) (more : List ℕ) : Type 0 where
  pub entry : 0 < left → NextEntry more
  pub shard : left ≡ 0 → begun < shards → NextShard begun more
  pub nothing : left ≡ 0 → begun ≡ shards → more ≡ []

first_shard : (number : ℕ) (hs : List (List Entry)) (more : List ℕ) → AllByRecursion IsFitHistory hs → 0 < length hs → journal_from number hs ≡ more → NextShard number more
first_shard number [] more fit some is = absurd (omega arith)
first_shard number (h ∷ hs) more fit some is = record {
  count = length h;
  rest = flat_map entry_line h ++ journal_from (number + 1) hs;
  small = fit.0.1;
  is = sym is ∙ append_assoc (shard_line number (length h)) (flat_map entry_line h) (journal_from (number + 1) hs);
}

no_shard : (number : ℕ) (hs : List (List Entry)) (more : List ℕ) → length hs ≡ 0 → journal_from number hs ≡ more → more ≡ []
no_shard number [] more none is = sym is
no_shard number (h ∷ hs) more none is = absurd (omega arith)

-- behind the entries of a shard that were read
behind_entries : (number : ℕ) (h last : List Entry) (left : ℕ) (hs : List (List Entry)) (more : List ℕ) → AllByRecursion IsFit h → AllByRecursion IsFit last → AllByRecursion IsFitHistory hs → length h ≡ length last + left
    → flat_map entry_line h ++ journal_from number hs ≡ flat_map entry_line last ++ more → Next left number (number + length hs) more
behind_entries number [] [] left hs more fit fit' others long is = record {
  entry = λ some. absurd (omega arith);
  shard = λ none below. first_shard number hs more others (omega arith) is;
  nothing = λ none all. no_shard number hs more (omega arith) is;
}
behind_entries number (e ∷ h) [] left hs more fit fit' others long is = record {
  entry = λ some. record {
    entry = e;
    rest = flat_map entry_line h ++ journal_from number hs;
    fit = fit.0;
    is = sym is ∙ append_assoc (entry_line e) (flat_map entry_line h) (journal_from number hs);
  };
  shard = λ none below. absurd (omega arith);
  nothing = λ none all. absurd (omega arith);
}
behind_entries number [] (f ∷ last) left hs more fit fit' others long is = absurd (omega arith)
behind_entries number (e ∷ h) (f ∷ last) left hs more fit fit' others long is =
    let both = entry_split e f (flat_map entry_line h ++ journal_from number hs) (flat_map entry_line last ++ more) (small_entry e fit.0) (small_entry f fit'.0)
    (sym (append_assoc (entry_line e) (flat_map entry_line h) (journal_from number hs)) ∙ is ∙ append_assoc (entry_line f) (flat_map entry_line last) more) in
    behind_entries number h last left hs more fit.1 fit'.1 others (omega arith) both.1

-- ---- behind a walk

pub shard_line-split : (m n a b : ℕ) (x y : List ℕ) → m < 2 ^ 64 → n < 2 ^ 64 → a < 2 ^ 64 → b < 2 ^ 64 → shard_line m a ++ x ≡ shard_line n b ++ y → (m ≡ n) × (a ≡ b) × (x ≡ y)
shard_line-split m n a b x y small_m small_n small_a small_b is =
    let low : 32 < 48 = omega arith in
    let feed : 10 < 48 = omega arith in
    let one : shard_line m a ++ x ≡ codes "shard" ++ (space_number m ++ (space_number a ++ 10 ∷ x)) = simp append_assoc in
    let other : shard_line n b ++ y ≡ codes "shard" ++ (space_number n ++ (space_number b ++ 10 ∷ y)) = simp append_assoc in
    let first = spaced_split m n (space_number a ++ 10 ∷ x) (space_number b ++ 10 ∷ y) small_m small_n low low
    (cancel (codes "shard") (space_number m ++ (space_number a ++ 10 ∷ x)) (space_number n ++ (space_number b ++ 10 ∷ y)) (sym one ∙ is ∙ other)) in
    let second = spaced_split a b (10 ∷ x) (10 ∷ y) small_a small_b feed feed first.1 in
    (first.0, second.0, tail_is 10 10 x y second.1)

within_text : (number at : ℕ) (done : List (List Entry)) (last : List Entry) (left : ℕ) → List ℕ
within_text number at done last left = journal_from number done ++ (shard_line at (length last + left) ++ flat_map entry_line last)

goes_done : (number at all : ℕ) (hs done : List (List Entry)) (last : List Entry) (left : ℕ) (more : List ℕ) → at ≡ number + length done → all ≡ number + length hs → at < 2 ^ 64 → AllByRecursion IsFitHistory hs → AllByRecursion IsFitHistory done
    → AllByRecursion IsFit last → length last + left < 2 ^ 64 → journal_from number hs ≡ within_text number at done last left ++ more → Next left (at + 1) all more
unfolding within_text
goes_done number at all [] [] last left more here whole small fit fit' fit_last few is = nil_is 115 _ is
goes_done number at all (g ∷ gs) [] last left more here whole small fit fit' fit_last few is =
    let parts = shard_line-split number at (length g) (length last + left) (flat_map entry_line g ++ journal_from (number + 1) gs) (flat_map entry_line last ++ more) (omega arith) small fit.0.1 few
    (sym (append_assoc (shard_line number (length g)) (flat_map entry_line g) (journal_from (number + 1) gs)) ∙ is ∙ append_assoc (shard_line at (length last + left)) (flat_map entry_line last) more) in
    let next : number + 1 ≡ at + 1 = omega arith in
    let total : at + 1 + length gs ≡ all = omega arith in
    subst (λ n. Next left (at + 1) n more) total
    (behind_entries (at + 1) g last left gs more fit.0.0 fit_last fit.1 parts.1 (ap (λ n. flat_map entry_line g ++ journal_from n gs) (sym next) ∙ parts.2))
goes_done number at all [] (h ∷ done) last left more here whole small fit fit' fit_last few is = nil_is 115 _ is
goes_done number at all (g ∷ gs) (h ∷ done) last left more here whole small fit fit' fit_last few is =
    let rest = journal_from (number + 1) done ++ (shard_line at (length last + left) ++ flat_map entry_line last) in
    let split = shard_split number g h (journal_from (number + 1) gs) (rest ++ more) (small_history g fit.0) (small_history h fit'.0)
    (is
    ∙ ap (λ t. t ++ more) (append_assoc (shard_text number h) (journal_from (number + 1) done) (shard_line at (length last + left) ++ flat_map entry_line last))
    ∙ append_assoc (shard_text number h) rest more) in
    goes_done (number + 1) at all gs done last left more (omega arith) (omega arith) small fit.1 fit'.1 fit_last few split.1

pub goes_on : (shards : ℕ) (hs : List (List Entry)) (walk : Walk) (more : List ℕ) → shards < 65536 → begun_in walk ≤ shards → AreFit shards hs → IsFitWalk walk → journal hs ≡ walk_text walk ++ more → Next (left_in walk) (begun_in walk) shards more
unfolding within_text
goes_on shards hs start more few begun fit walked is = record {
  entry = λ some. absurd (omega arith);
  shard = λ none below. first_shard 0 hs more fit.fit (let many = fit.many in omega arith) is;
  nothing = λ none all. no_shard 0 hs more (let many = fit.many in omega arith) is;
}
goes_on shards hs (within done last left) more few begun fit walked is =
    let many = fit.many in
    goes_done 0 (length done) shards hs done last left more (omega arith) (omega arith) (omega arith) fit.fit walked.0 walked.1 walked.2 is
