-- A change at one key changes no other.
use Rattle.std.proofs.Common.{Ordering, ◌≡◌, ◌≢◌, ℕ, Vec, List, Option, None, Bool, true, false, ◌∙◌, ap, arith, if◌then◌else◌, subst, sym}
use Rattle.std.specs.Global.{Global}
use Rattle.std.specs.BTreeMap as tree
use Rattle.std.specs.BTreeMap.{is_at}
use Rattle.std.specs.Cmp.{eq_by_cmp_equiv}
use Rattle.std.specs.Cmp.Lexicographic.{slice_cmp}
use Rattle.std.specs.Map.{lookup, KeepsOthers}
use Rattle.std.specs.Ordering.{nat_cmp, eq_by_cmp}
use Rattle.std.proofs.lemmas.Cmp.{nat_list_cmp_total}
use Rattle.std.proofs.lemmas.Grind.{common_steps}
use Rattle.std.proofs.lemmas.Map.Text.{is_eq-slice_cmp}
use Rattle.std.proofs.lemmas.Slice.Eq.{bytes_eq-Decides}
use Rattle.example_redis.specs.declared.life.Kept.{Kept}
use Rattle.example_redis.specs.declared.value.Done.{Done}
use Rattle.example_redis.specs.Lives.{Entry, entry_in, there_at}
use Rattle.example_redis.specs.Stored.{IsServed, Puts, Store, entry_at, value_at}
use Rattle.example_redis.specs.declared.reply.Reply.{Reply}
use Rattle.example_redis.specs.declared.request.Question.{Question}
use Rattle.example_redis.specs.Replies.{shown_reply}
use Rattle.example_redis.specs.Values.{Deed, Looks, IsCounted, IsTurn, answer_to, turn_of}

abbrev pub key_cmp : Vec ℕ Global → Vec ℕ Global → Ordering
key_cmp one other = slice_cmp nat_cmp one.items other.items

abbrev pub at_key : List ℕ → Vec ℕ Global → Ordering
at_key key other = slice_cmp nat_cmp key other.items

apart : (key other : List ℕ) (kept : Vec ℕ Global) → other ≢ key → is_at (at_key key) kept ≡ true → is_at (at_key other) kept ≡ false
apart key other kept differs is = grind (arith, common_steps, is_eq-slice_cmp key kept.items, is_eq-slice_cmp other kept.items, bytes_eq-Decides key kept.items, bytes_eq-Decides other kept.items)

others_stay : (key : List ℕ) (before after : List (Vec ℕ Global × Kept)) → KeepsOthers (eq_by_cmp key_cmp) (is_at (at_key key)) before after → (other : List ℕ) → other ≢ key → lookup (is_at (at_key other)) after ≡ lookup (is_at (at_key other)) before
unfolding KeepsOthers
others_stay key before after keeps other differs = keeps (is_at (at_key other)) (λ one more. (eq_by_cmp_equiv nat_list_cmp_total).congr other one.items more.items) (λ kept is. apart key other kept differs is)

pub puts_at : (key : List ℕ) (before after : Store) (value : Option Kept) → tree.UpdatesBy key_cmp (at_key key) before after value → Puts key (entry_in value) before after
puts_at key before after value updates = record {
  at_key = ap entry_in updates.1;
  others = λ other differs. ap entry_in (others_stay key before.entries after.entries updates.3 other differs);
}

-- the old value was taken out, and the new one put in
pub put_back : (key : List ℕ) (before between after : Store) (value : Option Entry) → Puts key None before between → Puts key value between after → Puts key value before after
put_back key before between after value out back = record {
  at_key = back.at_key;
  others = λ other differs. back.others other differs ∙ out.others other differs;
}

pub served : (now : ℕ) (key : List ℕ) (deed : Deed) (before after : Store) (old : Option Kept) (done : Done) → entry_in old ≡ value_at now before key → IsTurn (turn_of now deed (entry_in old)) done → IsCounted deed (entry_in old) done.reply → Puts key (entry_in done.value) before after → IsServed now key deed before after done.reply
served now key deed before after old done is turn counted puts = record {
  puts = record {
    at_key = puts.at_key ∙ turn.value ∙ ap (λ (old : Option Entry). (turn_of now deed old).value) is;
    others = puts.others;
  };
  reply = turn.reply ∙ ap (λ (old : Option Entry). (turn_of now deed old).reply) is;
  counted = subst (λ (old : Option Entry). IsCounted deed old done.reply) is counted;
}

-- a value whose time is over was dropped
pub swept : (now : ℕ) (key : List ℕ) (before after : Store) (old : Option Kept) (gone : Bool) → entry_in old ≡ entry_at before key → there_at now (entry_in old) ≡ (if gone then None else entry_in old) → gone ≡ true → tree.UpdatesBy key_cmp (at_key key) before after None → Puts key (value_at now before key) before after
swept now key before after old gone is sees so updates =
    let none : value_at now before key ≡ None = ap (there_at now) (sym is) ∙ sees ∙ ap (λ (b : Bool). if b then None else entry_in old) so in
    subst (λ (value : Option Entry). Puts key value before after) (sym none) (puts_at key before after None updates)

-- a key that is looked at, once a value whose time is over was dropped
pub looked : (now : ℕ) (key : List ℕ) (question : Question) (before after : Store) (old : Option Kept) (answer : Reply) → Puts key (value_at now before key) before after → entry_in old ≡ entry_at after key → shown_reply answer ≡ answer_to now question (entry_in old) → IsCounted (Looks question) (entry_in old) answer → IsServed now key (Looks question) before after answer
looked now key question before after old answer puts is says counted = record {
  puts = puts;
  reply = says ∙ ap (answer_to now question) (is ∙ puts.at_key);
  counted = subst (λ (old : Option Entry). IsCounted (Looks question) old answer) (is ∙ puts.at_key) counted;
}
