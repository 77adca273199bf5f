-- A cell that is asked is one of those that there are.
use Rattle.std.proofs.Common.{◌≡◌, ◌<◌, ◌≤◌, ◌+◌, ◌%◌, ◌^◌, zero, suc, ℕ, ℤ, List, [], ◌∷◌, Option, Some, None, Bool, true, false, arith, if◌then◌else◌, length, map, neg_ℤ, nat_lt}
use Rattle.std.specs.Prelude.{Result, Ok, Err}
use Rattle.std.specs.Prelude.{⊤, codes}
use lib.Signed.{mag}
use Rattle.std.specs.List.{AllByRecursion, range_with_len}
use Rattle.std.specs.Str.{str_eq_ignore_ascii_case}
use Rattle.mely_net.specs.declared.asked.Asked.{Asked}
use Rattle.mely_net.specs.declared.asked.Asked.TheVariants.{At, Each, Here, Last}
use Rattle.mely_net.specs.Lines.{IsWhose}
use Rattle.example_redis.specs.declared.asking.Options.{Options}
use Rattle.example_redis.specs.declared.asking.Life.TheVariants as life
use Rattle.example_redis.specs.declared.life.Clock.{Clock}
use Rattle.example_redis.specs.declared.life.Clock.TheVariants as clock
use Rattle.example_redis.specs.declared.life.Length.{Length}
use Rattle.example_redis.specs.declared.life.Length.TheVariants.{Lasts, Over, Wide}
use Rattle.example_redis.specs.declared.life.Term.{Term}
use Rattle.example_redis.specs.declared.limits.TheConstants.{CELLS, MOST_KEY}
use Rattle.example_redis.specs.declared.reply.Refusal.{Refusal}
use Rattle.example_redis.specs.declared.reply.Reply.{Reply}
use Rattle.example_redis.specs.declared.reply.Reply.TheVariants as reply
use Rattle.example_redis.specs.declared.request.Question.TheVariants as question
use Rattle.example_redis.specs.declared.request.Request.{Request}
use Rattle.example_redis.specs.declared.request.Sweep.TheVariants as sweep
use Rattle.example_redis.specs.declared.verb.Verb.{Verb}
use Rattle.example_redis.specs.declared.verb.Verb.TheVariants as verb
use Rattle.example_redis.specs.Asking.{Plan, Cell, Several, Answer, Ends, asks_in, asks_of_all, asks_of_keys, asks_of_pairs, bare, cell_of, hash_of, have_long_key, is_flush, options_from, no_options, plan_at, plan_at_all, plan_in, plan_of_name, plan_of_one, plan_to_expire, plan_to_last, plan_to_list, plan_to_set_for, plan_to_set_timed, term_said, plan_of_several, plan_of_verb, plan_of_words, wants_several, plan_to_add, plan_to_set, plan_to_subtract, with_key, with_more, with_value}
use Rattle.example_redis.specs.Lives.{length_of}
use Rattle.example_redis.specs.Numbers.{number_of}
use Rattle.example_redis.specs.Replies.{error}
use Rattle.example_redis.specs.Values.{Deed, Adds, Deletes, Looks, Of, All, Lists, Wish}
use Rattle.example_redis.specs.Verbs.{verb_of}

abbrev Reaches : Plan → Type 0
Reaches (Cell cell wish) = cell < CELLS
Reaches (Several asks reply) = AllByRecursion (λ ask. ask.0 < CELLS) asks
Reaches (Answer reply) = ⊤
Reaches (Ends reply) = ⊤

either : (one other : Plan) (is : Bool) → Reaches one → Reaches other → Reaches (if is then one else other)
either one other true here there = here
either one other false here there = there

low : (key : List ℕ) → cell_of key < CELLS
low key = let low : hash_of key % 64 < 64 = omega arith in low

at_there : (key : List ℕ) (deed : Deed) → Reaches (plan_at key deed)
at_there key deed = either (Answer (error (codes "key exceeds maximum allowed size"))) (Cell (cell_of key) (Of key deed)) (nat_lt MOST_KEY (length key)) tt (low key)

add_there : (key : List ℕ) (number : Option ℤ) → Reaches (plan_to_add key number)
add_there key None = tt
add_there key (Some number) = at_there key (Adds number)

subtract_there : (key : List ℕ) (number : Option ℤ) → Reaches (plan_to_subtract key number)
subtract_there key None = tt
subtract_there key (Some number) = either (plan_at key (Adds (neg_ℤ number))) (Answer (error (codes "decrement would overflow"))) (nat_lt (mag (neg_ℤ number)) (2 ^ 63)) (at_there key (Adds (neg_ℤ number))) tt

set_for_there : (key value : List ℕ) (options : Options) (term : Result Term Refusal) → Reaches (plan_to_set_for key value options term)
set_for_there key value options (Err refusal) = tt
set_for_there key value options (Ok term) = at_there key _

set_there : (one : Verb) (key value : List ℕ) (options : Option Options) → Reaches (plan_to_set one key value options)
set_there one key value None = tt
set_there one key value (Some options) = set_for_there key value options (term_said one options.life)

last_there : (one : Verb) (clock : Clock) (key : List ℕ) (length : Length) → Reaches (plan_to_last one clock key length)
last_there one clock key (Lasts millis) = at_there key _
last_there one clock key Over = at_there key _
last_there one clock key Wide = tt

expire_there : (one : Verb) (clock : Clock) (key : List ℕ) (number : Option ℤ) → Reaches (plan_to_expire one clock key number)
expire_there one clock key None = tt
expire_there one clock key (Some number) = last_there one clock key (length_of clock number)

timed_there : (one : Verb) (clock : Clock) (key time : List ℕ) (more : List (List ℕ)) → Reaches (plan_to_set_timed one clock key time more)
timed_there one clock key time [] = tt
timed_there one clock key time (value ∷ []) = set_there one key value (Some (record no_options { life = life.Said clock (number_of time) }))
timed_there one clock key time (value ∷ word ∷ more) = tt

bare_there : (one : Verb) → Reaches (bare one)
bare_there verb.Ping = tt
bare_there verb.Command = tt
bare_there verb.Quit = tt
bare_there verb.ShutDown = tt
bare_there one = tt

with_key_there : (one : Verb) (key : List ℕ) → Reaches (with_key one key)
with_key_there verb.Get key = at_there key _
with_key_there verb.Exists key = at_there key _
with_key_there verb.StrLen key = at_there key _
with_key_there verb.Ttl key = at_there key _
with_key_there verb.PTtl key = at_there key _
with_key_there verb.Persist key = at_there key _
with_key_there verb.Del key = at_there key _
with_key_there verb.Incr key = at_there key _
with_key_there verb.Decr key = at_there key _
with_key_there verb.ShutDown key = either (Ends []) (Answer (error (codes "syntax error"))) (str_eq_ignore_ascii_case key (codes "save")) tt tt
with_key_there one key = tt

with_value_there : (one : Verb) (key value : List ℕ) → Reaches (with_value one key value)
with_value_there verb.Set key value = set_there verb.Set key value (Some no_options)
with_value_there verb.Expire key value = expire_there verb.Expire clock.Seconds key (number_of value)
with_value_there verb.PExpire key value = expire_there verb.PExpire clock.Millis key (number_of value)
with_value_there verb.ExpireAt key value = expire_there verb.ExpireAt clock.UnixSeconds key (number_of value)
with_value_there verb.PExpireAt key value = expire_there verb.PExpireAt clock.UnixMillis key (number_of value)
with_value_there verb.SetNx key value = at_there key _
with_value_there verb.GetSet key value = at_there key _
with_value_there verb.IncrBy key value = add_there key (number_of value)
with_value_there verb.DecrBy key value = subtract_there key (number_of value)
with_value_there verb.Append key value = at_there key _
with_value_there one key value = tt

with_more_there : (one : Verb) (key value : List ℕ) (more : List (List ℕ)) → Reaches (with_more one key value more)
with_more_there verb.Set key value more = set_there verb.Set key value (options_from no_options more)
with_more_there verb.SetEx key value more = timed_there verb.SetEx clock.Seconds key value more
with_more_there verb.PSetEx key value more = timed_there verb.PSetEx clock.Millis key value more
with_more_there one key value more = tt

one_there : (one : Verb) (words : List (List ℕ)) → Reaches (plan_of_one one words)
one_there one [] = bare_there one
one_there one (key ∷ []) = with_key_there one key
one_there one (key ∷ value ∷ []) = with_value_there one key value
one_there one (key ∷ value ∷ word ∷ more) = with_more_there one key value (word ∷ more)

-- ---- several cells

abbrev Are : List (ℕ × Wish) → Type 0
Are asks = AllByRecursion (λ ask. ask.0 < CELLS) asks

keys_there : (deed : Deed) (keys : List (List ℕ)) → Are (asks_of_keys deed keys)
keys_there deed [] = tt
keys_there deed (key ∷ keys) = (low key, keys_there deed keys)

pairs_there : (words : List (List ℕ)) → Are (asks_of_pairs words)
pairs_there [] = tt
pairs_there (key ∷ []) = tt
pairs_there (key ∷ value ∷ words) = (low key, pairs_there words)

range_there : (wish : Wish) (from count : ℕ) → from + count ≤ CELLS → Are (map (λ cell. (cell, wish)) (range_with_len from count))
range_there wish from zero fits = tt
range_there wish from (suc count) fits = (omega (arith, fits), range_there wish (from + 1) count (omega (arith, fits)))

at_all_there : (asks : List (ℕ × Wish)) (reply : Reply) → Are asks → Reaches (plan_at_all asks reply)
at_all_there asks reply are = either (Answer (error (codes "key exceeds maximum allowed size"))) (Several asks reply) (have_long_key asks) tt are

list_there : (words : List (List ℕ)) → Reaches (plan_to_list words)
list_there [] = tt
list_there (pattern ∷ []) = at_all_there (asks_of_all (Lists pattern)) reply.Names (range_there (Lists pattern) 0 CELLS (omega arith))
list_there (pattern ∷ word ∷ words) = tt

several_there : (one : Verb) (words : List (List ℕ)) → Reaches (plan_of_several one words)
several_there verb.MGet words = at_all_there (asks_of_keys (Looks question.Value) words) reply.Items (keys_there (Looks question.Value) words)
several_there verb.Del words = at_all_there (asks_of_keys Deletes words) reply.Total (keys_there Deletes words)
several_there verb.Exists words = at_all_there (asks_of_keys (Looks question.IsThere) words) reply.Total (keys_there (Looks question.IsThere) words)
several_there verb.MSet words = at_all_there (asks_of_pairs words) reply.Okay (pairs_there words)
several_there verb.DbSize words = at_all_there (asks_of_all (All sweep.Count)) reply.Total (range_there (All sweep.Count) 0 CELLS (omega arith))
several_there verb.Keys words = list_there words
several_there verb.FlushAll words = either (plan_at_all (asks_of_all (All sweep.Clear)) reply.Okay) (Answer (error (codes "syntax error"))) (is_flush words) (at_all_there (asks_of_all (All sweep.Clear)) reply.Okay (range_there (All sweep.Clear) 0 CELLS (omega arith))) tt
several_there one words = tt

verb_there : (one : Verb) (words : List (List ℕ)) → Reaches (plan_of_verb one words)
verb_there one words = either (plan_of_several one words) (plan_of_one one words) (wants_several one (length words)) (several_there one words) (one_there one words)

name_there : (name : List ℕ) (one : Option Verb) (words : List (List ℕ)) → Reaches (plan_of_name name one words)
name_there name None words = tt
name_there name (Some one) words = verb_there one words

words_there : (words : List (List ℕ)) → Reaches (plan_of_words words)
words_there [] = tt
words_there (name ∷ words) = name_there name (verb_of name) words

each_there : (asks : List (ℕ × Request)) → AllByRecursion (λ ask. ask.0 < CELLS) (asks_in asks) → AllByRecursion (λ ask. ask.0 < CELLS) asks
each_there [] there = tt
each_there (ask ∷ asks) there = (there.0, each_there asks there.1)

whose : (asked : Asked Request Reply) → Reaches (plan_in asked) → IsWhose CELLS asked
whose (At cell request) there = there
whose (Each asks reply) there = each_there asks.items there
whose (Here reply) there = tt
whose (Last reply) there = tt

pub asked_there : (asked : Asked Request Reply) (words : List (List ℕ)) → plan_in asked ≡ plan_of_words words → IsWhose CELLS asked
asked_there asked words is = whose asked (rw is (words_there words))
