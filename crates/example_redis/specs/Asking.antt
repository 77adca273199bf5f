-- What a request asks, and of which cell.
-- The commands as in https://redis.io/docs/latest/commands/
use Rattle.std.specs.Prelude.{◌≡◌, ◌==◌, ◌&&◌, ◌||◌, ◌+◌, ◌-◌, ◌*◌, ◌%◌, ◌^◌, pos, negsuc, ℕ, ℤ, Bool, true, false, List, [], ◌∷◌, ◌++◌, Option, Some, None, Result, Ok, Err, codes, length, map, nat_lt, neg_ℤ, option_and_then, take, if◌then◌else◌, ⊤}
use Rattle.std.specs.List.{AllByRecursion, fold, range_with_len}
use lib.Signed.{mag}
use Rattle.std.specs.Str.{str_eq_ignore_ascii_case}
use Rattle.mely_net.specs.declared.asked.Asked.{Asked}
use Rattle.mely_net.specs.declared.asked.Asked.TheVariants.{At, Each, Here, Last}
use Rattle.example_redis.specs.declared.asking.Options.{Options}
use Rattle.example_redis.specs.declared.asking.Life.{Life}
use Rattle.example_redis.specs.declared.asking.Life.TheVariants as life
use Rattle.example_redis.specs.declared.life.Clock.{Clock}
use Rattle.example_redis.specs.declared.life.Clock.TheVariants as clock
use Rattle.example_redis.specs.declared.life.Length.{Length}
use Rattle.example_redis.specs.declared.life.Length.TheVariants.{Lasts, Over, Wide}
use Rattle.example_redis.specs.declared.life.Term.{Term}
use Rattle.example_redis.specs.declared.life.Term.TheVariants.{Ever, Same}
use Rattle.example_redis.specs.declared.limits.TheConstants.{CELLS, MOST_KEY, MOST_SHOWN}
use Rattle.example_redis.specs.declared.reply.Refusal.{Refusal}
use Rattle.example_redis.specs.declared.reply.Refusal.TheVariants as refusal
use Rattle.example_redis.specs.declared.reply.Reply.{Reply}
use Rattle.example_redis.specs.declared.reply.Reply.TheVariants as reply
use Rattle.example_redis.specs.declared.request.How.{How}
use Rattle.example_redis.specs.declared.request.Question.TheVariants as question
use Rattle.example_redis.specs.declared.request.Request.{Request}
use Rattle.example_redis.specs.declared.request.Sweep.TheVariants as sweep
use Rattle.example_redis.specs.declared.request.Timed.{Timed}
use Rattle.example_redis.specs.declared.request.Tells.TheVariants as tells
use Rattle.example_redis.specs.declared.request.When.{When}
use Rattle.example_redis.specs.declared.request.When.TheVariants.{Always, Absent, Present}
use Rattle.example_redis.specs.declared.verb.Verb.{Verb}
use Rattle.example_redis.specs.declared.verb.Verb.TheVariants as verb
use Rattle.example_redis.specs.Frames.{Saying, Says, Errs, Stops, heard_of}
use Rattle.example_redis.specs.Lives.{length_of, term_of}
use Rattle.example_redis.specs.Numbers.{number_of}
use Rattle.example_redis.specs.Replies.{bulk, error, info, shown_byte, shown_with, text_of, text_of_fault}
use Rattle.example_redis.specs.Values.{Deed, Looks, Sets, Deletes, Adds, Appends, Expires, Persists, Of, All, Lists, Wish, okay, wish_of}
use Rattle.example_redis.specs.Verbs.{name_of, verb_of}

-- a cell is asked this; or several cells are, in order, and the reply is this one, whose parts are
-- what they reply; or this is replied; or it is, and the connection ends
pub data Plan : Type 0 where
  Cell : ℕ → Wish → Plan
  Several : List (ℕ × Wish) → Reply → Plan
  Answer : List ℕ → Plan
  Ends : List ℕ → Plan

-- ---- of which cell

abbrev pub hash_of : List ℕ → ℕ
hash_of key = fold (λ hash byte. (hash * 31 + byte) % 65521) 7 key

-- a key is in the cell of its hash
abbrev pub cell_of : List ℕ → ℕ
cell_of key = hash_of key % CELLS

abbrev pub plan_at : List ℕ → Deed → Plan
plan_at key deed = if nat_lt MOST_KEY (length key)
    then Answer (error (codes "key exceeds maximum allowed size"))
    else Cell (cell_of key) (Of key deed)

-- ---- what isn't asked

-- the first bytes of a word, in quotes
abbrev pub quoted : ℕ → List ℕ → List ℕ
quoted most word = codes "'" ++ map shown_byte (take most word) ++ codes "'"

abbrev pub with_word_of : List ℕ → List ℕ → List ℕ
with_word_of text word = if nat_lt (length text) MOST_SHOWN
    then text ++ quoted (MOST_SHOWN - length text) word ++ codes " " else text

abbrev pub unknown : List ℕ → List (List ℕ) → Plan
unknown name words = Answer (error (codes "unknown command " ++ quoted MOST_SHOWN name
    ++ codes ", with args beginning with: " ++ fold with_word_of [] words))

abbrev pub wrong_number : Verb → Plan
wrong_number verb = Answer (error (codes "wrong number of arguments for '" ++ name_of verb
    ++ codes "' command"))

-- ---- the options of SET

-- NX and XX aren't both given
abbrev pub both : When → When → Option When
both Always now = Some now
both Absent Absent = Some Absent
both Absent now = None
both Present Present = Some Present
both Present now = None

abbrev pub with_when : Options → Option When → Option Options
with_when options None = None
with_when options (Some when) = Some (record options { when = when })

-- one time is given at most
abbrev pub with_life_by : Life → Options → Life → Option Options
with_life_by life.Unsaid options one = Some (record options { life = one })
with_life_by before options one = None

abbrev pub with_life : Options → Life → Option Options
with_life options one = with_life_by options.life options one

-- the words that have a time behind them
abbrev pub clock_named : List ℕ → Option Clock
clock_named word = if str_eq_ignore_ascii_case word (codes "ex") then Some clock.Seconds
    else if str_eq_ignore_ascii_case word (codes "px") then Some clock.Millis
    else if str_eq_ignore_ascii_case word (codes "exat") then Some clock.UnixSeconds
    else if str_eq_ignore_ascii_case word (codes "pxat") then Some clock.UnixMillis else None

-- KEEPTTL, or the name of a clock, whose number is the next word
abbrev pub with_clock : Options → List ℕ → Option Clock → Option Options
with_clock options word None = if str_eq_ignore_ascii_case word (codes "keepttl")
    then with_life options life.Same else None
with_clock options word (Some clock) = with_life options (life.Awaited clock)

abbrev pub with_name : Options → List ℕ → Option Options
with_name options word =
    if str_eq_ignore_ascii_case word (codes "nx") then with_when options (both options.when Absent)
    else if str_eq_ignore_ascii_case word (codes "xx")
    then with_when options (both options.when Present)
    else if str_eq_ignore_ascii_case word (codes "get")
    then Some (record options { tells = tells.Before })
    else with_clock options word (clock_named word)

-- a word is the number of a clock, where one is awaited, or else an option's name
abbrev pub with_option_by : Life → Options → List ℕ → Option Options
with_option_by (life.Awaited clock) options word =
    Some (record options { life = life.Said clock (number_of word) })
with_option_by one options word = with_name options word

abbrev pub with_option : Options → List ℕ → Option Options
with_option options word = with_option_by options.life options word

abbrev pub no_options : Options
no_options = record { when = Always; tells = tells.Done; life = life.Unsaid }

abbrev pub options_from : Options → List (List ℕ) → Option Options
options_from options [] = Some options
options_from options (word ∷ words) =
    option_and_then (λ further. options_from further words) (with_option options word)

-- how long a value is to be there: its time is a number, and to come
abbrev pub term_by : Verb → Clock → Length → Result Term Refusal
term_by verb clock (Lasts millis) = Ok (term_of verb clock millis)
term_by verb clock Over = Err (refusal.Time verb)
term_by verb clock Wide = Err (refusal.Time verb)

abbrev pub term_said : Verb → Life → Result Term Refusal
term_said verb life.Unsaid = Ok Ever
term_said verb life.Same = Ok Same
term_said verb (life.Awaited clock) = Err refusal.Syntax
term_said verb (life.Said clock None) = Err refusal.NoNumber
term_said verb (life.Said clock (Some number)) = term_by verb clock (length_of clock number)

abbrev pub plan_to_set_for : List ℕ → List ℕ → Options → Result Term Refusal → Plan
plan_to_set_for key value options (Err refusal) = Answer (error (text_of refusal))
plan_to_set_for key value options (Ok term) =
    plan_at key (Sets value (record { when = options.when; tells = options.tells; term = term }))

abbrev pub plan_to_set : Verb → List ℕ → List ℕ → Option Options → Plan
plan_to_set verb key value None = Answer (error (codes "syntax error"))
plan_to_set verb key value (Some options) =
    plan_to_set_for key value options (term_said verb options.life)

-- SET without options
abbrev pub plain : How
plain = record { when = Always; tells = tells.Done; term = Ever }

-- ---- the commands

abbrev pub plan_to_add : List ℕ → Option ℤ → Plan
plan_to_add key None = Answer (error (codes "value is not an integer or out of range"))
plan_to_add key (Some number) = plan_at key (Adds number)

abbrev pub bare : Verb → Plan
bare verb.Ping = Answer (codes "+PONG\r\n")
bare verb.Command = Answer (codes "*0\r\n")
bare verb.Quit = Ends okay
bare verb.ShutDown = Ends []
bare verb.Info = Answer (bulk info)
bare verb = wrong_number verb

-- SHUTDOWN takes one word at most, SAVE, which makes no difference; it isn't answered
abbrev pub plan_to_stop : List ℕ → Plan
plan_to_stop word = if str_eq_ignore_ascii_case word (codes "save") then Ends []
    else Answer (error (codes "syntax error"))

abbrev pub with_key : Verb → List ℕ → Plan
with_key verb.Ping key = Answer (bulk key)
with_key verb.Echo key = Answer (bulk key)
with_key verb.Get key = plan_at key (Looks question.Value)
with_key verb.Exists key = plan_at key (Looks question.IsThere)
with_key verb.StrLen key = plan_at key (Looks question.Length)
with_key verb.Ttl key = plan_at key (Looks question.Seconds)
with_key verb.PTtl key = plan_at key (Looks question.Millis)
with_key verb.Persist key = plan_at key Persists
with_key verb.Del key = plan_at key Deletes
with_key verb.Incr key = plan_at key (Adds (pos 1))
with_key verb.Decr key = plan_at key (Adds (negsuc 0))
with_key verb.Command key = Answer (codes "*0\r\n")
with_key verb.Quit key = Ends okay
with_key verb.ShutDown key = plan_to_stop key
with_key verb.Info key = Answer (bulk info)
with_key verb key = wrong_number verb

-- INCRBY and DECRBY
abbrev pub plan_to_subtract : List ℕ → Option ℤ → Plan
plan_to_subtract key None = plan_to_add key None
plan_to_subtract key (Some number) = if nat_lt (mag (neg_ℤ number)) (2 ^ 63)
    then plan_at key (Adds (neg_ℤ number)) else Answer (error (codes "decrement would overflow"))

-- a value whose time is over is deleted
abbrev pub plan_to_last : Verb → Clock → List ℕ → Length → Plan
plan_to_last verb clock key (Lasts millis) = plan_at key (Expires (term_of verb clock millis))
plan_to_last verb clock key Over = plan_at key Deletes
plan_to_last verb clock key Wide = Answer (error (text_of (refusal.Time verb)))

abbrev pub plan_to_expire : Verb → Clock → List ℕ → Option ℤ → Plan
plan_to_expire verb clock key None = Answer (error (text_of refusal.NoNumber))
plan_to_expire verb clock key (Some number) =
    plan_to_last verb clock key (length_of clock number)

-- SHUTDOWN takes one word at most
abbrev pub with_value : Verb → List ℕ → List ℕ → Plan
with_value verb.SetNx key value =
    plan_at key (Sets value (record plain { when = Absent; tells = tells.Count }))
with_value verb.GetSet key value =
    plan_at key (Sets value (record plain { tells = tells.Before }))
with_value verb.Expire key value =
    plan_to_expire verb.Expire clock.Seconds key (number_of value)
with_value verb.PExpire key value =
    plan_to_expire verb.PExpire clock.Millis key (number_of value)
with_value verb.ExpireAt key value =
    plan_to_expire verb.ExpireAt clock.UnixSeconds key (number_of value)
with_value verb.PExpireAt key value =
    plan_to_expire verb.PExpireAt clock.UnixMillis key (number_of value)
with_value verb.IncrBy key value = plan_to_add key (number_of value)
with_value verb.DecrBy key value = plan_to_subtract key (number_of value)
with_value verb.Append key value = plan_at key (Appends value)
with_value verb.Set key value = plan_to_set verb.Set key value (Some no_options)
with_value verb.ShutDown key value = Answer (error (codes "syntax error"))
with_value verb.Command key value = bare verb.Command
with_value verb.Quit key value = bare verb.Quit
with_value verb key value = wrong_number verb

-- SETEX and PSETEX have the time in front of the value
abbrev pub plan_to_set_timed : Verb → Clock → List ℕ → List ℕ → List (List ℕ) → Plan
plan_to_set_timed verb clock key time (value ∷ []) = plan_to_set verb key value
    (Some (record no_options { life = life.Said clock (number_of time) }))
plan_to_set_timed verb clock key time more = wrong_number verb

abbrev pub with_more : Verb → List ℕ → List ℕ → List (List ℕ) → Plan
with_more verb.Set key value more = plan_to_set verb.Set key value (options_from no_options more)
with_more verb.SetEx key value more = plan_to_set_timed verb.SetEx clock.Seconds key value more
with_more verb.PSetEx key value more = plan_to_set_timed verb.PSetEx clock.Millis key value more
with_more verb.ShutDown key value more = Answer (error (codes "syntax error"))
with_more verb.Command key value more = bare verb.Command
with_more verb.Quit key value more = bare verb.Quit
with_more verb key value more = wrong_number verb

abbrev pub plan_of_one : Verb → List (List ℕ) → Plan
plan_of_one verb [] = bare verb
plan_of_one verb (key ∷ []) = with_key verb key
plan_of_one verb (key ∷ value ∷ []) = with_value verb key value
plan_of_one verb (key ∷ value ∷ more) = with_more verb key value more

-- ---- those of several cells

-- with so many words a command asks several cells: MSET wants pairs of words
abbrev pub wants_several : Verb → ℕ → Bool
wants_several verb.MGet count = nat_lt 0 count
wants_several verb.MSet count = nat_lt 0 count && count % 2 == 0
wants_several verb.Del count = nat_lt 1 count
wants_several verb.Exists count = nat_lt 1 count
wants_several verb.DbSize count = count == 0
wants_several verb.Keys count = count == 1
wants_several verb.FlushAll count = true
wants_several verb count = false

-- what a command does with each of several keys
abbrev pub deed_of_each : Verb → Deed
deed_of_each verb.Del = Deletes
deed_of_each verb.Exists = Looks question.IsThere
deed_of_each verb = Looks question.Value

-- each key is asked the same, in its cell
abbrev pub asks_of_keys : Deed → List (List ℕ) → List (ℕ × Wish)
asks_of_keys deed keys = map (λ key. (cell_of key, Of key deed)) keys

-- each key is set to the word behind it
abbrev pub asks_of_pairs : List (List ℕ) → List (ℕ × Wish)
asks_of_pairs [] = []
asks_of_pairs (key ∷ []) = []
asks_of_pairs (key ∷ value ∷ words) =
    (cell_of key, Of key (Sets value plain)) ∷ asks_of_pairs words

-- all cells are asked the same
abbrev pub asks_of_all : Wish → List (ℕ × Wish)
asks_of_all wish = map (λ cell. (cell, wish)) (range_with_len 0 CELLS)

-- a key is too long, or a pattern
abbrev pub has_long_key : Wish → Bool
has_long_key (Of key deed) = nat_lt MOST_KEY (length key)
has_long_key (All sweep) = false
has_long_key (Lists pattern) = nat_lt MOST_KEY (length pattern)

abbrev pub have_long_key : List (ℕ × Wish) → Bool
have_long_key [] = false
have_long_key (ask ∷ asks) = if has_long_key ask.1 then true else have_long_key asks

-- cells are asked, if no key is too long
abbrev pub plan_at_all : List (ℕ × Wish) → Reply → Plan
plan_at_all asks reply = if have_long_key asks
    then Answer (error (codes "key exceeds maximum allowed size")) else Several asks reply

-- KEYS takes one word
abbrev pub plan_to_list : List (List ℕ) → Plan
plan_to_list (pattern ∷ []) = plan_at_all (asks_of_all (Lists pattern)) reply.Names
plan_to_list words = wrong_number verb.Keys

-- FLUSHALL takes one word at most, SYNC or ASYNC, which makes no difference
abbrev pub is_flush : List (List ℕ) → Bool
is_flush [] = true
is_flush (word ∷ []) = str_eq_ignore_ascii_case word (codes "sync")
    || str_eq_ignore_ascii_case word (codes "async")
is_flush (word ∷ words) = false

abbrev pub plan_of_several : Verb → List (List ℕ) → Plan
plan_of_several verb.MGet words = plan_at_all (asks_of_keys (Looks question.Value) words) reply.Items
plan_of_several verb.Del words = plan_at_all (asks_of_keys Deletes words) reply.Total
plan_of_several verb.Exists words =
    plan_at_all (asks_of_keys (Looks question.IsThere) words) reply.Total
plan_of_several verb.MSet words = plan_at_all (asks_of_pairs words) reply.Okay
plan_of_several verb.DbSize words = plan_at_all (asks_of_all (All sweep.Count)) reply.Total
plan_of_several verb.Keys words = plan_to_list words
plan_of_several verb.FlushAll words = if is_flush words
    then plan_at_all (asks_of_all (All sweep.Clear)) reply.Okay
    else Answer (error (codes "syntax error"))
plan_of_several verb words = wrong_number verb

abbrev pub plan_of_verb : Verb → List (List ℕ) → Plan
plan_of_verb verb words = if wants_several verb (length words)
    then plan_of_several verb words else plan_of_one verb words

abbrev pub plan_of_name : List ℕ → Option Verb → List (List ℕ) → Plan
plan_of_name name None words = unknown name words
plan_of_name name (Some verb) words = plan_of_verb verb words

-- a request without words isn't answered
abbrev pub plan_of_words : List (List ℕ) → Plan
plan_of_words [] = Answer []
plan_of_words (name ∷ words) = plan_of_name name (verb_of name) words

-- what a frame asks: what its words do, or that it is no request, and the connection ends
abbrev pub plan_of_saying : Saying → Plan
plan_of_saying (Says words) = plan_of_words words
plan_of_saying (Errs fault) =
    Ends (error (codes "Protocol error: " ++ text_of_fault fault))
plan_of_saying Stops = Ends []

abbrev pub plan_of : List ℕ → Plan
plan_of frame = plan_of_saying (heard_of frame)

-- ---- as the code has it

abbrev pub asks_in : List (ℕ × Request) → List (ℕ × Wish)
asks_in asks = map (λ ask. (ask.0, wish_of ask.1)) asks

abbrev pub plan_in : Asked Request Reply → Plan
plan_in (At cell request) = Cell cell (wish_of request)
plan_in (Each asks reply) = Several (asks_in asks.items) reply
plan_in (Here reply) = Answer (shown_with reply [])
plan_in (Last reply) = Ends (shown_with reply [])

-- each request gets this moment
abbrev pub timed_asks : ℕ → List (ℕ × Request) → List (ℕ × Timed)
timed_asks now asks = map (λ ask. (ask.0, record { now = now; request = ask.1 })) asks

abbrev pub asks_timed : List (ℕ × Timed) → List (ℕ × Wish)
asks_timed asks = map (λ ask. (ask.0, wish_of ask.1.request)) asks

abbrev pub plan_timed : Asked Timed Reply → Plan
plan_timed (At cell timed) = Cell cell (wish_of timed.request)
plan_timed (Each asks reply) = Several (asks_timed asks.items) reply
plan_timed (Here reply) = Answer (shown_with reply [])
plan_timed (Last reply) = Ends (shown_with reply [])

-- all that is asked is asked at this moment
abbrev pub AreAt : ℕ → Asked Timed Reply → Type 0
AreAt now (At cell timed) = timed.now ≡ now
AreAt now (Each asks reply) = AllByRecursion (λ ask. ask.1.now ≡ now) asks.items
AreAt now (Here reply) = ⊤
AreAt now (Last reply) = ⊤

-- this is asked by a frame, at some moment
pub record IsAsked (frame : List ℕ) (asked : Asked Timed Reply) : Type 0 where
  pub plan : plan_timed asked ≡ plan_of frame
  pub now : ℕ
  pub at : AreAt now asked
