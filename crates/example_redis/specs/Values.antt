-- What becomes of the value of a key, and what is replied.
-- The commands as in https://redis.io/docs/latest/commands/
use Rattle.std.specs.Prelude.{◌≡◌, ◌+◌, ◌-◌, ◌/◌, ◌%◌, ◌^◌, ◌+ℤ◌, pos, negsuc, ℕ, ℤ, List, [], ◌++◌, Bool, true, false, Option, Some, None, Result, Ok, Err, codes, length, nat_le, nat_lt, is_some, option_map, if◌then◌else◌, ⊤}
use lib.Signed.{mag}
use Rattle.std.specs.Fmt.{signed_decimal}
use Rattle.example_redis.specs.declared.request.Action.{Action}
use Rattle.example_redis.specs.declared.request.Action.TheVariants.{Look, Make}
use Rattle.example_redis.specs.declared.request.Change.{Change}
use Rattle.example_redis.specs.declared.request.Change.TheVariants as change
use Rattle.example_redis.specs.declared.request.How.{How}
use Rattle.example_redis.specs.declared.request.Question.{Question}
use Rattle.example_redis.specs.declared.request.Question.TheVariants as question
use Rattle.example_redis.specs.declared.request.Request.{Request}
use Rattle.example_redis.specs.declared.request.Request.TheVariants as request
use Rattle.example_redis.specs.declared.request.Sweep.{Sweep}
use Rattle.example_redis.specs.declared.request.Tells.{Tells}
use Rattle.example_redis.specs.declared.request.Tells.TheVariants as tells
use Rattle.example_redis.specs.declared.request.When.{When}
use Rattle.example_redis.specs.declared.request.When.TheVariants as when
use Rattle.example_redis.specs.declared.limits.TheConstants.{MOST_VALUE}
use Rattle.example_redis.specs.Lives.{Entry, entry_in, there_at, until_in, until_of}
use Rattle.example_redis.specs.Numbers.{number_of}
use Rattle.example_redis.specs.declared.life.Term.{Term}
use Rattle.example_redis.specs.declared.value.Done.{Done}
use Rattle.example_redis.specs.declared.verb.Verb.{Verb}
use Rattle.example_redis.specs.declared.reply.Reply.{Reply}
use Rattle.example_redis.specs.Replies.{bulk, count_in, error, integer, shown_reply, text_of}
use Rattle.example_redis.specs.declared.reply.Refusal.TheVariants as refusal

-- what is asked of the value of a key, or becomes of it
pub data Deed : Type 0 where
  Looks : Question → Deed
  Sets : List ℕ → How → Deed
  Deletes : Deed
  Adds : ℤ → Deed
  Appends : List ℕ → Deed
  Expires : Term → Deed
  Persists : Deed

abbrev pub deed_of_change : Change → Deed
deed_of_change (change.Set value how) = Sets value.items how
deed_of_change change.Delete = Deletes
deed_of_change (change.Add number) = Adds number
deed_of_change (change.Append bytes) = Appends bytes.items
deed_of_change (change.Expire term) = Expires term
deed_of_change change.Persist = Persists

abbrev pub deed_of : Action → Deed
deed_of (Look question) = Looks question
deed_of (Make change) = deed_of_change change

-- what is asked of a cell: something is done with the value of a key, or with all its keys, or those
-- are listed that a pattern matches
pub data Wish : Type 0 where
  Of : List ℕ → Deed → Wish
  All : Sweep → Wish
  Lists : List ℕ → Wish

abbrev pub wish_of : Request → Wish
wish_of (request.Of key action) = Of key.items (deed_of action)
wish_of (request.All sweep) = All sweep
wish_of (request.List pattern) = Lists pattern.items

-- the value then, where there is one, and the reply
pub record Turn : Type 0 where
  pub value : Option Entry
  pub reply : List ℕ

abbrev pub nil : List ℕ
nil = codes "$-1\r\n"

abbrev pub okay : List ℕ
okay = codes "+OK\r\n"

abbrev pub one_if : Bool → List ℕ
one_if is = integer (if is then pos 1 else pos 0)

-- the bytes of a value; of none there are none
abbrev pub bytes_of : Option Entry → List ℕ
bytes_of None = []
bytes_of (Some value) = value.bytes

abbrev pub bulk_of : Option Entry → List ℕ
bulk_of None = nil
bulk_of (Some value) = bulk value.bytes

-- TTL is to the nearest second
abbrev pub in_unit : Question → ℕ → ℕ
in_unit question.Seconds millis = millis / 1000 + (if nat_lt (millis % 1000) 500 then 0 else 1)
in_unit question millis = millis

-- how long a value is still there: -1 where it doesn't go
abbrev pub left_till : Question → ℕ → Option ℕ → List ℕ
left_till question now None = integer (negsuc 0)
left_till question now (Some until) = integer (pos (in_unit question (until - now)))

-- and -2 where there is none
abbrev pub left_of : Question → ℕ → Option Entry → List ℕ
left_of question now None = integer (negsuc 1)
left_of question now (Some value) = left_till question now value.until

-- GET, EXISTS, STRLEN, TTL and PTTL
abbrev pub answer_to : ℕ → Question → Option Entry → List ℕ
answer_to now question.Value value = bulk_of value
answer_to now question.IsThere value = one_if (is_some value)
answer_to now question.Length value = integer (pos (length (bytes_of value)))
answer_to now question.Seconds value = left_of question.Seconds now value
answer_to now question.Millis value = left_of question.Millis now value

-- whether a value is set: SET with NX only where the key has none, with XX only where it has one
abbrev pub is_set : When → Option Entry → Bool
is_set when.Always before = true
is_set when.Absent before = if is_some before then false else true
is_set when.Present before = is_some before

-- SET, SET with GET, and SETNX
abbrev pub reply_to_set : Tells → Bool → Option Entry → List ℕ
reply_to_set tells.Done done before = if done then okay else nil
reply_to_set tells.Before done before = bulk_of before
reply_to_set tells.Count done before = one_if done

-- where the time that a command names is too late, nothing changes
abbrev pub too_late : Verb → Option Entry → Turn
too_late verb before = record { value = before; reply = error (text_of (refusal.Time verb)) }

-- SET, at a moment: a value whose time is over at once isn't there
abbrev pub set_till : ℕ → List ℕ → How → Option Entry → Result (Option ℕ) Verb → Turn
set_till now bytes how before (Err verb) = too_late verb before
set_till now bytes how before (Ok until) = let done = is_set how.when before in record {
  value = if done then there_at now (Some (record { bytes = bytes; until = until })) else before;
  reply = reply_to_set how.tells done before;
}

abbrev pub with_until : Option ℕ → Entry → Entry
with_until until entry = record entry { until = until }

-- EXPIRE and its kin
abbrev pub ends_at : ℕ → Option Entry → Result (Option ℕ) Verb → Turn
ends_at now before (Err verb) = too_late verb before
ends_at now before (Ok until) = record {
  value = there_at now (option_map (with_until until) before);
  reply = one_if (is_some before);
}

-- INCR, DECR, INCRBY and DECRBY: no value counts as 0
abbrev pub number_in : Option Entry → Option ℤ
number_in None = Some (pos 0)
number_in (Some value) = number_of value.bytes

-- where a value changes, its time stays
abbrev pub added : Option Entry → Option ℤ → ℤ → Turn
added before None number = record {
  value = before;
  reply = error (codes "value is not an integer or out of range");
}
added before (Some old) number = if nat_lt (mag (old +ℤ number)) (2 ^ 63) then record {
  value = Some (record { bytes = signed_decimal (old +ℤ number); until = until_in before });
  reply = integer (old +ℤ number);
} else record {
  value = before;
  reply = error (codes "increment or decrement would overflow");
}

-- APPEND
abbrev pub appended : Option Entry → List ℕ → Turn
appended before more = let bytes = bytes_of before ++ more in
    if nat_le (length bytes) MOST_VALUE then record {
      value = Some (record { bytes = bytes; until = until_in before });
      reply = integer (pos (length bytes));
    } else record {
      value = before;
      reply = error (codes "string exceeds maximum allowed size (proto-max-bulk-len)");
    }

-- A step of a key at a moment: from its value, where it has one then, to the value that it has and
-- the reply.
abbrev pub turn_of : ℕ → Deed → Option Entry → Turn
turn_of now (Looks question) before =
    record { value = before; reply = answer_to now question before }
turn_of now (Sets bytes how) before =
    set_till now bytes how before (until_of now (until_in before) how.term)
turn_of now Deletes before = record { value = None; reply = one_if (is_some before) }
turn_of now (Adds number) before = added before (number_in before) number
turn_of now (Appends bytes) before = appended before bytes
turn_of now (Expires term) before =
    ends_at now before (until_of now (until_in before) term)
turn_of now Persists before = record {
  value = option_map (with_until None) before;
  reply = one_if (is_some (until_in before));
}

-- What is replied to EXISTS and DEL counts the key, where it is there: so the replies of several
-- keys can be added.
abbrev pub IsCounted : Deed → Option Entry → Reply → Type 0
IsCounted (Looks question.IsThere) before answer =
    count_in answer ≡ (if is_some before then 1 else 0)
IsCounted Deletes before answer = count_in answer ≡ (if is_some before then 1 else 0)
IsCounted deed before answer = ⊤

-- ---- as the code has it

-- a value and a reply are those of a turn
pub record IsTurn (turn : Turn) (done : Done) : Type 0 where
  pub value : entry_in done.value ≡ turn.value
  pub reply : shown_reply done.reply ≡ turn.reply
