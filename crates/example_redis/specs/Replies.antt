-- What a reply is in bytes: RESP, "RESP protocol description", version 2.
use Rattle.std.specs.Prelude.{◌==◌, ◌||◌, ℕ, ℤ, List, [], ◌∷◌, ◌++◌, codes, flat_map, length, map, pos, if◌then◌else◌}
use Rattle.std.specs.Fmt.{decimal, signed_decimal}
use Rattle.std.specs.List.{sum_by}
use Rattle.example_redis.specs.declared.frame.Fault.{Fault}
use Rattle.example_redis.specs.declared.frame.Fault.TheVariants as fault
use Rattle.example_redis.specs.declared.reply.Refusal.{Refusal}
use Rattle.example_redis.specs.declared.reply.Refusal.TheVariants as refusal
use Rattle.example_redis.specs.declared.reply.Reply.{Reply}
use Rattle.example_redis.specs.declared.reply.Reply.TheVariants as reply
use Rattle.example_redis.specs.Verbs.{name_of}

-- a line feed or a carriage return is shown as a space
abbrev pub shown_byte : ℕ → ℕ
shown_byte byte = if byte == 13 || byte == 10 then 32 else byte

abbrev pub text_of_fault : Fault → List ℕ
text_of_fault fault.Count = codes "invalid multibulk length"
text_of_fault fault.Size = codes "invalid bulk length"
text_of_fault (fault.NoWord byte) =
    codes "expected '$', got '" ++ shown_byte byte ∷ codes "'"
text_of_fault fault.NoEnd = codes "a word without its line end"
text_of_fault fault.LongLine = codes "too big inline request"

abbrev pub text_of : Refusal → List ℕ
text_of (refusal.Unknown words) = codes "unknown command " ++ words.items
text_of (refusal.Arguments verb) =
    codes "wrong number of arguments for '" ++ name_of verb ++ codes "' command"
text_of refusal.Syntax = codes "syntax error"
text_of refusal.NoNumber = codes "value is not an integer or out of range"
text_of refusal.Overflow = codes "increment or decrement would overflow"
text_of refusal.Decrement = codes "decrement would overflow"
text_of refusal.LongKey = codes "key exceeds maximum allowed size"
text_of refusal.LongValue = codes "string exceeds maximum allowed size (proto-max-bulk-len)"
text_of (refusal.Time verb) =
    codes "invalid expire time in '" ++ name_of verb ++ codes "' command"
text_of (refusal.Protocol fault) = codes "Protocol error: " ++ text_of_fault fault
text_of refusal.LongRequest = codes "Protocol error: too big request"

-- a value, with its size in front
abbrev pub bulk : List ℕ → List ℕ
bulk value = codes "$" ++ decimal (length value) ++ codes "\r\n" ++ value ++ codes "\r\n"

abbrev pub integer : ℤ → List ℕ
integer number = codes ":" ++ signed_decimal number ++ codes "\r\n"

abbrev pub error : List ℕ → List ℕ
error text = codes "-ERR " ++ text ++ codes "\r\n"

-- what is true of each store: clients look here whether it is to be asked
abbrev pub info : List ℕ
info = codes "# Server\r\nredis_mode:standalone\r\n# Persistence\r\nloading:0\r\n"
    ++ codes "# Replication\r\nrole:master\r\n# Cluster\r\ncluster_enabled:0\r\n"

-- a list of values
abbrev pub bulks : List (List ℕ) → List ℕ
bulks values = codes "*" ++ decimal (length values) ++ codes "\r\n" ++ flat_map bulk values

-- a reply that has no parts
abbrev pub shown_reply : Reply → List ℕ
shown_reply reply.Silence = []
shown_reply reply.Gone = []
shown_reply reply.Okay = codes "+OK\r\n"
shown_reply reply.Pong = codes "+PONG\r\n"
shown_reply reply.Nil = codes "$-1\r\n"
shown_reply reply.NoItems = codes "*0\r\n"
shown_reply reply.Info = bulk info
shown_reply reply.Items = codes "*0\r\n"
shown_reply reply.Total = codes ":0\r\n"
shown_reply reply.Names = codes "*0\r\n"
shown_reply (reply.Count count) = integer (pos count)
shown_reply (reply.Number number) = integer number
shown_reply (reply.Value value) = bulk value.items
shown_reply (reply.Keys keys) = bulks (map (λ key. key.items) keys.items)
shown_reply (reply.Refused refusal) = error (text_of refusal)

-- replies as a list, with how many they are in front
abbrev pub list_of : List Reply → List ℕ
list_of parts = codes "*" ++ decimal (length parts) ++ codes "\r\n" ++ flat_map shown_reply parts

-- what a reply counts: nothing, if it is no count
abbrev pub count_in : Reply → ℕ
count_in (reply.Count count) = count
count_in reply = 0

-- the sum of what replies count
abbrev pub total_of : List Reply → List ℕ
total_of parts = integer (pos (sum_by count_in parts))

-- the keys that a reply lists: none, if it is no list of keys
abbrev pub keys_in : Reply → List (List ℕ)
keys_in (reply.Keys keys) = map (λ key. key.items) keys.items
keys_in reply = []

-- the keys of all replies, in order
abbrev pub names_of : List Reply → List ℕ
names_of parts = bulks (flat_map keys_in parts)

-- a reply with its parts, where it has any: what several cells reply
abbrev pub shown_with : Reply → List Reply → List ℕ
shown_with reply.Items parts = list_of parts
shown_with reply.Total parts = total_of parts
shown_with reply.Names parts = names_of parts
shown_with reply parts = shown_reply reply
