-- The names of commands: https://redis.io/docs/latest/commands/
use Rattle.std.specs.Prelude.{ℕ, List, [], ◌∷◌, Option, None, Some, codes, if◌then◌else◌}
use Rattle.std.specs.Str.{str_eq_ignore_ascii_case}
use Rattle.example_redis.specs.declared.verb.Verb.{Verb}
use Rattle.example_redis.specs.declared.verb.Verb.TheVariants as verb

-- the name of a command, in small letters
abbrev pub name_of : Verb → List ℕ
name_of verb.Ping = codes "ping"
name_of verb.Echo = codes "echo"
name_of verb.Get = codes "get"
name_of verb.Set = codes "set"
name_of verb.SetNx = codes "setnx"
name_of verb.GetSet = codes "getset"
name_of verb.SetEx = codes "setex"
name_of verb.PSetEx = codes "psetex"
name_of verb.Del = codes "del"
name_of verb.Exists = codes "exists"
name_of verb.Incr = codes "incr"
name_of verb.Decr = codes "decr"
name_of verb.IncrBy = codes "incrby"
name_of verb.DecrBy = codes "decrby"
name_of verb.Append = codes "append"
name_of verb.StrLen = codes "strlen"
name_of verb.Expire = codes "expire"
name_of verb.PExpire = codes "pexpire"
name_of verb.ExpireAt = codes "expireat"
name_of verb.PExpireAt = codes "pexpireat"
name_of verb.Ttl = codes "ttl"
name_of verb.PTtl = codes "pttl"
name_of verb.Persist = codes "persist"
name_of verb.MGet = codes "mget"
name_of verb.MSet = codes "mset"
name_of verb.DbSize = codes "dbsize"
name_of verb.Keys = codes "keys"
name_of verb.FlushAll = codes "flushall"
name_of verb.Info = codes "info"
name_of verb.ShutDown = codes "shutdown"
name_of verb.Command = codes "command"
name_of verb.Quit = codes "quit"

abbrev pub verbs : List Verb
verbs = verb.Ping ∷ verb.Echo ∷ verb.Get ∷ verb.Set ∷ verb.SetNx ∷ verb.GetSet ∷ verb.SetEx
    ∷ verb.PSetEx ∷ verb.Del ∷ verb.Exists ∷ verb.Incr ∷ verb.Decr ∷ verb.IncrBy ∷ verb.DecrBy
    ∷ verb.Append ∷ verb.StrLen ∷ verb.Expire ∷ verb.PExpire ∷ verb.ExpireAt ∷ verb.PExpireAt
    ∷ verb.Ttl ∷ verb.PTtl ∷ verb.Persist ∷ verb.MGet ∷ verb.MSet ∷ verb.DbSize
    ∷ verb.Keys ∷ verb.FlushAll ∷ verb.Info ∷ verb.ShutDown ∷ verb.Command ∷ verb.Quit ∷ []

-- the first command whose name this is, in letters of any case
abbrev pub verb_among : List ℕ → List Verb → Option Verb
verb_among name [] = None
verb_among name (one ∷ more) = if str_eq_ignore_ascii_case name (name_of one)
    then Some one else verb_among name more

abbrev pub verb_of : List ℕ → Option Verb
verb_of name = verb_among name verbs
