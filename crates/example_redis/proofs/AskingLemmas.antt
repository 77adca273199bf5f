-- Commands that have no two words, or not one.
use Rattle.std.proofs.Common.{◌≡◌, ◌==◌, ℕ, Vec, List, [], ◌∷◌, false, length, map, refl}
use Rattle.std.specs.Global.{Global}
use Rattle.example_redis.specs.declared.verb.Verb.{Verb}
use Rattle.example_redis.specs.declared.verb.Verb.TheVariants as verb
use Rattle.example_redis.specs.declared.request.Question.TheVariants.{Value}
use Rattle.example_redis.specs.Values.{Looks}
use Rattle.example_redis.specs.Asking.{bare, deed_of_each, plan_of_one, with_key, with_more, with_value, wrong_number}

pub none_of_two : (one : Verb) (key value : List ℕ) → (one ≡ verb.Set → ⊥) → (one ≡ verb.SetNx → ⊥) → (one ≡ verb.GetSet → ⊥) → (one ≡ verb.IncrBy → ⊥) → (one ≡ verb.DecrBy → ⊥) → (one ≡ verb.Append → ⊥) → (one ≡ verb.Expire → ⊥) → (one ≡ verb.PExpire → ⊥) → (one ≡ verb.ExpireAt → ⊥) → (one ≡ verb.PExpireAt → ⊥) → (one ≡ verb.ShutDown → ⊥) → (one ≡ verb.Command → ⊥) → (one ≡ verb.Quit → ⊥) → wrong_number one ≡ with_value one key value
none_of_two verb.Ping key value not_set not_setnx not_getset not_incrby not_decrby not_append not_expire not_pexpire not_expireat not_pexpireat not_shutdown not_command not_quit = refl
none_of_two verb.Echo key value not_set not_setnx not_getset not_incrby not_decrby not_append not_expire not_pexpire not_expireat not_pexpireat not_shutdown not_command not_quit = refl
none_of_two verb.Get key value not_set not_setnx not_getset not_incrby not_decrby not_append not_expire not_pexpire not_expireat not_pexpireat not_shutdown not_command not_quit = refl
none_of_two verb.Set key value not_set not_setnx not_getset not_incrby not_decrby not_append not_expire not_pexpire not_expireat not_pexpireat not_shutdown not_command not_quit = absurd (not_set refl)
none_of_two verb.SetNx key value not_set not_setnx not_getset not_incrby not_decrby not_append not_expire not_pexpire not_expireat not_pexpireat not_shutdown not_command not_quit = absurd (not_setnx refl)
none_of_two verb.GetSet key value not_set not_setnx not_getset not_incrby not_decrby not_append not_expire not_pexpire not_expireat not_pexpireat not_shutdown not_command not_quit = absurd (not_getset refl)
none_of_two verb.SetEx key value not_set not_setnx not_getset not_incrby not_decrby not_append not_expire not_pexpire not_expireat not_pexpireat not_shutdown not_command not_quit = refl
none_of_two verb.PSetEx key value not_set not_setnx not_getset not_incrby not_decrby not_append not_expire not_pexpire not_expireat not_pexpireat not_shutdown not_command not_quit = refl
none_of_two verb.Del key value not_set not_setnx not_getset not_incrby not_decrby not_append not_expire not_pexpire not_expireat not_pexpireat not_shutdown not_command not_quit = refl
none_of_two verb.Exists key value not_set not_setnx not_getset not_incrby not_decrby not_append not_expire not_pexpire not_expireat not_pexpireat not_shutdown not_command not_quit = refl
none_of_two verb.Incr key value not_set not_setnx not_getset not_incrby not_decrby not_append not_expire not_pexpire not_expireat not_pexpireat not_shutdown not_command not_quit = refl
none_of_two verb.Decr key value not_set not_setnx not_getset not_incrby not_decrby not_append not_expire not_pexpire not_expireat not_pexpireat not_shutdown not_command not_quit = refl
none_of_two verb.IncrBy key value not_set not_setnx not_getset not_incrby not_decrby not_append not_expire not_pexpire not_expireat not_pexpireat not_shutdown not_command not_quit = absurd (not_incrby refl)
none_of_two verb.DecrBy key value not_set not_setnx not_getset not_incrby not_decrby not_append not_expire not_pexpire not_expireat not_pexpireat not_shutdown not_command not_quit = absurd (not_decrby refl)
none_of_two verb.Append key value not_set not_setnx not_getset not_incrby not_decrby not_append not_expire not_pexpire not_expireat not_pexpireat not_shutdown not_command not_quit = absurd (not_append refl)
none_of_two verb.StrLen key value not_set not_setnx not_getset not_incrby not_decrby not_append not_expire not_pexpire not_expireat not_pexpireat not_shutdown not_command not_quit = refl
none_of_two verb.Expire key value not_set not_setnx not_getset not_incrby not_decrby not_append not_expire not_pexpire not_expireat not_pexpireat not_shutdown not_command not_quit = absurd (not_expire refl)
none_of_two verb.PExpire key value not_set not_setnx not_getset not_incrby not_decrby not_append not_expire not_pexpire not_expireat not_pexpireat not_shutdown not_command not_quit = absurd (not_pexpire refl)
none_of_two verb.ExpireAt key value not_set not_setnx not_getset not_incrby not_decrby not_append not_expire not_pexpire not_expireat not_pexpireat not_shutdown not_command not_quit = absurd (not_expireat refl)
none_of_two verb.PExpireAt key value not_set not_setnx not_getset not_incrby not_decrby not_append not_expire not_pexpire not_expireat not_pexpireat not_shutdown not_command not_quit = absurd (not_pexpireat refl)
none_of_two verb.Ttl key value not_set not_setnx not_getset not_incrby not_decrby not_append not_expire not_pexpire not_expireat not_pexpireat not_shutdown not_command not_quit = refl
none_of_two verb.PTtl key value not_set not_setnx not_getset not_incrby not_decrby not_append not_expire not_pexpire not_expireat not_pexpireat not_shutdown not_command not_quit = refl
none_of_two verb.Persist key value not_set not_setnx not_getset not_incrby not_decrby not_append not_expire not_pexpire not_expireat not_pexpireat not_shutdown not_command not_quit = refl
none_of_two verb.MGet key value not_set not_setnx not_getset not_incrby not_decrby not_append not_expire not_pexpire not_expireat not_pexpireat not_shutdown not_command not_quit = refl
none_of_two verb.MSet key value not_set not_setnx not_getset not_incrby not_decrby not_append not_expire not_pexpire not_expireat not_pexpireat not_shutdown not_command not_quit = refl
none_of_two verb.DbSize key value not_set not_setnx not_getset not_incrby not_decrby not_append not_expire not_pexpire not_expireat not_pexpireat not_shutdown not_command not_quit = refl
none_of_two verb.Keys key value not_set not_setnx not_getset not_incrby not_decrby not_append not_expire not_pexpire not_expireat not_pexpireat not_shutdown not_command not_quit = refl
none_of_two verb.FlushAll key value not_set not_setnx not_getset not_incrby not_decrby not_append not_expire not_pexpire not_expireat not_pexpireat not_shutdown not_command not_quit = refl
none_of_two verb.Info key value not_set not_setnx not_getset not_incrby not_decrby not_append not_expire not_pexpire not_expireat not_pexpireat not_shutdown not_command not_quit = refl
none_of_two verb.ShutDown key value not_set not_setnx not_getset not_incrby not_decrby not_append not_expire not_pexpire not_expireat not_pexpireat not_shutdown not_command not_quit = absurd (not_shutdown refl)
none_of_two verb.Command key value not_set not_setnx not_getset not_incrby not_decrby not_append not_expire not_pexpire not_expireat not_pexpireat not_shutdown not_command not_quit = absurd (not_command refl)
none_of_two verb.Quit key value not_set not_setnx not_getset not_incrby not_decrby not_append not_expire not_pexpire not_expireat not_pexpireat not_shutdown not_command not_quit = absurd (not_quit refl)

pub none_of_one : (one : Verb) (key : List ℕ) → (one ≡ verb.Ping → ⊥) → (one ≡ verb.Echo → ⊥) → (one ≡ verb.Get → ⊥) → (one ≡ verb.Exists → ⊥) → (one ≡ verb.StrLen → ⊥) → (one ≡ verb.Ttl → ⊥) → (one ≡ verb.PTtl → ⊥) → (one ≡ verb.Persist → ⊥) → (one ≡ verb.Del → ⊥) → (one ≡ verb.Incr → ⊥) → (one ≡ verb.Decr → ⊥) → (one ≡ verb.Command → ⊥) → (one ≡ verb.Quit → ⊥) → (one ≡ verb.ShutDown → ⊥) → (one ≡ verb.Info → ⊥) → wrong_number one ≡ with_key one key
none_of_one verb.Ping key not_ping not_echo not_get not_exists not_strlen not_ttl not_pttl not_persist not_del not_incr not_decr not_command not_quit not_shutdown not_info = absurd (not_ping refl)
none_of_one verb.Echo key not_ping not_echo not_get not_exists not_strlen not_ttl not_pttl not_persist not_del not_incr not_decr not_command not_quit not_shutdown not_info = absurd (not_echo refl)
none_of_one verb.Get key not_ping not_echo not_get not_exists not_strlen not_ttl not_pttl not_persist not_del not_incr not_decr not_command not_quit not_shutdown not_info = absurd (not_get refl)
none_of_one verb.Set key not_ping not_echo not_get not_exists not_strlen not_ttl not_pttl not_persist not_del not_incr not_decr not_command not_quit not_shutdown not_info = refl
none_of_one verb.SetNx key not_ping not_echo not_get not_exists not_strlen not_ttl not_pttl not_persist not_del not_incr not_decr not_command not_quit not_shutdown not_info = refl
none_of_one verb.GetSet key not_ping not_echo not_get not_exists not_strlen not_ttl not_pttl not_persist not_del not_incr not_decr not_command not_quit not_shutdown not_info = refl
none_of_one verb.SetEx key not_ping not_echo not_get not_exists not_strlen not_ttl not_pttl not_persist not_del not_incr not_decr not_command not_quit not_shutdown not_info = refl
none_of_one verb.PSetEx key not_ping not_echo not_get not_exists not_strlen not_ttl not_pttl not_persist not_del not_incr not_decr not_command not_quit not_shutdown not_info = refl
none_of_one verb.Del key not_ping not_echo not_get not_exists not_strlen not_ttl not_pttl not_persist not_del not_incr not_decr not_command not_quit not_shutdown not_info = absurd (not_del refl)
none_of_one verb.Exists key not_ping not_echo not_get not_exists not_strlen not_ttl not_pttl not_persist not_del not_incr not_decr not_command not_quit not_shutdown not_info = absurd (not_exists refl)
none_of_one verb.Incr key not_ping not_echo not_get not_exists not_strlen not_ttl not_pttl not_persist not_del not_incr not_decr not_command not_quit not_shutdown not_info = absurd (not_incr refl)
none_of_one verb.Decr key not_ping not_echo not_get not_exists not_strlen not_ttl not_pttl not_persist not_del not_incr not_decr not_command not_quit not_shutdown not_info = absurd (not_decr refl)
none_of_one verb.IncrBy key not_ping not_echo not_get not_exists not_strlen not_ttl not_pttl not_persist not_del not_incr not_decr not_command not_quit not_shutdown not_info = refl
none_of_one verb.DecrBy key not_ping not_echo not_get not_exists not_strlen not_ttl not_pttl not_persist not_del not_incr not_decr not_command not_quit not_shutdown not_info = refl
none_of_one verb.Append key not_ping not_echo not_get not_exists not_strlen not_ttl not_pttl not_persist not_del not_incr not_decr not_command not_quit not_shutdown not_info = refl
none_of_one verb.StrLen key not_ping not_echo not_get not_exists not_strlen not_ttl not_pttl not_persist not_del not_incr not_decr not_command not_quit not_shutdown not_info = absurd (not_strlen refl)
none_of_one verb.Expire key not_ping not_echo not_get not_exists not_strlen not_ttl not_pttl not_persist not_del not_incr not_decr not_command not_quit not_shutdown not_info = refl
none_of_one verb.PExpire key not_ping not_echo not_get not_exists not_strlen not_ttl not_pttl not_persist not_del not_incr not_decr not_command not_quit not_shutdown not_info = refl
none_of_one verb.ExpireAt key not_ping not_echo not_get not_exists not_strlen not_ttl not_pttl not_persist not_del not_incr not_decr not_command not_quit not_shutdown not_info = refl
none_of_one verb.PExpireAt key not_ping not_echo not_get not_exists not_strlen not_ttl not_pttl not_persist not_del not_incr not_decr not_command not_quit not_shutdown not_info = refl
none_of_one verb.Ttl key not_ping not_echo not_get not_exists not_strlen not_ttl not_pttl not_persist not_del not_incr not_decr not_command not_quit not_shutdown not_info = absurd (not_ttl refl)
none_of_one verb.PTtl key not_ping not_echo not_get not_exists not_strlen not_ttl not_pttl not_persist not_del not_incr not_decr not_command not_quit not_shutdown not_info = absurd (not_pttl refl)
none_of_one verb.Persist key not_ping not_echo not_get not_exists not_strlen not_ttl not_pttl not_persist not_del not_incr not_decr not_command not_quit not_shutdown not_info = absurd (not_persist refl)
none_of_one verb.MGet key not_ping not_echo not_get not_exists not_strlen not_ttl not_pttl not_persist not_del not_incr not_decr not_command not_quit not_shutdown not_info = refl
none_of_one verb.MSet key not_ping not_echo not_get not_exists not_strlen not_ttl not_pttl not_persist not_del not_incr not_decr not_command not_quit not_shutdown not_info = refl
none_of_one verb.DbSize key not_ping not_echo not_get not_exists not_strlen not_ttl not_pttl not_persist not_del not_incr not_decr not_command not_quit not_shutdown not_info = refl
none_of_one verb.Keys key not_ping not_echo not_get not_exists not_strlen not_ttl not_pttl not_persist not_del not_incr not_decr not_command not_quit not_shutdown not_info = refl
none_of_one verb.FlushAll key not_ping not_echo not_get not_exists not_strlen not_ttl not_pttl not_persist not_del not_incr not_decr not_command not_quit not_shutdown not_info = refl
none_of_one verb.Info key not_ping not_echo not_get not_exists not_strlen not_ttl not_pttl not_persist not_del not_incr not_decr not_command not_quit not_shutdown not_info = absurd (not_info refl)
none_of_one verb.ShutDown key not_ping not_echo not_get not_exists not_strlen not_ttl not_pttl not_persist not_del not_incr not_decr not_command not_quit not_shutdown not_info = absurd (not_shutdown refl)
none_of_one verb.Command key not_ping not_echo not_get not_exists not_strlen not_ttl not_pttl not_persist not_del not_incr not_decr not_command not_quit not_shutdown not_info = absurd (not_command refl)
none_of_one verb.Quit key not_ping not_echo not_get not_exists not_strlen not_ttl not_pttl not_persist not_del not_incr not_decr not_command not_quit not_shutdown not_info = absurd (not_quit refl)

pub none_of_none : (one : Verb) → (one ≡ verb.Ping → ⊥) → (one ≡ verb.Command → ⊥) → (one ≡ verb.Quit → ⊥) → (one ≡ verb.ShutDown → ⊥) → (one ≡ verb.Info → ⊥) → wrong_number one ≡ bare one
none_of_none verb.Ping not_ping not_command not_quit not_shutdown not_info = absurd (not_ping refl)
none_of_none verb.Echo not_ping not_command not_quit not_shutdown not_info = refl
none_of_none verb.Get not_ping not_command not_quit not_shutdown not_info = refl
none_of_none verb.Set not_ping not_command not_quit not_shutdown not_info = refl
none_of_none verb.SetNx not_ping not_command not_quit not_shutdown not_info = refl
none_of_none verb.GetSet not_ping not_command not_quit not_shutdown not_info = refl
none_of_none verb.SetEx not_ping not_command not_quit not_shutdown not_info = refl
none_of_none verb.PSetEx not_ping not_command not_quit not_shutdown not_info = refl
none_of_none verb.Del not_ping not_command not_quit not_shutdown not_info = refl
none_of_none verb.Exists not_ping not_command not_quit not_shutdown not_info = refl
none_of_none verb.Incr not_ping not_command not_quit not_shutdown not_info = refl
none_of_none verb.Decr not_ping not_command not_quit not_shutdown not_info = refl
none_of_none verb.IncrBy not_ping not_command not_quit not_shutdown not_info = refl
none_of_none verb.DecrBy not_ping not_command not_quit not_shutdown not_info = refl
none_of_none verb.Append not_ping not_command not_quit not_shutdown not_info = refl
none_of_none verb.StrLen not_ping not_command not_quit not_shutdown not_info = refl
none_of_none verb.Expire not_ping not_command not_quit not_shutdown not_info = refl
none_of_none verb.PExpire not_ping not_command not_quit not_shutdown not_info = refl
none_of_none verb.ExpireAt not_ping not_command not_quit not_shutdown not_info = refl
none_of_none verb.PExpireAt not_ping not_command not_quit not_shutdown not_info = refl
none_of_none verb.Ttl not_ping not_command not_quit not_shutdown not_info = refl
none_of_none verb.PTtl not_ping not_command not_quit not_shutdown not_info = refl
none_of_none verb.Persist not_ping not_command not_quit not_shutdown not_info = refl
none_of_none verb.MGet not_ping not_command not_quit not_shutdown not_info = refl
none_of_none verb.MSet not_ping not_command not_quit not_shutdown not_info = refl
none_of_none verb.DbSize not_ping not_command not_quit not_shutdown not_info = refl
none_of_none verb.Keys not_ping not_command not_quit not_shutdown not_info = refl
none_of_none verb.FlushAll not_ping not_command not_quit not_shutdown not_info = refl
none_of_none verb.Info not_ping not_command not_quit not_shutdown not_info = absurd (not_info refl)
none_of_none verb.ShutDown not_ping not_command not_quit not_shutdown not_info = absurd (not_shutdown refl)
none_of_none verb.Command not_ping not_command not_quit not_shutdown not_info = absurd (not_command refl)
none_of_none verb.Quit not_ping not_command not_quit not_shutdown not_info = absurd (not_quit refl)

pub other_each : (one : Verb) → (one ≡ verb.Del → ⊥) → (one ≡ verb.Exists → ⊥) → Looks Value ≡ deed_of_each one
other_each verb.Ping not_del not_exists = refl
other_each verb.Echo not_del not_exists = refl
other_each verb.Get not_del not_exists = refl
other_each verb.Set not_del not_exists = refl
other_each verb.SetNx not_del not_exists = refl
other_each verb.GetSet not_del not_exists = refl
other_each verb.SetEx not_del not_exists = refl
other_each verb.PSetEx not_del not_exists = refl
other_each verb.Del not_del not_exists = absurd (not_del refl)
other_each verb.Exists not_del not_exists = absurd (not_exists refl)
other_each verb.Incr not_del not_exists = refl
other_each verb.Decr not_del not_exists = refl
other_each verb.IncrBy not_del not_exists = refl
other_each verb.DecrBy not_del not_exists = refl
other_each verb.Append not_del not_exists = refl
other_each verb.StrLen not_del not_exists = refl
other_each verb.Expire not_del not_exists = refl
other_each verb.PExpire not_del not_exists = refl
other_each verb.ExpireAt not_del not_exists = refl
other_each verb.PExpireAt not_del not_exists = refl
other_each verb.Ttl not_del not_exists = refl
other_each verb.PTtl not_del not_exists = refl
other_each verb.Persist not_del not_exists = refl
other_each verb.MGet not_del not_exists = refl
other_each verb.MSet not_del not_exists = refl
other_each verb.DbSize not_del not_exists = refl
other_each verb.Keys not_del not_exists = refl
other_each verb.FlushAll not_del not_exists = refl
other_each verb.Info not_del not_exists = refl
other_each verb.ShutDown not_del not_exists = refl
other_each verb.Command not_del not_exists = refl
other_each verb.Quit not_del not_exists = refl

-- a command with more than two words has more
pub some_more : (one : Verb) (key value : List ℕ) (more : List (Vec ℕ Global)) → (length more == 0) ≡ false → with_more one key value (map (λ word. word.items) more) ≡ plan_of_one one (key ∷ value ∷ map (λ word. word.items) more)
some_more one key value [] none = absurd (let same = none in cc)
some_more one key value (word ∷ more) none = refl
