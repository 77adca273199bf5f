use Rattle.std.proofs.Common.{◌≡◌, ◌++◌, length, take}
use Rattle.std.specs.Fmt.{decimal}
use Rattle.std.specs.Prelude.{codes, flat_map}
use Rattle.example_redis.specs.Replies.{shown_reply}
use Rattle.example_redis.proofs.reply.write_list.Given as goal

abbrev pub invariant-parts : goal.invariant-parts
invariant-parts l = l.out.items ≡ (l.fn.out.items ++ codes "*" ++ decimal (length l.parts) ++ codes "\r\n") ++ flat_map shown_reply (take l.part-index l.parts)
