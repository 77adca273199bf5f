use Rattle.std.proofs.Common.{◌≡◌, ◌++◌, drop}
use Rattle.sws_access.specs.Escapes.{escaped}
use Rattle.sws_access.proofs.escapes.push_escaped.Given as goal

-- with what is left, the text is that of all bytes
abbrev pub invariant-bytes : goal.invariant-bytes
invariant-bytes l = l.text.items ++ escaped (drop l.byte-index l.bytes) ≡ l.fn.text.items ++ escaped l.bytes
