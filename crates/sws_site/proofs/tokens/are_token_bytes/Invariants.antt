use Rattle.std.proofs.Common.{◌≡◌, drop}
use Rattle.std.specs.List.{list_all}
use Rattle.sws_site.specs.HeaderFields.{is_token_byte}
use Rattle.sws_site.proofs.tokens.are_token_bytes.Given as goal

abbrev pub invariant-loop-byte : goal.invariant-loop-byte
invariant-loop-byte l = list_all is_token_byte (drop l.byte-index l.word) ≡ list_all is_token_byte l.word
