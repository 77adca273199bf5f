use Rattle.std.proofs.Common.{◌≡◌, map, string_bytes, drop}
use Rattle.sws_words.specs.Grammar.{has_bundle}
use Rattle.sws_words.proofs.parsing.has_bundle.Given as goal

-- what is left of the words decides
abbrev pub invariant-loop-word : goal.invariant-loop-word
invariant-loop-word l = has_bundle (map string_bytes (drop l.word-index l.words)) ≡ has_bundle (map string_bytes l.words)
