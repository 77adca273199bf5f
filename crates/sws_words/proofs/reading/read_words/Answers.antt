use Rattle.std.proofs.Common.{rules, string_bytes}
use Rattle.sws_words.proofs.FromFoundLemmas.{bundle_orders_none}
use Rattle.sws_words.proofs.reading.read_words.Goals as goal

pub returns-then-has_bundle-clause-refused : goal.returns-then-has_bundle-clause-refused
returns-then-has_bundle-clause-refused c = λ _. bundle_orders_none string_bytes c.args.words.now (search rules)
