use Rattle.std.proofs.Common.{length}
use Rattle.sws_parts.specs.Parts.{unsent_bytes}
use Rattle.test_pages_server.proofs.tests.parts.a_response_is_sent_as_the_peer_takes_it.Given as goal

abbrev pub decreases-loop-parts : goal.decreases-loop-parts
decreases-loop-parts g l = length (unsent_bytes l.parts)
