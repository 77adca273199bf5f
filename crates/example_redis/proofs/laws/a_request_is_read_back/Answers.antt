use Rattle.example_redis.proofs.SentLemmas.{read_back}
use Rattle.example_redis.proofs.laws.a_request_is_read_back.Goals as goal

pub returns : goal.returns
returns c = read_back
