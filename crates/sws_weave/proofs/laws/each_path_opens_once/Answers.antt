use Rattle.sws_conn.specs.Http.{http}
use Rattle.sws_conn.specs.HttpLaws.{http-orderly}
use Rattle.sws_weave.proofs.Model.OpeningsLemmas.{paths_open}
use Rattle.sws_weave.proofs.laws.each_path_opens_once.Goals as goal

pub returns : goal.returns
returns c = λ site scripts limits. paths_open http http-orderly site scripts limits
