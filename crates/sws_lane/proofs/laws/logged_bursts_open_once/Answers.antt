use Rattle.std.proofs.Common.{map}
use Rattle.sws_conn.specs.Logs.{steps_of}
use Rattle.sws_lane.proofs.OpeningLemmas.{all_open_once}
use Rattle.sws_lane.proofs.laws.logged_bursts_open_once.Goals as goal

pub returns : goal.returns
returns c = λ site scripts limits. all_open_once (map (steps_of site) scripts) (c.each_path_opens_once.ensures site scripts limits)
