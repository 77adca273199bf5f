-- What the keeper of a lane is asked and told, and what it answers.
use Rattle.std.specs.Prelude.{◌≡◌, Bool, true, false, List, [], ◌∷◌, ◌++◌, Option, option_map}
use Rattle.sws_handlers.specs.declared.ended.Verdict.{Verdict}
use Rattle.sws_link.specs.declared.Opened.{Opened}
use Rattle.sws_site.specs.Site.{SiteState}
use Rattle.sws_lane.specs.declared.keeper.Told.{Told}
use Rattle.sws_lane.specs.declared.totals.Totals.{Totals}

-- how a generation has ended: how its world answered when it was opened, how its run was judged,
-- where there was one, and what has come of its connections
pub record Report : Type 0 where
  pub opened : Opened
  pub verdict : Option Verdict
  pub totals : Totals

-- what a keeper is told
abbrev pub report_of : Told → Report
report_of told = record {
  opened = told.opened;
  verdict = told.verdict;
  totals = told.totals;
}

-- a call of a keeper: a further generation began out of this site, it refused one, or it heard how
-- the one that began last has ended
pub data KeeperCall : Type 0 where
  Began : SiteState → KeeperCall
  Refused : KeeperCall
  Heard : Report → KeeperCall

-- the call that asks for a further generation, by its answer and the site that the keeper has then
abbrev pub asked : Bool → SiteState → KeeperCall
asked true site = Began site
asked false site = Refused

-- the call was made, and no other
abbrev pub IsCalled : {K : Type 0} → (K → Option (List KeeperCall)) → K → KeeperCall → K → Type 0
IsCalled calls_of before call now =
    calls_of now ≡ option_map (λ calls. calls ++ call ∷ []) (calls_of before)
