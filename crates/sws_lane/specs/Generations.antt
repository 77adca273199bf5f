-- The generations of a lane: runs of the server, each over the world that the one before left.
use Rattle.std.specs.Prelude.{◌≡◌, ℕ, ◌+◌, Bool, true, false, List, [], ◌∷◌, ◌++◌, flat_map, sum_by, count_by, Option, None, Some, is_some, option_map, slice_get}
use Rattle.sws_link.specs.Contents.{IsPrefix}
use Rattle.sws_link.specs.Links.{LinkContents, input_of}
use Rattle.sws_link.specs.Worlds.{Coming, Listens}
use Rattle.sws_link.specs.declared.Link.{Ghosts as LinkWords}
use Rattle.sws_link.specs.declared.Opened.{Opened}
use Rattle.sws_link.specs.declared.Opened.TheVariants as opened
use Rattle.sws_link.specs.declared.world.World.{Ghosts as WorldWords}
use Rattle.sws_site.specs.Site.{SiteState}
use Rattle.sws_steps.specs.declared.End.TheVariants as ending
use Rattle.sws_steps.specs.declared.talk.Talk.{Ghosts as TalkWords}
use Rattle.sws_weave.specs.Modelled.{IsModelled}
use Rattle.sws_weave.specs.ServerLeaves.{ServerLeaves}
use Rattle.sws_handlers.specs.declared.ended.Ended.{Ended}
use Rattle.sws_handlers.specs.declared.ended.Served.{Served}
use Rattle.sws_lane.specs.Keepers.{Report}
use Rattle.sws_lane.specs.Totals.{capped, is_done, is_idle, is_fault, no_totals}
use Rattle.sws_lane.specs.declared.lane.Terms.{Terms}
use Rattle.sws_lane.specs.declared.totals.Totals.{Totals}

-- a generation: its site, how the world answered when it was opened and what it was then, what the
-- run left, where there was one, and what the keeper was told of it
pub record Generation (W L : Type 0) : Type 0 where
  pub site : SiteState
  pub answer : Opened
  pub first : W
  pub ended : Option (Ended W L)
  pub told : Report

-- ---- what it leaves

-- the world, where it is still there; without a run it is as it was opened
abbrev pub world_by : {W L : Type 0} → W → Option (Ended W L) → Option W
world_by first None = Some first
world_by first (Some ended) = ended.world

-- what has become of its connections
abbrev pub served_by : {W L : Type 0} → Option (Ended W L) → List (Served L)
served_by None = []
served_by (Some ended) = ended.served.items

-- how many links the world gave in it
abbrev pub accepted_by : {W L : Type 0} → Option (Ended W L) → ℕ
accepted_by None = 0
accepted_by (Some ended) = ended.accepted

-- the connections of all generations, in order
abbrev pub all_served : {W L : Type 0} → List (Generation W L) → List (Served L)
all_served generations = flat_map (λ one. served_by one.ended) generations

-- how many links the world gave in all of them
abbrev pub all_accepted : {W L : Type 0} → List (Generation W L) → ℕ
all_accepted generations = sum_by (λ one. accepted_by one.ended) generations

-- the totals after these generations: how many of them were served, how many connections have a
-- link, how many of them ended in each way, and how many bytes were read and written
pub record AreTotals {W L : Type 0} (before : Totals) (gs : List (Generation W L))
    (now : Totals) : Type 0 where
  pub generations : now.generations
      ≡ capped (before.generations + count_by (λ one. is_some one.ended) gs)
  pub connections : now.connections
      ≡ capped (before.connections + count_by (λ s. is_some s.link) (all_served gs))
  pub done : now.done
      ≡ capped (before.done + count_by (λ s. is_done s.end) (all_served gs))
  pub idle : now.idle
      ≡ capped (before.idle + count_by (λ s. is_idle s.end) (all_served gs))
  pub fault : now.fault
      ≡ capped (before.fault + count_by (λ s. is_fault s.end) (all_served gs))
  pub read : now.read ≡ capped (before.read + sum_by (λ s. s.read) (all_served gs))
  pub written : now.written
      ≡ capped (before.written + sum_by (λ s. s.written) (all_served gs))

-- what the keeper was told of a generation is what has come of it: how its world answered, how its
-- run was judged, and its own totals
pub record IsToldOf {W L : Type 0} (one : Generation W L) : Type 0 where
  pub opened : one.told.opened ≡ one.answer
  pub verdict : one.told.verdict ≡ option_map (λ run. run.verdict) one.ended
  pub totals : AreTotals no_totals (one ∷ []) one.told.totals

-- ---- one generation

-- what is promised of a run of the server, over this world and out of this site, by talks of this
-- kind; the run itself keeps no log
pub record IsRunOf {W L T G : Type 0} (x : WorldWords W L) (l : LinkWords L)
    (t : TalkWords T L G SiteState) (terms : Terms) (site : SiteState) (first : W)
    (ended : Ended W L) : Type 0 where
  pub leaves : ServerLeaves x l t terms.shape site first false ended
  pub modelled : terms.shape.cores ≡ 1
      → IsModelled x l t site terms.shape first false [] ended

-- here and below y is the talk by which a lane with the log serves, which tells its lines, and whose
-- events end with their first line, and z the one without
module _ {W L T U G H : Type 0} (x : WorldWords W L) (l : LinkWords L)
    (y : TalkWords T L G SiteState) (z : TalkWords U L H SiteState) (terms : Terms) where
  -- what is promised of every run of the server, over this world and out of this site
  abbrev pub IsRunBy : Bool → SiteState → W → Ended W L → Type 0
  IsRunBy true site first ended = IsRunOf x l y terms site first ended
  IsRunBy false site first ended = IsRunOf x l z terms site first ended

  abbrev pub IsRun : SiteState → W → Ended W L → Type 0
  IsRun site first ended = IsRunBy terms.log site first ended

  -- a world that is ready was served, and another was not
  abbrev pub RunsBy : Opened → SiteState → W → Option (Ended W L) → Type 0
  RunsBy opened.Ready site first ended =
      (run : Ended W L) × (ended ≡ Some run) × IsRun site first run
  RunsBy opened.Failed site first ended = ended ≡ None
  RunsBy opened.Memory site first ended = ended ≡ None

  -- the world was opened, and served where it was ready, and the keeper was told so
  pub record IsGeneration (world : W) (one : Generation W L) : Type 0 where
    pub listens : Listens x.tells x.faults x.waits world terms.port terms.connections one.answer
        one.first
    pub runs : RunsBy one.answer one.site one.first one.ended
    pub told : IsToldOf one

  -- a generation over this world and out of this site, with what is left of the world, and what is
  -- to be told of it
  pub record LeavesBy (site : SiteState) (world : W) (last : Option W) (report : Report)
      : Type 0 where
    pub one : Generation W L
    pub of_site : one.site ≡ site
    pub is : IsGeneration world one
    pub left : last ≡ world_by one.first one.ended
    pub reported : one.told ≡ report

  -- one generation after another, each over the world that the one before left
  abbrev pub AreGenerations : Option W → List (Generation W L) → Option W → Type 0
  AreGenerations world [] last = last ≡ world
  AreGenerations None (one ∷ more) last = ⊥
  AreGenerations (Some world) (one ∷ more) last = IsGeneration world one
      × AreGenerations (world_by one.first one.ended) more last

-- ---- the connections of all of them

module _ {W L T G : Type 0} (x : WorldWords W L) (l : LinkWords L)
    (y : TalkWords T L G SiteState) where
  -- the connection has the k-th of the links to come, and what it was sent begins the responses to
  -- its input out of this site, and is all of them where it is done
  pub record IsServedInTurn (site : SiteState) (coming : List Coming) (k : ℕ) (s : Served L)
      (link : L) : Type 0 where
    pub one : Coming
    pub there : slice_get coming k ≡ Some one
    pub told : LinkContents
    pub tells : l.tells link ≡ Some told
    pub input : input_of told ≡ one.input
    pub begins : IsPrefix told.written (y.responses site one.input)
    pub whole : s.end ≡ Some ending.Done → told.written ≡ y.responses site one.input

  -- where the world tells its links to come, each connection is served in turn: the i-th of a
  -- generation comes behind all links that the world gave in those before
  abbrev pub InTurn : Option W → List (Generation W L) → Type 0
  InTurn world generations = (first : W) (coming : List Coming)
      (before after : List (Generation W L)) (one : Generation W L) (i : ℕ) (s : Served L) (link : L)
      → world ≡ Some first → (x.tells first).coming ≡ Some coming → generations ≡ before ++ one ∷ after
      → slice_get (served_by one.ended) i ≡ Some s → s.link ≡ Some link
      → IsServedInTurn one.site coming (all_accepted before + i) s link
