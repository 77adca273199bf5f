-- What every list of posts and steps keeps.
use Rattle.std.proofs.Common.{◌≡◌, Bool, ℕ, zero, suc, ◌≤◌, ◌<◌, Option, Result, Ok, Err, sym, ap, subst, arith, ⊎_elim}
use Rattle.mely_event.specs.declared.colour.Colour.{Colour}
use Rattle.mely_event.specs.declared.event.Event.{Event}
use Rattle.mely_event.specs.declared.mark.Mark.{Mark}
use Rattle.mely_event.specs.declared.there.There.{There}
use Rattle.mely_event.specs.declared.unregistered.Unregistered.{Unregistered}
use Rattle.mely_event.specs.declared.trail.Trail.{Ghosts as TrailWords}
use Rattle.mely_history.specs.declared.registered.Registered.{Registered}
use Rattle.mely_history.specs.Setup.{shape_of}
use Rattle.mely_worker.specs.declared.app.App.{Ghosts as AppWords}
use Rattle.mely_worker.specs.declared.delivery.Delivery.{Delivery}
use Rattle.mely_worker.specs.declared.delivery.Delivery.TheVariants.{Nothing, PushMark, Report}
use Rattle.mely_worker.specs.declared.made.Made.{Made}
use Rattle.mely_worker.specs.Delivery.{delivery_after, Delivers}
use Rattle.mely_weave.specs.Calls.{AtChain, PushAs, RetellAs, side_words, weave_words}
use Rattle.mely_weave.specs.Side.{SideState, readiness_for}
use Rattle.mely_weave.specs.Hands.{held_by}
use Rattle.mely_weave.proofs.Runs.SidedStepLemmas.{step_on_side}
use Rattle.mely_weave.specs.StandsWell.{side_of, StandsWell, WasntRefused}
use Rattle.mely_weave.specs.Weave.{WeaveState}
use Rattle.mely_weave.specs.Posting.{PostAs}
use Rattle.mely_weave.specs.WeaveRun.{StepCall, PostCall, SomeStep, SomePost, Call, WeaveRun, HistoriesGrow, NoneIsThere}
use Rattle.mely_weave.proofs.Marks.HandLemmas.{none_there}
use Rattle.mely_weave.proofs.Lines.WholeStepLemmas.{step_keeps, step_stands}
use Rattle.mely_weave.proofs.Lines.PostLemmas.{post_stands, some_first}
use Rattle.mely_weave.proofs.Runs.RunLemmas.{ShardsGrow, shards_itself, shards_onward, shard_stays, chain_stays, same_stays, register_grows, step_stays}

-- where a mark enters, its push was tried
push_tries : {S P : Type 0} (a b : SideState S P) (core : ℕ) (mark : Mark) (answer : Result (Unit {0}) There) → (answer ≡ Ok tt) × AtChain a b core (PushAs mark (Ok tt)) → AtChain a b core (PushAs mark answer)
push_tries a b core mark answer entered = subst (λ (r : Result (Unit {0}) There). AtChain a b core (PushAs mark r)) (sym entered.0) entered.1

delivers_tries : {S P F : Type 0} (t : TrailWords S F) (Keep : SideState S P → Type 0) (a b : SideState S P) (delivery : Delivery) (arrived : Bool) → Delivers (weave_words t) a delivery arrived b → Delivers (side_words t Keep) a delivery arrived b
delivers_tries t Keep a b Nothing arrived does = does
delivers_tries t Keep a b (PushMark core mark) arrived does = (does.0, push_tries a b core mark does.0 does.1, does.2)
delivers_tries t Keep a b (Report core colour started worth) arrived does = does

-- a post that delivers tries to
posts_tries : {S P F : Type 0} (t : TrailWords S F) (Keep : SideState S P → Type 0) (a b : SideState S P) (c : Colour) (event : Event) (load : Option P) (answer : Result Registered (Unregistered P)) → PostAs (weave_words t) c event load answer a b → PostAs (side_words t Keep) c event load answer a b
posts_tries t Keep a b c event load (Ok reply) does = (does.0, does.1, (does.2.0, delivers_tries t Keep does.0 b (delivery_after c reply) does.2.0 does.2.1))
posts_tries t Keep a b c event load (Err back) does = does

delivers_grow : {S P F : Type 0} (t : TrailWords S F) (a b : SideState S P) (delivery : Delivery) (arrived : Bool) → Delivers (weave_words t) a delivery arrived b → ShardsGrow a.shards b.shards
delivers_grow t a b Nothing arrived does = (same_stays a b does.0).2
delivers_grow t a b (PushMark core mark) arrived does = (chain_stays a b core (PushAs mark (Ok tt)) does.1.1).2
delivers_grow t a b (Report core colour started worth) arrived does = (chain_stays a b core (RetellAs colour started worth arrived) does).2

posts_grow : {S P F : Type 0} (t : TrailWords S F) (a b : SideState S P) (c : Colour) (event : Event) (load : Option P) (answer : Result Registered (Unregistered P)) → PostAs (weave_words t) c event load answer a b → ShardsGrow a.shards b.shards
posts_grow t a b c event load (Ok reply) does = shards_onward a.shards does.0.shards b.shards (shard_stays a does.0 c _ (register_grows c event load (shape_of a.setup).cores (Ok reply)) does.1).2 (delivers_grow t does.0 b (delivery_after c reply) does.2.0 does.2.1)
posts_grow t a b c event load (Err back) does = (shard_stays a b c _ (register_grows c event load (shape_of a.setup).cores (Err back)) does).2

module _ {R S P F : Type 0} (t : TrailWords S F) (fits : F → Colour → Event → Option P → Type 0) (y : AppWords R P S F) where
  step_call_stands : (app : R) (core : ℕ) (step : Made) (a b : WeaveState S P) → StandsWell t fits a → StepCall t fits y app core step a b → StandsWell t fits b
  step_call_stands app core step a b well call =
      let s = call.steps in
      subst (λ (l : WeaveState S P). StandsWell t fits l) (sym s.leaves)
      (step_stands t fits a well core s.worker s.was call.there (λ _. Unit {0}) y app step s.side s.becomes (step_on_side t y app (side_of a core) s.side s.worker s.becomes step s.steps) call.parts call.may)

  pub step_call_accepted : (app : R) (core : ℕ) (step : Made) (a b : WeaveState S P) → StandsWell t fits a → StepCall t fits y app core step a b → WasntRefused step
  step_call_accepted app core step a b well call =
      let s = call.steps in
      (step_keeps t fits a well core s.worker s.was call.there (λ _. Unit {0}) y app step s.side s.becomes (step_on_side t y app (side_of a core) s.side s.worker s.becomes step s.steps)).never

  post_call_stands : (c : Colour) (event : Event) (load : Option P) (answer : Result Registered (Unregistered P)) (a b : WeaveState S P) → StandsWell t fits a → PostCall t fits c event load answer a b → StandsWell t fits b
  post_call_stands c event load answer a b well call =
      let p = call.posts in
      let some : 1 ≤ (shape_of a.setup).cores = a.setup.cores_in.0 in
      let low : 0 < (shape_of a.setup).cores = omega (arith, some) in
      let first = some_first a.workers _ well.workers low in
      subst (λ (l : WeaveState S P). StandsWell t fits l) (sym p.leaves)
      (post_stands t fits a well first.0 first.1 low c event load (record { colour = call.may.colour; handler = call.may.handler }) (λ _. Unit {0}) answer p.side (posts_tries t (λ _. Unit {0}) (side_of a 0) p.side c event load answer p.posts) call.parts)

  call_stands : (a b : WeaveState S P) → StandsWell t fits a → Call t fits y a b → StandsWell t fits b
  call_stands a b well call = ⊎_elim
      (λ (step : SomeStep t fits y a b). step_call_stands step.0 step.1 step.2 a b well step.3)
      (λ (post : SomePost t fits y a b). post_call_stands post.0 post.1 post.2 post.3 a b well post.4)
      call

  call_grows : (a b : WeaveState S P) → Call t fits y a b → ShardsGrow a.shards b.shards
  call_grows a b call = ⊎_elim
      (λ (step : SomeStep t fits y a b).
      let s = step.3.steps in
      subst (λ (l : WeaveState S P). ShardsGrow a.shards l.shards) (sym s.leaves) (step_stays t (λ _. Unit {0}) y step.0 (side_of a step.1) s.side s.worker s.becomes step.2 (step_on_side t y step.0 (side_of a step.1) s.side s.worker s.becomes step.2 s.steps)).grow)
      (λ (post : SomePost t fits y a b).
      let p = post.4.posts in
      subst (λ (l : WeaveState S P). ShardsGrow a.shards l.shards) (sym p.leaves) (posts_grow t (side_of a 0) p.side post.0 post.1 post.2 post.3 p.posts))
      call

  pub run_stands : (n : ℕ) (a b : WeaveState S P) → StandsWell t fits a → WeaveRun t fits y n a b → StandsWell t fits b
  unfolding WeaveRun
  run_stands zero a b well run = subst (λ (l : WeaveState S P). StandsWell t fits l) (sym run) well
  run_stands (suc n) a b well run = call_stands run.0 b (run_stands n a run.0 well run.1) run.2

  pub run_grows : (n : ℕ) (a b : WeaveState S P) → WeaveRun t fits y n a b → HistoriesGrow a b
  unfolding WeaveRun
  run_grows zero a b run = shards_itself a.shards b.shards (ap (λ (l : WeaveState S P). l.shards) run)
  run_grows (suc n) a b run = shards_onward a.shards run.0.shards b.shards (run_grows n a run.0 run.1) (call_grows run.0 b run.2)

  pub run_there : (a : WeaveState S P) → StandsWell t fits a → NoneIsThere a
  run_there a well core w held here holds to queue at = none_there held_by (readiness_for a.setup a.shards) a.chains a.workers well.marks core to w held queue here holds at
