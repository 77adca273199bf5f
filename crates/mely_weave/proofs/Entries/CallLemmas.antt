-- What the calls of the side of one core do.
use Rattle.std.proofs.Common.{◌≡◌, ℕ, ◌+◌, ◌≤◌, ◌<◌, ◌%◌, ◌↔◌, true, List, [], ◌∷◌, ◌++◌, Option, Some, None, Result, Ok, Err, length, map, take, drop, refl, sym, ◌∙◌, ap, subst, arith}
use Rattle.std.proofs.lemmas.List.{append-nil, length-map, length-take-le}
use Rattle.std.proofs.lemmas.Option.{same_Some}
use Rattle.std.specs.Prelude.{slice_get, IfOk, IfErr, OnOk, OnErr, IsErr, IsSome, IfSome, MatchOption, MatchResult, is_err}
use Rattle.mely_event.specs.declared.colour.Colour.{Colour}
use Rattle.mely_event.specs.declared.event.Event.{Event}
use Rattle.mely_event.specs.declared.mark.Mark.{Mark}
use Rattle.mely_event.specs.declared.there.There.{There}
use Rattle.mely_event.specs.declared.unregistered.Unregistered.{Unregistered}
use Rattle.mely_event.specs.declared.trail.Trail.{Ghosts as TrailWords}
use Rattle.mely_history.specs.declared.setup.Setup.{Setup}
use Rattle.mely_history.specs.declared.entry.Entry.{Entry}
use Rattle.mely_history.specs.declared.entry.Entry.TheVariants.{Reg, Take, Fin, Steal}
use Rattle.mely_history.specs.declared.registered.Registered.{Registered}
use Rattle.mely_history.specs.declared.registered.Registered.TheVariants.{Woke, Told, Running}
use Rattle.mely_history.specs.declared.no_take.NoTake.{NoTake}
use Rattle.mely_history.specs.declared.no_steal.NoSteal.{NoSteal}
use Rattle.mely_history.specs.declared.stolen.Stolen.{Stolen}
use Rattle.mely_history.specs.declared.after.After.{After}
use Rattle.mely_history.specs.Setup.{shape_of, colours_of}
use Rattle.mely_history.specs.Entries.{colour_of}
use Rattle.mely_history.specs.History.{registered_of, begun_of, ended_of, owner_of, queued_of}
use Rattle.mely_history.specs.Legal.{IsRunningOn, IsLegal, MayRegister, MayTake, MayFinish, MaySteal}
use Rattle.mely_history.specs.ColourAccount.{account_of}
use Rattle.mely_history.proofs.LegalAccountLemmas.{IsOnTurn, running_on_owner, owner_within}
use Rattle.mely_queue.specs.Turn.{TurnState, EachFits}
use Rattle.mely_shard.specs.Shard.{ShardState, ColourState, IsOwn, IsConsistent, KeepsFrame, lane_at, place, Registers, RegisteredAs, KeepsAllButSpare, Takes, NoTakeAs, Steals, NoStealAs, TurnStands}
use Rattle.mely_steal.specs.Marks.{mark_of, without}
use Rattle.mely_steal.specs.StealQueue.{after_entry, pick_of}
use Rattle.mely_core.specs.CoreQueue.{CoreQueueState}
use Rattle.mely_worker.specs.Access.{IsTaken, IsSpent, StillOwes, NamesCore, GivesBack, IsColour, events_of}
use Rattle.mely_weave.specs.Side.{SideState, shard_of, history_at, history_in}
use Rattle.mely_weave.specs.Calls.{AtShard, AtChain, RegisterAs, TakeAs, FinishAs, StealAs, PushAs, PopAs, PickAs, IsOut}
use Rattle.mely_weave.specs.SideStands.{PartsOf}
use Rattle.mely_weave.proofs.Entries.EntryLemmas.{Adds}
use Rattle.mely_weave.proofs.Entries.EffectLemmas.{IsFinishBy, out_stays}
use Rattle.mely_weave.proofs.Entries.SideLemmas.{adds_entry, history_becomes, histories_stay, setup_stays, lane_framed, get_map, get_set_same}

-- each call, from its clauses
module _ {S P : Type 0} where
  pub register_does : (c : Colour) (event : Event) (load : Option P) (by : ℕ) (old new : ShardState S P) (result : Result Registered (Unregistered P)) → IfOk result (λ _. Registers old new c event load by) → IfOk result (λ reply. RegisteredAs old.setup old.history new.history c reply) → OnErr result (KeepsAllButSpare old new) → RegisterAs c event load by result old new
  register_does c event load by old new (Ok reply) ok told err = (ok, told)
  register_does c event load by old new (Err back) ok told err = err

  pub take_does : (c : Colour) (core : ℕ) (old new : ShardState S P) (result : Result (TurnState S P) NoTake) → IfOk result (λ turn. Takes old new c core turn) → OnErr result (KeepsAllButSpare old new) → IfErr result (λ refusal. NoTakeAs old.setup old.history c core refusal) → TakeAs c core result old new
  take_does c core old new (Ok turn) ok err refusal = ok
  take_does c core old new (Err why) ok err refusal = (err, refusal)

  pub steal_does : (c : Colour) (to : ℕ) (old new : ShardState S P) (result : Result Stolen NoSteal) → IfOk result (λ stolen. Steals old new c to stolen) → OnErr result (KeepsAllButSpare old new) → IfErr result (λ refusal. NoStealAs old.setup old.history c to refusal) → StealAs c to result old new
  steal_does c to old new (Ok stolen) ok err refusal = ok
  steal_does c to old new (Err why) ok err refusal = (err, refusal)

is_none_where : {A : Type 0} (o : Option A) → (IsSome o → ⊥) → o ≡ None
is_none_where None h = refl
is_none_where (Some x) h = absurd (h refl)

pub push_does : (mark : Mark) (old new : CoreQueueState) (result : Result (Unit {0}) There) → OnOk result (new ≡ record old { chain = old.chain ++ mark ∷ []; worthy = after_entry old.cost old.pinned mark old.worthy }) → (IsErr result ↔ IsSome (mark_of mark.colour old.chain)) → OnErr result (new ≡ old) → PushAs mark result old new
push_does mark old new (Ok done) ok there err = (is_none_where (mark_of mark.colour old.chain) (λ some. let no : is_err {T = Unit {0}} {E = There} (Ok done) ≡ true = there.1 some in cc), ok)
push_does mark old new (Err back) ok there err = (there.0 refl, err)

pub pop_does : (old new : CoreQueueState) (result : Option Mark) → MatchOption result (old.chain ≡ []) (λ mark. old.chain ≡ mark ∷ new.chain) → MatchOption result (new ≡ old) (λ mark. new ≡ record old { chain = new.chain; worthy = without mark.colour old.worthy }) → PopAs result old new
pop_does old new None front rest = (front, rest)
pop_does old new (Some mark) front rest = (front, rest)

pub pick_does : (old new : CoreQueueState) (result : Option Mark) → result ≡ pick_of old.cost old.worthy → IfSome result (λ mark. mark_of mark.colour old.chain ≡ Some mark) → IfSome result (λ mark. old.cost < mark.worth) → IfSome result (λ mark. old.pinned ≤ mark.colour.0) → MatchOption result (new ≡ old) (λ mark. new ≡ record old { chain = without mark.colour old.chain; worthy = without mark.colour old.worthy }) → PickAs result old new
pick_does old new None value chained paying loose rest = (sym value, rest)
pick_does old new (Some m) value chained paying loose rest = (sym value, chained, paying, loose, rest)

module _ {S P F : Type 0} (t : TrailWords S F) (fits : F → Colour → Event → Option P → Type 0) (a b : SideState S P) (c : Colour) (stands : PartsOf t fits a) where
  legal_at : (has : ShardState S P) → slice_get a.shards (shard_of a.setup c) ≡ Some has → IsLegal a.setup has.history
  legal_at has there =
      let is = stands.shard (shard_of a.setup c) has there in
      subst (λ (s : Setup). IsLegal s has.history) is.of_setup is.kept.legal

  pub register_adds : (event : Event) (load : Option P) (by : ℕ) (reply : Registered) → MayRegister a.setup c event → AtShard a b c (RegisterAs c event load by (Ok reply)) → Adds a.setup (history_at a) (history_at b) (Reg c event by)
  register_adds event load by reply may at = adds_entry a b c (RegisterAs c event load by (Ok reply)) at (Reg c event by) refl (legal_at at.old at.was) may at.does.0.after.history

  pub take_adds : (core : ℕ) (turn : TurnState S P) → AtShard a b c (TakeAs c core (Ok turn)) → Adds a.setup (history_at a) (history_at b) (Take c core turn.count)
  take_adds core turn at =
      let is = stands.shard (shard_of a.setup c) at.old at.was in
      adds_entry a b c (TakeAs c core (Ok turn)) at (Take c core turn.count) refl (legal_at at.old at.was) (subst (λ (s : Setup). MayTake s at.old.history c core turn.count) is.of_setup at.does.allowed) at.does.after.history

  pub steal_adds : (to : ℕ) (stolen : Stolen) → AtShard a b c (StealAs c to (Ok stolen)) → Adds a.setup (history_at a) (history_at b) (Steal c stolen.from to)
  steal_adds to stolen at =
      let is = stands.shard (shard_of a.setup c) at.old at.was in
      adds_entry a b c (StealAs c to (Ok stolen)) at (Steal c stolen.from to) refl (legal_at at.old at.was) (subst (λ (s : Setup). MaySteal s at.old.history c stolen.from to) is.of_setup at.does.allowed) at.does.history

  -- a running colour may be finished by the turn that it runs on
  may_finish : (history : List Entry) (core count : ℕ) → IsLegal a.setup history → IsRunningOn history c core count → MayFinish history c core count
  may_finish history core count legal runs =
      let on : IsOnTurn (account_of a.setup history c) = running_on_owner a.setup history c legal runs.running in
      let was : ℕ × ℕ = (owner_of a.setup history c, on.count) in
      let is : ℕ × ℕ = (core, count) in
      let same : was ≡ is = same_Some was is (sym on.last ∙ runs.last) in
      record { last = runs.last; whole = on.away ∙ ap (λ (p : ℕ × ℕ). ended_of history c + p.1) same }

  pub owner_runs : (history : List Entry) (core count : ℕ) → IsLegal a.setup history → IsRunningOn history c core count → core ≡ owner_of a.setup history c
  owner_runs history core count legal runs =
      let on : IsOnTurn (account_of a.setup history c) = running_on_owner a.setup history c legal runs.running in
      let was : ℕ × ℕ = (owner_of a.setup history c, on.count) in
      let is : ℕ × ℕ = (core, count) in
      sym (ap (λ (p : ℕ × ℕ). p.0) (same_Some was is (sym on.last ∙ runs.last)))

  pub finish_adds : (turn : TurnState S P) (answer : After) → turn.colour ≡ c → AtShard a b c (FinishAs turn answer) → Adds a.setup (history_at a) (history_at b) (Fin turn.colour turn.core turn.count)
  finish_adds turn answer of_c at =
      let legal = legal_at at.old at.was in
      let may : MayFinish at.old.history turn.colour turn.core turn.count = subst (λ (d : Colour). MayFinish at.old.history d turn.core turn.count) (sym of_c) (may_finish at.old.history turn.core turn.count legal (subst (λ (d : Colour). IsRunningOn at.old.history d turn.core turn.count) of_c at.does.1)) in
      adds_entry a b c (FinishAs turn answer) at (Fin turn.colour turn.core turn.count) of_c legal may at.does.0.after.history

-- what is out stays out, where an entry is added that isn't its finish
pub still_out : {S P : Type 0} (a b : SideState S P) (entry : Entry) → b.setup ≡ a.setup → Adds a.setup (history_at a) (history_at b) entry → (d : Colour) (core count : ℕ) (trail : List Event) → (d.0 ≡ (colour_of entry).0 → IsFinishBy core entry → ⊥) → IsOut a d core count trail → IsOut b d core count trail
still_out a b entry same adds d core count trail other out =
    let after = out_stays a.setup (history_at a) (history_at b) entry adds core count trail d other (record { running = out.runs.running; last = out.runs.last }, out.trailed) in
    record {
      colour = subst (λ (s : Setup). d.0 < colours_of s) (sym same) out.colour;
      runs = record { running = after.0.running; last = after.0.last };
      trailed = after.1;
    }

pub still_out_same : {S P : Type 0} (a b : SideState S P) → b.setup ≡ a.setup → ((d : Colour) → history_at b d ≡ history_at a d) → (d : Colour) (core count : ℕ) (trail : List Event) → IsOut a d core count trail → IsOut b d core count trail
still_out_same a b same stay d core count trail out = record {
  colour = subst (λ (s : Setup). d.0 < colours_of s) (sym same) out.colour;
  runs = subst (λ (h : List Entry). IsRunningOn h d core count) (sym (stay d)) out.runs;
  trailed = subst (λ (h : List Entry). trail ≡ take (begun_of h d) (registered_of h d)) (sym (stay d)) out.trailed;
}

module _ {S P F : Type 0} (t : TrailWords S F) (fits : F → Colour → Event → Option P → Type 0) (a b : SideState S P) (c : Colour) (stands : PartsOf t fits a) where
  -- no call but a finish lets a turn go
  pub register_owes : (event : Event) (load : Option P) (by : ℕ) (answer : Result Registered (Unregistered P)) → MayRegister a.setup c event → AtShard a b c (RegisterAs c event load by answer) → StillOwes IsOut a b
  register_owes event load by (Ok reply) may at d core count trail =
      still_out a b (Reg c event by) (setup_stays a b c (RegisterAs c event load by (Ok reply)) at) (register_adds t fits a b c stands event load by reply may at) d core count trail (λ _ no. no)
  register_owes event load by (Err back) may at d core count trail =
      still_out_same a b (setup_stays a b c (RegisterAs c event load by (Err back)) at) (histories_stay a b c (RegisterAs c event load by (Err back)) at at.does.history) d core count trail

  pub take_owes : (core : ℕ) (answer : Result (TurnState S P) NoTake) → AtShard a b c (TakeAs c core answer) → StillOwes IsOut a b
  take_owes k (Ok turn) at d core count trail =
      still_out a b (Take c k turn.count) (setup_stays a b c (TakeAs c k (Ok turn)) at) (take_adds t fits a b c stands k turn at) d core count trail (λ _ no. no)
  take_owes k (Err why) at d core count trail =
      still_out_same a b (setup_stays a b c (TakeAs c k (Err why)) at) (histories_stay a b c (TakeAs c k (Err why)) at at.does.0.history) d core count trail

  pub steal_owes : (to : ℕ) (answer : Result Stolen NoSteal) → AtShard a b c (StealAs c to answer) → StillOwes IsOut a b
  steal_owes to (Ok stolen) at d core count trail =
      still_out a b (Steal c stolen.from to) (setup_stays a b c (StealAs c to (Ok stolen)) at) (steal_adds t fits a b c stands to stolen at) d core count trail (λ _ no. no)
  steal_owes to (Err why) at d core count trail =
      still_out_same a b (setup_stays a b c (StealAs c to (Err why)) at) (histories_stay a b c (StealAs c to (Err why)) at at.does.0.history) d core count trail

pub chain_owes : {S P : Type 0} (a b : SideState S P) (core : ℕ) (Does : CoreQueueState → CoreQueueState → Type 0) → AtChain a b core Does → StillOwes IsOut a b
chain_owes a b core Does at = still_out_same a b (ap (λ (s : SideState _ _). s.setup) at.becomes) (λ d. ap (λ (s : SideState _ _). history_at s d) at.becomes)

-- the core that a reply names is one of the setup
pub names_core : (setup : Setup) (old new : List Entry) (c : Colour) (reply : Registered) → IsLegal setup new → RegisteredAs setup old new c reply → NamesCore setup reply
names_core setup old new c (Woke owner started worth) legal told = subst (λ n. n < (shape_of setup).cores) (sym told.2) (owner_within setup new c legal)
names_core setup old new c (Told owner started worth) legal told = subst (λ n. n < (shape_of setup).cores) (sym told.2) (owner_within setup new c legal)
names_core setup old new c (Running core) legal told = tt

module _ {S P F : Type 0} (t : TrailWords S F) (fits : F → Colour → Event → Option P → Type 0) (a b : SideState S P) (c : Colour) (stands : PartsOf t fits a) where
  -- the turn that a take gives
  turn_taken : (turn : TurnState S P) (at : AtShard a b c (TakeAs c a.core (Ok turn))) → c.0 < colours_of a.setup → PartsOf t fits b → TurnStands t fits at.new turn
      → IsTaken t fits (λ (s : SideState S P). s.setup) (λ (s : SideState S P). s.core) (λ (s : SideState S P). t.frame_of s.given) IsOut a b c turn
  turn_taken turn at low after out =
      let took = at.does in
      let was = stands.shard (shard_of a.setup c) at.old at.was in
      let is_c : turn.colour ≡ c = ap (λ (u : TurnState S P). u.colour) took.made in
      let is_core : turn.core ≡ a.core = ap (λ (u : TurnState S P). u.core) took.made in
      let own : IsOwn at.old c = record { there = subst (λ (s : Setup). c.0 < colours_of s) (sym was.of_setup) low; here = ap (λ (s : Setup). c.0 % (shape_of s).shards) was.of_setup ∙ sym was.numbered } in
      let lane = was.kept.each c took.before own took.was in
      let waiting : length took.before.events ≡ length (queued_of at.old.history c) = sym (length-map took.before.events (λ e. e.0)) ∙ ap length lane.events in
      let all : turn.events ≡ take turn.count took.before.events = ap (λ (u : TurnState S P). u.events) took.made in
      let whole = took.allowed.whole_batch in
      let few : turn.count ≤ length took.before.events = omega (arith, whole, waiting) in
      let many : length turn.events ≡ turn.count = ap length all ∙ length-take-le turn.count took.before.events few in
      let batch : (shape_of at.old.setup).batch ≡ (shape_of a.setup).batch = ap (λ (s : Setup). (shape_of s).batch) was.of_setup in
      let now_lane : ColourState S P = record took.before { state = None; events = drop turn.count took.before.events } in
      let now_there : lane_at at.new c ≡ Some now_lane = ap (λ (s : Setup). slice_get at.new.lanes (place s c)) took.after.same_setup ∙ ap (λ (l : List (ColourState S P)). slice_get l (place at.old.setup c)) took.after.lanes ∙ get_set_same at.old.lanes (place at.old.setup c) took.before now_lane took.was in
      let frame : t.frame_of turn.state ≡ t.frame_of a.given = out.framed (place at.new.setup c) took.before.given (get_map (λ (l : ColourState S P). l.given) at.new.lanes (place at.new.setup c) now_lane now_there) ∙ lane_framed t fits a stands c at.old took.before at.was took.was in
      record {
        colour = is_c;
        core = is_core;
        count = sym many;
        few = omega (arith, whole, many, batch);
        of_colour = out.coloured ∙ is_c;
        of_frame = frame;
        events_fit = subst (λ (d : Colour). EachFits (fits (t.frame_of a.given) d) turn.events) is_c (subst (λ (f : F). EachFits (fits f turn.colour) turn.events) frame out.fit);
        owed = record {
          colour = subst (λ (s : Setup). c.0 < colours_of s) (sym (setup_stays a b c (TakeAs c a.core (Ok turn)) at)) low;
          runs = subst (λ (h : List Entry). IsRunningOn h c turn.core turn.count) (sym (history_becomes a b c (TakeAs c a.core (Ok turn)) at)) (subst (λ (d : Colour). IsRunningOn at.new.history d turn.core turn.count) is_c out.away);
          trailed = subst (λ (h : List Entry). t.trail_of turn.state ++ events_of turn.events ≡ take (begun_of h c) (registered_of h c)) (sym (history_becomes a b c (TakeAs c a.core (Ok turn)) at)) (subst (λ (d : Colour). t.trail_of turn.state ++ events_of turn.events ≡ take (begun_of at.new.history d) (registered_of at.new.history d)) is_c out.trailed);
        };
      }

  -- the same, whatever the answer
  pub turn_of : (answer : Result (TurnState S P) NoTake) (at : AtShard a b c (TakeAs c a.core answer)) → c.0 < colours_of a.setup → PartsOf t fits b → IfOk answer (λ turn. TurnStands t fits at.new turn)
      → IfOk answer (λ turn. IsTaken t fits (λ (s : SideState S P). s.setup) (λ (s : SideState S P). s.core) (λ (s : SideState S P). t.frame_of s.given) IsOut a b c turn)
  turn_of (Ok turn) at low after out = turn_taken turn at low after out
  turn_of (Err why) at low after out = tt

module _ {S P F : Type 0} (t : TrailWords S F) (fits : F → Colour → Event → Option P → Type 0) (a : SideState S P) (stands : PartsOf t fits a) where
  -- the reply names a core, or hands back what was given
  pub answer_of : (c : Colour) (event : Event) (load : Option P) (old new : ShardState S P) (answer : Result Registered (Unregistered P)) → slice_get a.shards (shard_of a.setup c) ≡ Some old → KeepsFrame old new → IsConsistent t fits new
      → IfOk answer (λ reply. RegisteredAs old.setup old.history new.history c reply) → IfErr answer (λ refused. (refused.event ≡ event) × (refused.load ≡ load)) → MatchResult answer (NamesCore a.setup) (GivesBack event load)
  answer_of c event load old new (Ok reply) there frame kept told back =
      let is = (stands.shard (shard_of a.setup c) old there).of_setup in
      subst (λ (s : Setup). NamesCore s reply) is (names_core old.setup old.history new.history c reply (subst (λ (s : Setup). IsLegal s new.history) frame.same_setup kept.legal) told)
  answer_of c event load old new (Err refused) there frame kept told back = back

  -- the side's core is one of each shard
  pub core_there : (c : Colour) (has : ShardState S P) → a.core < (shape_of a.setup).cores → slice_get a.shards (shard_of a.setup c) ≡ Some has → a.core < (shape_of has.setup).cores
  core_there c has low there = subst (λ (s : Setup). a.core < (shape_of s).cores) (sym (stands.shard (shard_of a.setup c) has there).of_setup) low

  -- a colour of the setup is one of each chain
  pub colour_there : (core : ℕ) (queue : CoreQueueState) → slice_get a.chains core ≡ Some queue → (c : Colour) → c.0 < colours_of a.setup → c.0 < queue.colours
  colour_there core queue there c low = subst (λ n. c.0 < n) (sym (stands.chain core queue there).colours) low

  pub mark_low : (core : ℕ) (queue : CoreQueueState) → slice_get a.chains core ≡ Some queue → (answer : Option Mark) → IfSome answer (λ mark. mark.colour.0 < queue.colours) → IfSome answer (λ mark. IsColour a.setup mark.colour)
  mark_low core queue there None low = tt
  mark_low core queue there (Some mark) low = subst (λ n. mark.colour.0 < n) (stands.chain core queue there).colours low

  -- a turn whose events were run may be finished
  pub turn_stands : (c : Colour) (turn : TurnState S P) (has : ShardState S P) → turn.colour ≡ c → slice_get a.shards (shard_of a.setup c) ≡ Some has → IsSpent t (λ (s : SideState S P). s.setup) (λ (s : SideState S P). t.frame_of s.given) IsOut a turn → TurnStands t fits has turn
  turn_stands c turn has of_c there spent =
      let was : history_at a turn.colour ≡ has.history = ap (λ (d : Colour). history_at a d) of_c ∙ ap history_in there in
      let none : t.trail_of turn.state ++ map (λ (e : Event × Option P). e.0) turn.events ≡ t.trail_of turn.state = ap (λ (l : List (Event × Option P)). t.trail_of turn.state ++ map (λ e. e.0) l) spent.none_left ∙ append-nil (t.trail_of turn.state) in
      record {
        away = subst (λ (h : List Entry). IsRunningOn h turn.colour turn.core turn.count) was spent.owed.runs;
        trailed = none ∙ subst (λ (h : List Entry). t.trail_of turn.state ≡ take (begun_of h turn.colour) (registered_of h turn.colour)) was spent.owed.trailed;
        coloured = spent.of_colour;
        framed = λ i given is. spent.of_frame ∙ sym ((stands.shard (shard_of a.setup c) has there).framed i given is);
        fit = subst (λ (l : List (Event × Option P)). EachFits (fits (t.frame_of turn.state) turn.colour) l) (sym spent.none_left) tt;
      }
