-- What the calls of the side of one core find and leave.
use Rattle.std.proofs.Common.{◌≡◌, ◌≢◌, ℕ, zero, suc, ◌≤◌, ◌<◌, ◌%◌, ◌⊎◌, List, [], ◌∷◌, ◌++◌, Option, Some, length, map, refl, sym, ◌∙◌, ap, subst, arith, inl, inr, ⊎_elim, get_or}
use Rattle.std.proofs.lemmas.Bool.{cases_eq}
use Rattle.std.proofs.lemmas.List.{length-set}
use Rattle.std.proofs.lemmas.Option.{slice_get-get_or, same_Some}
use Rattle.std.specs.Prelude.{slice_get, slice_set}
use Rattle.mely_event.specs.declared.colour.Colour.{Colour}
use Rattle.mely_event.specs.declared.event.Event.{Event}
use Rattle.mely_event.specs.declared.trail.Trail.{Ghosts as TrailWords}
use Rattle.mely_history.specs.declared.setup.Setup.{Setup}
use Rattle.mely_history.specs.declared.entry.Entry.{Entry}
use Rattle.mely_history.specs.Setup.{shape_of, colours_of}
use Rattle.mely_history.specs.Entries.{colour_of}
use Rattle.mely_history.specs.Legal.{IsAllowed, IsLegal, MayRegister}
use Rattle.mely_shard.specs.Shard.{ShardState, ColourState, IsOwn, IsConsistent, KeepsFrame, lane_at}
use Rattle.mely_core.specs.CoreQueue.{CoreQueueState, HoldTogether, KeepsNumbers}
use Rattle.mely_worker.specs.Access.{FitsSetup}
use Rattle.mely_weave.specs.Side.{SideState, shard_of, history_at, history_in}
use Rattle.mely_weave.specs.Calls.{AtShard, AtChain}
use Rattle.mely_weave.specs.SideStands.{SideStands, PartsOf, ShardStands, ChainStands}
use Rattle.mely_weave.proofs.Entries.EntryLemmas.{Adds}

pub get_set_same : {A : Type 0} (xs : List A) (i : ℕ) (old new : A) → slice_get xs i ≡ Some old → slice_get (slice_set xs i new) i ≡ Some new
get_set_same [] i old new h = cc
get_set_same (x ∷ xs) zero old new h = refl
get_set_same (x ∷ xs) (suc i) old new h = get_set_same xs i old new h

pub get_set_other : {A : Type 0} (xs : List A) (i j : ℕ) (new : A) → j ≢ i → slice_get (slice_set xs i new) j ≡ slice_get xs j
get_set_other [] i j new n = refl
get_set_other (x ∷ xs) zero zero new n = absurd (n refl)
get_set_other (x ∷ xs) zero (suc j) new n = refl
get_set_other (x ∷ xs) (suc i) zero new n = refl
get_set_other (x ∷ xs) (suc i) (suc j) new n = get_set_other xs i j new (λ e. n (ap suc e))

-- what each element has, each has after one became another that has it
pub each_set : {A : Type 0} (Has : ℕ → A → Type 0) (xs : List A) (i : ℕ) (old new : A) → slice_get xs i ≡ Some old → ((k : ℕ) (x : A) → slice_get xs k ≡ Some x → Has k x) → Has i new → (k : ℕ) (x : A) → slice_get (slice_set xs i new) k ≡ Some x → Has k x
each_set {A} Has xs i old new there all is k x at = ⊎_elim
    (λ (same : k ≡ i).
    let now : Some new ≡ Some x = sym (get_set_same xs i old new there) ∙ sym (ap (slice_get (slice_set xs i new)) same) ∙ at in
    subst (λ (n : ℕ). Has n x) (sym same) (subst (Has i) (same_Some new x now) is))
    (λ (apart : k ≡ i → ⊥). all k x (sym (get_set_other xs i k new apart) ∙ at))
    (cases_eq k i)

-- an element of a mapped list
pub get_map : {A B : Type 0} (f : A → B) (xs : List A) (i : ℕ) (x : A) → slice_get xs i ≡ Some x → slice_get (map f xs) i ≡ Some (f x)
get_map f [] i x h = cc
get_map f (y ∷ ys) zero x h = ap (λ z. Some (f z)) (same_Some y x h)
get_map f (y ∷ ys) (suc i) x h = get_map f ys i x h

-- one shard changes in the shards of a side
module _ {S P : Type 0} (a b : SideState S P) (c : Colour) (Does : ShardState S P → ShardState S P → Type 0) (at : AtShard a b c Does) where
  pub history_was : history_at a c ≡ at.old.history
  history_was = ap history_in at.was

  pub history_becomes : history_at b c ≡ at.new.history
  history_becomes = ap (λ (s : SideState S P). history_at s c) at.becomes ∙ ap history_in (get_set_same a.shards (shard_of a.setup c) at.old at.new at.was)

  -- a colour of another shard has the history that it had, and one of this shard has this shard's
  history_each : (d : Colour) → (history_at b d ≡ history_at a d) ⊎ ((history_at a d ≡ history_at a c) × (history_at b d ≡ history_at b c))
  history_each d = ⊎_elim
      (λ (same : shard_of a.setup d ≡ shard_of a.setup c).
      let now : List (ShardState S P) = slice_set a.shards (shard_of a.setup c) at.new in
      inr (
        ap (λ (g : ℕ). history_in (slice_get a.shards g)) same,
        ap (λ (s : SideState S P). history_at s d) at.becomes ∙ ap (λ (g : ℕ). history_in (slice_get now g)) same ∙ sym (ap (λ (s : SideState S P). history_at s c) at.becomes),
      ))
      (λ (apart : shard_of a.setup d ≡ shard_of a.setup c → ⊥).
      inl (ap (λ (s : SideState S P). history_at s d) at.becomes ∙ ap history_in (get_set_other a.shards (shard_of a.setup c) (shard_of a.setup d) at.new apart)))
      (cases_eq (shard_of a.setup d) (shard_of a.setup c))

  -- no entry more: each history is as it was
  pub histories_stay : at.new.history ≡ at.old.history → (d : Colour) → history_at b d ≡ history_at a d
  histories_stay same d = ⊎_elim
      (λ (is : history_at b d ≡ history_at a d). is)
      (λ (both : (history_at a d ≡ history_at a c) × (history_at b d ≡ history_at b c)). both.1 ∙ history_becomes ∙ same ∙ sym history_was ∙ sym both.0)
      (history_each d)

  -- an entry more
  pub adds_entry : (entry : Entry) → colour_of entry ≡ c → IsLegal a.setup at.old.history → IsAllowed a.setup at.old.history entry → at.new.history ≡ at.old.history ++ entry ∷ [] → Adds a.setup (history_at a) (history_at b) entry
  adds_entry entry of_c legal allowed more = record {
    legal = subst (λ (d : Colour). IsLegal a.setup (history_at a d)) (sym of_c) (subst (IsLegal a.setup) (sym history_was) legal);
    allowed = subst (λ (d : Colour). IsAllowed a.setup (history_at a d) entry) (sym of_c) (subst (λ (h : List Entry). IsAllowed a.setup h entry) (sym history_was) allowed);
    own = subst (λ (d : Colour). history_at b d ≡ history_at a d ++ entry ∷ []) (sym of_c) (history_becomes ∙ more ∙ ap (λ (h : List Entry). h ++ entry ∷ []) (sym history_was));
    each = λ d. subst (λ (k : Colour). (history_at b d ≡ history_at a d) ⊎ ((history_at a d ≡ history_at a k) × (history_at b d ≡ history_at b k))) (sym of_c) (history_each d);
  }

  pub setup_stays : b.setup ≡ a.setup
  setup_stays = ap (λ (s : SideState S P). s.setup) at.becomes

  pub chains_stay : b.chains ≡ a.chains
  chains_stay = ap (λ (s : SideState S P). s.chains) at.becomes

module _ {S P F : Type 0} (t : TrailWords S F) (fits : F → Colour → Event → Option P → Type 0) (a : SideState S P) (stands : PartsOf t fits a) where
  -- from the side of a core that there is
  pub side_stands_by : a.core < (shape_of a.setup).cores → SideStands t fits a
  side_stands_by low = record { core = low; shards = stands.shards; shard = stands.shard; chains = stands.chains; chain = stands.chain }

  -- the shard of a colour is there
  pub shard_there : (c : Colour) (has : ShardState S P) (i : ℕ) → i ≡ shard_of a.setup c → has ≡ get_or a.shards i has → slice_get a.shards (shard_of a.setup c) ≡ Some has
  shard_there c has i is at =
      let some : 1 ≤ (shape_of a.setup).shards = a.setup.shards_in.0 in
      let many : length a.shards ≡ (shape_of a.setup).shards = stands.shards in
      let low : shard_of a.setup c < length a.shards = omega (arith, some, many) in
      slice_get-get_or a.shards (shard_of a.setup c) has low ∙ ap (λ v. Some v) (sym (at ∙ ap (λ n. get_or a.shards n has) is))

  -- a colour of the setup is one of its shard
  pub shard_owns : (c : Colour) (has : ShardState S P) → c.0 < colours_of a.setup → slice_get a.shards (shard_of a.setup c) ≡ Some has → IsOwn has c
  shard_owns c has low there =
      let is = stands.shard (shard_of a.setup c) has there in
      record {
        there = subst (λ (s : Setup). c.0 < colours_of s) (sym is.of_setup) low;
        here = ap (λ (s : Setup). c.0 % (shape_of s).shards) is.of_setup ∙ sym is.numbered;
      }

  -- its lane was given a state of the frame
  pub lane_framed : (c : Colour) (has : ShardState S P) (lane : ColourState S P) → slice_get a.shards (shard_of a.setup c) ≡ Some has → lane_at has c ≡ Some lane → t.frame_of lane.given ≡ t.frame_of a.given
  lane_framed c has lane there is =
      (stands.shard (shard_of a.setup c) has there).framed _ lane.given (get_map (λ (l : ColourState S P). l.given) has.lanes _ lane is)

  -- a registration that fits the setup may be made there
  pub may_register : (c : Colour) (event : Event) (load : Option P) (has : ShardState S P) → FitsSetup fits a.setup (t.frame_of a.given) (c, event, load) → slice_get a.shards (shard_of a.setup c) ≡ Some has → MayRegister has.setup c event
  may_register c event load has fit there =
      let of_setup = (stands.shard (shard_of a.setup c) has there).of_setup in
      subst (λ (s : Setup). MayRegister s c event) (sym of_setup) (record { colour = fit.colour; handler = fit.handler })

  pub load_fits : (c : Colour) (event : Event) (load : Option P) (has : ShardState S P) → FitsSetup fits a.setup (t.frame_of a.given) (c, event, load) → slice_get a.shards (shard_of a.setup c) ≡ Some has → (lane : ColourState S P) → lane_at has c ≡ Some lane → fits (t.frame_of lane.given) c event load
  load_fits c event load has fit there lane is = subst (λ (f : F). fits f c event load) (sym (lane_framed c has lane there is)) fit.load

  -- one shard changes and is kept, in its frame
  pub shards_stand : (c : Colour) (old new : ShardState S P) (i : ℕ) → i ≡ shard_of a.setup c → slice_get a.shards (shard_of a.setup c) ≡ Some old → KeepsFrame old new → IsConsistent t fits new → PartsOf t fits (record a { shards = slice_set a.shards i new })
  shards_stand c old new i at there frame kept =
      let was = stands.shard (shard_of a.setup c) old there in
      let now : ShardStands t fits a.setup (t.frame_of a.given) (shard_of a.setup c) new = record {
        of_setup = frame.same_setup ∙ was.of_setup;
        numbered = frame.same_shard ∙ was.numbered;
        kept = kept;
        framed = λ k given is. was.framed k given (subst (λ (gs : List S). slice_get gs k ≡ Some given) frame.same_givens is);
      } in
      let all : PartsOf t fits (record a { shards = slice_set a.shards (shard_of a.setup c) new }) = record {
        shards = length-set a.shards (shard_of a.setup c) new ∙ stands.shards;
        shard = each_set (ShardStands t fits a.setup (t.frame_of a.given)) a.shards (shard_of a.setup c) old new there stands.shard now;
        chains = stands.chains;
        chain = stands.chain;
      } in
      subst (λ (n : ℕ). PartsOf t fits (record a { shards = slice_set a.shards n new })) (sym at) all

  -- the chain of a core is there
  pub chain_there : (core : ℕ) (queue : CoreQueueState) → core < (shape_of a.setup).cores → queue ≡ get_or a.chains core queue → slice_get a.chains core ≡ Some queue
  chain_there core queue low at =
      let many : length a.chains ≡ (shape_of a.setup).cores = stands.chains in
      let there : core < length a.chains = omega (arith, low, many) in
      slice_get-get_or a.chains core queue there ∙ ap (λ v. Some v) (sym at)

  -- one chain changes, and keeps its numbers
  pub chains_stand : (core : ℕ) (old new : CoreQueueState) → slice_get a.chains core ≡ Some old → KeepsNumbers old new → HoldTogether new → PartsOf t fits (record a { chains = slice_set a.chains core new })
  chains_stand core old new there same together =
      let was = stands.chain core old there in
      record {
        shards = stands.shards;
        shard = stands.shard;
        chains = length-set a.chains core new ∙ stands.chains;
        chain = each_set (λ _. ChainStands a.setup) a.chains core old new there stands.chain (record { colours = same.colours ∙ was.colours; cost = same.cost ∙ was.cost; pinned = same.pinned ∙ was.pinned; together = together });
      }

-- the call did what it says of the shard of the colour
abbrev pub at_shard : {S P : Type 0} (a : SideState S P) (c : Colour) (old new : ShardState S P) (i : ℕ) (Does : ShardState S P → ShardState S P → Type 0) → i ≡ shard_of a.setup c → slice_get a.shards (shard_of a.setup c) ≡ Some old → Does old new → AtShard a (record a { shards = slice_set a.shards i new }) c Does
at_shard a c old new i Does is was does = record { old = old; new = new; was = was; does = does; becomes = ap (λ (n : ℕ). record a { shards = slice_set a.shards n new }) is }

abbrev pub at_chain : {S P : Type 0} (a : SideState S P) (core : ℕ) (old new : CoreQueueState) (Does : CoreQueueState → CoreQueueState → Type 0) → slice_get a.chains core ≡ Some old → Does old new → AtChain a (record a { chains = slice_set a.chains core new }) core Does
at_chain a core old new Does was does = record { old = old; new = new; was = was; does = does; becomes = refl }
