-- A fleet, and the passes of its callers.
use Rattle.mely_note.specs.declared.note.Note.{Note}
use Rattle.std.specs.Prelude.{◌≡◌, ◌<◌, ℕ, List, [], ◌∷◌, Option, length, map, slice_get, slice_index_or}
use Rattle.std.proofs.Common.{arith}
use Rattle.mely_history.specs.declared.setup.Setup.{Setup}
use Rattle.mely_note.specs.Notes.{entries_of}
use Rattle.mely_history.specs.Setup.{shape_of, colours_of, pinned_of, place}
use Rattle.mely_weave.specs.Side.{shard_of}
use Rattle.mely_fleet.specs.declared.fleet.FleetOf.{FleetOf}
use Rattle.mely_fleet.specs.declared.passes.PassesOf.{PassesOf}
use Rattle.mely_kept.specs.declared.kept_shard.ShardFrame.{ShardFrame}
use Rattle.mely_kept_chain.specs.declared.kept_chain.ChainFrame.{ChainFrame}
use Rattle.mely_kept_chain.specs.Frames.{chain_frame}
use Rattle.mely_lock.specs.Words.{initial_value}
use Rattle.mely_fleet.specs.Rows.{ArePassesOf, AreFramed, fronts}
use Rattle.mely_event.specs.declared.colour.Colour.{Colour}
use Rattle.mely_event.specs.declared.event.Event.{Event}
use Rattle.mely_history.specs.Owing.{IsOwed}
use Rattle.mely_fleet.specs.Calls.{SeesAt, front_for}
use Rattle.mely_kept_chain.specs.declared.chain_note.ChainNote.{ChainNote}
use Rattle.mely_kept_chain.specs.Chains.{ReachesChain, DeliversAt}
use Rattle.mely_worker.specs.declared.delivery.Delivery.{Delivery}

-- the first of some things
abbrev pub first_of_some : {A : Type 0} (xs : List A) → 0 < length xs → A
first_of_some [] none = absurd (omega arith)
first_of_some (x ∷ xs) some = x

-- a setup has a shard, so a fleet has a lock
pub has_lock : {S P V F : Type 0} (fleet : FleetOf V (Note S P) (ShardFrame S F))
    → 0 < length fleet.shards.items
has_lock fleet = let many = fleet.a_lock_for_each_shard in let some = fleet.setup.shards_in.0 in
    omega (arith, many, some)

-- the frame of the states: that of the first shard
abbrev pub frame_in : {S P V F : Type 0} → (V → ShardFrame S F)
    → FleetOf V (Note S P) (ShardFrame S F) → F
frame_in kept_frame fleet =
    (kept_frame (initial_value (first_of_some fleet.shards.items (has_lock fleet)))).states

-- the states that the colours of a shard were given at first
abbrev pub givens_in : {S P V F : Type 0} → (V → ShardFrame S F)
    → FleetOf V (Note S P) (ShardFrame S F) → ℕ → List S
givens_in kept_frame fleet k = slice_index_or
    (map (λ lock. (kept_frame (initial_value lock)).givens.items) fleet.shards.items) k []

-- the state that a colour was given at first
abbrev pub given_in : {S P V F : Type 0} → (V → ShardFrame S F)
    → FleetOf V (Note S P) (ShardFrame S F) → Colour → Option S
given_in kept_frame fleet c = slice_get (givens_in kept_frame fleet (shard_of fleet.setup c))
    (place fleet.setup c)

-- what stays the same of a shard of a setup
abbrev pub frame_for : {S F : Type 0} → Setup → F → (ℕ → List S) → ℕ → ShardFrame S F
frame_for setup frame givens shard = record {
  setup = setup;
  shard = shard;
  states = frame;
  givens = record { of = record {}; items = givens shard };
}

-- and of a chain
abbrev pub chain_frame_for : Setup → ChainFrame
chain_frame_for setup = record {
  colours = colours_of setup;
  cost = (shape_of setup).steal_cost;
  pinned = pinned_of setup;
}

-- the passes are passes of this fleet, one for each lock, of one number and outside, and what each
-- lock keeps has the frame of its place
pub record ArePasses {S P V F : Type 0} {g : _} (kept_frame : V → ShardFrame S F)
    (fleet : FleetOf V (Note S P) (ShardFrame S F))
    (passes : PassesOf V (Note S P) (ShardFrame S F) g) : Type 0 where
  pub of_shards : ArePassesOf kept_frame fleet.shards.items passes.number passes.shards.items
  pub of_chains : ArePassesOf chain_frame fleet.chains.items passes.number passes.chains.items
  pub shards_framed : AreFramed kept_frame (frame_for fleet.setup (frame_in kept_frame fleet)
      (givens_in kept_frame fleet)) fleet.shards.items
  pub chains_framed : AreFramed chain_frame (λ _. chain_frame_for fleet.setup) fleet.chains.items

-- the passes have the same number, and have seen the same of the chains
abbrev pub KeepChains : {S P V F : Type 0} {g : _} → PassesOf V (Note S P) (ShardFrame S F) g
    → PassesOf V (Note S P) (ShardFrame S F) g → Type 0
KeepChains before after = (after.number ≡ before.number) × (after.chains ≡ before.chains)

-- the passes have the same number, and have seen the same of the shards
abbrev pub KeepShards : {S P V F : Type 0} {g : _} → PassesOf V (Note S P) (ShardFrame S F) g
    → PassesOf V (Note S P) (ShardFrame S F) g → Type 0
KeepShards before after = (after.number ≡ before.number) × (after.shards ≡ before.shards)

-- a call with these passes on one shard of a fleet
abbrev pub SeesOn : {S P V F : Type 0} {g : _} → FleetOf V (Note S P) (ShardFrame S F) → ℕ
    → PassesOf V (Note S P) (ShardFrame S F) g → PassesOf V (Note S P) (ShardFrame S F) g
    → (Setup → ℕ → List (Note S P) → List (Note S P) → Type 0) → Type 0
SeesOn fleet shard before after Does =
    SeesAt fleet.setup before.number shard (fronts before.shards.items) (fronts after.shards.items)
    (Does fleet.setup before.number)

-- a call with these passes on the chain of a core of a fleet
abbrev pub ReachesOn : {S P V F : Type 0} {g : _} → FleetOf V (Note S P) (ShardFrame S F) → ℕ
    → PassesOf V (Note S P) (ShardFrame S F) g → PassesOf V (Note S P) (ShardFrame S F) g
    → (ChainFrame → ℕ → List (ℕ × ChainNote) → List (ℕ × ChainNote) → Type 0) → Type 0
ReachesOn fleet core before after Does =
    ReachesChain before.number core (fronts before.chains.items) (fronts after.chains.items)
    (Does (chain_frame_for fleet.setup) before.number)

-- a delivery with these passes
abbrev pub DeliversOn : {S P V F : Type 0} {g : _} → FleetOf V (Note S P) (ShardFrame S F)
    → Delivery → PassesOf V (Note S P) (ShardFrame S F) g
    → PassesOf V (Note S P) (ShardFrame S F) g → Type 0
DeliversOn fleet delivery before after =
    DeliversAt (chain_frame_for fleet.setup) before.number delivery (fronts before.chains.items)
    (fronts after.chains.items)

-- by what these passes have seen, a finish is owed of a turn of this colour, core and count, whose
-- state is to have this trail
abbrev pub owed_by : {S P V F : Type 0} {g : _} → FleetOf V (Note S P) (ShardFrame S F)
    → PassesOf V (Note S P) (ShardFrame S F) g → Colour → ℕ → ℕ → List Event → Type 0
owed_by fleet passes c core count trail = IsOwed passes.number
    (entries_of (front_for fleet.setup (fronts passes.shards.items) c)) c core count trail
