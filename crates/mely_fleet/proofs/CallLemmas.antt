-- A call on one chain or one shard of a fleet, with the passes of a caller.
use Rattle.std.proofs.Common.{◌≡◌, ℕ, ◌<◌, List, Option, length, get_or, ap, ◌∙◌, subst, arith}
use Rattle.std.specs.Prelude.{slice_set}
use Rattle.mely_note.specs.declared.note.Note.{Note}
use Rattle.mely_note.specs.Notes.{latest_in}
use Rattle.mely_event.specs.declared.colour.Colour.{Colour}
use Rattle.mely_history.specs.Setup.{shape_of, colours_of}
use Rattle.mely_lock.specs.declared.pass.Pass.{Pass}
use Rattle.mely_weave.specs.Side.{shard_of}
use Rattle.mely_lock.specs.declared.ticketed.Ticketed.{Ticketed}
use Rattle.mely_lock.specs.Words.{initial_value, front}
use Rattle.mely_kept_chain.specs.declared.chain_note.ChainNote.{ChainNote}
use Rattle.mely_fleet.specs.declared.fleet.FleetOf.{FleetOf}
use Rattle.mely_kept_chain.specs.declared.kept_chain.ChainFrame.{ChainFrame}
use Rattle.mely_kept.specs.declared.kept_shard.ShardFrame.{ShardFrame}
use Rattle.mely_fleet.specs.declared.passes.PassesOf.{PassesOf}
use Rattle.mely_kept.specs.Calls.{IsSeen}
use Rattle.mely_fleet.specs.Calls.{SeesAt}
use Rattle.mely_kept_chain.specs.Chains.{IsOnChain, ReachesChain}
use Rattle.mely_fleet.specs.Fleets.{ArePasses, chain_frame_for, frame_for, frame_in, given_in, givens_in}
use Rattle.mely_kept.specs.Frames.{IsColourOf, given_at}
use Rattle.mely_kept_chain.specs.Frames.{chain_frame}
use Rattle.mely_kept_chain.specs.KeptChain.{KeptChainState}
use Rattle.mely_kept.specs.Passing.{HasLeft, MayEnter}
use Rattle.mely_fleet.specs.Rows.{ArePassesOf, IsPassAt, fronts}
use Rattle.mely_fleet.proofs.Rows.{colour_of_shard, row_pass, row_frame, row_set, pass_low, reaches_row, sees_row}

module _ {S P V F : Type 0} {g : _} (kept_frame : V → ShardFrame S F) (fleet : FleetOf V (Note S P) (ShardFrame S F)) (own : PassesOf V (Note S P) (ShardFrame S F) g) (are : ArePasses kept_frame fleet own) (core : ℕ) (there : core < (shape_of fleet.setup).cores)
    (lock : Ticketed KeptChainState (ℕ × ChainNote) ChainFrame) (lock_is : lock ≡ get_or fleet.chains.items core lock) (pass : _) (pass_is : pass ≡ get_or own.chains.items core pass) where
  low : core < length fleet.chains.items
  low = let many = fleet.a_lock_for_each_core in omega (arith, many, there)

  -- the pass may go into the chain's lock
  pub may_enter : MayEnter chain_frame lock pass
  may_enter = let at = row_pass chain_frame fleet.chains.items own.number own.chains.items are.of_chains core lock pass low lock_is pass_is in (at.of_lock, at.outside)

  -- whose numbers are the setup's
  pub numbers_are : chain_frame (initial_value lock) ≡ chain_frame_for fleet.setup
  numbers_are = row_frame chain_frame fleet.chains.items own.number own.chains.items are.of_chains core lock pass low lock_is pass_is (λ _. chain_frame_for fleet.setup) are.chains_framed

  -- afterwards they are passes of the chains still
  pub are_still : (new : _) → HasLeft chain_frame lock pass new → ArePassesOf chain_frame fleet.chains.items own.number (slice_set own.chains.items core new)
  are_still new left = row_set chain_frame fleet.chains.items own.number own.chains.items are.of_chains core lock pass low lock_is pass_is new left

  -- and the call was on this chain alone
  pub reaches : (D : ChainFrame → ℕ → List (ℕ × ChainNote) → List (ℕ × ChainNote) → Type 0) (new : _) → IsOnChain pass.number (front pass) (front new) (D (chain_frame (initial_value lock)) pass.number) → ReachesChain own.number core (fronts own.chains.items) (fronts (slice_set own.chains.items core new)) (D (chain_frame_for fleet.setup) own.number)
  reaches D new reached =
      reaches_row D (chain_frame (initial_value lock)) (chain_frame_for fleet.setup) own.number pass.number core own.chains.items pass new numbers_are (row_pass chain_frame fleet.chains.items own.number own.chains.items are.of_chains core lock pass low lock_is pass_is).numbered
      (pass_low chain_frame fleet.chains.items own.number own.chains.items are.of_chains core lock pass low lock_is pass_is) pass_is reached

-- the place of a shard of the setup is one of a lock
pub shard_low : {S P V F : Type 0} (fleet : FleetOf V (Note S P) (ShardFrame S F)) (shard : ℕ) → shard < (shape_of fleet.setup).shards → shard < length fleet.shards.items
shard_low fleet shard there = let many = fleet.a_lock_for_each_shard in omega (arith, many, there)

module _ {S P V F : Type 0} {g : _} (kept_frame : V → ShardFrame S F) (fleet : FleetOf V (Note S P) (ShardFrame S F)) (own : PassesOf V (Note S P) (ShardFrame S F) g) (are : ArePasses kept_frame fleet own) (place : ℕ) (there : place < length fleet.shards.items)
    (lock : Ticketed V (Note S P) (ShardFrame S F)) (lock_is : lock ≡ get_or fleet.shards.items place lock) (pass : Pass V (Note S P) (ShardFrame S F) g) (pass_is : pass ≡ get_or own.shards.items place pass) where
  own_pass : IsPassAt kept_frame lock own.number pass
  own_pass = row_pass kept_frame fleet.shards.items own.number own.shards.items are.of_shards place lock pass there lock_is pass_is

  -- the pass may go into the shard's lock
  pub may_enter_shard : MayEnter kept_frame lock pass
  may_enter_shard = (own_pass.of_lock, own_pass.outside)

  -- it has the number of the caller
  pub shard_numbered : pass.number ≡ own.number
  shard_numbered = own_pass.numbered

  pub shard_pass_low : place < length own.shards.items
  shard_pass_low = pass_low kept_frame fleet.shards.items own.number own.shards.items are.of_shards place lock pass there lock_is pass_is

  -- the shard has the frame of its place
  pub frame_is : kept_frame (initial_value lock) ≡ frame_for fleet.setup (frame_in kept_frame fleet) (givens_in kept_frame fleet) place
  frame_is = row_frame kept_frame fleet.shards.items own.number own.shards.items are.of_shards place lock pass there lock_is pass_is (frame_for fleet.setup (frame_in kept_frame fleet) (givens_in kept_frame fleet)) are.shards_framed

  -- a colour whose shard stands there is one of it
  pub colour_here : (c : Colour) → place ≡ shard_of fleet.setup c → c.0 < colours_of fleet.setup → IsColourOf (kept_frame (initial_value lock)) c
  colour_here c place_is low = colour_of_shard fleet.setup (frame_in kept_frame fleet) (givens_in kept_frame fleet) c place (kept_frame (initial_value lock)) frame_is place_is low

  -- afterwards they are passes of the shards still
  pub shards_still : (new : Pass V (Note S P) (ShardFrame S F) g) → HasLeft kept_frame lock pass new → ArePassesOf kept_frame fleet.shards.items own.number (slice_set own.shards.items place new)
  shards_still new left = row_set kept_frame fleet.shards.items own.number own.shards.items are.of_shards place lock pass there lock_is pass_is new left

  -- and the call was on this shard alone; it knew of all stamps that the caller had seen
  pub sees_shard : (D : ShardFrame S F → ℕ → List (Note S P) → List (Note S P) → Type 0) (new : Pass V (Note S P) (ShardFrame S F) g) (shard known : ℕ) → place ≡ shard → known ≡ latest_in (fronts own.shards.items) → IsSeen (kept_frame (initial_value lock)).setup pass.number known (front pass) (front new) (D (kept_frame (initial_value lock)) pass.number)
      → SeesAt fleet.setup own.number shard (fronts own.shards.items) (fronts (slice_set own.shards.items place new)) (D (frame_for fleet.setup (frame_in kept_frame fleet) (givens_in kept_frame fleet) place) own.number)
  sees_shard D new shard known place_is known_is seen = sees_row D (kept_frame (initial_value lock)) (frame_for fleet.setup (frame_in kept_frame fleet) (givens_in kept_frame fleet) place) own.number pass.number known place shard own.shards.items pass new frame_is shard_numbered known_is place_is shard_pass_low pass_is seen

  -- the state that a colour was given is the fleet's
  given_is : (c : Colour) → place ≡ shard_of fleet.setup c → given_at (kept_frame (initial_value lock)) c ≡ given_in kept_frame fleet c
  given_is c place_is = ap (λ (f : ShardFrame S F). given_at f c) frame_is ∙ ap (λ k. given_at (frame_for fleet.setup (frame_in kept_frame fleet) (givens_in kept_frame fleet) k) c) place_is

  -- so it is with a call that hands it out
  pub sees_given : (D : ShardFrame S F → Option S → ℕ → List (Note S P) → List (Note S P) → Type 0) (new : Pass V (Note S P) (ShardFrame S F) g) (c : Colour) (known : ℕ) → place ≡ shard_of fleet.setup c → known ≡ latest_in (fronts own.shards.items)
      → IsSeen (kept_frame (initial_value lock)).setup pass.number known (front pass) (front new) (D (kept_frame (initial_value lock)) (given_at (kept_frame (initial_value lock)) c) pass.number)
      → SeesAt fleet.setup own.number (shard_of fleet.setup c) (fronts own.shards.items) (fronts (slice_set own.shards.items place new)) (D (frame_for fleet.setup (frame_in kept_frame fleet) (givens_in kept_frame fleet) place) (given_in kept_frame fleet c) own.number)
  sees_given D new c known place_is known_is seen =
      sees_shard (λ of n. D of (given_in kept_frame fleet c) n) new (shard_of fleet.setup c) known place_is known_is
      (subst (λ first. IsSeen (kept_frame (initial_value lock)).setup pass.number known (front pass) (front new) (D (kept_frame (initial_value lock)) first pass.number)) (given_is c place_is) seen)
