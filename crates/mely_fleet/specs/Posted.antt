-- What a post to a fleet comes to.
use Rattle.mely_note.specs.declared.note.Note.{Note}
use Rattle.std.specs.Prelude.{◌≡◌, Option, Result, IfOk, OnErr}
use Rattle.mely_event.specs.declared.colour.Colour.{Colour}
use Rattle.mely_event.specs.declared.event.Event.{Event}
use Rattle.mely_event.specs.declared.unregistered.Unregistered.{Unregistered}
use Rattle.mely_history.specs.declared.registered.Registered.{Registered}
use Rattle.mely_worker.specs.Delivery.{delivery_after}
use Rattle.mely_worker.specs.declared.delivery.Delivery.{Delivery}
use Rattle.mely_weave.specs.Side.{shard_of}
use Rattle.mely_fleet.specs.declared.fleet.FleetOf.{FleetOf}
use Rattle.mely_kept.specs.declared.kept_shard.ShardFrame.{ShardFrame}
use Rattle.mely_fleet.specs.declared.passes.PassesOf.{PassesOf}
use Rattle.mely_kept.specs.Calls.{RegistersAt}
use Rattle.mely_fleet.specs.Rows.{fronts}
use Rattle.mely_fleet.specs.Fleets.{ArePasses, DeliversOn, SeesOn}

-- a mark or a report was delivered with these passes, by one call on a chain, or there was none to
-- be delivered. The passes are the fleet's still, of the same number, and have seen no more of shards
pub record HasDelivered {S P V F : Type 0} {g : _} (kept_frame : V → ShardFrame S F)
    (fleet : FleetOf V (Note S P) (ShardFrame S F)) (delivery : Delivery)
    (before after : PassesOf V (Note S P) (ShardFrame S F) g) : Type 0 where
  pub passes : ArePasses kept_frame fleet after
  pub same : after.number ≡ before.number
  pub unseen : fronts after.shards.items ≡ fronts before.shards.items
  pub delivered : DeliversOn fleet delivery before after

-- an event was posted with these passes: it was registered at one point of its shard's history, and
-- what follows that was delivered by one call on a chain; or it was refused, event and load are
-- handed back, and nothing was delivered. The passes are the fleet's still, of the same number
pub record IsPosted {S P V F : Type 0} {g : _} (kept_frame : V → ShardFrame S F)
    (fleet : FleetOf V (Note S P) (ShardFrame S F)) (c : Colour) (event : Event) (load : Option P)
    (answer : Result Registered (Unregistered P))
    (before after : PassesOf V (Note S P) (ShardFrame S F) g) : Type 0 where
  pub passes : ArePasses kept_frame fleet after
  pub same : after.number ≡ before.number
  pub sees : SeesOn fleet (shard_of fleet.setup c) before after
      (λ setup n. RegistersAt setup n c event load answer)
  pub delivered : IfOk answer (λ reply. DeliversOn fleet (delivery_after c reply) before after)
  pub undelivered : OnErr answer (after.chains ≡ before.chains)
