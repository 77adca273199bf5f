-- Of the runs of handlers the receipts of messages: which those of a colour are, what it received
-- and sent by them, and what of it is under way.
use Rattle.std.proofs.Common.{◌≡◌, ◌==◌, Bool, true, false, List, [], ◌∷◌, ◌++◌, Option, None, Some, cond, drop, length, map, refl, ◌∙◌, ap}
use Rattle.std.proofs.Math.Seq.{drop-append_seam}
use Rattle.std.proofs.lemmas.Grind.{flat_map-append}
use Rattle.std.proofs.lemmas.List.{append-nil}
use Rattle.std.specs.List.{cons_option, filter_map, flat_map}
use Rattle.mely_event.specs.declared.colour.Colour.{Colour}
use Rattle.mely_event.specs.declared.event.Event.{Event}
use Rattle.mely_tally.specs.Account.{HandlerRun}
use Rattle.mely_chain.specs.Runs.{given_to, runs_on}
use Rattle.mely_actor.specs.declared.load.Load.{Load}
use Rattle.mely_actor.specs.declared.load.Load.TheVariants.{Posts, Message}
use Rattle.mely_actor.specs.KeptState.{KeptState}
use Rattle.mely_actor.specs.Loads.{IsPut, as_puts, message_of, messages_of, turn_puts}
use Rattle.mely_actor.specs.Serial.{Receipt, receipts_on}
use Rattle.mely_actor.specs.Waiting.{put_now}
use Rattle.mely_actor.proofs.NewsLemmas.{posts_of}
use Rattle.mely_actor.proofs.WaitingLemmas.{put_whole}

module _ {M : Type 0} where
  -- the messages of a load that is put on a colour, each with the colour that it is for
  abbrev pub in_load : Colour → Option (Load M) → List (Colour × M)
  in_load c (Some (Posts all)) = all.items
  in_load c (Some (Message message)) = (c, message) ∷ []
  in_load c None = []

  -- those of all that is put
  abbrev pub carried : List (Colour × Event × Option (Load M)) → List (Colour × M)
  carried puts = flat_map (λ put. in_load put.0 put.2) puts

  pub carried_posts : (c : Colour) (load : Option (Load M)) → message_of load ≡ None → in_load c load ≡ posts_of load
  carried_posts c (Some (Posts all)) none = refl
  carried_posts c (Some (Message message)) none = cc
  carried_posts c None none = refl

  pub carried-append : (puts more : List (Colour × Event × Option (Load M))) → carried (puts ++ more) ≡ carried puts ++ carried more
  carried-append puts more = flat_map-append (λ (put : Colour × Event × Option (Load M)). in_load put.0 put.2) puts more

  -- messages that are put carry themselves, and a turn nothing
  carried_now : (event_of : M → Event) (sends : List (Colour × M)) → carried (as_puts event_of sends) ≡ sends
  carried_now event_of [] = refl
  carried_now event_of (send ∷ sends) = ap (λ l. send ∷ l) (carried_now event_of sends)

  carried_turn : (c : Colour) (turn : Bool) → carried (turn_puts {M = M} c turn) ≡ []
  carried_turn c true = refl
  carried_turn c false = refl

  -- what is put and what waits then is what waited and what is sent
  pub put_and_left : (event_of : M → Event) (c : Colour) (busy turn : Bool) (all left : List (Colour × M)) (puts : List (Colour × Event × Option (Load M))) → IsPut event_of c busy turn all left puts → carried puts ++ left ≡ all
  put_and_left event_of c busy turn all left puts put =
      ap (λ l. carried l ++ left) put.puts_are
      ∙ ap (λ l. l ++ left) (carried-append (as_puts event_of (put_now busy all)) (turn_puts c turn) ∙ ap (λ l. carried (as_puts event_of (put_now busy all)) ++ l) (carried_turn c turn) ∙ append-nil (carried (as_puts event_of (put_now busy all))) ∙ carried_now event_of (put_now busy all))
      ∙ ap (λ l. put_now busy all ++ l) put.left_is
      ∙ put_whole busy all

  -- what is sent, told by what waited, by what is put and by what waits then
  abbrev pub sends_between : List (Colour × M) → List (Colour × Event × Option (Load M)) → List (Colour × M) → List (Colour × M)
  sends_between waiting puts left = drop (length waiting) (carried puts ++ left)

  pub sends_are : (waiting : List (Colour × M)) (puts : List (Colour × Event × Option (Load M))) (left sends : List (Colour × M)) → carried puts ++ left ≡ waiting ++ sends → sends_between waiting puts left ≡ sends
  sends_are waiting puts left sends is = ap (drop (length waiting)) is ∙ drop-append_seam waiting sends

  -- and what of it a message sends
  abbrev pub by_message : Option (Load M) → List (Colour × M) → List (Colour × M)
  by_message (Some (Posts all)) sends = []
  by_message (Some (Message message)) sends = sends
  by_message None sends = []

  module _ {A V : Type 0} where
    abbrev pub sends_by : HandlerRun (KeptState A M V) (Load M) → List (Colour × M)
    sends_by run = sends_between run.state.waiting run.puts run.becomes.waiting

    -- the receipt that a run with such a load is
    abbrev pub receipt_of : HandlerRun (KeptState A M V) (Load M) → M → Receipt M V
    receipt_of run message = record { colour = run.colour; message = message; value = run.state.value; becomes = run.becomes.value; sends = sends_by run }

    abbrev pub receipt_by : HandlerRun (KeptState A M V) (Load M) → Option (Load M) → Option (Receipt M V)
    receipt_by run (Some (Posts all)) = None
    receipt_by run (Some (Message message)) = Some (receipt_of run message)
    receipt_by run None = None

    -- the receipts among runs
    abbrev pub receipts_in : List (HandlerRun (KeptState A M V) (Load M)) → List (Receipt M V)
    receipts_in runs = filter_map (λ run. receipt_by run run.load) runs

    module _ (run : HandlerRun (KeptState A M V) (Load M)) (rest : List (Receipt M V)) where
      on_one : (c : Colour) (load : Option (Load M)) (own : Bool) → (run.colour.0 == c.0) ≡ own → receipts_on c (cons_option (receipt_by run load) rest) ≡ cond own (cons_option (receipt_by run load) (receipts_on c rest)) (receipts_on c rest)
      on_one c (Some (Message message)) own is = ap (λ b. cond b (receipt_of run message ∷ receipts_on c rest) (receipts_on c rest)) is
      on_one c (Some (Posts all)) true is = refl
      on_one c (Some (Posts all)) false is = refl
      on_one c None true is = refl
      on_one c None false is = refl

      message_one : (load : Option (Load M)) → map (λ receipt. receipt.message) (cons_option (receipt_by run load) rest) ≡ cons_option (message_of load) (map (λ receipt. receipt.message) rest)
      message_one (Some (Posts all)) = refl
      message_one (Some (Message message)) = refl
      message_one None = refl

      pub sends_one : (load : Option (Load M)) → flat_map (λ receipt. receipt.sends) (cons_option (receipt_by run load) rest) ≡ by_message load (sends_by run) ++ flat_map (λ receipt. receipt.sends) rest
      sends_one (Some (Posts all)) = refl
      sends_one (Some (Message message)) = refl
      sends_one None = refl

    -- those of a colour are those of its runs
    pub on_colour : (c : Colour) (runs : List (HandlerRun (KeptState A M V) (Load M))) → receipts_on c (receipts_in runs) ≡ receipts_in (runs_on c runs)
    on_colour c [] = refl
    on_colour c (run ∷ runs) = for (run.colour.0 == c.0) refl (on_colour c runs) where
      for : (own : Bool) → (run.colour.0 == c.0) ≡ own → receipts_on c (receipts_in runs) ≡ receipts_in (runs_on c runs) → receipts_on c (receipts_in (run ∷ runs)) ≡ receipts_in (cond own (run ∷ runs_on c runs) (runs_on c runs))
      for true is rest = on_one run (receipts_in runs) c run.load true is ∙ ap (cons_option (receipt_by run run.load)) rest
      for false is rest = on_one run (receipts_in runs) c run.load false is ∙ rest

    -- their messages are those of the events that were run
    pub messages_in_runs : (runs : List (HandlerRun (KeptState A M V) (Load M))) → map (λ receipt. receipt.message) (receipts_in runs) ≡ messages_of (map given_to runs)
    messages_in_runs [] = refl
    messages_in_runs (run ∷ runs) = message_one run (receipts_in runs) run.load ∙ ap (cons_option (message_of run.load)) (messages_in_runs runs)
