-- A post keeps an account: its event is registered, as posted, or it was refused.
use Rattle.std.proofs.Common.{◌≡◌, List, [], Bool, Option, Result, Ok, Err, refl, ◌∙◌, ap, subst, sym, arith}
use Rattle.std.proofs.lemmas.List.Sums.{sum_by_push}
use Rattle.std.specs.List.{AllByRecursion}
use Rattle.std.specs.Prelude.{sum_by}
use Rattle.mely_event.specs.declared.colour.Colour.{Colour}
use Rattle.mely_event.specs.declared.event.Event.{Event}
use Rattle.mely_event.specs.declared.trail.Trail.{Ghosts as TrailWords}
use Rattle.mely_event.specs.declared.unregistered.Unregistered.{Unregistered}
use Rattle.mely_history.specs.declared.entry.Entry.TheVariants.{Reg}
use Rattle.mely_history.specs.declared.registered.Registered.{Registered}
use Rattle.mely_history.specs.declared.registered.Registered.TheVariants.{Woke, Told, Running}
use Rattle.mely_history.specs.declared.setup.Setup.{Setup}
use Rattle.mely_history.specs.History.{registered_of}
use Rattle.mely_history.specs.Legal.{IsLegal}
use Rattle.mely_history.specs.Setup.{shape_of}
use Rattle.mely_worker.specs.declared.app.App.{Ghosts as AppWords}
use Rattle.mely_worker.specs.Delivery.{delivery_after, Delivers}
use Rattle.mely_weave.specs.Calls.{AtShard, RegisterAs, weave_words}
use Rattle.mely_weave.specs.Side.{SideState, history_at, history_for, shard_of}
use Rattle.mely_weave.specs.StandsWell.{StandsWell, side_of}
use Rattle.mely_weave.specs.Steps.{PostsAt}
use Rattle.mely_weave.specs.Weave.{WeaveState}
use Rattle.mely_tally.proofs.HistoryCountsLemmas.{put_more, take_more}
use Rattle.mely_tally.proofs.WeaveAccountLemmas.{kept, grown, apart_none}
use Rattle.mely_tally.specs.Account.{IsRunOf, IsAccounted, and_posted, count_due, count_left, count_put, sum_along, taken_of}

-- the registration of a post on the way to a weave, which has the shards that it left and its workers still
record RegistersFirst {S P : Type 0} (before after : WeaveState S P) (d : Colour) (event : Event) (load : Option P) (answer : Result Registered (Unregistered P)) : Type 0 where
  pub between : SideState S P
  pub at : AtShard (side_of before 0) between d (RegisterAs d event load (shape_of before.setup).cores answer)
  pub setup : after.setup ≡ between.setup
  pub given : after.given ≡ between.given
  pub shards : after.shards ≡ between.shards
  pub workers : after.workers ≡ before.workers

module _ {S P F : Type 0} (t : TrailWords S F) where
  -- a delivery is made at a chain
  delivered : {X : Type 0} (tell : SideState S P → X) → ((a : SideState S P) (chains : _) → tell (record a { chains = chains }) ≡ tell a) → (a b : SideState S P) (d : Colour) (reply : Registered) (arrived : Bool) → Delivers (weave_words t) a (delivery_after d reply) arrived b → tell b ≡ tell a
  delivered tell apart a b d (Woke owner started worth) arrived does = ap tell does.1.1.becomes ∙ apart a _
  delivered tell apart a b d (Told owner started worth) arrived does = ap tell does.becomes ∙ apart a _
  delivered tell apart a b d (Running core) arrived does = ap tell does.0

  registers_first : (before after : WeaveState S P) (d : Colour) (event : Event) (load : Option P) (answer : Result Registered (Unregistered P)) → PostsAt t before d event load answer after → RegistersFirst before after d event load answer
  registers_first before after d event load (Ok reply) posts =
      let arrives = posts.posts.2 in
      record {
        between = posts.posts.0;
        at = posts.posts.1;
        setup = ap (λ (w : WeaveState S P). w.setup) posts.leaves ∙ delivered (λ s. s.setup) (λ a chains. refl) posts.posts.0 posts.side d reply arrives.0 arrives.1;
        given = ap (λ (w : WeaveState S P). w.given) posts.leaves ∙ delivered (λ s. s.given) (λ a chains. refl) posts.posts.0 posts.side d reply arrives.0 arrives.1;
        shards = ap (λ (w : WeaveState S P). w.shards) posts.leaves ∙ delivered (λ s. s.shards) (λ a chains. refl) posts.posts.0 posts.side d reply arrives.0 arrives.1;
        workers = ap (λ (w : WeaveState S P). w.workers) posts.leaves;
      }
  registers_first before after d event load (Err back) posts = record {
    between = posts.side;
    at = posts.posts;
    setup = ap (λ (w : WeaveState S P). w.setup) posts.leaves;
    given = ap (λ (w : WeaveState S P). w.given) posts.leaves;
    shards = ap (λ (w : WeaveState S P). w.shards) posts.leaves;
    workers = ap (λ (w : WeaveState S P). w.workers) posts.leaves;
  }

module _ {R S P F : Type 0} (t : TrailWords S F) (fits : F → Colour → Event → Option P → Type 0) (y : AppWords R P S F) (app : R) (posted : List (Colour × Event × Option P)) (before after : WeaveState S P) (well : StandsWell t fits before) (d : Colour) (event : Event) (load : Option P) where
  -- what is told of the history of a colour after the registration
  now_told : (answer : Result Registered (Unregistered P)) (is : RegistersFirst before after d event load answer) (c : Colour) → history_for after.setup after.shards c ≡ history_at is.between c
  now_told answer is c = ap (λ s. history_for s after.shards c) is.setup ∙ ap (λ l. history_for is.between.setup l c) is.shards

  -- the runs are runs of the weave's still
  each_still : (answer : Result Registered (Unregistered P)) (is : RegistersFirst before after d event load answer) (runs : _) → AllByRecursion (IsRunOf t fits y app before.setup (t.frame_of before.given)) runs → AllByRecursion (IsRunOf t fits y app after.setup (t.frame_of after.given)) runs
  each_still answer is runs each =
      let setup : after.setup ≡ before.setup = is.setup ∙ ap (λ (s : SideState S P). s.setup) is.at.becomes in
      let given : after.given ≡ before.given = is.given ∙ ap (λ (s : SideState S P). s.given) is.at.becomes in
      subst (λ s. AllByRecursion (IsRunOf t fits y app s (t.frame_of after.given)) runs) (sym setup)
      (subst (λ g. AllByRecursion (IsRunOf t fits y app before.setup (t.frame_of g)) runs) (sym given) each)

  account_posted : (answer : Result Registered (Unregistered P)) → RegistersFirst before after d event load answer → IsAccounted t fits y app posted before → IsAccounted t fits y app (and_posted (d, event, load) answer posted) after
  account_posted (Ok reply) is (runs, account) =
      let by = (shape_of before.setup).cores in
      let at = is.at in
      let shard = well.shard (shard_of before.setup d) at.old at.was in
      let legal : IsLegal before.setup at.old.history = subst (λ (s : Setup). IsLegal s at.old.history) shard.of_setup shard.kept.legal in (
        runs,
        record {
          each = each_still (Ok reply) is runs account.each;
          put = λ c number.
              let was = account.put c number in
              let now = ap (λ h. sum_by number (registered_of h c)) (now_told (Ok reply) is c) in
              let more = grown (side_of before 0) is.between c d _ at (λ h. sum_by number (registered_of h c)) (Reg d event by) (count_put c number (d, event, load)) at.does.0.after.history (put_more c number at.old.history (Reg d event by)) (apart_none c d (number event)) in
              let due = ap (λ ws. sum_by (λ x. count_due c number x) ws) is.workers in
              let all = sum_by_push (count_put c number) posted (d, event, load) in
              omega (arith, was, now, more, due, all);
          ran = λ c number.
              let was = account.ran c number in
              let now = ap (λ h. sum_along number [] (taken_of h c)) (now_told (Ok reply) is c) in
              let one = take_more before.setup c number at.old.history (Reg d event by) legal in
              let same = grown (side_of before 0) is.between c d _ at (λ h. sum_along number [] (taken_of h c)) (Reg d event by) 0 at.does.0.after.history (omega (arith, one)) (λ _. refl) in
              let left = ap (λ ws. sum_by (λ x. count_left t c number x.phase) ws) is.workers in
              omega (arith, was, now, same, left);
        },
      )
  account_posted (Err back) is (runs, account) = (
    runs,
    record {
      each = each_still (Err back) is runs account.each;
      put = λ c number.
          let was = account.put c number in
          let now = ap (λ h. sum_by number (registered_of h c)) (now_told (Err back) is c) in
          let same = kept (side_of before 0) is.between c d _ is.at (λ h. sum_by number (registered_of h c)) is.at.does.history in
          let due = ap (λ ws. sum_by (λ x. count_due c number x) ws) is.workers in
          omega (arith, was, now, same, due);
      ran = λ c number.
          let was = account.ran c number in
          let now = ap (λ h. sum_along number [] (taken_of h c)) (now_told (Err back) is c) in
          let same = kept (side_of before 0) is.between c d _ is.at (λ h. sum_along number [] (taken_of h c)) is.at.does.history in
          let left = ap (λ ws. sum_by (λ x. count_left t c number x.phase) ws) is.workers in
          omega (arith, was, now, same, left);
    },
  )

  pub account_post : (answer : Result Registered (Unregistered P)) → PostsAt t before d event load answer after → IsAccounted t fits y app posted before → IsAccounted t fits y app (and_posted (d, event, load) answer posted) after
  account_post answer posts is = account_posted answer (registers_first t before after d event load answer posts) is
