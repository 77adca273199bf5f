-- Notes go on telling the runs of a weave's workers over a post.
use Rattle.std.proofs.Common.{◌≡◌, ℕ, ◌<◌, ◌==◌, List, [], ◌∷◌, ◌++◌, Option, None, Some, Bool, false, Result, Ok, Err, length, refl, sym, ◌∙◌, ap, subst, ⊎_elim, arith, if◌then◌else◌}
use Rattle.std.specs.List.{cons_option}
use Rattle.std.specs.Prelude.{slice_get}
use Rattle.std.proofs.lemmas.Bool.{cases_eq, ne_eqb}
use Rattle.std.proofs.lemmas.List.{append-nil}
use Rattle.std.proofs.lemmas.List.Elements.{filter_map-append}
use Rattle.std.proofs.lemmas.Option.{slice_get_within}
use Rattle.mely_event.specs.declared.colour.Colour.{Colour}
use Rattle.mely_event.specs.declared.event.Event.{Event}
use Rattle.mely_event.specs.declared.trail.Trail.{Ghosts as TrailWords}
use Rattle.mely_event.specs.declared.unregistered.Unregistered.{Unregistered}
use Rattle.mely_history.specs.declared.registered.Registered.{Registered}
use Rattle.mely_history.specs.declared.registered.Registered.TheVariants.{Woke, Told, Running}
use Rattle.mely_history.specs.Legal.{IsLegal}
use Rattle.mely_history.specs.Setup.{shape_of, shard_of}
use Rattle.mely_note.specs.declared.note.Note.{Note}
use Rattle.mely_note.specs.declared.note.Note.TheVariants.{Reg}
use Rattle.mely_note.specs.Notes.{entries_of, loaded_of, load_on, notes_by, snapshot_of}
use Rattle.mely_shard.specs.Shard.{ShardState}
use Rattle.mely_tally.specs.Account.{HandlerRun, and_posted}
use Rattle.mely_worker.specs.Delivery.{delivery_after, Delivers}
use Rattle.mely_worker.specs.declared.app.App.{Ghosts as AppWords}
use Rattle.mely_worker.specs.Worker.{WorkerState}
use Rattle.mely_weave.specs.Calls.{AtShard, RegisterAs, weave_words}
use Rattle.mely_weave.specs.Side.{SideState}
use Rattle.mely_weave.specs.SideStands.{ShardStands}
use Rattle.mely_weave.specs.StandsWell.{StandsWell, side_of}
use Rattle.mely_weave.specs.Weave.{WeaveState}
use Rattle.mely_weave.specs.WeaveRun.{PostCall}
use Rattle.mely_chain.specs.Runs.{put_on, puts_on}
use Rattle.mely_chain.specs.Told.{CoreTold}
use Rattle.mely_chain.specs.WeaveTold.{ShardTold, WeaveTold, WeaveDid, IsTold}
use Rattle.mely_chain.proofs.GrowthLemmas.{by_others}
use Rattle.mely_chain.proofs.CoreLemmas.{told_others, loaded_own}
use Rattle.mely_chain.proofs.CoreStepLemmas.{after_legal}
use Rattle.mely_chain.proofs.DeedLemmas.{did_others}
use Rattle.mely_chain.proofs.WeaveShardLemmas.{shard_refused, shard_registered}
use Rattle.mely_chain.proofs.WeaveSeesLemmas.{SuitsShards, AreLate, later, late_none, late_one, old_stands, new_stands, old_told, then_seen, suits, call, by_one, by_here, by_elsewhere}
use Rattle.mely_chain.proofs.WeaveToldLemmas.{notes_legal}

module _ {S P F : Type 0} (t : TrailWords S F) where
  -- all of a side but its chains is the same
  record IsBesides (between side : SideState S P) : Type 0 where
    setup : side.setup ≡ between.setup
    given : side.given ≡ between.given
    shards : side.shards ≡ between.shards

  delivered : (between side : SideState S P) (d : Colour) (reply : Registered) (arrived : Bool) → Delivers (weave_words t) between (delivery_after d reply) arrived side → IsBesides between side
  delivered between side d (Woke owner started worth) arrived does = let is = does.1.1.becomes in record { setup = ap (λ (s : SideState S P). s.setup) is; given = ap (λ (s : SideState S P). s.given) is; shards = ap (λ (s : SideState S P). s.shards) is }
  delivered between side d (Told owner started worth) arrived does = let is = does.becomes in record { setup = ap (λ (s : SideState S P). s.setup) is; given = ap (λ (s : SideState S P). s.given) is; shards = ap (λ (s : SideState S P). s.shards) is }
  delivered between side d (Running core) arrived does = let is = does.0 in record { setup = ap (λ (s : SideState S P). s.setup) is; given = ap (λ (s : SideState S P). s.given) is; shards = ap (λ (s : SideState S P). s.shards) is }

module _ {R S P F : Type 0} (t : TrailWords S F) (fits : F → Colour → Event → Option P → Type 0) (y : AppWords R P S F) (app : R) (given : Colour → Option S) (posted : List (Colour × Event × Option P)) (before : WeaveState S P) (well : StandsWell t fits before) (notes : ℕ → List (Note S P)) (by_core : List (List (HandlerRun S P))) (told : WeaveTold t fits y app given posted before notes by_core) (did : WeaveDid before notes by_core) where
  -- the pass behind those of the cores
  abbrev poster : ℕ
  poster = (shape_of before.setup).cores

  module _ (between : SideState S P) (parts : (number : ℕ) (has : ShardState S P) → slice_get between.shards number ≡ Some has → ShardStands t fits between.setup (t.frame_of between.given) number has) (d : Colour) (Does : ShardState S P → ShardState S P → Type 0) (at : AtShard (side_of before 0) between d Does) (own : List (Note S P)) (by : (k : ℕ) → (k ≡ poster → ⊥) → notes_by k own ≡ []) (now : ShardTold given before.setup (shard_of before.setup d) at.new (notes (shard_of before.setup d) ++ own)) (late : AreLate before.setup notes d own) where
    abbrev fine : SuitsShards given before.setup poster between.shards notes (then_seen t fits given before well notes told.shard did.rise poster 0 between parts d Does at own by now late)
    fine = suits t fits given before well notes told.shard did.rise poster 0 between parts d Does at own by now late

    abbrev seen : Colour → List (Note S P)
    seen c = notes (shard_of before.setup c)

    abbrev then_weave : WeaveState S P
    then_weave = record before { shards = between.shards }

    then_told : (sound : (c : Colour) → IsLegal before.setup (entries_of (fine.by_shard (shard_of before.setup c)))) (k : ℕ) (z : WorkerState S P) (all : List (HandlerRun S P)) → slice_get before.workers k ≡ Some z → slice_get by_core k ≡ Some all → CoreTold t fits y app before.setup (t.frame_of before.given) given k (λ c. fine.by_shard (shard_of before.setup c)) z all
    then_told sound k z all at_z at_all =
        let within : k < length before.workers = slice_get_within before.workers k z at_z in
        let many = well.workers in
        told_others t fits y app before.setup (t.frame_of before.given) given k seen (λ c. fine.by_shard (shard_of before.setup c)) z all (λ c. fine.grew (shard_of before.setup c) k (λ same. omega (arith, same, within, many))) sound (told.told k z all at_z at_all)

    -- the workers did what they did
    then_did : WeaveDid then_weave fine.by_shard by_core
    then_did = record {
      rise = fine.rise;
      did = λ k z all at_z at_all.
          let within : k < length before.workers = slice_get_within before.workers k z at_z in
          let many = well.workers in
          did_others before.setup k seen (λ c. fine.by_shard (shard_of before.setup c)) z all (λ c. fine.grew (shard_of before.setup c) k (λ same. omega (arith, same, within, many))) (did.did k z all at_z at_all);
    }

    others_stay : (number k : ℕ) → (k ≡ poster → ⊥) → notes_by k (fine.by_shard number) ≡ notes_by k (notes number)
    others_stay number k ne = let grew = fine.grew number k ne in ap (notes_by k) grew.1 ∙ by_others k (notes number) grew.0 grew.2

    sound : (c : Colour) → IsLegal before.setup (entries_of (fine.by_shard (shard_of before.setup c)))
    sound = after_legal before.setup given poster seen (then_seen t fits given before well notes told.shard did.rise poster 0 between parts d Does at own by now late) d own (call t fits given before well notes told.shard did.rise poster 0 between parts d Does at own by now late) (notes_legal t fits y app given posted before notes well told.shard)

    -- the weave with the shards that the post left
    then_posted : (puts : List (Colour × Event × Option P)) → ((c : Colour) → loaded_of (notes_by poster (fine.by_shard (shard_of before.setup c))) c ≡ puts_on c puts) → WeaveTold t fits y app given puts then_weave fine.by_shard by_core
    then_posted puts are = record {
      shard = fine.shard;
      cores = told.cores;
      told = then_told sound;
      posts = are;
      no_other = λ number k high. others_stay number k (λ same. omega (arith, same, high)) ∙ told.no_other number k high;
    }

  module _ (d : Colour) (event : Event) (load : Option P) (between : SideState S P) (parts : (number : ℕ) (has : ShardState S P) → slice_get between.shards number ≡ Some has → ShardStands t fits between.setup (t.frame_of between.given) number has) where
    -- a post that was taken
    posted_ok : (reply : Registered) → AtShard (side_of before 0) between d (RegisterAs d event load poster (Ok reply)) → IsTold t fits y app given (posted ++ (d, event, load) ∷ []) (record before { shards = between.shards })
    posted_ok reply at =
        let Does = RegisterAs d event load poster (Ok reply) in
        let stamp = later before.setup notes in
        let note : Note S P = Reg d event (snapshot_of load) poster stamp in
        let was = old_stands t fits given before well notes told.shard did.rise poster 0 between parts d Does at in
        let then_is = new_stands t fits given before well notes told.shard did.rise poster 0 between parts d Does at in
        let shown = old_told t fits given before well notes told.shard did.rise poster 0 between parts d Does at in
        let now = shard_registered t fits (t.frame_of before.given) given before.setup (shard_of before.setup d) at.old at.new (notes (shard_of before.setup d)) was then_is shown d event load poster stamp refl at.does.0 in
        let by = by_one poster note refl in
        let late = late_one before.setup notes did.rise d note refl in
        let is_told = fine between parts d Does at (note ∷ []) by now late in (
          is_told.by_shard,
          by_core,
          then_posted between parts d Does at (note ∷ []) by now late (posted ++ (d, event, load) ∷ []) (λ c.
              let all : puts_on c (posted ++ (d, event, load) ∷ []) ≡ puts_on c posted ++ cons_option (put_on c (d, event, load)) [] = filter_map-append (put_on c) posted ((d, event, load) ∷ []) in
              ⊎_elim
              (λ (same : shard_of before.setup c ≡ shard_of before.setup d).
              ap (λ l. loaded_of (notes_by poster l) c) (by_here t fits given before well notes told.shard did.rise poster 0 between parts d Does at (note ∷ []) by now late (shard_of before.setup c) same)
              ∙ loaded_own poster c (notes (shard_of before.setup c)) note refl
              ∙ ap (λ l. l ++ cons_option (load_on c note) []) (told.posts c)
              ∙ sym all)
              (λ (ne : shard_of before.setup c ≡ shard_of before.setup d → ⊥).
              let apart : (d.0 == c.0) ≡ false = ne_eqb d.0 c.0 (λ same. ne (ap (λ k. shard_of before.setup (record { 0 = k })) (sym same))) in
              ap (λ l. loaded_of (notes_by poster l) c) (by_elsewhere t fits given before well notes told.shard did.rise poster 0 between parts d Does at (note ∷ []) by now late (shard_of before.setup c) ne)
              ∙ told.posts c
              ∙ sym (append-nil (puts_on c posted))
              ∙ ap (λ b. puts_on c posted ++ cons_option (if b then Some (event, load) else None) []) (sym apart)
              ∙ sym all)
              (cases_eq (shard_of before.setup c) (shard_of before.setup d))),
          then_did between parts d Does at (note ∷ []) by now late,
        )

    -- a post that was refused
    posted_err : (back : Unregistered P) → AtShard (side_of before 0) between d (RegisterAs d event load poster (Err back)) → IsTold t fits y app given posted (record before { shards = between.shards })
    posted_err back at =
        let Does = RegisterAs d event load poster (Err back) in
        let was = old_stands t fits given before well notes told.shard did.rise poster 0 between parts d Does at in
        let then_is = new_stands t fits given before well notes told.shard did.rise poster 0 between parts d Does at in
        let shown = shard_refused t fits (t.frame_of before.given) given before.setup (shard_of before.setup d) at.old at.new (notes (shard_of before.setup d)) was then_is (old_told t fits given before well notes told.shard did.rise poster 0 between parts d Does at) at.does in
        let now = subst (ShardTold given before.setup (shard_of before.setup d) at.new) (sym (append-nil (notes (shard_of before.setup d)))) shown in
        let by : (k : ℕ) → (k ≡ poster → ⊥) → notes_by k (let none : List (Note S P) = [] in none) ≡ [] = λ k ne. refl in
        let late = late_none before.setup notes did.rise d in
        let is_told = fine between parts d Does at [] by now late in (
          is_told.by_shard,
          by_core,
          then_posted between parts d Does at [] by now late posted (λ c.
              ⊎_elim
              (λ (same : shard_of before.setup c ≡ shard_of before.setup d). ap (λ l. loaded_of (notes_by poster l) c) (by_here t fits given before well notes told.shard did.rise poster 0 between parts d Does at [] by now late (shard_of before.setup c) same ∙ append-nil (notes (shard_of before.setup c))) ∙ told.posts c)
              (λ (ne : shard_of before.setup c ≡ shard_of before.setup d → ⊥). ap (λ l. loaded_of (notes_by poster l) c) (by_elsewhere t fits given before well notes told.shard did.rise poster 0 between parts d Does at [] by now late (shard_of before.setup c) ne) ∙ told.posts c)
              (cases_eq (shard_of before.setup c) (shard_of before.setup d))),
          then_did between parts d Does at [] by now late,
        )

module _ {R S P F : Type 0} (t : TrailWords S F) (fits : F → Colour → Event → Option P → Type 0) (y : AppWords R P S F) (app : R) (given : Colour → Option S) (posted : List (Colour × Event × Option P)) (before after : WeaveState S P) where
  -- the weave after a post is the one before, with the shards that it left, but for the chains
  told_besides : (puts : List (Colour × Event × Option P)) (with_shards : WeaveState S P) → after.setup ≡ with_shards.setup → after.given ≡ with_shards.given → after.shards ≡ with_shards.shards → after.workers ≡ with_shards.workers → IsTold t fits y app given puts with_shards → IsTold t fits y app given puts after
  told_besides puts z setup first shards workers told =
      let Holds : WeaveState S P → Type 0 = λ u. IsTold t fits y app given puts u in
      let one : IsTold t fits y app given puts (record z { chains = after.chains }) = (told.0, told.1, record { shard = told.2.shard; cores = told.2.cores; told = told.2.told; posts = told.2.posts; no_other = told.2.no_other }, record { rise = told.3.rise; did = told.3.did }) in
      let path : after ≡ record z { chains = after.chains } = λ i. record { setup = setup i; given = first i; shards = shards i; chains = after.chains; workers = workers i } in
      subst Holds (sym path) one

  -- over a post, refused or not
  pub told_post_of : (d : Colour) (event : Event) (load : Option P) (answer : Result Registered (Unregistered P)) → StandsWell t fits before → PostCall t fits d event load answer before after → IsTold t fits y app given posted before → IsTold t fits y app given (and_posted (d, event, load) answer posted) after
  told_post_of d event load (Ok reply) well call (notes, by_core, told, did) =
      let side = call.posts.side in
      let between = call.posts.posts.0 in
      let at = call.posts.posts.1 in
      let arrives = call.posts.posts.2 in
      let same = delivered t between side d reply arrives.0 arrives.1 in
      let parts : (number : ℕ) (has : ShardState S P) → slice_get between.shards number ≡ Some has → ShardStands t fits between.setup (t.frame_of between.given) number has = λ number has there.
      subst (λ s. ShardStands t fits s (t.frame_of between.given) number has) same.setup (subst (λ g. ShardStands t fits side.setup (t.frame_of g) number has) same.given (call.parts.shard number has (ap (λ l. slice_get l number) same.shards ∙ there))) in
      let leaves = call.posts.leaves in
      told_besides (posted ++ (d, event, load) ∷ []) (record before { shards = between.shards })
      (ap (λ (z : WeaveState S P). z.setup) leaves ∙ same.setup ∙ ap (λ (s : SideState S P). s.setup) at.becomes)
      (ap (λ (z : WeaveState S P). z.given) leaves ∙ same.given ∙ ap (λ (s : SideState S P). s.given) at.becomes)
      (ap (λ (z : WeaveState S P). z.shards) leaves ∙ same.shards)
      (ap (λ (z : WeaveState S P). z.workers) leaves)
      (posted_ok t fits y app given posted before well notes by_core told did d event load between parts reply at)
  told_post_of d event load (Err back) well call (notes, by_core, told, did) =
      let side = call.posts.side in
      let at = call.posts.posts in
      let leaves = call.posts.leaves in
      told_besides posted (record before { shards = side.shards })
      (ap (λ (z : WeaveState S P). z.setup) leaves ∙ ap (λ (s : SideState S P). s.setup) at.becomes)
      (ap (λ (z : WeaveState S P). z.given) leaves ∙ ap (λ (s : SideState S P). s.given) at.becomes)
      (ap (λ (z : WeaveState S P). z.shards) leaves)
      (ap (λ (z : WeaveState S P). z.workers) leaves)
      (posted_err t fits y app given posted before well notes by_core told did d event load side call.parts.shard back at)
