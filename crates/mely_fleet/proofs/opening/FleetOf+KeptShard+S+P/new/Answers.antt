use Rattle.std.proofs.Common.{◌+◌, ◌≤◌, ◌∙◌, ap, subst, sym, refl, arith}
use Rattle.std.proofs.lemmas.Option.{slice_get_within, get_or_from_slice_get}
use Rattle.mely_history.specs.Setup.{colours_of}
use Rattle.mely_weave.proofs.Wholes.GatherLemmas.{get_there}
use Rattle.mely_kept.specs.Frames.{shard_frame}
use Rattle.mely_kept_chain.specs.Frames.{chain_frame}
use Rattle.mely_fleet.specs.Rows.{ArePassesOf, AreFramed}
use Rattle.mely_fleet.specs.Fleets.{frame_for}
use Rattle.mely_fleet.specs.Dealing.{IsInitialRow}
use Rattle.mely_fleet.specs.Opening.{givens_behind}
use Rattle.mely_fleet.proofs.OpeningLemmas.{first_frame, all_unseen}
use Rattle.mely_fleet.proofs.opening.FleetOf+KeptShard+S+P.new.Goals as goal

pub returns : goal.returns
returns g c =
    let setup = c.args.setup.now in
    let states = c.args.states.items in
    let s = get_there states 0 (let some : 1 ≤ colours_of setup = setup.colours_in.0 in let all = c.requires.first.all in omega (arith, some, all)) in
    let locks = c.in_ok-shards in
    let chains = c.in_ok-chains in
    let all = c.in_ok-passes in
    let number_is = all.ensures.many in
    let rows_are = locks.ensures.many in
    let chain_rows_are = chains.ensures.many in
    let count_is = c.cores.ensures.value in
    let told = givens_behind (shard_frame g.S.Trail.frame_of) locks.shards.items in
    let framed = locks.ensures.locks.framed s.0 s.1 in
    let at_first = first_frame (shard_frame g.S.Trail.frame_of) setup (g.S.Trail.frame_of s.0) told locks.shards.items _ framed in
    record {
      of_setup = refl;
      of_count = ap (λ n. n + c.args.outsiders) count_is;
      framed = λ i state at. c.requires.first.one_frame i 0 state s.0 at s.1 ∙ sym at_first;
      given = locks.ensures.locks.given;
      many = number_is ∙ rows_are ∙ ap (λ n. n + c.args.outsiders) count_is;
      each = λ n passes at.
          let low = slice_get_within all.passes.items n passes at in
          let row = get_there locks.shard_rows.items n (omega (arith, low, number_is)) in
          let chain_row = get_there chains.chain_rows.items n (omega (arith, low, number_is, rows_are, chain_rows_are)) in
          let number = all.ensures.numbers n passes at in
          let first = subst (λ v. IsInitialRow (shard_frame g.S.Trail.frame_of) locks.shards.items n v.items) (get_or_from_slice_get locks.shard_rows.items n row.0 row.0 row.1 ∙ sym (all.ensures.shards n row.0 passes row.1 at)) (locks.ensures.rows n row.0 (omega (arith, low, number_is, rows_are))) in
          let first_chain = subst (λ v. IsInitialRow chain_frame chains.chains.items n v.items) (get_or_from_slice_get chains.chain_rows.items n chain_row.0 chain_row.0 chain_row.1 ∙ sym (all.ensures.chains n chain_row.0 passes chain_row.1 at)) (chains.ensures.rows n chain_row.0 (omega (arith, low, number_is, rows_are))) in
          record {
            are = record {
              of_shards = subst (λ m. ArePassesOf (shard_frame g.S.Trail.frame_of) locks.shards.items m passes.shards.items) (sym number) first.are;
              of_chains = subst (λ m. ArePassesOf chain_frame chains.chains.items m passes.chains.items) (sym number) first_chain.are;
              shards_framed = subst (λ f. AreFramed (shard_frame g.S.Trail.frame_of) (frame_for setup f told) locks.shards.items) (sym at_first) framed;
              chains_framed = chains.ensures.framed;
            };
            numbered = number;
            unseen = all_unseen passes.shards.items first.unseen;
            unchanged = all_unseen passes.chains.items first_chain.unseen;
          };
    }
