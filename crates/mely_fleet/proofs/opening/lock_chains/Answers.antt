use Rattle.std.proofs.Common.{◌≡◌, [], ◌∙◌, ap, sym}
use Rattle.mely_core.specs.CoreQueue.{empty_core}
use Rattle.mely_kept_chain.specs.declared.kept_chain.ChainFrame.{ChainFrame}
use Rattle.mely_kept_chain.specs.Frames.{numbers_of}
use Rattle.mely_fleet.proofs.OpeningLemmas.{chains_framed, chains_untouched, all_here}
use Rattle.mely_fleet.proofs.opening.lock_chains.Goals as goal

pub keep_chains-requires : goal.keep_chains-requires
keep_chains-requires c = λ k queue at.
    let is = c.in_ok-chains.ensures.empty k queue at in
    is ∙ ap (λ (of : ChainFrame). empty_core of.colours of.cost of.pinned) (ap numbers_of (sym is))

pub lock_all-requires-clause-empty : goal.lock_all-requires-clause-empty
lock_all-requires-clause-empty c =
    let kept = c.in_ok-kept in
    all_here (λ v. v.changes ≡ []) kept.kept.items (chains_untouched c.in_ok-chains.chains.items kept.kept.items kept.ensures.many kept.ensures.each)

pub returns-clause-count : goal.returns-clause-count
returns-clause-count c = c.in_ok-locked.ensures.locks ∙ c.in_ok-kept.ensures.many ∙ c.in_ok-chains.ensures.many

pub returns-clause-framed : goal.returns-clause-framed
returns-clause-framed c =
    let chains = c.in_ok-chains in
    let kept = c.in_ok-kept in
    let locked = c.in_ok-locked in
    chains_framed c.args.setup.now chains.chains.items kept.kept.items kept.ensures.many kept.ensures.each chains.ensures.empty locked.locked.0.items locked.ensures.locks locked.ensures.frames

pub returns-clause-dealt : goal.returns-clause-dealt
returns-clause-dealt c = c.in_ok-locked.ensures.dealt

pub returns-clause-many : goal.returns-clause-many
returns-clause-many c = c.in_ok-locked.ensures.many

pub returns-clause-rows : goal.returns-clause-rows
returns-clause-rows c = c.in_ok-locked.ensures.rows
