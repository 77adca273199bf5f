use Rattle.std.proofs.Common.{◌≡◌, ◌≤◌, subst, length, List, [], Some, refl, arith}
use Rattle.std.proofs.lemmas.Option.{slice_get_read}
use Rattle.std.specs.Prelude.{slice_get}
use Rattle.mely_core.specs.CoreQueue.{CoreQueueState}
use Rattle.mely_weave.proofs.Runs.DrainLemmas.{each_more, each_below}
use Rattle.mely_weave.proofs.weave.Weave.are_all_empty.Goals as goal

pub loop-chain-init : goal.loop-chain-init
loop-chain-init g c k queue low at = absurd (omega (arith, low))

pub returns-then-not-is_empty : goal.returns-then-not-is_empty
returns-then-not-is_empty g c =
    let there : slice_get c.args.self.now.chains c.loop-chain.chain-index ≡ Some c.chain-item.result = rw (← c.self.view_is)
    (rw (← c.self-inside.view_is) (subst (λ (l : List CoreQueueState). slice_get l c.loop-chain.chain-index ≡ Some c.chain-item.result) c.deref-chain-items.ensures.value
    (slice_get_read c.deref-chain-items.result.now (length c.deref-chain-items.result.now) c.loop-chain.chain-index c.chain-item.result refl c.loop-chain-test.true c.chain-item.is))) in
    (λ none. cc, λ all. c.if-not-is_empty.ensures.value.1 (all c.loop-chain.chain-index c.chain-item.result there))

pub loop-chain-preserved : goal.loop-chain-preserved
loop-chain-preserved g c =
    let there : slice_get c.args.self.now.chains c.loop-chain.chain-index ≡ Some c.chain-item.result = rw (← c.self.view_is)
    (rw (← c.self-inside.view_is) (subst (λ (l : List CoreQueueState). slice_get l c.loop-chain.chain-index ≡ Some c.chain-item.result) c.deref-chain-items.ensures.value
    (slice_get_read c.deref-chain-items.result.now (length c.deref-chain-items.result.now) c.loop-chain.chain-index c.chain-item.result refl c.loop-chain-test.true c.chain-item.is))) in
    let empty : c.chain-item.result.chain ≡ [] = c.if-not-is_empty.ensures.value.0 refl in
    each_more (λ (queue : CoreQueueState). queue.chain ≡ []) c.args.self.now.chains c.loop-chain.chain-index c.chain-item.result there empty c.loop-chain.invariant

pub returns : goal.returns
returns g c =
    let all : length c.args.self.now.chains ≤ c.loop-chain.chain-index = rw (← c.self.view_is)
    (rw (← c.self-inside.view_is) (subst (λ (l : List CoreQueueState). length l ≤ c.loop-chain.chain-index) c.deref-chain-items.ensures.value c.loop-chain-test.false)) in
    (λ yes. each_below (λ (queue : CoreQueueState). queue.chain ≡ []) c.args.self.now.chains c.loop-chain.chain-index all c.loop-chain.invariant, λ empty. refl)
