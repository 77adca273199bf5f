use Rattle.std.proofs.Common.{◌≡◌, Bool, true, false, ◌&&◌, refl, subst, ap, ◌∙◌, Some}
use Rattle.sws_request.proofs.CuttingLemmas.{IsScanned, IsNextLine-found, IsScanned-last, IsScanned-more, IsFound-none, is_empty-test}
use Rattle.sws_request.proofs.head.find_end.Goals as goal
use Rattle.sws_request.proofs.head.find_end.Goals.{else-is_empty-via-then-is_empty+else-begun, else-is_empty-via-else-is_empty}

and-false : (b : Bool) → (b && false) ≡ false
and-false true = refl
and-false false = refl

pub returns-then-begun-clause-found : goal.returns-then-begun-clause-found
returns-then-begun-clause-found c =
    let bytes = c.args.bytes.now in
    let start = c.loop-feed.start in
    let found = IsNextLine-found bytes start c.in-Some.feed c.loop-feed.invariant.within c.in-Some.ensures in
    IsScanned-last bytes c.args.begun start _ (subst (IsScanned bytes c.args.begun start) c.if-begun.true c.loop-feed.invariant)
    found.0 (is_empty-test _ c.is_empty_line-is_empty.result c.is_empty_line-is_empty.ensures ∙ c.if-is_empty.true) ∙ ap Some found.1

pub loop-feed-preserved : goal.loop-feed-preserved
loop-feed-preserved c =
    let found = IsNextLine-found c.args.bytes.now c.loop-feed.start c.in-Some.feed c.loop-feed.invariant.within c.in-Some.ensures in
    IsScanned-more c.args.bytes.now c.args.begun c.loop-feed.start c.in-Some.feed c.loop-feed.begun c.is_empty_line-is_empty.result c.loop-feed.invariant
    found c.is_empty_line-is_empty.ensures (elim c.else-is_empty.branch [
      | else-is_empty-via-then-is_empty+else-begun w ↦ ap (λ b. b && c.is_empty_line-is_empty.result) w.if-begun.false
      | else-is_empty-via-else-is_empty w ↦ ap (λ e. c.loop-feed.begun && e) w.if-is_empty.false ∙ and-false c.loop-feed.begun
    ])

pub returns-clause-found : goal.returns-clause-found
returns-clause-found c = IsFound-none c.args.bytes.now c.args.begun c.loop-feed.start c.loop-feed.begun c.loop-feed.invariant c.in_default.ensures
