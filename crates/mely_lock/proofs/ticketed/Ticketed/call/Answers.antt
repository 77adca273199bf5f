use Rattle.std.proofs.Common.{◌≡◌, ℕ, List, sym, ap, ◌∙◌, subst}
use Rattle.std.specs.Borrow.{MutBor}
use Rattle.std.specs.Fn.{Once}
use Rattle.mely_lock.specs.Calling.{HasCalled}
use Rattle.mely_lock.specs.Seen.{OthersSince}
use Rattle.mely_lock.proofs.ticketed.Ticketed.call.Goals as goal

module _ {V N F C A T : Type 0} (history_of : V → List N) (pass_of : N → ℕ) (frame_of : V → F) (does : Once C (MutBor V × (A × (ℕ × Unit {0}))) (T × (MutBor V × Unit {0}))) (f : C) (given : A) (frame : F) (n by : ℕ) (before mid after : List N) (value : V) (x : MutBor V) (r : T × (MutBor V × Unit {0})) where
  has_called : x.now ≡ value → frame_of value ≡ frame → mid ≡ history_of value → OthersSince pass_of n before mid → by ≡ n → does.post f (x, (given, (by, tt))) r → after ≡ history_of r.1.0.now → HasCalled history_of pass_of frame_of does f given frame n before after r.0
  has_called shows framed whole others by_is did left = record {
    found = x;
    framed = ap frame_of shows ∙ framed;
    others = subst (OthersSince pass_of n before) (whole ∙ ap history_of (sym shows)) others;
    left = r.1.0;
    did = subst (λ k. does.post f (x, (given, (k, tt))) r) by_is did;
    seen = sym left;
  }

pub returns-clause-called : goal.returns-clause-called
returns-clause-called g c = has_called g.V.Kept.history_of g.V.Kept.pass_of g.V.Kept.frame_of g.F.FnOnce c.args.does c.args.given _ _ _ _ _ _ _ _ _ c.value.ensures.value c.enter-held.ensures.held.1 c.enter-held.ensures.seen c.enter-held.ensures.point (c.number.ensures ∙ c.enter-held.ensures.pass.2) c.does-answer.ensures c.leave.ensures.seen
