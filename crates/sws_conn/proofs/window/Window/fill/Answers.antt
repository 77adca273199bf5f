use Rattle.std.proofs.Common.{◌≡◌, ◌+◌, ◌++◌, length, drop, refl, sym, ap, ◌∙◌, append-nil, arith}
use Rattle.sws_conn.proofs.WindowLemmas.{HoldsBytes, refilled, holds-still, holds-moved, holds-grown, holds-nothing, nothing_given}
use Rattle.sws_conn.proofs.window.Window.fill.Goals as goal
use Rattle.sws_conn.proofs.window.Window.fill.Goals.{then-self-most, else-self-most}

pub returns-in-Took-clause-fills : goal.returns-in-Took-clause-fills
returns-in-Took-clause-fills g c =
    let old = c.args.self.now in
    let window = c.if-self-most.self-inside in
    let holds : HoldsBytes old window = elim c.if-self-most.branch [
      | then-self-most w ↦ holds-moved old c.self.inside window _ c.self.invariant c.self.view_is w.copy_within.ensures.items refl refl w.self-inside-is
      | else-self-most w ↦ holds-still old c.self.inside window c.self.invariant c.self.view_is w.self-inside-is
    ] in
    let reads = c.in-Took.ensures.reads in
    let before = c.deref_mut.result.now in
    let room = c.read_at-answer.new.room in
    let long : length room ≡ window.room.len = c.read_at-answer.auto.room ∙ c.deref_mut.ensures.len in
    record {
      into = reads.into;
      called = reads.called;
      grown = refilled room (drop (length room) window.room.items) window.start (window.end + c.in-Took.count) window.room.len long
          ∙ holds-grown old reads.into before (drop (window.end + c.args.most) before) room window c.in-Took.count holds c.deref_mut.ensures.value
          (let size = reads.called.size in let fits = reads.called.fits.1 in omega arith) reads.room;
    }

pub returns-in_default : goal.returns-in_default
returns-in_default g c =
    let old = c.args.self.now in
    let window = c.if-self-most.self-inside in
    let holds : HoldsBytes old window = elim c.if-self-most.branch [
      | then-self-most w ↦ holds-moved old c.self.inside window _ c.self.invariant c.self.view_is w.copy_within.ensures.items refl refl w.self-inside-is
      | else-self-most w ↦ holds-still old c.self.inside window c.self.invariant c.self.view_is w.self-inside-is
    ] in
    let reads = c.read_at-answer.ensures.reads in
    let before = c.deref_mut.result.now in
    let room = c.read_at-answer.new.room in
    let long : length room ≡ window.room.len = c.read_at-answer.auto.room ∙ c.deref_mut.ensures.len in
    record {
      fills = record {
        into = reads.into;
        called = reads.called;
        grown = refilled room (drop (length room) window.room.items) window.start window.end window.room.len long
            ∙ holds-nothing old reads.into before (drop (window.end + c.args.most) before) room window holds c.deref_mut.ensures.value reads.room
            ∙ sym (append-nil old) ∙ ap (λ l. old ++ l) (sym (nothing_given c.read_at-answer.result reads.into c.in_default.not-Took));
      };
      since = c.read_at-answer.ensures.since;
    }
