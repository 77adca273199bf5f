use Rattle.std.proofs.Common.{◌-◌, ◌≤◌, drop, length, sym, ap, ◌∙◌, subst, arith, take_all, length-drop}
use Rattle.std.proofs.lemmas.List.{drop-replicate}
use Rattle.std.specs.Prelude.{replicate}
use Rattle.sws_link.specs.LinkItems.{item_of}
use Rattle.sws_link.specs.ScriptReader.{Plays, size_of}
use Rattle.sws_link.proofs.ScriptReaderLemmas.{plays_piece}
use Rattle.sws_link.proofs.script_reader.play.Goals as goal

pub returns-in-Bytes : goal.returns-in-Bytes
returns-in-Bytes c =
    let bytes = c.in-Bytes.bytes.items in
    subst (λ i. Plays (item_of i) c.args.used (length c.args.into.now) c.give.result c.give.new.into) (sym c.in-Bytes.is)
    (plays_piece bytes _ c.give.new.into c.args.used (length c.args.into.now) c.give.result
    (take_all (length c.deref.result.now - c.args.used) (drop c.args.used c.deref.result.now) (omega (arith, length-drop c.args.used c.deref.result.now))
    ∙ ap (drop c.args.used) c.deref.ensures.value)
    (subst (λ i. c.args.used ≤ size_of (item_of i)) c.in-Bytes.is c.requires.used) c.requires.room c.give.ensures)

pub returns-in-Fill : goal.returns-in-Fill
returns-in-Fill c =
    subst (λ i. Plays (item_of i) c.args.used (length c.args.into.now) c.give_fill.result c.give_fill.new.into) (sym c.in-Fill.is)
    (plays_piece (replicate c.in-Fill.size 97) _ c.give_fill.new.into c.args.used (length c.args.into.now) c.give_fill.result
    (sym (drop-replicate c.args.used c.in-Fill.size 97)) (subst (λ i. c.args.used ≤ size_of (item_of i)) c.in-Fill.is c.requires.used) c.requires.room c.give_fill.ensures)
