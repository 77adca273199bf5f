use Rattle.std.proofs.Common.{◌≡◌, ◌++◌, take, inr, refl, ◌∙◌}
use Rattle.sws_link.proofs.CountLemmas.{HasCause-none}
use Rattle.sws_top.specs.declared.faults.TopFault.TheVariants.{ReadFault, Memory}
use Rattle.sws_top.proofs.ScriptLemmas.{more_read}
use Rattle.sws_top.proofs.scripts.read_text.Goals as goal

-- there was no memory for the piece, which was read
pub returns-then-is_err-clause-stopped : goal.returns-then-is_err-clause-stopped
returns-then-is_err-clause-stopped g c =
    let faults = g.R.Source.faults in
    let left = g.R.Source.left in
    let stands : faults c.read.new.self ≡ faults c.args.source.now = c.in-Took.ensures.cause.stays (λ e. cc) ∙ c.pieces.invariant.1 in
    record {
      why = inr refl;
      cause = HasCause-none (faults c.args.source.now) (faults c.read.new.self) (Memory ≡ ReadFault) stands (λ e. cc);
      read = c.pieces.text.items ++ take c.in-Took.count c.read.new.into;
      front = more_read c.pieces.text.items (left c.args.source.now) (left c.pieces.source) (left c.read.new.self)
          c.read.new.into c.in-Took.count c.pieces.invariant.0 c.in-Took.ensures.bytes;
    }
