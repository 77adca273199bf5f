use Rattle.std.proofs.Common.{inl, refl}
use Rattle.sws_request.specs.Cuts.{lines_of, head_lines, cut_of}
use Rattle.sws_request.proofs.scans.Scan.start.Goals as goal

pub returns-clause-stands : goal.returns-clause-stands
unfolding lines_of head_lines cut_of
returns-clause-stands c = record { at = refl; whole = inl refl; not_yet = refl; begun = refl }
