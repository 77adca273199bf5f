use Rattle.std.proofs.Common.{◌≤◌, length, drop}
use Rattle.sws_gopher.specs.Halls.{KeepsTexts}
use Rattle.sws_gopher.proofs.preparing.prepare_texts.Given as goal

abbrev pub invariant-files : goal.invariant-files
invariant-files l = record {
  within : l.start ≤ length l.site.files;
  texts : KeepsTexts (drop l.start l.site.files) l.texts;
}

abbrev pub decreases-files : goal.decreases-files
decreases-files l = l.start
