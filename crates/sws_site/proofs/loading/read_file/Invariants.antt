use Rattle.std.proofs.Common.{◌≡◌, ◌-◌, vec_len, ◌+◌}
use Rattle.std.specs.Prelude.{IsTrue}
use Rattle.sws_site.specs.Steps.{HasRead}
use Rattle.sws_site.proofs.loading.read_file.Given as goal

abbrev pub invariant-pieces : goal.invariant-pieces
invariant-pieces g l = record {
  read : HasRead (g.F.Folder.tells l.fn.folder) (g.F.Folder.tells l.folder) l.bytes.items;
  at : IsTrue (g.F.Folder.at_file l.folder);
  same_faults : g.F.Folder.faults l.folder ≡ g.F.Folder.faults l.fn.folder;
}

abbrev pub decreases-pieces : goal.decreases-pieces
decreases-pieces g l = l.room + 1 - vec_len l.bytes
