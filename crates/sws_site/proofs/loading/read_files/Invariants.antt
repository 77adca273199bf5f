use Rattle.std.proofs.Common.{◌≡◌, ◌+◌, ◌-◌, length}
use Rattle.sws_site.specs.Limits.{IsWithinOptions, bytes_of, most_bytes, most_files}
use Rattle.sws_site.specs.Loading.{IsSameFolder}
use Rattle.sws_site.specs.Steps.{HasLoaded}
use Rattle.sws_site.specs.Stored.{files_of, AllHaveHeads}
use Rattle.sws_site.proofs.loading.read_files.Given as goal

abbrev pub invariant-files : goal.invariant-files
invariant-files g l = record {
  loaded : HasLoaded l.options (g.F.Folder.tells l.fn.folder) (g.F.Folder.tells l.folder) (files_of l.files.items);
  limits : IsWithinOptions l.options (files_of l.files.items);
  room : bytes_of (files_of l.files.items) + l.room ≡ most_bytes l.options;
  heads : AllHaveHeads l.options l.date l.files.items;
  same : IsSameFolder (g.F.Folder.tells l.fn.folder) (g.F.Folder.tells l.folder);
  same_faults : g.F.Folder.faults l.folder ≡ g.F.Folder.faults l.fn.folder;
}

abbrev pub decreases-files : goal.decreases-files
decreases-files g l = most_files l.options - length l.files.items
