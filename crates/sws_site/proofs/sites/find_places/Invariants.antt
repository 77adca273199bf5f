use Rattle.std.proofs.Common.{◌≡◌, ◌≤◌, ℕ, List, length, drop}
use Rattle.sws_site.specs.Stored.{kept_place, place_from}
use Rattle.sws_site.proofs.sites.find_places.Given as goal

abbrev pub invariant-files : goal.invariant-files
invariant-files l = record {
  within : l.start ≤ length l.files;
  places : (name : List ℕ) → kept_place l.places name ≡ place_from l.start name (drop l.start l.files);
}

abbrev pub decreases-files : goal.decreases-files
decreases-files l = l.start
