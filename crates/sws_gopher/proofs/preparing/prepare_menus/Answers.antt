use Rattle.std.proofs.Common.{◌+◌, sym, ap, ◌∙◌, arith}
use Rattle.std.specs.Prelude.{option_map, slice_get}
use Rattle.sws_site.specs.Files.{File}
use Rattle.sws_gopher.specs.Menus.{Place}
use Rattle.sws_gopher.proofs.KeyLemmas.{files-more}
use Rattle.sws_gopher.proofs.preparing.prepare_menus.Goals as goal

pub files-preserved : goal.files-preserved
files-preserved c = files-more c.args.at.now c.args.at.now.files c.files.i (c.files.i + 1) c.name_at.result.now c.files.menus c.add_menus_along.new.menus
    (ap (λ (p : Place). option_map (λ (file : File). file.0) (slice_get p.files c.files.i)) (sym c.at.view_is) ∙ c.name_at.ensures) (omega arith) c.files.invariant c.in_ok-add_menus_along.ensures.adds
