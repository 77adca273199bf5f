-- A world whose links answer by scripts.
use Rattle.std.specs.Prelude.{◌≡◌, ℕ, Bool, IsTrue, List, Some, length, map, slice_get}
use Rattle.mely_history.specs.declared.shape.Shape.{Shape}
use Rattle.sws_link.specs.Scripts.{Script}
use Rattle.sws_link.specs.Worlds.{Coming}
use Rattle.sws_link.specs.declared.world.World.{Ghosts as WorldWords}
use Rattle.sws_site.specs.Site.{SiteState}
use Rattle.sws_handlers.specs.declared.ended.Ended.{Ended}
use Rattle.sws_handlers.specs.declared.ended.Verdict.TheVariants as verdict
use Rattle.sws_weave.specs.ServerRun.{IsServerRun}

-- nothing of the outside stands in the way of the world, and its links, of which none was
-- accepted, answer by these scripts
pub record TellsScripts {W L : Type 0} (x : WorldWords W L) (first : W)
    (scripts : List Script) : Type 0 where
  pub scripted : IsTrue (x.tells first).scripted
  pub many : (x.tells first).total ≡ length scripts
  pub coming : List Coming
  pub told : (x.tells first).coming ≡ Some coming
  pub each : (i : ℕ) (link : Coming) (script : Script) → slice_get coming i ≡ Some link
      → slice_get scripts i ≡ Some script → link.answers ≡ Some script

-- over such a world the histories at Ok are those of the server on these scripts, by the definition
-- of a run, and so no others
abbrev pub IsScheduled : {W L : Type 0} → WorldWords W L → SiteState → Shape → W
    → Bool → List (ℕ × ℕ) → Ended W L → Type 0
IsScheduled x site shape first log schedule ended =
    (scripts : List Script) → TellsScripts x first scripts → ended.verdict ≡ verdict.Ok
    → IsServerRun shape log site scripts schedule
    (map (λ history. history.items) ended.histories.items)
