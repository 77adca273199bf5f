-- Which histories a run of the server leaves, where its world is scripted.
use Rattle.std.specs.Prelude.{◌≡◌, ℕ, Bool, List, map}
use Rattle.mely_history.specs.declared.shape.Shape.{Shape}
use Rattle.sws_link.specs.declared.Link.{Ghosts as LinkWords}
use Rattle.sws_link.specs.declared.world.World.{Ghosts as WorldWords}
use Rattle.sws_steps.specs.declared.talk.Talk.{Ghosts as TalkWords}
use Rattle.sws_steps.specs.Logs.{Step}
use Rattle.sws_handlers.specs.declared.ended.Ended.{Ended}
use Rattle.sws_handlers.specs.declared.ended.Verdict.TheVariants as verdict
use Rattle.sws_handlers.specs.PathStates.{TellsPaths}
use Rattle.sws_weave.specs.Openings.{AreOpened}
use Rattle.sws_weave.specs.ServerRun.{IsRunOfPaths}

-- where the world is scripted and each path of its links opens once, the histories at Ok are those
-- of the definition of a run, by this shape and this schedule, and so no others
abbrev pub IsModelled : {W L T G H : Type 0} → WorldWords W L → LinkWords L → TalkWords T L G H → H
    → Shape → W → Bool → List (ℕ × ℕ) → Ended W L → Type 0
IsModelled x l y hall shape first log schedule ended =
    (paths : List (List Step)) → TellsPaths x l y hall first paths → AreOpened paths
    → ended.verdict ≡ verdict.Ok
    → IsRunOfPaths shape log paths schedule (map (λ history. history.items) ended.histories.items)
