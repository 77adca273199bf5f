-- A world whose links answer by scripts tells the steps of their paths.
use Rattle.std.proofs.Common.{◌≡◌, List, Option, Some, map, sym, ap, ◌∙◌}
use Rattle.std.specs.Prelude.{option_map}
use Rattle.std.proofs.lemmas.List.{length-map}
use Rattle.sws_link.specs.Scripts.{Script}
use Rattle.sws_link.specs.declared.Link.{Ghosts as LinkWords}
use Rattle.sws_link.specs.declared.world.World.{Ghosts as WorldWords}
use Rattle.sws_steps.specs.declared.talk.Talk.{Ghosts as TalkWords}
use Rattle.sws_steps.specs.Logs.{Step}
use Rattle.mely_run.proofs.Lists.ElementsLemmas.{get_map_back}
use Rattle.sws_handlers.specs.PathStates.{TellsPaths}
use Rattle.sws_weave.specs.Scripted.{TellsScripts}

pub scripts_tell : {W L T G H : Type 0} (x : WorldWords W L) (l : LinkWords L) (y : TalkWords T L G H) (hall : H) (steps : Script → List Step) → ((script : Script) → y.steps hall script ≡ steps script)
    → (first : W) (scripts : List Script) → TellsScripts x first scripts → TellsPaths x l y hall first (map steps scripts)
scripts_tell x l y hall steps same first scripts tells = record {
  scripted = tells.scripted;
  many = tells.many ∙ sym (length-map scripts steps);
  coming = tells.coming;
  told = tells.told;
  each = λ i link way there at.
      let script = get_map_back steps scripts i way at in
      ap (λ (o : Option Script). option_map (y.steps hall) o) (tells.each i link script.0 there script.1) ∙ ap (λ (p : List Step). Some p) (same script.0 ∙ script.2);
}
