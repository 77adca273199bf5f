-- The worked schedules on scripts.
use Rattle.std.proofs.Common.{◌≡◌, true, false, List, [], ◌∷◌, refl, sym, ap, subst, ◌∙◌}
use Rattle.sws_site.specs.Site.{SiteState}
use Rattle.sws_site.specs.Limits.{IsWithinLimits}
use Rattle.sws_steps.specs.ConnCore.{ConnCoreState}
use Rattle.sws_steps.specs.declared.Next.TheVariants as next
use Rattle.sws_steps.specs.Step.{after_parse}
use Rattle.sws_steps.specs.Sound.{core_before_open}
use Rattle.sws_steps.specs.declared.Handler.{Handler}
use Rattle.sws_steps.specs.declared.Handler.TheVariants as handler
use Rattle.sws_steps.specs.Path.{IsPathFrom}
use Rattle.sws_steps.specs.Protocol.{Cut}
use Rattle.sws_steps.specs.Logs.{Step, step_by, steps_along}
use Rattle.sws_steps.proofs.Runs.PathLemmas.{path-unique, path_of-path}
use Rattle.sws_conn.specs.Http.{http}
use Rattle.sws_conn.specs.HttpLaws.{http-orderly}
use Rattle.sws_conn.specs.Path.{path_of}
use Rattle.sws_conn.specs.Logs.{steps_of}
use Rattle.sws_weave.specs.ServerRun.{IsRunOfPaths}
use Rattle.sws_weave.specs.ServerRows.{two_cores, no_input, worked_histories, step, WorkedSchedules}
use Rattle.sws_weave.proofs.Model.SchedulesLemmas.{silent, worked, polled, logged}

-- the path of a connection without input
silent_path : (site : SiteState) → IsWithinLimits site.files → path_of site no_input ≡ handler.Open ∷ handler.Read ∷ handler.Parse ∷ handler.Close ∷ []
unfolding IsPathFrom
silent_path site limits =
    path-unique http http-orderly (record { standing = core_before_open site; script = no_input }) (path_of site no_input) (handler.Open ∷ handler.Read ∷ handler.Parse ∷ handler.Close ∷ [])
    (path_of-path http http-orderly site no_input limits) (refl, (refl, (refl, last)))
  where
    ended : ConnCoreState SiteState
    ended = record (core_before_open site) { input_ended = true; pending = next.Parse }

    last : IsPathFrom http (record { standing = after_parse http ended (http.cut []); script = no_input }) (handler.Close ∷ [])
    last = subst (λ found. IsPathFrom http (record { standing = after_parse http ended found; script = no_input }) (handler.Close ∷ [])) (sym http-orderly.nothing) (refl, refl)

-- and its steps: none of them is a write, so none gives a line
silent_steps : (site : SiteState) → IsWithinLimits site.files → steps_of site no_input ≡ silent
unfolding steps_along
silent_steps site limits = ap (λ (path : List Handler). steps_along http (record { standing = core_before_open site; script = no_input }) path) (silent_path site limits) ∙ by_cut
  where
    ended : ConnCoreState SiteState
    ended = record (core_before_open site) { input_ended = true; pending = next.Parse }

    -- the step of the close, by what the empty buffer is found to hold
    closing : Cut → Step
    closing found = step_by http (record { standing = after_parse http ended found; script = no_input }) handler.Close

    by_cut : steps_along http (record { standing = core_before_open site; script = no_input }) (handler.Open ∷ handler.Read ∷ handler.Parse ∷ handler.Close ∷ []) ≡ silent
    by_cut = ap (λ (found : Cut). step handler.Open false ∷ step handler.Read false ∷ step handler.Parse false ∷ closing found ∷ []) http-orderly.nothing

-- the worked schedules, for every site
pub schedules : (site : SiteState) → IsWithinLimits site.files → WorkedSchedules site
schedules site limits = record {
  worked = subst (λ (steps : List Step). IsRunOfPaths two_cores false (steps ∷ []) ((0, 6) ∷ (1, 12) ∷ []) worked_histories) (sym (silent_steps site limits)) worked;
  logged = logged;
  polled = polled;
}
