-- What is drawn of a run that was heard.
use Rattle.std.proofs.Common.{◌≡◌, ℕ, ◌^◌, ◌<◌, ◌≤◌, List, [], ◌∷◌, length, Option, Some, None, Result, Ok, Err, inl, inr, ap, ◌∙◌, subst, arith}
use Rattle.std.specs.Prelude.{◌⊎◌}
use Rattle.std.specs.List.{AllByRecursion}
use Rattle.sws_link.specs.Contents.{Puts}
use Rattle.sws_link.specs.declared.Put.{Put}
use Rattle.mely_history.specs.Setup.{shape_of}
use Rattle.mely_history.specs.declared.setup.Setup.{Setup}
use Rattle.mely_history.specs.declared.entry.Entry.{Entry}
use Rattle.mely_check.specs.Journals.{entries_in}
use Rattle.mely_check.specs.Hearing.{HearsRun}
use Rattle.mely_check.specs.Verdicts.{IsDrainedRun, Accepts, IsAcceptance}
use Rattle.mely_check.specs.declared.fault.CheckFault.{CheckFault}
use Rattle.mely_check.specs.declared.fault.CheckFault.TheVariants as check
use Rattle.mely_check.specs.declared.report.Report.{Report}
use Rattle.mely_picture.specs.Pictures.{picture}
use Rattle.mely_picture.specs.Drawings.{IsDrawn, AreDrawable, IsKept, IsPictureOf, Draws, DrawsTold, DrawsRuns, IsDrawing}
use Rattle.mely_picture.specs.Plots.{Keeps}
use Rattle.mely_picture.specs.declared.fault.DrawFault.{DrawFault}
use Rattle.mely_picture.specs.declared.fault.DrawFault.TheVariants.{Check}
use Rattle.mely_picture.specs.declared.drawer.Drawer.{Drawer}

entries_low : (histories : List (List Entry)) → entries_in histories < 2 ^ 32 → AllByRecursion (λ history. length history < 2 ^ 32) histories
entries_low [] low = tt
entries_low (history ∷ histories) low = (omega (arith, low), entries_low histories (omega (arith, low)))

-- the histories of a run can be drawn
run_drawable : (setup : Setup) (histories : List (List Entry)) (text : List ℕ) → (shape_of setup).shards ≤ 64 → IsDrainedRun setup histories text → AreDrawable histories
run_drawable setup histories text few run =
    let many = run.journal_of.fit.many in
    let all = run.journal_of.few in
    record {
      few = omega (arith, many, few);
      short = entries_low histories (omega (arith, all));
    }

-- the picture that was put is that of the run
pub drawn : (setup : Setup) (text : List ℕ) (before now : Option (List ℕ)) (put : Put) (drawer : Drawer) (bytes made : List ℕ) → IsKept setup text drawer → IsPictureOf drawer made → bytes ≡ made → Puts before now put bytes
    → IsDrawn setup text before now put
drawn setup text before now put drawer bytes made kept is_picture same puts =
    let histories = kept.run.histories in
    let run = kept.run.run in
    let is : made ≡ picture drawer.setup histories = is_picture histories kept.run.heard (run_drawable setup histories text setup.shards_in.1 run) in
    record {
      histories = histories;
      run = run;
      puts = subst (Puts before now put) (same ∙ is ∙ ap (λ s. picture s histories) kept.frame) puts;
    }

-- a run that was heard is drawn as the answer says
pub draws_ok : (told : Option (List ℕ)) (before now : Option (List ℕ)) (answer : Result (Unit {0}) DrawFault) (setup : Setup) (drawer : Drawer) (found : Result Report CheckFault) (report : Report) → found ≡ Ok report
    → HearsRun setup told (λ walk. Keeps walk drawer) found → drawer.setup ≡ setup → ((s : Setup) (text : List ℕ) → IsKept s text drawer → Draws s text before now answer) → DrawsTold setup told before now answer
draws_ok None before now answer setup drawer found report is heard frame draws = tt
draws_ok (Some text) before now answer setup drawer found report is heard frame draws =
    draws setup text (record { frame = frame; run = subst (HearsRun setup (Some text) (λ walk. Keeps walk drawer)) is heard })

-- a run is refused by a fault outside alone
pub runs_refused : (setup : Setup) (told : Option (List ℕ)) (found : Result Report CheckFault) (fault : CheckFault) → found ≡ Err fault → Accepts setup told found → DrawsRuns setup told (Err (Check fault))
runs_refused setup told found fault is accepts = λ text histories is_told run. drawing fault (subst IsAcceptance is (accepts text histories is_told run))
  where
    drawing : (f : CheckFault) → (f ≡ check.Read) ⊎ (f ≡ check.Memory) → IsDrawing (Err (Check f))
    drawing f (inl read) = inr (inl (ap Check read))
    drawing f (inr memory) = inr (inr (ap Check memory))
