-- What drawing a journal answers, and what was written then.
use Rattle.std.specs.Prelude.{◌≡◌, ◌⊎◌, ℕ, ◌^◌, ◌<◌, ◌≤◌, List, length, Option, Some, None, Result, Ok, Err, ⊤, MatchResult}
use Rattle.std.specs.List.{AllByRecursion}
use Rattle.sws_link.specs.declared.Put.{Put}
use Rattle.sws_link.specs.declared.Put.TheVariants as put
use Rattle.sws_link.specs.Contents.{Puts}
use Rattle.mely_history.specs.declared.setup.Setup.{Setup}
use Rattle.mely_history.specs.declared.entry.Entry.{Entry}
use Rattle.mely_check.specs.Hearing.{IsRunHeard}
use Rattle.mely_check.specs.Verdicts.{IsDrainedRun, Says}
use Rattle.mely_check.specs.declared.fault.CheckFault.TheVariants as check
use Rattle.mely_picture.specs.Pictures.{picture}
use Rattle.mely_picture.specs.Plots.{Keeps, KeepsAll}
use Rattle.mely_picture.specs.declared.drawer.Drawer.{Drawer}
use Rattle.mely_picture.specs.declared.fault.DrawFault.{DrawFault}
use Rattle.mely_picture.specs.declared.fault.DrawFault.TheVariants.{Check, Write}

-- the text is the journal of a legal and drained run, and this was put of its picture
pub record IsDrawn (setup : Setup) (text : List ℕ) (before now : Option (List ℕ))
    (put : Put) : Type 0 where
  pub histories : List (List Entry)
  pub run : IsDrainedRun setup histories text
  pub puts : Puts before now put (picture setup histories)

-- What an answer says of a text, and of what was written before and now: the whole picture of its
-- run, or a front of it where a write failed or memory was refused; and else nothing.
abbrev pub Draws : Setup → List ℕ → Option (List ℕ) → Option (List ℕ)
    → Result (Unit {0}) DrawFault → Type 0
Draws setup text before now (Ok _) = IsDrawn setup text before now put.Done
Draws setup text before now (Err (Check check.Memory)) = (now ≡ before)
    ⊎ IsDrawn setup text before now put.Memory
Draws setup text before now (Err (Check fault)) = (now ≡ before) × Says setup text (Err fault)
Draws setup text before now (Err Write) = IsDrawn setup text before now put.Failed

-- what it says where the text is told
abbrev pub DrawsTold : Setup → Option (List ℕ) → Option (List ℕ) → Option (List ℕ)
    → Result (Unit {0}) DrawFault → Type 0
DrawsTold setup None before now answer = ⊤
DrawsTold setup (Some text) before now answer = Draws setup text before now answer

-- it is drawn, but for a fault of source or sink or want of memory
abbrev pub IsDrawing : Result (Unit {0}) DrawFault → Type 0
IsDrawing answer = MatchResult answer (λ _. ⊤) (λ fault. (fault ≡ Write)
    ⊎ (fault ≡ Check check.Read) ⊎ (fault ≡ Check check.Memory))

-- where the text is told and is the journal of a legal and drained run, it is drawn
abbrev pub DrawsRuns : Setup → Option (List ℕ) → Result (Unit {0}) DrawFault → Type 0
DrawsRuns setup told answer =
    (text : List ℕ) (histories : List (List Entry)) → told ≡ Some text
    → IsDrainedRun setup histories text → IsDrawing answer

-- ---- within the crate

-- the most histories of which a picture is made, and the most entries of which it is as wide
abbrev pub text_limit : ℕ
text_limit = 65536

-- there are few histories, and no more entries in one than 32 bits can count
pub record AreDrawable (histories : List (List Entry)) : Type 0 where
  pub few : length histories ≤ 65536
  pub short : AllByRecursion (λ history. length history < 2 ^ 32) histories

-- the text is the journal of a legal and drained run, which the drawer has heard
pub record IsKept (setup : Setup) (text : List ℕ) (drawer : Drawer) : Type 0 where
  pub frame : drawer.setup ≡ setup
  pub run : IsRunHeard setup text (λ walk. Keeps walk drawer)

-- it is the picture of the histories that the drawer has heard
abbrev pub IsPictureOf : Drawer → List ℕ → Type 0
IsPictureOf drawer text = (histories : List (List Entry)) → KeepsAll histories drawer
    → AreDrawable histories → text ≡ picture drawer.setup histories
