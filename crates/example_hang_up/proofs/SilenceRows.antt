-- Worked rows of a connection that says nothing.
use Rattle.std.specs.Prelude.{◌≡◌, [], ◌∷◌, None, refl}
use Rattle.sws_link.specs.Scripts.{Script, piece}
use Rattle.sws_steps.specs.declared.End.TheVariants as ending
use Rattle.sws_steps.specs.Sound.{core_before_open}
use Rattle.sws_steps.specs.Outcome.{outcome_of}
use Rattle.sws_steps.specs.declared.Handler.TheVariants as handler
use Rattle.sws_steps.specs.Path.{IsPathFrom, path_of}
use Rattle.sws_steps.proofs.Runs.PathLemmas.{path-unique, path_of-path}
use Rattle.example_hang_up.specs.Silence.{silence}
use Rattle.example_hang_up.specs.SilenceLaws.{silence-orderly}

-- a link that gives one byte
abbrev one_byte : Script
one_byte = record { items = piece (7 ∷ []) ∷ []; step = None; cut = None }

-- the close follows the look at once, and nothing is written
silent-path : path_of silence tt one_byte ≡ handler.Open ∷ handler.Read ∷ handler.Parse ∷ handler.Look ∷ handler.Close ∷ []
unfolding IsPathFrom
silent-path = path-unique silence silence-orderly (record { standing = core_before_open tt; script = one_byte })
    (path_of silence tt one_byte) (handler.Open ∷ handler.Read ∷ handler.Parse ∷ handler.Look ∷ handler.Close ∷ [])
    (path_of-path silence silence-orderly tt one_byte tt) (refl, (refl, (refl, (refl, (refl, refl)))))

-- the outcome of it
silent-end : outcome_of silence tt one_byte ≡ record { bytes = []; end = ending.Done }
silent-end = refl
