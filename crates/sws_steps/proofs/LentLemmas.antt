-- What a box lends is what it keeps.
use Rattle.std.proofs.Common.{◌≡◌, Bool, Option, sym, subst}
use Rattle.sws_link.specs.declared.Link.{Ghosts as LinkWords}
use Rattle.sws_steps.specs.declared.speech.Speech.{Ghosts as SpeechWords}
use Rattle.sws_steps.specs.declared.conn_core.ConnCore.{ConnCore}
use Rattle.sws_steps.specs.ConnCoreFields.{state_of}
use Rattle.sws_steps.specs.Told.{TalkState, IsSoundTelling}

module _ {S G C L : Type 0} (y : SpeechWords S G C) (lent kept : ConnCore S) (link : Option L) (told : Bool) (same : lent ≡ kept) where
  -- the connection with this core
  abbrev pub talk_with : ConnCore S → TalkState C L
  talk_with core = record { conn = record { standing = state_of y core; link = link }; told = told }

  pub sound-lent : (x : LinkWords L) → IsSoundTelling y.protocol x (talk_with kept) → IsSoundTelling y.protocol x (talk_with lent)
  sound-lent x sound = subst (λ (t : ConnCore S). IsSoundTelling y.protocol x (talk_with t)) (sym same) sound

  pub view-lent : (view : TalkState C L) → talk_with kept ≡ view → talk_with lent ≡ view
  view-lent view is = subst (λ (t : ConnCore S). talk_with t ≡ view) (sym same) is
