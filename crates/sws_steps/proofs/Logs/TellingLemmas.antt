-- What the calls of a connection leave of what it tells.
use Rattle.std.specs.Prelude.{IfOk, IfErr, Result, Ok, Err, ◌&&◌}
use Rattle.std.proofs.Common.{◌≡◌, Bool, true, false, [], ◌∷◌, Option, Some, None, refl, sym, ap, ◌∙◌, subst}
use Rattle.sws_link.specs.declared.Link.{Ghosts as LinkWords}
use Rattle.sws_steps.specs.Protocol.{Protocol, IsOrderly}
use Rattle.sws_steps.specs.declared.Next.{Next}
use Rattle.sws_steps.specs.declared.Next.TheVariants as next
use Rattle.sws_steps.specs.ConnCore.{ConnCoreState, ConnState, is_sent}
use Rattle.sws_steps.specs.Step.{Steps, StepsFrom, Opens}
use Rattle.sws_steps.specs.declared.Handler.TheVariants as handler
use Rattle.sws_steps.specs.Logs.{is_write, gives_line}
use Rattle.sws_steps.specs.Run.{RunsBy, HasRun}
use Rattle.sws_steps.specs.Talks.{talk_view, HasNoStep, OpensBy, OpensTalk}
use Rattle.sws_steps.specs.Told.{TalkState, IsTelling, HasRunTold}
use Rattle.sws_steps.proofs.Runs.TalkLemmas.{opens-talk}
use Rattle.sws_steps.proofs.Logs.ToldLemmas.{telling-none, told-run-start}

-- nothing is written where no step is due
writes-none : (pending : Next) → HasNoStep pending → is_write pending ≡ false
writes-none next.Open none = refl
writes-none next.Read none = absurd none
writes-none next.Parse none = absurd none
writes-none next.Look none = absurd none
writes-none next.Write none = absurd none
writes-none next.Wait none = absurd none
writes-none next.Close none = absurd none
writes-none next.Nothing none = refl

gives-none : (logs writes sent : Bool) → writes ≡ false → (logs && writes && sent) ≡ false
gives-none false writes sent e = refl
gives-none true writes sent e = ap (λ w. w && sent) e

module _ {Hall Answer : Type 0} (p : Protocol Hall Answer) (orderly : IsOrderly p) {L : Type 0} (x : LinkWords L) where
  -- a link that is handed back leaves all as it was
  pub opens-telling : (before after : TalkState Hall L) (link : L) (answer : Result Next L) → Opens before.conn link answer after.conn
      → IfOk answer (λ _. HasRun p x before.conn.standing.hall link [] after.conn) → IfErr answer (λ _. after ≡ before)
      → OpensTalk (λ (talk : TalkState Hall L). talk.conn.link) (λ (talk : TalkState Hall L). talk_view p talk.conn.standing) before link answer after
  opens-telling before after link answer opens run kept = by_link before.conn.link (opens-talk p orderly x before.conn after.conn link answer opens run)
    where
      by_link : (there : Option L) → OpensBy (λ (conn : ConnState Hall L). conn.link) (λ (conn : ConnState Hall L). talk_view p conn.standing) there before.conn link answer after.conn
          → OpensBy (λ (talk : TalkState Hall L). talk.conn.link) (λ (talk : TalkState Hall L). talk_view p talk.conn.standing) there before link answer after
      by_link None opened = opened
      by_link (Some there) (back, same) = (back, subst (λ a. IfErr a (λ _. after ≡ before)) back kept)

  -- one that was taken begins a run
  pub opened-told : (hall : Hall) (first : L) (answer : Result Next L) (after : TalkState Hall L) → IfOk answer (λ _. HasRun p x hall first [] after.conn)
      → IfOk answer (λ _. after.told ≡ false) → IfOk answer (λ _. HasRunTold p x first (handler.Open ∷ []) after)
  unfolding RunsBy
  opened-told hall first (Ok pending) after run none =
      told-run-start p orderly x first after
      ([], refl, subst (λ h. HasRun p x h first [] after.conn) (sym (ap (λ (conn : ConnState Hall L). conn.standing.hall) run.runs)) run) none
  opened-told hall first (Err link) after run none = tt

  -- where no step is due nothing changes
  pub steps-nothing : (before after : TalkState Hall L) → IsTelling p before → Steps p x before.conn after.conn
      → after.told ≡ gives_line p before.conn.standing after.conn.standing → HasNoStep before.conn.standing.pending → after ≡ before
  steps-nothing before after telling steps told none =
      let same = by_pending before.conn.standing.pending steps none in
      ap (λ (conn : ConnState Hall L). record { conn = conn; told = after.told }) same
      ∙ ap (λ (t : Bool). record { conn = before.conn; told = t })
      (told ∙ gives-none p.logs (is_write before.conn.standing.pending) (is_sent after.conn.standing.parts) (writes-none before.conn.standing.pending none)
      ∙ sym (telling-none p before telling none))
    where
      both : (after.conn.standing ≡ before.conn.standing) → (after.conn.link ≡ before.conn.link) → after.conn ≡ before.conn
      both standing link = ap (λ (s : ConnCoreState Hall). record { standing = s; link = after.conn.link }) standing ∙ ap (λ (l : Option L). record { standing = before.conn.standing; link = l }) link

      by_pending : (pending : Next) → StepsFrom p x before.conn.standing after.conn.standing pending before.conn.link after.conn.link → HasNoStep pending → after.conn ≡ before.conn
      by_pending next.Open done none = both done.0 done.1
      by_pending next.Read done none = absurd none
      by_pending next.Parse done none = absurd none
      by_pending next.Look done none = absurd none
      by_pending next.Write done none = absurd none
      by_pending next.Wait done none = absurd none
      by_pending next.Close done none = absurd none
      by_pending next.Nothing done none = both done.0 done.1
