use Rattle.std.specs.Prelude.{◌∷◌, [], Some}
use Rattle.std.proofs.Common.{ap, refl, subst, sym}
use Rattle.sws_steps.specs.declared.Next.{Next}
use Rattle.sws_steps.specs.declared.Next.TheVariants as next
use Rattle.sws_steps.specs.ConnCore.{ConnCoreState, ConnState}
use Rattle.sws_steps.specs.Step.{going_to}
use Rattle.sws_steps.specs.ConnCoreFields.{state_of}
use Rattle.sws_steps.specs.declared.Handler.TheVariants as handler
use Rattle.sws_steps.specs.Path.{known_rest, known_path, TakesOff}
use Rattle.sws_steps.specs.Run.{HasRun}
use Rattle.sws_steps.specs.Talks.{HasNoStep}
use Rattle.sws_steps.specs.Told.{TalkState}
use Rattle.sws_steps.proofs.LentLemmas.{sound-lent, view-lent, talk_with}
use Rattle.sws_steps.proofs.Runs.PathLemmas.{opens-path, not_opened}
use Rattle.sws_steps.proofs.Runs.RunLemmas.{opens-sound, run-start}
use Rattle.sws_steps.proofs.Logs.ToldLemmas.{telling-none, untold-telling}
use Rattle.sws_steps.proofs.conn.SpeechConn.open.Goals as goal

pub returns-clause-path : goal.returns-clause-path
returns-clause-path g c =
    let p = g.S.Speech.protocol in
    let before = state_of g.S.Speech c.deref_mut.result.now in
    let sound = (sound-lent g.S.Speech c.deref_mut.result.now c.self.inside.core.value c.self.inside.link c.self.inside.told c.deref_mut.ensures.value g.L.Link c.self.invariant).sound in
    let after : ConnState g.row.S-Contents.Denot g.row.L.Denot = record { standing = going_to before next.Read; link = Some c.args.link } in
    subst (λ (k : TalkState g.row.S-Contents.Denot g.row.L.Denot). TakesOff (handler.Open ∷ []) (known_path p k.conn.standing.hall (g.L.Link.tells c.args.link)) (known_rest p g.L.Link after))
    (view-lent g.S.Speech c.deref_mut.result.now c.self.inside.core.value c.self.inside.link c.self.inside.told c.deref_mut.ensures.value c.args.self.now c.self.view_is)
    (opens-path p g.met.S.Speech.orderly g.L.Link before c.self.inside.link c.args.link sound.ready sound.linked c.if-is_some.ensures)

pub returns-clause-told : goal.returns-clause-told
returns-clause-told g c =
    let p = g.S.Speech.protocol in
    let before = state_of g.S.Speech c.deref_mut.result.now in
    let kept = sound-lent g.S.Speech c.deref_mut.result.now c.self.inside.core.value c.self.inside.link c.self.inside.told c.deref_mut.ensures.value g.L.Link c.self.invariant in
    let initial = not_opened p g.met.S.Speech.orderly before c.self.inside.link kept.sound.ready kept.sound.linked c.if-is_some.ensures in
    telling-none p (talk_with g.S.Speech c.deref_mut.result.now c.self.inside.core.value c.self.inside.link c.self.inside.told c.deref_mut.ensures.value c.deref_mut.result.now) kept.telling
    (subst (λ (n : Next). HasNoStep n) (sym (ap (λ (s : ConnCoreState g.row.S-Contents.Denot). s.pending) initial)) tt)

pub invariant_of-self : goal.invariant_of-self
invariant_of-self g c =
    let p = g.S.Speech.protocol in
    let before = state_of g.S.Speech c.deref_mut.result.now in
    let kept = sound-lent g.S.Speech c.deref_mut.result.now c.self.inside.core.value c.self.inside.link c.self.inside.told c.deref_mut.ensures.value g.L.Link c.self.invariant in
    let initial = not_opened p g.met.S.Speech.orderly before c.self.inside.link kept.sound.ready kept.sound.linked c.if-is_some.ensures in
    record {
      sound = opens-sound p g.met.S.Speech.orderly g.L.Link before.hall c.args.link
          (record { standing = before; link = c.self.inside.link }) refl kept.sound c.if-is_some.ensures c.requires.initial c.requires.not_shut;
      telling = untold-telling p {L = g.row.L.Denot} (record { conn = record { standing = going_to before next.Read; link = Some c.args.link }; told = c.self.inside.told }) (telling-none p (talk_with g.S.Speech c.deref_mut.result.now c.self.inside.core.value c.self.inside.link c.self.inside.told c.deref_mut.ensures.value c.deref_mut.result.now) kept.telling
          (subst (λ (n : Next). HasNoStep n) (sym (ap (λ (s : ConnCoreState g.row.S-Contents.Denot). s.pending) initial)) tt));
    }

pub returns-clause-sound : goal.returns-clause-sound
returns-clause-sound g c =
    let before = state_of g.S.Speech c.deref_mut.result.now in
    opens-sound g.S.Speech.protocol g.met.S.Speech.orderly g.L.Link before.hall c.args.link
    (record { standing = before; link = c.self.inside.link }) refl (sound-lent g.S.Speech c.deref_mut.result.now c.self.inside.core.value c.self.inside.link c.self.inside.told c.deref_mut.ensures.value g.L.Link c.self.invariant).sound c.if-is_some.ensures c.requires.initial c.requires.not_shut

pub returns-clause-run : goal.returns-clause-run
returns-clause-run g c =
    let p = g.S.Speech.protocol in
    let before = state_of g.S.Speech c.deref_mut.result.now in
    let sound = (sound-lent g.S.Speech c.deref_mut.result.now c.self.inside.core.value c.self.inside.link c.self.inside.told c.deref_mut.ensures.value g.L.Link c.self.invariant).sound in
    let initial = not_opened p g.met.S.Speech.orderly before c.self.inside.link sound.ready sound.linked c.if-is_some.ensures in
    subst (λ (k : TalkState g.row.S-Contents.Denot g.row.L.Denot). HasRun p g.L.Link k.conn.standing.hall c.args.link [] (record { standing = going_to before next.Read; link = Some c.args.link }))
    (view-lent g.S.Speech c.deref_mut.result.now c.self.inside.core.value c.self.inside.link c.self.inside.told c.deref_mut.ensures.value c.args.self.now c.self.view_is)
    (subst (λ (s : ConnCoreState g.row.S-Contents.Denot). HasRun p g.L.Link before.hall c.args.link [] (record { standing = going_to s next.Read; link = Some c.args.link })) (sym initial)
    (run-start p g.met.S.Speech.orderly g.L.Link before.hall c.args.link sound.progress.limits c.requires.initial c.requires.not_shut))
