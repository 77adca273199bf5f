use Rattle.std.proofs.Common.{rules, ◌≡◌, false, None, refl, subst, sym}
use Rattle.sws_steps.specs.ConnCore.{ConnCoreState}
use Rattle.sws_steps.specs.ConnCoreFields.{state_of}
use Rattle.sws_steps.specs.Sound.{IsSound, core_before_open}
use Rattle.sws_steps.proofs.Runs.RunLemmas.{unopened-sound}
use Rattle.sws_steps.proofs.Logs.ToldLemmas.{untold-telling}
use Rattle.sws_steps.proofs.conn.SpeechConn.new.Goals as goal

pub invariant_of-result : goal.invariant_of-result
invariant_of-result g c =
    let is : state_of g.S.Speech c.in_ok-new.field-0.value ≡ core_before_open (g.S.Speech.contents_of c.args.hall) = search rules in
    record {
      sound = subst (λ (s : ConnCoreState g.row.S-Contents.Denot). IsSound g.S.Speech.protocol g.L.Link (record { standing = s; link = None })) (sym is)
          (unopened-sound g.S.Speech.protocol g.met.S.Speech.orderly g.L.Link (g.S.Speech.contents_of c.args.hall) c.in_ok-make.ensures.known);
      telling = untold-telling g.S.Speech.protocol {L = g.row.L.Denot} (record { conn = record { standing = state_of g.S.Speech c.in_ok-new.field-0.value; link = None }; told = false }) refl;
    }

pub returns-clause-sound : goal.returns-clause-sound
returns-clause-sound g c =
    let is : state_of g.S.Speech c.in_ok-new.field-0.value ≡ core_before_open (g.S.Speech.contents_of c.args.hall) = search rules in
    subst (λ (s : ConnCoreState g.row.S-Contents.Denot). IsSound g.S.Speech.protocol g.L.Link (record { standing = s; link = None })) (sym is)
    (unopened-sound g.S.Speech.protocol g.met.S.Speech.orderly g.L.Link (g.S.Speech.contents_of c.args.hall) c.in_ok-make.ensures.known)
