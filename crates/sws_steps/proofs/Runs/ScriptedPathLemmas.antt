-- A step over a link that tells its script is the step of the scripted connection.
use Rattle.std.proofs.Common.{◌≡◌, ℕ, ◌+◌, List, ◌++◌, length, Option, Some, None, refl, sym, ap, ◌∙◌, subst, arith, length-take, take_all}
use Rattle.sws_link.specs.declared.Link.{Ghosts as LinkWords}
use Rattle.sws_link.specs.declared.LinkRead.{LinkRead}
use Rattle.sws_link.specs.declared.LinkRead.TheVariants as read
use Rattle.sws_link.specs.declared.LinkWrite.{LinkWrite}
use Rattle.sws_link.specs.declared.LinkWrite.TheVariants as write
use Rattle.sws_link.specs.Links.{LinkContents, LinkTakes, LinkPuts, TakesTold, PutsTold, ReadsAs, WritesAs, given_by}
use Rattle.sws_link.specs.Scripts.{Script, read_of, write_of}
use Rattle.sws_parts.specs.Parts.{front_of}
use Rattle.sws_steps.specs.Protocol.{Protocol}
use Rattle.sws_steps.specs.declared.Next.{Next}
use Rattle.sws_steps.specs.declared.Next.TheVariants as next
use Rattle.sws_steps.specs.ConnCore.{ConnCoreState, ConnState}
use Rattle.sws_steps.specs.Step.{StepsFrom, ReadsOnce, WritesOnce, room_of, after_read, after_parse, after_look, after_write}
use Rattle.sws_steps.specs.Sound.{IsLinked}
use Rattle.sws_steps.specs.declared.End.{End}
use Rattle.sws_steps.specs.declared.End.TheVariants as ending
use Rattle.sws_steps.specs.Path.{Scripted, scripted_at, scripted_step, Follows, FollowsBy, FollowsTold, FollowsScript, told_by_link}
use Rattle.sws_steps.specs.Outcome.{UnlessMemory}

unless_memory : (end : Option End) (Fact : Type 0) → Fact → UnlessMemory end Fact
unless_memory None Fact fact = fact
unless_memory (Some ending.Done) Fact fact = fact
unless_memory (Some ending.Idle) Fact fact = fact
unless_memory (Some ending.Fault) Fact fact = fact
unless_memory (Some ending.Memory) Fact fact = tt

module _ {Hall Answer : Type 0} (p : Protocol Hall Answer) where
  -- only the bytes that an answer gives count
  same_read : (c : ConnCoreState Hall) (answer : LinkRead) (into bytes : List ℕ) → given_by answer into ≡ bytes → after_read c answer into ≡ after_read c answer bytes
  same_read c (read.Took count) into bytes e =
      ap (λ b. record c { buffer = c.buffer ++ b; read = c.read + count; waits = 0; pending = next.Parse })
      (e ∙ sym (take_all count bytes (let long = ap length e in omega (arith, length-take count into))))
  same_read c read.End into bytes e = refl
  same_read c read.NotReady into bytes e = refl
  same_read c read.Failed into bytes e = refl

  module _ {L : Type 0} (x : LinkWords L) where
    read_follows : (c d : ConnCoreState Hall) (link now : L) (tells : LinkContents) (script : Script) → x.tells link ≡ Some tells → tells.to_come ≡ Some script
        → ReadsOnce p x c d link now → Follows (scripted_at p next.Read (record { standing = c; script = script })) d (x.tells now)
    read_follows c d link now tells script told to_come once =
        let takes : TakesTold tells (x.tells now) (room_of p c) once.answer once.into =
        subst (λ o. LinkTakes o (x.tells now) (room_of p c) once.answer once.into) told once.called.takes in
        let reads : ReadsAs (Some script) (room_of p c) once.answer once.into takes.after.to_come =
        subst (λ o. ReadsAs o (room_of p c) once.answer once.into takes.after.to_come) to_come takes.to_come in
        let said = read_of (room_of p c) script.items in
        record {
          after = takes.after;
          is = takes.is;
          to_come = reads.2;
          standing = once.becomes ∙ same_read c once.answer once.into said.bytes reads.1 ∙ ap (λ a. after_read c a said.bytes) reads.0;
        }

    write_follows : (c d : ConnCoreState Hall) (link now : L) (tells : LinkContents) (script : Script) → x.tells link ≡ Some tells → tells.to_come ≡ Some script
        → (once : WritesOnce x c d link now) → (once.answer ≡ write.Memory → ⊥) → Follows (scripted_at p next.Write (record { standing = c; script = script })) d (x.tells now)
    write_follows c d link now tells script told to_come once memory =
        let puts : PutsTold tells (x.tells now) once.answer (front_of c.parts) =
        subst (λ o. LinkPuts o (x.tells now) once.answer (front_of c.parts)) told once.called.puts in
        let writes : WritesAs (Some script) (length (front_of c.parts)) once.answer puts.after.to_come =
        subst (λ o. WritesAs o (length (front_of c.parts)) once.answer puts.after.to_come) to_come puts.to_come in
        let said = by_answer once.answer puts.after.to_come memory writes in
        record {
          after = puts.after;
          is = puts.is;
          to_come = said.1;
          standing = once.becomes ∙ ap (after_write c) said.0;
        }
      where
        by_answer : (answer : LinkWrite) (now : Option Script) → (answer ≡ write.Memory → ⊥) → WritesAs (Some script) (length (front_of c.parts)) answer now
            → (answer ≡ (write_of script (length (front_of c.parts))).answer) × (now ≡ Some (write_of script (length (front_of c.parts))).script)
        by_answer (write.Wrote count) now memory writes = writes
        by_answer write.NotReady now memory writes = writes
        by_answer write.Failed now memory writes = writes
        by_answer write.Memory now memory writes = absurd (memory refl)

    -- ---- whatever is pending

    -- a step without a call, over what the link tells
    still_follows : (c d : ConnCoreState Hall) (before now : Option LinkContents) → now ≡ before
        → ((script : Script) → scripted_step p (record { standing = c; script = script }) ≡ record { standing = d; script = script })
        → FollowsTold p before c d now
    still_follows c d None now e same = tt
    still_follows c d (Some tells) now e same = by_script tells.to_come refl
      where
        by_script : (to_come : Option Script) → tells.to_come ≡ to_come → FollowsBy p to_come c d now
        by_script None f = tt
        by_script (Some script) f = unless_memory d.end (Follows (scripted_step p (record { standing = c; script = script })) d now) (record {
          after = tells;
          is = e;
          to_come = f ∙ ap (λ (s : Scripted Hall). Some s.script) (sym (same script));
          standing = ap (λ (s : Scripted Hall). s.standing) (sym (same script));
        })

    read_told : (c d : ConnCoreState Hall) (link now : L) → c.pending ≡ next.Read → ReadsOnce p x c d link now → FollowsTold p (x.tells link) c d (x.tells now)
    read_told c d link now pending once = by_tells (x.tells link) refl
      where
        by_tells : (tells : Option LinkContents) → x.tells link ≡ tells → FollowsTold p tells c d (x.tells now)
        by_tells None e = tt
        by_tells (Some tells) e = by_script tells.to_come refl
          where
            by_script : (to_come : Option Script) → tells.to_come ≡ to_come → FollowsBy p to_come c d (x.tells now)
            by_script None f = tt
            by_script (Some script) f = unless_memory d.end (Follows (scripted_step p (record { standing = c; script = script })) d (x.tells now))
                (subst (λ stage. Follows (scripted_at p stage (record { standing = c; script = script })) d (x.tells now)) (sym pending)
                (read_follows c d link now tells script e f once))

    write_told : (c d : ConnCoreState Hall) (link now : L) → c.pending ≡ next.Write → WritesOnce x c d link now → FollowsTold p (x.tells link) c d (x.tells now)
    write_told c d link now pending once = by_tells (x.tells link) refl
      where
        by_tells : (tells : Option LinkContents) → x.tells link ≡ tells → FollowsTold p tells c d (x.tells now)
        by_tells None e = tt
        by_tells (Some tells) e = by_script tells.to_come refl
          where
            by_script : (to_come : Option Script) → tells.to_come ≡ to_come → FollowsBy p to_come c d (x.tells now)
            by_script None f = tt
            by_script (Some script) f = by_answer once.answer refl
              where
                Next : Type 0
                Next = Follows (scripted_step p (record { standing = c; script = script })) d (x.tells now)

                followed : (once.answer ≡ write.Memory → ⊥) → UnlessMemory d.end Next
                followed memory = unless_memory d.end Next
                    (subst (λ stage. Follows (scripted_at p stage (record { standing = c; script = script })) d (x.tells now)) (sym pending)
                    (write_follows c d link now tells script e f once memory))

                by_answer : (answer : LinkWrite) → once.answer ≡ answer → UnlessMemory d.end Next
                by_answer (write.Wrote count) g = followed (λ memory. let no : write.Wrote count ≡ write.Memory = sym g ∙ memory in cc)
                by_answer write.NotReady g = followed (λ memory. let no : write.NotReady ≡ write.Memory = sym g ∙ memory in cc)
                by_answer write.Failed g = followed (λ memory. let no : write.Failed ≡ write.Memory = sym g ∙ memory in cc)
                by_answer write.Memory g =
                    let end : d.end ≡ Some ending.Memory = ap (λ (s : ConnCoreState Hall). s.end) once.becomes ∙ ap (λ a. (after_write c a).end) g in
                    subst (λ e. UnlessMemory e Next) (sym end) tt

    pub step_follows : (before after : ConnState Hall L) → IsLinked before.standing.pending before.link
        → StepsFrom p x before.standing after.standing before.standing.pending before.link after.link → FollowsScript p x before after
    step_follows before after linked steps = by_pending c.pending refl before.link after.link linked steps
      where
        c : ConnCoreState Hall
        c = before.standing

        d : ConnCoreState Hall
        d = after.standing

        Over : Option L → Option L → Type 0
        Over link now = FollowsTold p (told_by_link x link) c d (told_by_link x now)

        moved : (link now : Option L) (standing : ConnCoreState Hall) → d ≡ standing → now ≡ link
            → ((script : Script) → scripted_step p (record { standing = c; script = script }) ≡ record { standing = standing; script = script }) → Over link now
        moved link now standing e f same = still_follows c d (told_by_link x link) (told_by_link x now) (ap (told_by_link x) f)
            (λ script. same script ∙ ap (λ s. record { standing = s; script = script }) (sym e))

        at : (stage : Next) → c.pending ≡ stage → (script : Script)
            → scripted_step p (record { standing = c; script = script }) ≡ scripted_at p stage (record { standing = c; script = script })
        at stage e script = ap (λ stage. scripted_at p stage (record { standing = c; script = script })) e

        by_pending : (stage : Next) → c.pending ≡ stage → (link now : Option L) → IsLinked stage link → StepsFrom p x c d stage link now → Over link now
        by_pending next.Open e link now linked steps = subst (λ o. Over o now) (sym linked) tt
        by_pending next.Read e (Some link) (Some now) linked once = read_told c d link now e once
        by_pending next.Read e (Some link) None linked once = absurd once
        by_pending next.Read e None now linked once = absurd once
        by_pending next.Parse e link now linked steps = moved link now (after_parse p c (p.cut c.buffer)) steps.0 steps.1 (at next.Parse e)
        by_pending next.Look e link now linked steps = moved link now (after_look p c (p.cut c.buffer)) steps.0 steps.1 (at next.Look e)
        by_pending next.Write e (Some link) (Some now) linked once = write_told c d link now e once
        by_pending next.Write e (Some link) None linked once = absurd once
        by_pending next.Write e None now linked once = absurd once
        by_pending next.Wait e link now linked steps = absurd steps
        by_pending next.Close e (Some link) (Some now) linked once = still_follows c d (x.tells link) (x.tells now) once.called.same
            (λ script. at next.Close e script ∙ ap (λ s. record { standing = s; script = script }) (sym once.becomes))
        by_pending next.Close e (Some link) None linked once = absurd once
        by_pending next.Close e None now linked once = absurd once
        by_pending next.Nothing e link now linked steps = moved link now c steps.0 steps.1 (at next.Nothing e)
