-- `latest` makes a struct without bytes, with the latest stamp of what it is shown.
use Rattle.std.proofs.Common.{[], ◌++◌, ◌∷◌, List, refl}
use base.Logic.{SProp, ent}
use contract.Monad.{Fun}
use contract.Running.{tables, tables_of}
use denote.Builtin.{RefOf}
use denote.Exit.{yes}
use denote.Param.{bounded, param}
use denote.RattleType.{RattleType, owns}
use denote.Signature.{plain, types_at}
use denote.Steps.{nothing}
use denote.Triple.Clauses.{Clauses, Ended, closing}
use denote.Triple.Entry.{alive}
use denote.Triple.Spec.{Meets, triple_of}
use denote.Triple.Table.{entered}
use denote.Triple.Walked.{Goes-dropped, Stays, ends_at, says, stay_dropped, walk_Meets, walk_of}
use mir.MapTy.{inst_fn}
use mir.Syntax.{Args, Dict, Fn, a_type, dcons, dnil}
use mir.Val.{Val, vptr}
use prog.Memory.{Memory}
use prog.Routine.{Routine}
use prog.Wp.{Calls, Loops, Tables, WpFn}
use seplogic.Ra.Ura.{Ura}
use sound.WpLaws.{WpFn-mono}
use types.ByLocal.{alloc_all, free_all, get, look_at, pass_all, sets}
use types.Kit.{ !, ‵, ◌$◌, ◌∵◌, ◌⊛◌, done, drop, feq_l, fjoin, fsplit, keep, move, prop, qed, raw, regoal, split, suffices}
use types.Logic.{Logic}
use types.Part.{agg}
use types.Run.{and_then, enter, no_more, returns}
use Rattle.mely_note.proofs.MadeLemmas.{makes_stamp, no_bytes, stamp_of}
use Rattle.mely_note.proofs.stamp.Stamp.latest.Code as code
use Rattle.mely_note.proofs.stamp.Stamp.latest.Statement as stated
use Rattle.mely_note.specs.contracts.stamp.Stamp.latest as F
use Rattle.mely_note.specs.contracts.stamp.Stamp.latest.Key.{name as #self}
use Rattle.mely_note.specs.declared.stamp.Stamped.{Ghosts}

module _ (A : RattleType) (g : Ghosts A.Denot) (d : Dict) where
  abbrev args : Args
  args = bounded (a_type ∷ []) (A, tt) (dcons d dnil)

  abbrev function : Fn
  function = inst_fn args code.function

  abbrev ended : Ended
  ended = F.ended A g d

  abbrev stayed : Stays ended.signature.params ended.kept
  stayed = (stay_dropped (RefOf (0 ∷ []) tt (plain (λ _. param 0 A)) (λ _. tt)) yes, tt)

  module _ {M : Type 1} {𝓤 : Ura M} (𝓛 : Logic 𝓤) (at_mem : Memory → SProp 𝓤) (run : Routine → Fun 𝓤) where
    open 𝓛 use {H}

    abbrev held : Clauses 𝓤 ended
    held = F.clauses A g d 𝓛 at_mem run

    module _ (C : Calls 𝓤 H) (Λ : Loops 𝓤 H) (z : (walk_of 𝓛 ended stayed held).Ghost) where
      abbrev Post : Val → SProp 𝓤
      Post = (walk_of 𝓛 ended stayed held).post z

      walks : ent 𝓤 ((walk_of 𝓛 ended stayed held).pre z) (WpFn 𝓤 H C Λ function ((walk_of 𝓛 ended stayed held).args z) Post)
      walks =
          let a = z.0.3 in
          let number = g.latest_of a.0.now in
          let stamp = stamp_of number in
          let toks = alive 𝓛 ended.signature z.0.0 z.0.1 in
          let passed = owns (types_at ended.signature.params z.0.0) a z.0.4 in
          qed 𝓛 ((raw toks ⊛ ‵ passed) ∷ raw ((held z.0.0 a).requires z.1) ∷ []) ∵
          keep ! (0 ∷ []) $ split ! $ move ! (1 ∷ []) $
          fsplit ! $ fsplit ! $ feq_l ! (λ is. drop ! $ drop ! $
          let p = vptr a.0.ref_ptr.0 a.0.ref_ptr.1 in
          regoal ! (λ (us : List Val). prop (WpFn 𝓤 H C Λ function (us ++ []) Post)) is refl $
          enter ! C Λ function (p ∷ []) Post $ alloc_all ! (λ l. pass_all ! refl ((tt, tt), tt) $
          sets ! (agg ! (no_more !)) refl (tt, tt) $
          sets ! (agg ! (and_then ! (get ! refl) (no_more !))) refl (tt, (tt, tt)) $
          returns ! (look_at ! 0 refl) $ free_all ! refl $ makes_stamp ! number $
          suffices ! _ (ends_at 𝓛 ended stayed held z no_bytes stamp (tt, tt) (tt, tt)) $ says ! refl $
          nothing ! $ nothing ! $ fjoin ! $ move ! (2 ∷ 0 ∷ 1 ∷ []) $ done !))

    meets : (𝓣 : Tables 𝓤 H) → Meets 𝓛 ended.signature (WpFn 𝓤 H 𝓣.C 𝓣.Λ function) (closing 𝓛 ended held)
    meets 𝓣 =
        walk_Meets 𝓛 ended stayed (Goes-dropped 𝓛 2 (RefOf (0 ∷ []) tt (plain (λ _. param 0 A)) (λ _. tt)) yes (λ κs x f. refl), tt) held
        (WpFn 𝓤 H 𝓣.C 𝓣.Λ function) (WpFn-mono 𝓤 H 𝓛.laws 𝓣 function) (walks 𝓣.C 𝓣.Λ)

pub latest_spec : {M : Type 1} → stated.statement M
unfolding tables_of
latest_spec 𝓤 𝓛 𝓜 𝓡 wired A _ g d _ =
    let 𝓣 : Tables 𝓤 𝓛.H = tables_of 𝓤 𝓛.H 𝓜 (tables 𝓤 𝓛.H 𝓜 𝓡 𝓡.env) in
    entered 𝓤 𝓛.H (triple_of 𝓛 (ended A g d).signature (closing 𝓛 (ended A g d) (held A g d 𝓛 𝓜.mem 𝓡.returns))) 𝓣.C 𝓣.Λ (#self (args A g d)) (function A g d)
    (code.unfolded 𝓤 𝓛.H 𝓜 𝓡 wired (A, tt) d) (meets A g d 𝓛 𝓜.mem 𝓡.returns 𝓣)
