use Rattle.std.proofs.Common.{List, [], ap, subst, sym}
use Rattle.std.specs.declared.snapshot.Snapshot.{Snapshot}
use Rattle.mely_note.specs.declared.note.Note.{Note}
use Rattle.mely_shard.specs.Shard.{ShardState, givens}
use Rattle.mely_kept.specs.Frames.{HaveFrame}
use Rattle.mely_note.specs.ShowsNotes.{ShowsNotes}
use Rattle.mely_note.specs.Notes.{Rise}
use Rattle.mely_note.proofs.ShowLemmas.{shows_first}
use Rattle.mely_note.proofs.StampLemmas.{rise-none}
use Rattle.mely_kept.proofs.kept_shard.KeptShard.new_or_back.Goals as goal

pub invariant_of-result : goal.invariant_of-result
invariant_of-result g c =
    let same = c.in-Ok.ensures.ok in
    let framed = subst (λ f. HaveFrame g.S.Trail.frame_of f (givens c.args.shard)) (ap (λ (s : Snapshot g.row.S.Denot). g.S.Trail.frame_of s.value) (sym c.of.ensures)) c.requires.framed in (
      subst (λ (has : ShardState g.row.S.Denot g.row.P.Denot). HaveFrame g.S.Trail.frame_of (g.S.Trail.frame_of c.of.result.value.value) (givens has)) (sym same) framed,
      subst (λ (ns : List (Note g.row.S.Denot g.row.P.Denot)). ShowsNotes c.in-Ok.shard.value ns) (sym c.new-in-Ok.ensures)
          (subst (λ (has : ShardState g.row.S.Denot g.row.P.Denot). ShowsNotes has []) (sym same) (shows_first c.args.shard c.requires.untouched)),
      subst (λ (ns : List (Note g.row.S.Denot g.row.P.Denot)). Rise ns) (sym c.new-in-Ok.ensures) rise-none,
    )
