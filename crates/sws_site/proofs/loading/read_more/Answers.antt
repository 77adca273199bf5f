use Rattle.std.proofs.Common.{arith, ◌∙◌, ◌+◌}
use Rattle.sws_site.proofs.LoadLemmas.{read_behind, room_behind, HasReadMore-took}
use Rattle.sws_site.proofs.loading.read_more.Goals as goal

pub returns-in-Took-clause-reads : goal.returns-in-Took-clause-reads
returns-in-Took-clause-reads g c =
    HasReadMore-took (g.F.Folder.tells c.args.folder.now) (g.F.Folder.tells c.read-got.new.self) c.read-got.result c.in-Took.count c.read-got.new.into
    c.args.bytes.now.items c.truncate.new.self.items c.in-Took.is c.read-got.ensures.bytes (omega (arith, c.in-Took.ensures.within))
    (omega (arith, c.in-Took.ensures.within))
    (c.truncate.ensures.items ∙ read_behind c.args.bytes.now.items c.resize.new.self.items c.deref_mut.result.now c.read-got.new.into _ _
    c.len-filled.result c.in-Took.count c.resize.new.self.len c.deref_mut.ensures.value (omega arith)
    (room_behind c.args.bytes.now.items c.resize.new.self.items _ c.len-filled.result (c.len-filled.result + c.next_piece-piece.result) c.in_ok-resize.ensures.items (omega arith) (omega arith))
    (omega (arith, c.in-Took.ensures.within)) (omega (arith, c.in-Took.ensures.within)))
