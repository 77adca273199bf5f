use Rattle.std.proofs.Common.{◌≡◌, ◌∷◌, [], ◌++◌, refl, codes}
use Rattle.mely_picture.specs.Texts.{numbered}
use Rattle.mely_picture.specs.Layout.{row_top}
use Rattle.mely_picture.specs.BucketTexts.{columns_text}
use Rattle.mely_picture.specs.Plots.{cells_at}
use Rattle.mely_picture.proofs.ListLemmas.{start, put, join}
use Rattle.mely_picture.proofs.bucket.push_core.Goals as goal

pub returns : goal.returns
returns c =
    let old = c.args.text.now.items in
    let p1 : c.push_numbered.new.text.items ≡ old ++ (numbered (codes "<svg x='76' y='") (row_top c.args.top c.args.core)) = start old c.push_numbered.new.text.items (codes "<svg x='76' y='") (c.row_top.result) (row_top c.args.top c.args.core) (c.row_top.ensures.value) c.in_ok-push_numbered.ensures in
    let p2 : c.push_numbered-2.new.text.items ≡ old ++ (numbered (codes "<svg x='76' y='") (row_top c.args.top c.args.core) ++ numbered (codes "' width='896' height='32' viewBox='0 0 128 ") (c.args.scale.now.width)) = put old c.push_numbered.new.text.items c.push_numbered-2.new.text.items (numbered (codes "<svg x='76' y='") (row_top c.args.top c.args.core)) (codes "' width='896' height='32' viewBox='0 0 128 ") (c.args.scale.now.width) (c.args.scale.now.width) p1 (refl) c.in_ok-push_numbered-2.ensures in
    let p3 : c.push_word.new.text.items ≡ old ++ (numbered (codes "<svg x='76' y='") (row_top c.args.top c.args.core) ++ numbered (codes "' width='896' height='32' viewBox='0 0 128 ") (c.args.scale.now.width) ++ (codes "' preserveAspectRatio='none' shape-rendering='crispEdges'>" ++ 10 ∷ [])) = join old c.push_numbered-2.new.text.items c.push_word.new.text.items (numbered (codes "<svg x='76' y='") (row_top c.args.top c.args.core) ++ numbered (codes "' width='896' height='32' viewBox='0 0 128 ") (c.args.scale.now.width)) ((codes "' preserveAspectRatio='none' shape-rendering='crispEdges'>" ++ 10 ∷ [])) p2 c.in_ok-push_word.ensures in
    let p4 : c.push_columns.new.text.items ≡ old ++ (numbered (codes "<svg x='76' y='") (row_top c.args.top c.args.core) ++ numbered (codes "' width='896' height='32' viewBox='0 0 128 ") (c.args.scale.now.width) ++ (codes "' preserveAspectRatio='none' shape-rendering='crispEdges'>" ++ 10 ∷ []) ++ columns_text c.args.scale.now c.args.core (cells_at c.args.cells.now c.args.core) 128) = join old c.push_word.new.text.items c.push_columns.new.text.items (numbered (codes "<svg x='76' y='") (row_top c.args.top c.args.core) ++ numbered (codes "' width='896' height='32' viewBox='0 0 128 ") (c.args.scale.now.width) ++ (codes "' preserveAspectRatio='none' shape-rendering='crispEdges'>" ++ 10 ∷ [])) (columns_text c.args.scale.now c.args.core (cells_at c.args.cells.now c.args.core) 128) p3 c.in_ok-push_columns.ensures in
    join old c.push_columns.new.text.items c.push_word-2.new.text.items (numbered (codes "<svg x='76' y='") (row_top c.args.top c.args.core) ++ numbered (codes "' width='896' height='32' viewBox='0 0 128 ") (c.args.scale.now.width) ++ (codes "' preserveAspectRatio='none' shape-rendering='crispEdges'>" ++ 10 ∷ []) ++ columns_text c.args.scale.now c.args.core (cells_at c.args.cells.now c.args.core) 128) ((codes "</svg>" ++ 10 ∷ [])) p4 c.in_ok-push_word-2.ensures
