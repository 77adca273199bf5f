use Rattle.std.proofs.Common.{◌≡◌, ◌∷◌, [], ◌++◌, ◌+◌, ◌*◌, refl, ap, codes}
use Rattle.mely_picture.specs.Texts.{numbered}
use Rattle.mely_picture.specs.Layout.{row_top}
use Rattle.mely_picture.proofs.ListLemmas.{start, put, join}
use Rattle.mely_picture.proofs.panel.push_row.Goals as goal

pub returns : goal.returns
returns c =
    let old = c.args.text.now.items in
    let p1 : c.push_numbered.new.text.items ≡ old ++ numbered (codes "<text x='16' y='") (row_top c.args.top c.args.core + 20) = start old c.push_numbered.new.text.items (codes "<text x='16' y='") (c.row_top-row.result + 20) (row_top c.args.top c.args.core + 20) (ap (λ x. x + 20) c.row_top-row.ensures.value) c.in_ok-push_numbered.ensures in
    let p2 : c.push_numbered-2.new.text.items ≡ old ++ (numbered (codes "<text x='16' y='") (row_top c.args.top c.args.core + 20) ++ numbered (codes "'>core ") (c.args.core)) =
    put old c.push_numbered.new.text.items c.push_numbered-2.new.text.items (numbered (codes "<text x='16' y='") (row_top c.args.top c.args.core + 20)) (codes "'>core ") (c.args.core) (c.args.core) p1 refl c.in_ok-push_numbered-2.ensures in
    let p3 : c.push_numbered-3.new.text.items ≡ old ++ (numbered (codes "<text x='16' y='") (row_top c.args.top c.args.core + 20) ++ numbered (codes "'>core ") (c.args.core) ++ numbered (codes "</text><rect class='row' x='76' y='") (row_top c.args.top c.args.core)) =
    put old c.push_numbered-2.new.text.items c.push_numbered-3.new.text.items (numbered (codes "<text x='16' y='") (row_top c.args.top c.args.core + 20) ++ numbered (codes "'>core ") (c.args.core)) (codes "</text><rect class='row' x='76' y='") (c.row_top-row.result) (row_top c.args.top c.args.core) p2 c.row_top-row.ensures.value c.in_ok-push_numbered-3.ensures in
    let p4 : c.push_numbered-4.new.text.items ≡ old ++ (numbered (codes "<text x='16' y='") (row_top c.args.top c.args.core + 20) ++ numbered (codes "'>core ") (c.args.core) ++ numbered (codes "</text><rect class='row' x='76' y='") (row_top c.args.top c.args.core) ++ numbered (codes "' width='") (28 * c.args.entries)) =
    put old c.push_numbered-3.new.text.items c.push_numbered-4.new.text.items (numbered (codes "<text x='16' y='") (row_top c.args.top c.args.core + 20) ++ numbered (codes "'>core ") (c.args.core) ++ numbered (codes "</text><rect class='row' x='76' y='") (row_top c.args.top c.args.core)) (codes "' width='") (28 * c.args.entries) (28 * c.args.entries) p3 refl c.in_ok-push_numbered-4.ensures in
    join old c.push_numbered-4.new.text.items c.push_word.new.text.items (numbered (codes "<text x='16' y='") (row_top c.args.top c.args.core + 20) ++ numbered (codes "'>core ") (c.args.core) ++ numbered (codes "</text><rect class='row' x='76' y='") (row_top c.args.top c.args.core) ++ numbered (codes "' width='") (28 * c.args.entries)) (codes "' height='32'/>" ++ 10 ∷ []) p4 c.in_ok-push_word.ensures
