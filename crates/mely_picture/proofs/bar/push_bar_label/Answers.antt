use Rattle.std.proofs.Common.{◌≡◌, ◌∷◌, [], ◌++◌, ◌+◌, ◌*◌, ◌-◌, refl, ap, codes}
use Rattle.mely_picture.specs.Texts.{numbered}
use Rattle.mely_picture.specs.Layout.{left_of, row_top}
use Rattle.mely_picture.proofs.ListLemmas.{start, put, join}
use Rattle.mely_picture.proofs.bar.push_bar_label.Goals as goal

pub returns : goal.returns
returns c =
    let old = c.args.text.now.items in
    let p1 : c.push_numbered.new.text.items ≡ old ++ numbered (codes "<text class='on' x='") (left_of c.args.bar.now.begin + 14 * (c.args.bar.now.end - c.args.bar.now.begin)) = start old c.push_numbered.new.text.items (codes "<text class='on' x='") (c.left_of.result + 14 * (c.args.bar.now.end - c.args.bar.now.begin)) (left_of c.args.bar.now.begin + 14 * (c.args.bar.now.end - c.args.bar.now.begin)) (ap (λ x. x + 14 * (c.args.bar.now.end - c.args.bar.now.begin)) c.left_of.ensures.value) c.in_ok-push_numbered.ensures in
    let p2 : c.push_numbered-2.new.text.items ≡ old ++ (numbered (codes "<text class='on' x='") (left_of c.args.bar.now.begin + 14 * (c.args.bar.now.end - c.args.bar.now.begin)) ++ numbered (codes "' y='") (row_top c.args.top c.args.bar.now.core + 14)) =
    put old c.push_numbered.new.text.items c.push_numbered-2.new.text.items (numbered (codes "<text class='on' x='") (left_of c.args.bar.now.begin + 14 * (c.args.bar.now.end - c.args.bar.now.begin))) (codes "' y='") (c.row_top-row.result + 14) (row_top c.args.top c.args.bar.now.core + 14) p1 (ap (λ x. x + 14) c.row_top-row.ensures.value) c.in_ok-push_numbered-2.ensures in
    let p3 : c.push_numbered-3.new.text.items ≡ old ++ (numbered (codes "<text class='on' x='") (left_of c.args.bar.now.begin + 14 * (c.args.bar.now.end - c.args.bar.now.begin)) ++ numbered (codes "' y='") (row_top c.args.top c.args.bar.now.core + 14) ++ numbered (codes "'>") (c.args.bar.now.colour)) =
    put old c.push_numbered-2.new.text.items c.push_numbered-3.new.text.items (numbered (codes "<text class='on' x='") (left_of c.args.bar.now.begin + 14 * (c.args.bar.now.end - c.args.bar.now.begin)) ++ numbered (codes "' y='") (row_top c.args.top c.args.bar.now.core + 14)) (codes "'>") (c.args.bar.now.colour) (c.args.bar.now.colour) p2 refl c.in_ok-push_numbered-3.ensures in
    let p4 : c.push_numbered-4.new.text.items ≡ old ++ (numbered (codes "<text class='on' x='") (left_of c.args.bar.now.begin + 14 * (c.args.bar.now.end - c.args.bar.now.begin)) ++ numbered (codes "' y='") (row_top c.args.top c.args.bar.now.core + 14) ++ numbered (codes "'>") (c.args.bar.now.colour) ++ numbered (codes "</text><text class='on' x='") (left_of c.args.bar.now.begin + 14 * (c.args.bar.now.end - c.args.bar.now.begin))) =
    put old c.push_numbered-3.new.text.items c.push_numbered-4.new.text.items (numbered (codes "<text class='on' x='") (left_of c.args.bar.now.begin + 14 * (c.args.bar.now.end - c.args.bar.now.begin)) ++ numbered (codes "' y='") (row_top c.args.top c.args.bar.now.core + 14) ++ numbered (codes "'>") (c.args.bar.now.colour)) (codes "</text><text class='on' x='") (c.left_of.result + 14 * (c.args.bar.now.end - c.args.bar.now.begin)) (left_of c.args.bar.now.begin + 14 * (c.args.bar.now.end - c.args.bar.now.begin)) p3 (ap (λ x. x + 14 * (c.args.bar.now.end - c.args.bar.now.begin)) c.left_of.ensures.value) c.in_ok-push_numbered-4.ensures in
    let p5 : c.push_numbered-5.new.text.items ≡ old ++ (numbered (codes "<text class='on' x='") (left_of c.args.bar.now.begin + 14 * (c.args.bar.now.end - c.args.bar.now.begin)) ++ numbered (codes "' y='") (row_top c.args.top c.args.bar.now.core + 14) ++ numbered (codes "'>") (c.args.bar.now.colour) ++ numbered (codes "</text><text class='on' x='") (left_of c.args.bar.now.begin + 14 * (c.args.bar.now.end - c.args.bar.now.begin)) ++ numbered (codes "' y='") (row_top c.args.top c.args.bar.now.core + 27)) =
    put old c.push_numbered-4.new.text.items c.push_numbered-5.new.text.items (numbered (codes "<text class='on' x='") (left_of c.args.bar.now.begin + 14 * (c.args.bar.now.end - c.args.bar.now.begin)) ++ numbered (codes "' y='") (row_top c.args.top c.args.bar.now.core + 14) ++ numbered (codes "'>") (c.args.bar.now.colour) ++ numbered (codes "</text><text class='on' x='") (left_of c.args.bar.now.begin + 14 * (c.args.bar.now.end - c.args.bar.now.begin))) (codes "' y='") (c.row_top-row.result + 27) (row_top c.args.top c.args.bar.now.core + 27) p4 (ap (λ x. x + 27) c.row_top-row.ensures.value) c.in_ok-push_numbered-5.ensures in
    let p6 : c.push_numbered-6.new.text.items ≡ old ++ (numbered (codes "<text class='on' x='") (left_of c.args.bar.now.begin + 14 * (c.args.bar.now.end - c.args.bar.now.begin)) ++ numbered (codes "' y='") (row_top c.args.top c.args.bar.now.core + 14) ++ numbered (codes "'>") (c.args.bar.now.colour) ++ numbered (codes "</text><text class='on' x='") (left_of c.args.bar.now.begin + 14 * (c.args.bar.now.end - c.args.bar.now.begin)) ++ numbered (codes "' y='") (row_top c.args.top c.args.bar.now.core + 27) ++ numbered (codes "'>x") (c.args.bar.now.count)) =
    put old c.push_numbered-5.new.text.items c.push_numbered-6.new.text.items (numbered (codes "<text class='on' x='") (left_of c.args.bar.now.begin + 14 * (c.args.bar.now.end - c.args.bar.now.begin)) ++ numbered (codes "' y='") (row_top c.args.top c.args.bar.now.core + 14) ++ numbered (codes "'>") (c.args.bar.now.colour) ++ numbered (codes "</text><text class='on' x='") (left_of c.args.bar.now.begin + 14 * (c.args.bar.now.end - c.args.bar.now.begin)) ++ numbered (codes "' y='") (row_top c.args.top c.args.bar.now.core + 27)) (codes "'>x") (c.args.bar.now.count) (c.args.bar.now.count) p5 refl c.in_ok-push_numbered-6.ensures in
    join old c.push_numbered-6.new.text.items c.push_word.new.text.items (numbered (codes "<text class='on' x='") (left_of c.args.bar.now.begin + 14 * (c.args.bar.now.end - c.args.bar.now.begin)) ++ numbered (codes "' y='") (row_top c.args.top c.args.bar.now.core + 14) ++ numbered (codes "'>") (c.args.bar.now.colour) ++ numbered (codes "</text><text class='on' x='") (left_of c.args.bar.now.begin + 14 * (c.args.bar.now.end - c.args.bar.now.begin)) ++ numbered (codes "' y='") (row_top c.args.top c.args.bar.now.core + 27) ++ numbered (codes "'>x") (c.args.bar.now.count)) (codes "</text></g>" ++ 10 ∷ []) p6 c.in_ok-push_word.ensures
