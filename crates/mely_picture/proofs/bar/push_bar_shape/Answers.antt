use Rattle.std.proofs.Common.{◌≡◌, ◌++◌, ◌*◌, ◌-◌, refl, codes}
use Rattle.mely_picture.specs.Texts.{numbered}
use Rattle.mely_picture.specs.Layout.{left_of, row_top, hue_of}
use Rattle.mely_picture.proofs.ListLemmas.{start, put, join}
use Rattle.mely_picture.proofs.bar.push_bar_shape.Goals as goal

pub returns : goal.returns
returns c =
    let old = c.args.text.now.items in
    let p1 : c.push_numbered.new.text.items ≡ old ++ numbered (codes "<rect class='bar' x='") (left_of c.args.bar.now.begin) = start old c.push_numbered.new.text.items (codes "<rect class='bar' x='") (c.left_of.result) (left_of c.args.bar.now.begin) c.left_of.ensures.value c.in_ok-push_numbered.ensures in
    let p2 : c.push_numbered-2.new.text.items ≡ old ++ (numbered (codes "<rect class='bar' x='") (left_of c.args.bar.now.begin) ++ numbered (codes "' y='") (row_top c.args.top c.args.bar.now.core)) =
    put old c.push_numbered.new.text.items c.push_numbered-2.new.text.items (numbered (codes "<rect class='bar' x='") (left_of c.args.bar.now.begin)) (codes "' y='") (c.row_top.result) (row_top c.args.top c.args.bar.now.core) p1 c.row_top.ensures.value c.in_ok-push_numbered-2.ensures in
    let p3 : c.push_numbered-3.new.text.items ≡ old ++ (numbered (codes "<rect class='bar' x='") (left_of c.args.bar.now.begin) ++ numbered (codes "' y='") (row_top c.args.top c.args.bar.now.core) ++ numbered (codes "' width='") (28 * (c.args.bar.now.end - c.args.bar.now.begin))) =
    put old c.push_numbered-2.new.text.items c.push_numbered-3.new.text.items (numbered (codes "<rect class='bar' x='") (left_of c.args.bar.now.begin) ++ numbered (codes "' y='") (row_top c.args.top c.args.bar.now.core)) (codes "' width='") (28 * (c.args.bar.now.end - c.args.bar.now.begin)) (28 * (c.args.bar.now.end - c.args.bar.now.begin)) p2 refl c.in_ok-push_numbered-3.ensures in
    let p4 : c.push_numbered-4.new.text.items ≡ old ++ (numbered (codes "<rect class='bar' x='") (left_of c.args.bar.now.begin) ++ numbered (codes "' y='") (row_top c.args.top c.args.bar.now.core) ++ numbered (codes "' width='") (28 * (c.args.bar.now.end - c.args.bar.now.begin)) ++ numbered (codes "' height='32' rx='3' fill='hsl(") (hue_of c.args.bar.now.colour)) =
    put old c.push_numbered-3.new.text.items c.push_numbered-4.new.text.items (numbered (codes "<rect class='bar' x='") (left_of c.args.bar.now.begin) ++ numbered (codes "' y='") (row_top c.args.top c.args.bar.now.core) ++ numbered (codes "' width='") (28 * (c.args.bar.now.end - c.args.bar.now.begin))) (codes "' height='32' rx='3' fill='hsl(") (c.hue_of.result) (hue_of c.args.bar.now.colour) p3 c.hue_of.ensures c.in_ok-push_numbered-4.ensures in
    join old c.push_numbered-4.new.text.items c.push_word.new.text.items (numbered (codes "<rect class='bar' x='") (left_of c.args.bar.now.begin) ++ numbered (codes "' y='") (row_top c.args.top c.args.bar.now.core) ++ numbered (codes "' width='") (28 * (c.args.bar.now.end - c.args.bar.now.begin)) ++ numbered (codes "' height='32' rx='3' fill='hsl(") (hue_of c.args.bar.now.colour)) (codes ",70%,65%)'/>") p4 c.in_ok-push_word.ensures
