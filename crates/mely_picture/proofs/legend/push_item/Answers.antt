use Rattle.std.proofs.Common.{◌≡◌, ◌∷◌, [], ◌++◌, ◌+◌, ◌*◌, ◌/◌, ◌%◌, refl, codes}
use Rattle.mely_picture.specs.Texts.{numbered}
use Rattle.mely_picture.specs.Layout.{hue_of}
use Rattle.mely_picture.proofs.ListLemmas.{start, put, join}
use Rattle.mely_picture.proofs.legend.push_item.Goals as goal

pub returns : goal.returns
returns c =
    let old = c.args.text.now.items in
    let p1 : c.push_numbered.new.text.items ≡ old ++ numbered (codes "<rect class='bar' width='14' height='14' x='") (16 + 100 * (c.args.at % 6)) = start old c.push_numbered.new.text.items (codes "<rect class='bar' width='14' height='14' x='") (16 + 100 * (c.args.at % 6)) (16 + 100 * (c.args.at % 6)) refl c.in_ok-push_numbered.ensures in
    let p2 : c.push_numbered-2.new.text.items ≡ old ++ (numbered (codes "<rect class='bar' width='14' height='14' x='") (16 + 100 * (c.args.at % 6)) ++ numbered (codes "' y='") (14 + 24 * (c.args.at / 6))) =
    put old c.push_numbered.new.text.items c.push_numbered-2.new.text.items (numbered (codes "<rect class='bar' width='14' height='14' x='") (16 + 100 * (c.args.at % 6))) (codes "' y='") (14 + 24 * (c.args.at / 6)) (14 + 24 * (c.args.at / 6)) p1 refl c.in_ok-push_numbered-2.ensures in
    let p3 : c.push_numbered-3.new.text.items ≡ old ++ (numbered (codes "<rect class='bar' width='14' height='14' x='") (16 + 100 * (c.args.at % 6)) ++ numbered (codes "' y='") (14 + 24 * (c.args.at / 6)) ++ numbered (codes "' fill='hsl(") (hue_of c.args.colour)) =
    put old c.push_numbered-2.new.text.items c.push_numbered-3.new.text.items (numbered (codes "<rect class='bar' width='14' height='14' x='") (16 + 100 * (c.args.at % 6)) ++ numbered (codes "' y='") (14 + 24 * (c.args.at / 6))) (codes "' fill='hsl(") (c.hue_of.result) (hue_of c.args.colour) p2 c.hue_of.ensures c.in_ok-push_numbered-3.ensures in
    let p4 : c.push_numbered-4.new.text.items ≡ old ++ (numbered (codes "<rect class='bar' width='14' height='14' x='") (16 + 100 * (c.args.at % 6)) ++ numbered (codes "' y='") (14 + 24 * (c.args.at / 6)) ++ numbered (codes "' fill='hsl(") (hue_of c.args.colour) ++ numbered (codes ",70%,65%)'/><text x='") (16 + 100 * (c.args.at % 6) + 20)) =
    put old c.push_numbered-3.new.text.items c.push_numbered-4.new.text.items (numbered (codes "<rect class='bar' width='14' height='14' x='") (16 + 100 * (c.args.at % 6)) ++ numbered (codes "' y='") (14 + 24 * (c.args.at / 6)) ++ numbered (codes "' fill='hsl(") (hue_of c.args.colour)) (codes ",70%,65%)'/><text x='") (16 + 100 * (c.args.at % 6) + 20) (16 + 100 * (c.args.at % 6) + 20) p3 refl c.in_ok-push_numbered-4.ensures in
    let p5 : c.push_numbered-5.new.text.items ≡ old ++ (numbered (codes "<rect class='bar' width='14' height='14' x='") (16 + 100 * (c.args.at % 6)) ++ numbered (codes "' y='") (14 + 24 * (c.args.at / 6)) ++ numbered (codes "' fill='hsl(") (hue_of c.args.colour) ++ numbered (codes ",70%,65%)'/><text x='") (16 + 100 * (c.args.at % 6) + 20) ++ numbered (codes "' y='") (14 + 24 * (c.args.at / 6) + 12)) =
    put old c.push_numbered-4.new.text.items c.push_numbered-5.new.text.items (numbered (codes "<rect class='bar' width='14' height='14' x='") (16 + 100 * (c.args.at % 6)) ++ numbered (codes "' y='") (14 + 24 * (c.args.at / 6)) ++ numbered (codes "' fill='hsl(") (hue_of c.args.colour) ++ numbered (codes ",70%,65%)'/><text x='") (16 + 100 * (c.args.at % 6) + 20)) (codes "' y='") (14 + 24 * (c.args.at / 6) + 12) (14 + 24 * (c.args.at / 6) + 12) p4 refl c.in_ok-push_numbered-5.ensures in
    let p6 : c.push_numbered-6.new.text.items ≡ old ++ (numbered (codes "<rect class='bar' width='14' height='14' x='") (16 + 100 * (c.args.at % 6)) ++ numbered (codes "' y='") (14 + 24 * (c.args.at / 6)) ++ numbered (codes "' fill='hsl(") (hue_of c.args.colour) ++ numbered (codes ",70%,65%)'/><text x='") (16 + 100 * (c.args.at % 6) + 20) ++ numbered (codes "' y='") (14 + 24 * (c.args.at / 6) + 12) ++ numbered (codes "'>colour ") (c.args.colour)) =
    put old c.push_numbered-5.new.text.items c.push_numbered-6.new.text.items (numbered (codes "<rect class='bar' width='14' height='14' x='") (16 + 100 * (c.args.at % 6)) ++ numbered (codes "' y='") (14 + 24 * (c.args.at / 6)) ++ numbered (codes "' fill='hsl(") (hue_of c.args.colour) ++ numbered (codes ",70%,65%)'/><text x='") (16 + 100 * (c.args.at % 6) + 20) ++ numbered (codes "' y='") (14 + 24 * (c.args.at / 6) + 12)) (codes "'>colour ") (c.args.colour) (c.args.colour) p5 refl c.in_ok-push_numbered-6.ensures in
    join old c.push_numbered-6.new.text.items c.push_word.new.text.items (numbered (codes "<rect class='bar' width='14' height='14' x='") (16 + 100 * (c.args.at % 6)) ++ numbered (codes "' y='") (14 + 24 * (c.args.at / 6)) ++ numbered (codes "' fill='hsl(") (hue_of c.args.colour) ++ numbered (codes ",70%,65%)'/><text x='") (16 + 100 * (c.args.at % 6) + 20) ++ numbered (codes "' y='") (14 + 24 * (c.args.at / 6) + 12) ++ numbered (codes "'>colour ") (c.args.colour)) (codes "</text>" ++ 10 ∷ []) p6 c.in_ok-push_word.ensures
