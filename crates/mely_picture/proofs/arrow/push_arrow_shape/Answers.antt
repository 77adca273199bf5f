use Rattle.std.proofs.Common.{◌≡◌, ◌∷◌, [], ◌++◌, ◌+◌, ap, codes}
use Rattle.mely_picture.specs.Texts.{numbered}
use Rattle.mely_picture.specs.Layout.{left_of, row_top, hue_of}
use Rattle.mely_picture.proofs.ListLemmas.{start, put, join}
use Rattle.mely_picture.proofs.arrow.push_arrow_shape.Goals as goal

pub returns : goal.returns
returns c =
    let old = c.args.text.now.items in
    let p1 : c.push_numbered.new.text.items ≡ old ++ numbered (codes "<path class='steal' stroke='hsl(") (hue_of c.args.arrow.now.colour) = start old c.push_numbered.new.text.items (codes "<path class='steal' stroke='hsl(") (c.hue_of.result) (hue_of c.args.arrow.now.colour) c.hue_of.ensures c.in_ok-push_numbered.ensures in
    let p2 : c.push_numbered-2.new.text.items ≡ old ++ (numbered (codes "<path class='steal' stroke='hsl(") (hue_of c.args.arrow.now.colour) ++ numbered (codes ",70%,50%)' marker-end='url(#tip)' d='M ") (left_of c.args.arrow.now.at + 14)) =
    put old c.push_numbered.new.text.items c.push_numbered-2.new.text.items (numbered (codes "<path class='steal' stroke='hsl(") (hue_of c.args.arrow.now.colour)) (codes ",70%,50%)' marker-end='url(#tip)' d='M ") (c.left_of.result + 14) (left_of c.args.arrow.now.at + 14) p1 (ap (λ x. x + 14) c.left_of.ensures.value) c.in_ok-push_numbered-2.ensures in
    let p3 : c.push_numbered-3.new.text.items ≡ old ++ (numbered (codes "<path class='steal' stroke='hsl(") (hue_of c.args.arrow.now.colour) ++ numbered (codes ",70%,50%)' marker-end='url(#tip)' d='M ") (left_of c.args.arrow.now.at + 14) ++ numbered (codes " ") (row_top c.args.top c.args.arrow.now.from + 16)) =
    put old c.push_numbered-2.new.text.items c.push_numbered-3.new.text.items (numbered (codes "<path class='steal' stroke='hsl(") (hue_of c.args.arrow.now.colour) ++ numbered (codes ",70%,50%)' marker-end='url(#tip)' d='M ") (left_of c.args.arrow.now.at + 14)) (codes " ") (c.row_top.result + 16) (row_top c.args.top c.args.arrow.now.from + 16) p2 (ap (λ x. x + 16) c.row_top.ensures.value) c.in_ok-push_numbered-3.ensures in
    let p4 : c.push_numbered-4.new.text.items ≡ old ++ (numbered (codes "<path class='steal' stroke='hsl(") (hue_of c.args.arrow.now.colour) ++ numbered (codes ",70%,50%)' marker-end='url(#tip)' d='M ") (left_of c.args.arrow.now.at + 14) ++ numbered (codes " ") (row_top c.args.top c.args.arrow.now.from + 16) ++ numbered (codes " V ") (row_top c.args.top c.args.arrow.now.to + 16)) =
    put old c.push_numbered-3.new.text.items c.push_numbered-4.new.text.items (numbered (codes "<path class='steal' stroke='hsl(") (hue_of c.args.arrow.now.colour) ++ numbered (codes ",70%,50%)' marker-end='url(#tip)' d='M ") (left_of c.args.arrow.now.at + 14) ++ numbered (codes " ") (row_top c.args.top c.args.arrow.now.from + 16)) (codes " V ") (c.row_top-2.result + 16) (row_top c.args.top c.args.arrow.now.to + 16) p3 (ap (λ x. x + 16) c.row_top-2.ensures.value) c.in_ok-push_numbered-4.ensures in
    join old c.push_numbered-4.new.text.items c.push_word.new.text.items (numbered (codes "<path class='steal' stroke='hsl(") (hue_of c.args.arrow.now.colour) ++ numbered (codes ",70%,50%)' marker-end='url(#tip)' d='M ") (left_of c.args.arrow.now.at + 14) ++ numbered (codes " ") (row_top c.args.top c.args.arrow.now.from + 16) ++ numbered (codes " V ") (row_top c.args.top c.args.arrow.now.to + 16)) (codes "'/></g>" ++ 10 ∷ []) p4 c.in_ok-push_word.ensures
