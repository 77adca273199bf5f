use Rattle.std.proofs.Common.{◌≡◌, ◌∷◌, [], ◌++◌, refl, codes}
use Rattle.mely_picture.specs.Texts.{numbered}
use Rattle.mely_picture.proofs.ListLemmas.{start, put, join}
use Rattle.mely_picture.proofs.picture.push_opening.Goals as goal

pub returns : goal.returns
returns c =
    let old = c.args.text.now.items in
    let p1 : c.push_numbered.new.text.items ≡ old ++ numbered (codes "<svg xmlns='http://www.w3.org/2000/svg' width='") (c.args.width) = start old c.push_numbered.new.text.items (codes "<svg xmlns='http://www.w3.org/2000/svg' width='") (c.args.width) (c.args.width) refl c.in_ok-push_numbered.ensures in
    let p2 : c.push_numbered-2.new.text.items ≡ old ++ (numbered (codes "<svg xmlns='http://www.w3.org/2000/svg' width='") (c.args.width) ++ numbered (codes "' height='") (c.args.height)) =
    put old c.push_numbered.new.text.items c.push_numbered-2.new.text.items (numbered (codes "<svg xmlns='http://www.w3.org/2000/svg' width='") (c.args.width)) (codes "' height='") (c.args.height) (c.args.height) p1 refl c.in_ok-push_numbered-2.ensures in
    let p3 : c.push_numbered-3.new.text.items ≡ old ++ (numbered (codes "<svg xmlns='http://www.w3.org/2000/svg' width='") (c.args.width) ++ numbered (codes "' height='") (c.args.height) ++ numbered (codes "' viewBox='0 0 ") (c.args.width)) =
    put old c.push_numbered-2.new.text.items c.push_numbered-3.new.text.items (numbered (codes "<svg xmlns='http://www.w3.org/2000/svg' width='") (c.args.width) ++ numbered (codes "' height='") (c.args.height)) (codes "' viewBox='0 0 ") (c.args.width) (c.args.width) p2 refl c.in_ok-push_numbered-3.ensures in
    let p4 : c.push_numbered-4.new.text.items ≡ old ++ (numbered (codes "<svg xmlns='http://www.w3.org/2000/svg' width='") (c.args.width) ++ numbered (codes "' height='") (c.args.height) ++ numbered (codes "' viewBox='0 0 ") (c.args.width) ++ numbered (codes " ") (c.args.height)) =
    put old c.push_numbered-3.new.text.items c.push_numbered-4.new.text.items (numbered (codes "<svg xmlns='http://www.w3.org/2000/svg' width='") (c.args.width) ++ numbered (codes "' height='") (c.args.height) ++ numbered (codes "' viewBox='0 0 ") (c.args.width)) (codes " ") (c.args.height) (c.args.height) p3 refl c.in_ok-push_numbered-4.ensures in
    join old c.push_numbered-4.new.text.items c.push_word.new.text.items (numbered (codes "<svg xmlns='http://www.w3.org/2000/svg' width='") (c.args.width) ++ numbered (codes "' height='") (c.args.height) ++ numbered (codes "' viewBox='0 0 ") (c.args.width) ++ numbered (codes " ") (c.args.height)) (codes "' font-family='sans-serif' font-size='12'>" ++ 10 ∷ []) p4 c.in_ok-push_word.ensures
