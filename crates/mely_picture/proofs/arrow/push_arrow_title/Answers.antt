use Rattle.std.proofs.Common.{◌≡◌, ◌++◌, refl, codes}
use Rattle.mely_picture.specs.Texts.{numbered}
use Rattle.mely_picture.proofs.ListLemmas.{start, put, join}
use Rattle.mely_picture.proofs.arrow.push_arrow_title.Goals as goal

pub returns : goal.returns
returns c =
    let old = c.args.text.now.items in
    let p1 : c.push_numbered.new.text.items ≡ old ++ numbered (codes "<g><title>entry ") (c.args.arrow.now.at) = start old c.push_numbered.new.text.items (codes "<g><title>entry ") (c.args.arrow.now.at) (c.args.arrow.now.at) refl c.in_ok-push_numbered.ensures in
    let p2 : c.push_numbered-2.new.text.items ≡ old ++ (numbered (codes "<g><title>entry ") (c.args.arrow.now.at) ++ numbered (codes ": colour ") (c.args.arrow.now.colour)) =
    put old c.push_numbered.new.text.items c.push_numbered-2.new.text.items (numbered (codes "<g><title>entry ") (c.args.arrow.now.at)) (codes ": colour ") (c.args.arrow.now.colour) (c.args.arrow.now.colour) p1 refl c.in_ok-push_numbered-2.ensures in
    let p3 : c.push_numbered-3.new.text.items ≡ old ++ (numbered (codes "<g><title>entry ") (c.args.arrow.now.at) ++ numbered (codes ": colour ") (c.args.arrow.now.colour) ++ numbered (codes ", stolen from core ") (c.args.arrow.now.from)) =
    put old c.push_numbered-2.new.text.items c.push_numbered-3.new.text.items (numbered (codes "<g><title>entry ") (c.args.arrow.now.at) ++ numbered (codes ": colour ") (c.args.arrow.now.colour)) (codes ", stolen from core ") (c.args.arrow.now.from) (c.args.arrow.now.from) p2 refl c.in_ok-push_numbered-3.ensures in
    let p4 : c.push_numbered-4.new.text.items ≡ old ++ (numbered (codes "<g><title>entry ") (c.args.arrow.now.at) ++ numbered (codes ": colour ") (c.args.arrow.now.colour) ++ numbered (codes ", stolen from core ") (c.args.arrow.now.from) ++ numbered (codes " by core ") (c.args.arrow.now.to)) =
    put old c.push_numbered-3.new.text.items c.push_numbered-4.new.text.items (numbered (codes "<g><title>entry ") (c.args.arrow.now.at) ++ numbered (codes ": colour ") (c.args.arrow.now.colour) ++ numbered (codes ", stolen from core ") (c.args.arrow.now.from)) (codes " by core ") (c.args.arrow.now.to) (c.args.arrow.now.to) p3 refl c.in_ok-push_numbered-4.ensures in
    join old c.push_numbered-4.new.text.items c.push_word.new.text.items (numbered (codes "<g><title>entry ") (c.args.arrow.now.at) ++ numbered (codes ": colour ") (c.args.arrow.now.colour) ++ numbered (codes ", stolen from core ") (c.args.arrow.now.from) ++ numbered (codes " by core ") (c.args.arrow.now.to)) (codes "</title>") p4 c.in_ok-push_word.ensures
