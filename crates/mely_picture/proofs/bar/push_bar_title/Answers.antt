use Rattle.std.proofs.Common.{◌≡◌, ◌++◌, refl, codes}
use Rattle.mely_picture.specs.Texts.{numbered}
use Rattle.mely_picture.proofs.ListLemmas.{start, put, join}
use Rattle.mely_picture.proofs.bar.push_bar_title.Goals as goal

pub returns : goal.returns
returns c =
    let old = c.args.text.now.items in
    let p1 : c.push_numbered.new.text.items ≡ old ++ numbered (codes "<g><title>entry ") (c.args.bar.now.begin) = start old c.push_numbered.new.text.items (codes "<g><title>entry ") (c.args.bar.now.begin) (c.args.bar.now.begin) refl c.in_ok-push_numbered.ensures in
    let p2 : c.push_numbered-2.new.text.items ≡ old ++ (numbered (codes "<g><title>entry ") (c.args.bar.now.begin) ++ numbered (codes " to ") (c.args.bar.now.end)) =
    put old c.push_numbered.new.text.items c.push_numbered-2.new.text.items (numbered (codes "<g><title>entry ") (c.args.bar.now.begin)) (codes " to ") (c.args.bar.now.end) (c.args.bar.now.end) p1 refl c.in_ok-push_numbered-2.ensures in
    let p3 : c.push_numbered-3.new.text.items ≡ old ++ (numbered (codes "<g><title>entry ") (c.args.bar.now.begin) ++ numbered (codes " to ") (c.args.bar.now.end) ++ numbered (codes ": colour ") (c.args.bar.now.colour)) =
    put old c.push_numbered-2.new.text.items c.push_numbered-3.new.text.items (numbered (codes "<g><title>entry ") (c.args.bar.now.begin) ++ numbered (codes " to ") (c.args.bar.now.end)) (codes ": colour ") (c.args.bar.now.colour) (c.args.bar.now.colour) p2 refl c.in_ok-push_numbered-3.ensures in
    let p4 : c.push_numbered-4.new.text.items ≡ old ++ (numbered (codes "<g><title>entry ") (c.args.bar.now.begin) ++ numbered (codes " to ") (c.args.bar.now.end) ++ numbered (codes ": colour ") (c.args.bar.now.colour) ++ numbered (codes ", core ") (c.args.bar.now.core)) =
    put old c.push_numbered-3.new.text.items c.push_numbered-4.new.text.items (numbered (codes "<g><title>entry ") (c.args.bar.now.begin) ++ numbered (codes " to ") (c.args.bar.now.end) ++ numbered (codes ": colour ") (c.args.bar.now.colour)) (codes ", core ") (c.args.bar.now.core) (c.args.bar.now.core) p3 refl c.in_ok-push_numbered-4.ensures in
    let p5 : c.push_numbered-5.new.text.items ≡ old ++ (numbered (codes "<g><title>entry ") (c.args.bar.now.begin) ++ numbered (codes " to ") (c.args.bar.now.end) ++ numbered (codes ": colour ") (c.args.bar.now.colour) ++ numbered (codes ", core ") (c.args.bar.now.core) ++ numbered (codes ", count ") (c.args.bar.now.count)) =
    put old c.push_numbered-4.new.text.items c.push_numbered-5.new.text.items (numbered (codes "<g><title>entry ") (c.args.bar.now.begin) ++ numbered (codes " to ") (c.args.bar.now.end) ++ numbered (codes ": colour ") (c.args.bar.now.colour) ++ numbered (codes ", core ") (c.args.bar.now.core)) (codes ", count ") (c.args.bar.now.count) (c.args.bar.now.count) p4 refl c.in_ok-push_numbered-5.ensures in
    join old c.push_numbered-5.new.text.items c.push_word.new.text.items (numbered (codes "<g><title>entry ") (c.args.bar.now.begin) ++ numbered (codes " to ") (c.args.bar.now.end) ++ numbered (codes ": colour ") (c.args.bar.now.colour) ++ numbered (codes ", core ") (c.args.bar.now.core) ++ numbered (codes ", count ") (c.args.bar.now.count)) (codes "</title>") p5 c.in_ok-push_word.ensures
