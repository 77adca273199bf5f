use Rattle.std.proofs.Common.{◌≡◌, ◌∷◌, [], ◌++◌, ◌+◌, refl, codes}
use Rattle.mely_picture.specs.Texts.{numbered}
use Rattle.mely_picture.proofs.ListLemmas.{start, put, join}
use Rattle.mely_picture.proofs.panel.push_heading.Goals as goal

pub returns : goal.returns
returns c =
    let old = c.args.text.now.items in
    let p1 : c.push_numbered.new.text.items ≡ old ++ numbered (codes "<text class='head' x='16' y='") (c.args.top + 20) = start old c.push_numbered.new.text.items (codes "<text class='head' x='16' y='") (c.args.top + 20) (c.args.top + 20) refl c.in_ok-push_numbered.ensures in
    let p2 : c.push_numbered-2.new.text.items ≡ old ++ (numbered (codes "<text class='head' x='16' y='") (c.args.top + 20) ++ numbered (codes "'>shard ") (c.args.number)) =
    put old c.push_numbered.new.text.items c.push_numbered-2.new.text.items (numbered (codes "<text class='head' x='16' y='") (c.args.top + 20)) (codes "'>shard ") (c.args.number) (c.args.number) p1 refl c.in_ok-push_numbered-2.ensures in
    let p3 : c.push_numbered-3.new.text.items ≡ old ++ (numbered (codes "<text class='head' x='16' y='") (c.args.top + 20) ++ numbered (codes "'>shard ") (c.args.number) ++ numbered (codes ", entries ") (c.args.entries)) =
    put old c.push_numbered-2.new.text.items c.push_numbered-3.new.text.items (numbered (codes "<text class='head' x='16' y='") (c.args.top + 20) ++ numbered (codes "'>shard ") (c.args.number)) (codes ", entries ") (c.args.entries) (c.args.entries) p2 refl c.in_ok-push_numbered-3.ensures in
    join old c.push_numbered-3.new.text.items c.push_word.new.text.items (numbered (codes "<text class='head' x='16' y='") (c.args.top + 20) ++ numbered (codes "'>shard ") (c.args.number) ++ numbered (codes ", entries ") (c.args.entries)) (codes "</text>" ++ 10 ∷ []) p3 c.in_ok-push_word.ensures
