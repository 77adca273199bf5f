use Rattle.std.proofs.Common.{◌≡◌, ◌++◌, ◌+◌, ◌-◌, refl, ap, ◌∙◌, codes}
use Rattle.mely_picture.specs.Texts.{numbered}
use Rattle.mely_picture.specs.BucketTexts.{part_fill}
use Rattle.mely_picture.proofs.ListLemmas.{start, put, join}
use Rattle.mely_picture.proofs.part.push_part_shape.Goals as goal

pub returns : goal.returns
returns c =
    let old = c.args.text.now.items in
    let p1 : c.push_numbered.new.text.items ≡ old ++ (numbered (codes "<rect x='") (c.args.part.now.bucket)) = start old c.push_numbered.new.text.items (codes "<rect x='") (c.args.part.now.bucket) (c.args.part.now.bucket) (refl) c.in_ok-push_numbered.ensures in
    let p2 : c.push_numbered-2.new.text.items ≡ old ++ (numbered (codes "<rect x='") (c.args.part.now.bucket) ++ numbered (codes "' y='") (c.args.scale.now.width - (c.args.part.now.below + c.args.part.now.count))) = put old c.push_numbered.new.text.items c.push_numbered-2.new.text.items (numbered (codes "<rect x='") (c.args.part.now.bucket)) (codes "' y='") (c.saturating_sub-top.result) (c.args.scale.now.width - (c.args.part.now.below + c.args.part.now.count)) p1 (c.saturating_sub-top.ensures ∙ ap (λ k. k - (c.args.part.now.below + c.from-2.result)) c.from.ensures ∙ ap (λ k. c.args.scale.now.width - (c.args.part.now.below + k)) c.from-2.ensures) c.in_ok-push_numbered-2.ensures in
    let p3 : c.push_numbered-3.new.text.items ≡ old ++ (numbered (codes "<rect x='") (c.args.part.now.bucket) ++ numbered (codes "' y='") (c.args.scale.now.width - (c.args.part.now.below + c.args.part.now.count)) ++ numbered (codes "' width='1' height='") (c.args.part.now.count)) = put old c.push_numbered-2.new.text.items c.push_numbered-3.new.text.items (numbered (codes "<rect x='") (c.args.part.now.bucket) ++ numbered (codes "' y='") (c.args.scale.now.width - (c.args.part.now.below + c.args.part.now.count))) (codes "' width='1' height='") (c.args.part.now.count) (c.args.part.now.count) p2 (refl) c.in_ok-push_numbered-3.ensures in
    let p4 : c.push_word.new.text.items ≡ old ++ (numbered (codes "<rect x='") (c.args.part.now.bucket) ++ numbered (codes "' y='") (c.args.scale.now.width - (c.args.part.now.below + c.args.part.now.count)) ++ numbered (codes "' width='1' height='") (c.args.part.now.count) ++ (codes "' fill='")) = join old c.push_numbered-3.new.text.items c.push_word.new.text.items (numbered (codes "<rect x='") (c.args.part.now.bucket) ++ numbered (codes "' y='") (c.args.scale.now.width - (c.args.part.now.below + c.args.part.now.count)) ++ numbered (codes "' width='1' height='") (c.args.part.now.count)) ((codes "' fill='")) p3 c.in_ok-push_word.ensures in
    let p5 : c.push_fill.new.text.items ≡ old ++ (numbered (codes "<rect x='") (c.args.part.now.bucket) ++ numbered (codes "' y='") (c.args.scale.now.width - (c.args.part.now.below + c.args.part.now.count)) ++ numbered (codes "' width='1' height='") (c.args.part.now.count) ++ (codes "' fill='") ++ part_fill c.args.scale.now c.args.part.now.class) = join old c.push_word.new.text.items c.push_fill.new.text.items (numbered (codes "<rect x='") (c.args.part.now.bucket) ++ numbered (codes "' y='") (c.args.scale.now.width - (c.args.part.now.below + c.args.part.now.count)) ++ numbered (codes "' width='1' height='") (c.args.part.now.count) ++ (codes "' fill='")) (part_fill c.args.scale.now c.args.part.now.class) p4 c.in_ok-push_fill.ensures in
    join old c.push_fill.new.text.items c.push_word-2.new.text.items (numbered (codes "<rect x='") (c.args.part.now.bucket) ++ numbered (codes "' y='") (c.args.scale.now.width - (c.args.part.now.below + c.args.part.now.count)) ++ numbered (codes "' width='1' height='") (c.args.part.now.count) ++ (codes "' fill='") ++ part_fill c.args.scale.now c.args.part.now.class) ((codes "'>")) p5 c.in_ok-push_word-2.ensures
