use Rattle.std.proofs.Common.{◌≡◌, ◌∷◌, [], ◌++◌, ◌+◌, ◌*◌, ◌-◌, min, refl, ap, ◌∙◌, codes}
use Rattle.mely_picture.specs.Texts.{numbered}
use Rattle.mely_picture.specs.BucketTexts.{part_name}
use Rattle.mely_picture.proofs.ListLemmas.{start, put, join}
use Rattle.mely_picture.proofs.part.push_part_title.Goals as goal

pub returns : goal.returns
returns c =
    let old = c.args.text.now.items in
    let p1 : c.push_numbered.new.text.items ≡ old ++ (numbered (codes "<title>entries ") (c.args.scale.now.width * c.args.part.now.bucket)) = start old c.push_numbered.new.text.items (codes "<title>entries ") (c.from-width.result * c.from.result) (c.args.scale.now.width * c.args.part.now.bucket) (ap (λ k. k * c.from.result) c.from-width.ensures ∙ ap (λ k. c.args.scale.now.width * k) c.from.ensures) c.in_ok-push_numbered.ensures in
    let p2 : c.push_numbered-2.new.text.items ≡ old ++ (numbered (codes "<title>entries ") (c.args.scale.now.width * c.args.part.now.bucket) ++ numbered (codes " to ") (min (c.args.scale.now.width * c.args.part.now.bucket + c.args.scale.now.width) c.args.scale.now.entries - 1)) = put old c.push_numbered.new.text.items c.push_numbered-2.new.text.items (numbered (codes "<title>entries ") (c.args.scale.now.width * c.args.part.now.bucket)) (codes " to ") (c.saturating_sub.result) (min (c.args.scale.now.width * c.args.part.now.bucket + c.args.scale.now.width) c.args.scale.now.entries - 1) p1 (c.saturating_sub.ensures ∙ ap (λ k. k - 1) (c.min-behind.ensures ∙ ap (λ k. min (k * c.from.result + k) c.from-2.result) c.from-width.ensures ∙ ap (λ k. min (c.args.scale.now.width * k + c.args.scale.now.width) c.from-2.result) c.from.ensures ∙ ap (λ k. min (c.args.scale.now.width * c.args.part.now.bucket + c.args.scale.now.width) k) c.from-2.ensures)) c.in_ok-push_numbered-2.ensures in
    let p3 : c.push_numbered-3.new.text.items ≡ old ++ (numbered (codes "<title>entries ") (c.args.scale.now.width * c.args.part.now.bucket) ++ numbered (codes " to ") (min (c.args.scale.now.width * c.args.part.now.bucket + c.args.scale.now.width) c.args.scale.now.entries - 1) ++ numbered (codes ", core ") (c.args.part.now.core)) = put old c.push_numbered-2.new.text.items c.push_numbered-3.new.text.items (numbered (codes "<title>entries ") (c.args.scale.now.width * c.args.part.now.bucket) ++ numbered (codes " to ") (min (c.args.scale.now.width * c.args.part.now.bucket + c.args.scale.now.width) c.args.scale.now.entries - 1)) (codes ", core ") (c.args.part.now.core) (c.args.part.now.core) p2 (refl) c.in_ok-push_numbered-3.ensures in
    let p4 : c.push_word.new.text.items ≡ old ++ (numbered (codes "<title>entries ") (c.args.scale.now.width * c.args.part.now.bucket) ++ numbered (codes " to ") (min (c.args.scale.now.width * c.args.part.now.bucket + c.args.scale.now.width) c.args.scale.now.entries - 1) ++ numbered (codes ", core ") (c.args.part.now.core) ++ (codes ": ")) = join old c.push_numbered-3.new.text.items c.push_word.new.text.items (numbered (codes "<title>entries ") (c.args.scale.now.width * c.args.part.now.bucket) ++ numbered (codes " to ") (min (c.args.scale.now.width * c.args.part.now.bucket + c.args.scale.now.width) c.args.scale.now.entries - 1) ++ numbered (codes ", core ") (c.args.part.now.core)) ((codes ": ")) p3 c.in_ok-push_word.ensures in
    let p5 : c.push_name.new.text.items ≡ old ++ (numbered (codes "<title>entries ") (c.args.scale.now.width * c.args.part.now.bucket) ++ numbered (codes " to ") (min (c.args.scale.now.width * c.args.part.now.bucket + c.args.scale.now.width) c.args.scale.now.entries - 1) ++ numbered (codes ", core ") (c.args.part.now.core) ++ (codes ": ") ++ part_name c.args.scale.now c.args.part.now.class) = join old c.push_word.new.text.items c.push_name.new.text.items (numbered (codes "<title>entries ") (c.args.scale.now.width * c.args.part.now.bucket) ++ numbered (codes " to ") (min (c.args.scale.now.width * c.args.part.now.bucket + c.args.scale.now.width) c.args.scale.now.entries - 1) ++ numbered (codes ", core ") (c.args.part.now.core) ++ (codes ": ")) (part_name c.args.scale.now c.args.part.now.class) p4 c.in_ok-push_name.ensures in
    let p6 : c.push_numbered-4.new.text.items ≡ old ++ (numbered (codes "<title>entries ") (c.args.scale.now.width * c.args.part.now.bucket) ++ numbered (codes " to ") (min (c.args.scale.now.width * c.args.part.now.bucket + c.args.scale.now.width) c.args.scale.now.entries - 1) ++ numbered (codes ", core ") (c.args.part.now.core) ++ (codes ": ") ++ part_name c.args.scale.now c.args.part.now.class ++ numbered (codes ", entries ") (c.args.part.now.count)) = put old c.push_name.new.text.items c.push_numbered-4.new.text.items (numbered (codes "<title>entries ") (c.args.scale.now.width * c.args.part.now.bucket) ++ numbered (codes " to ") (min (c.args.scale.now.width * c.args.part.now.bucket + c.args.scale.now.width) c.args.scale.now.entries - 1) ++ numbered (codes ", core ") (c.args.part.now.core) ++ (codes ": ") ++ part_name c.args.scale.now c.args.part.now.class) (codes ", entries ") (c.args.part.now.count) (c.args.part.now.count) p5 (refl) c.in_ok-push_numbered-4.ensures in
    join old c.push_numbered-4.new.text.items c.push_word-2.new.text.items (numbered (codes "<title>entries ") (c.args.scale.now.width * c.args.part.now.bucket) ++ numbered (codes " to ") (min (c.args.scale.now.width * c.args.part.now.bucket + c.args.scale.now.width) c.args.scale.now.entries - 1) ++ numbered (codes ", core ") (c.args.part.now.core) ++ (codes ": ") ++ part_name c.args.scale.now c.args.part.now.class ++ numbered (codes ", entries ") (c.args.part.now.count)) ((codes "</title></rect>" ++ 10 ∷ [])) p6 c.in_ok-push_word-2.ensures
