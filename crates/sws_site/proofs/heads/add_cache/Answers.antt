use Rattle.std.specs.Prelude.{decimal}
use Rattle.std.proofs.Common.{ℕ, ◌++◌, ap, ◌∙◌}
use Rattle.sws_site.proofs.HeadLemmas.{age_line}
use Rattle.sws_site.proofs.heads.add_cache.Goals as goal

pub returns-in-Some : goal.returns-in-Some
returns-in-Some c = age_line c.put-in-Some.new.self c.put_number.new.self c.put.new.self c.args.head.now c.args.is_dated c.args.max_age.now c.in-Some.seconds
    c.if-not-is_dated.false c.in-Some.is c.put.ensures
    (c.put_number.ensures ∙ ap (λ (n : ℕ). c.put.new.self ++ decimal n) c.from.ensures) c.put-in-Some.ensures
