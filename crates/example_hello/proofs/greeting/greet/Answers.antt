use Rattle.std.proofs.Common.{◌≡◌, ◌+◌, ◌-◌, ◌<◌, refl, arith}
use Rattle.example_hello.proofs.GreetLemmas.{all_greeted, if_both}
use Rattle.example_hello.proofs.greeting.greet.Goals as goal

pub returns-clause-greeted : goal.returns-clause-greeted
returns-clause-greeted g c =
    let some = c.requires in
    let fits = c.ranges.times.fits in
    let many : c.args.times - 1 + 1 ≡ c.args.times = omega (arith, some) in
    let few : c.args.times < 65536 = omega (arith, fits) in
    if_both _ _ _ c.run_app.result c.run_app.ensures.ran c.run_app.ensures.puts
    (λ ended ran puts. all_greeted _ _ _ _ c.in-Ok-new.setup _ (λ s. refl) (λ run is. is.ran) c.in-Ok-new.ensures.colours _ c.args.times refl many few ended ran puts)
