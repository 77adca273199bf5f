-- Each request gets the same moment, and asks what it asked.
use Rattle.std.proofs.Common.{◌≡◌, ◌<◌, ℕ, List, [], ◌∷◌, ap, refl}
use Rattle.std.specs.List.{AllByRecursion}
use Rattle.example_redis.specs.declared.limits.TheConstants.{CELLS}
use Rattle.example_redis.specs.declared.request.Request.{Request}
use Rattle.example_redis.specs.Asking.{asks_in, asks_timed, timed_asks}
use Rattle.example_redis.specs.Values.{Wish, wish_of}

pub same_asks : (now : ℕ) (asks : List (ℕ × Request)) → asks_timed (timed_asks now asks) ≡ asks_in asks
same_asks now [] = refl
same_asks now (ask ∷ asks) = ap (λ (l : List (ℕ × Wish)). (ask.0, wish_of ask.1) ∷ l) (same_asks now asks)

pub all_at : (now : ℕ) (asks : List (ℕ × Request)) → AllByRecursion (λ ask. ask.1.now ≡ now) (timed_asks now asks)
all_at now [] = tt
all_at now (ask ∷ asks) = (refl, all_at now asks)

pub all_there : (now : ℕ) (asks : List (ℕ × Request)) → AllByRecursion (λ ask. ask.0 < CELLS) asks → AllByRecursion (λ ask. ask.0 < CELLS) (timed_asks now asks)
all_there now [] there = tt
all_there now (ask ∷ asks) there = (there.0, all_there now asks there.1)
