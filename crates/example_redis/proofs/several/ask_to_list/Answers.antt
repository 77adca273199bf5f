use Rattle.std.proofs.Common.{◌≡◌, ◌++◌, ◌∷◌, [], ◌∙◌, ap, arith, map, rules, sym}
use Rattle.std.proofs.lemmas.List.{map-append}
use Rattle.std.proofs.lemmas.List.FromFn.{map-range_with_len_more}
use Rattle.std.specs.List.{range_with_len}
use Rattle.std.specs.Prelude.{ℕ, List}
use Rattle.example_redis.specs.declared.request.Request.TheVariants as request
use Rattle.example_redis.specs.Asking.{asks_in}
use Rattle.example_redis.specs.Values.{Lists, Wish, wish_of}
use Rattle.example_redis.proofs.several.ask_to_list.Goals as goal

pub cells-preserved : goal.cells-preserved
cells-preserved c =
    ap asks_in c.in_ok-push.ensures.items
    ∙ map-append (λ ask. (ask.0, wish_of ask.1)) c.cells.asks.items ((c.cells.cell, request.List c.in_ok-copy.copy) ∷ [])
    ∙ ap (λ (l : List (ℕ × Wish)). l ++ (c.cells.cell, Lists c.in_ok-copy.copy.items) ∷ []) c.cells.invariant
    ∙ ap (λ (pattern : List ℕ). map (λ cell. (cell, Lists c.args.pattern.now)) (range_with_len 0 c.cells.cell) ++ (c.cells.cell, Lists pattern) ∷ []) (let same : c.in_ok-copy.copy.items ≡ c.args.pattern.now = search rules in same)
    ∙ sym (map-range_with_len_more (λ cell. (cell, Lists c.args.pattern.now)) 0 c.cells.cell c.cells.cell (omega arith))
