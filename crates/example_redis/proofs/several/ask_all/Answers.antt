use Rattle.std.proofs.Common.{◌++◌, ◌∷◌, [], ◌∙◌, ap, arith, sym}
use Rattle.std.proofs.lemmas.List.{map-append}
use Rattle.std.proofs.lemmas.List.FromFn.{map-range_with_len_more}
use Rattle.std.specs.Prelude.{ℕ, List}
use Rattle.example_redis.specs.declared.request.Request.TheVariants as request
use Rattle.example_redis.specs.Asking.{asks_in}
use Rattle.example_redis.specs.Values.{All, Wish, wish_of}
use Rattle.example_redis.proofs.several.ask_all.Goals as goal

pub cells-preserved : goal.cells-preserved
cells-preserved c =
    ap asks_in c.in_ok-push.ensures.items
    ∙ map-append (λ ask. (ask.0, wish_of ask.1)) c.cells.asks.items ((c.cells.cell, request.All c.args.sweep) ∷ [])
    ∙ ap (λ (l : List (ℕ × Wish)). l ++ (c.cells.cell, All c.args.sweep) ∷ []) c.cells.invariant
    ∙ sym (map-range_with_len_more (λ cell. (cell, All c.args.sweep)) 0 c.cells.cell c.cells.cell (omega arith))
