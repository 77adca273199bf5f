-- The orders of the code, as the grammar's.
use Rattle.std.specs.Prelude.{string_bytes}
use Rattle.mely_history.specs.declared.shape.Shape.{Shape}
use Rattle.sws_words.specs.declared.order.Order.{Order}
use Rattle.sws_words.specs.declared.order.Order.TheVariants.{Answer, Replay, Serve, Bench, Check, Gopher}
use Rattle.sws_words.specs.Orders as orders

-- the shape that the program has read, as a definition has it
abbrev pub told_shape : Shape → orders.Shape
told_shape shape = record {
  cores = shape.cores;
  shards = shape.shards;
  batch = shape.batch;
  group = shape.group;
  steal_cost = shape.steal_cost;
}

-- the order that the program has read, as a definition has it
abbrev pub order_view : Order → orders.Order
order_view (Answer folder date) = orders.answer (string_bytes folder) date
order_view (Replay folder shape date journal schedule log) =
    orders.replay (string_bytes folder) (told_shape shape) date journal schedule log
order_view (Serve folder port connections shape date log) =
    orders.serve (string_bytes folder) port connections (told_shape shape) date log
order_view (Bench connections number shape) = orders.bench connections number (told_shape shape)
order_view (Check connections shape log) = orders.check connections (told_shape shape) log
order_view (Gopher folder host port connections shape journal) =
    orders.gopher (string_bytes folder) (string_bytes host) port connections (told_shape shape)
    journal
