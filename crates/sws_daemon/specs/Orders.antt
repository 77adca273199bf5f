-- What the words order, and by which terms it is served.
use Rattle.std.specs.Prelude.{ℕ, min, max, Bool, true, false, nat_eq, if◌then◌else◌, is_some}
use Rattle.std.specs.Net.Socket.{socket_port}
use Rattle.mely_history.specs.declared.shape.Shape.{Shape}
use Rattle.sws_lane.specs.declared.lane.Terms.{Terms}
use Rattle.swsd_words.specs.declared.order.Order.{Order}

-- a number as near to this one as the ends let it be
abbrev pub between : ℕ → ℕ → ℕ → ℕ
between least most number = min (max number least) most

-- the shape in which so many workers serve best: one alone has all connections in one shard, and
-- several have them in 64, and steal at a lower cost
abbrev pub shape_by : ℕ → Shape
shape_by workers = record {
  cores = workers;
  shards = if nat_eq workers 1 then 1 else 64;
  batch = 10;
  steal_cost = if nat_eq workers 1 then 20 else 9;
  group = 4;
}

-- the terms of an order: its port, whether a log is asked for, its workers as far as a run has so many, and its
-- connections likewise
abbrev pub terms_by : Order → Terms
terms_by order = record {
  port = socket_port order.listen;
  connections = between 1 1024 order.connections;
  shape = shape_by (between 1 64 order.workers);
  log = is_some order.log;
}
