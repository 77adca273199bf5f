-- Runs that an independent model of the runtime made at random, of small machines: the histories
-- and the marks after posts and a schedule, and the histories after a drain.
use Rattle.std.specs.Prelude.{◌≡◌, true, false, [], ◌∷◌, map}
use Rattle.mely_history.specs.declared.entry.Entry.TheVariants.{Reg, Take, Fin, Steal}
use Rattle.mely_machine.specs.MachineRun.{rounds, is_quiet}
use Rattle.test_machine.specs.Drawn.{col, event, mark, act, after, machine_0, machine_1, machine_2, machine_3, machine_4, machine_5, machine_6, machine_7, machine_8, machine_9, machine_10, machine_11, machine_12, machine_13, machine_14, machine_15, machine_16, machine_17, machine_18, machine_19, machine_20, machine_21, machine_22, machine_23}

-- What the model says of each case: the histories and the marks after the schedule; and mostly
-- (`drained`) the histories after so many rounds more, when nothing is left to do, while one
-- round before something was.
pub record IsCase0 : Type 0 where
  pub histories : machine_0.histories ≡
      ((Reg (col 6) (event 0 0) 3 ∷ Reg (col 0) (event 1 1) 3 ∷ Reg (col 6) (event 2 1) 3
      ∷ Reg (col 6) (event 1 5) 3 ∷ Reg (col 2) (event 0 2) 3 ∷ Reg (col 0) (event 0 3) 3
      ∷ Reg (col 0) (event 0 0) 2 ∷ Reg (col 2) (event 1 3) 1 ∷ Take (col 2) 2 2 ∷ Fin (col 2) 2 2
      ∷ Take (col 6) 0 2 ∷ Reg (col 2) (event 0 1) 0 ∷ Fin (col 6) 0 2 ∷ [])
      ∷ (Reg (col 3) (event 0 2) 3 ∷ Reg (col 7) (event 2 2) 3 ∷ Reg (col 5) (event 1 0) 3
      ∷ Reg (col 3) (event 0 5) 3 ∷ Reg (col 1) (event 2 6) 3 ∷ Reg (col 7) (event 2 6) 3
      ∷ Take (col 7) 1 2 ∷ Take (col 5) 2 1 ∷ Fin (col 5) 2 1 ∷ Take (col 3) 0 2 ∷ Fin (col 3) 0 2
      ∷ Reg (col 3) (event 0 2) 1 ∷ Reg (col 3) (event 0 0) 2 ∷ Reg (col 1) (event 1 2) 0 ∷ [])
      ∷ [])
  pub marks : map (λ list. map (λ l. l.mark) list) machine_0.lists ≡
      ((mark 6 2 17 ∷ []) ∷ (mark 1 0 28 ∷ []) ∷ (mark 2 2 2 ∷ []) ∷ [])
  pub drained :
      (rounds (record {
        shape = record { cores = 3; shards = 2; batch = 2; steal_cost = 3; group = 4 };
        rows = ((5, 2) ∷ (35, 2) ∷ (34, 3) ∷ []);
        pinned = 0;
      }) (act 8) 37 machine_0).histories ≡
      ((Reg (col 6) (event 0 0) 3 ∷ Reg (col 0) (event 1 1) 3 ∷ Reg (col 6) (event 2 1) 3
      ∷ Reg (col 6) (event 1 5) 3 ∷ Reg (col 2) (event 0 2) 3 ∷ Reg (col 0) (event 0 3) 3
      ∷ Reg (col 0) (event 0 0) 2 ∷ Reg (col 2) (event 1 3) 1 ∷ Take (col 2) 2 2 ∷ Fin (col 2) 2 2
      ∷ Take (col 6) 0 2 ∷ Reg (col 2) (event 0 1) 0 ∷ Fin (col 6) 0 2 ∷ Steal (col 0) 0 2
      ∷ Reg (col 6) (event 1 7) 1 ∷ Take (col 2) 2 1 ∷ Take (col 6) 0 2 ∷ Fin (col 2) 2 1
      ∷ Take (col 0) 2 2 ∷ Reg (col 6) (event 1 7) 1 ∷ Fin (col 0) 2 2 ∷ Fin (col 6) 0 2
      ∷ Reg (col 2) (event 0 0) 1 ∷ Take (col 6) 0 1 ∷ Take (col 0) 2 1 ∷ Fin (col 6) 0 1
      ∷ Fin (col 0) 2 1 ∷ Take (col 2) 2 1 ∷ Fin (col 2) 2 1 ∷ [])
      ∷ (Reg (col 3) (event 0 2) 3 ∷ Reg (col 7) (event 2 2) 3 ∷ Reg (col 5) (event 1 0) 3
      ∷ Reg (col 3) (event 0 5) 3 ∷ Reg (col 1) (event 2 6) 3 ∷ Reg (col 7) (event 2 6) 3
      ∷ Take (col 7) 1 2 ∷ Take (col 5) 2 1 ∷ Fin (col 5) 2 1 ∷ Take (col 3) 0 2 ∷ Fin (col 3) 0 2
      ∷ Reg (col 3) (event 0 2) 1 ∷ Reg (col 3) (event 0 0) 2 ∷ Reg (col 1) (event 1 2) 0
      ∷ Take (col 3) 0 2 ∷ Fin (col 3) 0 2 ∷ Reg (col 7) (event 0 6) 1 ∷ Fin (col 7) 1 2
      ∷ Reg (col 5) (event 0 0) 0 ∷ Take (col 1) 1 2 ∷ Reg (col 1) (event 0 0) 2
      ∷ Reg (col 7) (event 0 0) 0 ∷ Reg (col 7) (event 0 6) 1 ∷ Take (col 5) 2 1 ∷ Fin (col 1) 1 2
      ∷ Fin (col 5) 2 1 ∷ Reg (col 7) (event 0 0) 0 ∷ Take (col 7) 1 2 ∷ Fin (col 7) 1 2
      ∷ Take (col 1) 1 1 ∷ Steal (col 7) 1 0 ∷ Fin (col 1) 1 1 ∷ Steal (col 7) 0 2
      ∷ Steal (col 7) 2 0 ∷ Take (col 7) 0 2 ∷ Fin (col 7) 0 2 ∷ []) ∷ [])
  pub quiet :
      is_quiet (rounds (record {
        shape = record { cores = 3; shards = 2; batch = 2; steal_cost = 3; group = 4 };
        rows = ((5, 2) ∷ (35, 2) ∷ (34, 3) ∷ []);
        pinned = 0;
      }) (act 8) 37 machine_0) ≡ true
  pub busy :
      is_quiet (rounds (record {
        shape = record { cores = 3; shards = 2; batch = 2; steal_cost = 3; group = 4 };
        rows = ((5, 2) ∷ (35, 2) ∷ (34, 3) ∷ []);
        pinned = 0;
      }) (act 8) 36 machine_0) ≡ false

pub record IsCase1 : Type 0 where
  pub histories : machine_1.histories ≡
      ((Reg (col 0) (event 2 4) 3 ∷ Reg (col 7) (event 2 0) 3 ∷ Reg (col 8) (event 2 5) 3
      ∷ Reg (col 3) (event 2 4) 3 ∷ Reg (col 7) (event 2 7) 3 ∷ Reg (col 3) (event 1 7) 3
      ∷ Reg (col 8) (event 2 2) 3 ∷ Reg (col 3) (event 1 0) 3 ∷ Take (col 7) 1 2 ∷ Take (col 0) 0 1
      ∷ Reg (col 4) (event 1 5) 0 ∷ Reg (col 5) (event 0 4) 0 ∷ Fin (col 0) 0 1 ∷ Take (col 8) 2 2
      ∷ Reg (col 5) (event 1 6) 2 ∷ Reg (col 6) (event 0 5) 2 ∷ Take (col 3) 0 2
      ∷ Reg (col 0) (event 1 1) 1 ∷ Reg (col 1) (event 0 0) 1 ∷ Reg (col 7) (event 1 8) 1
      ∷ Reg (col 8) (event 0 7) 1 ∷ Fin (col 7) 1 2 ∷ Take (col 4) 1 1 ∷ Reg (col 4) (event 1 5) 0
      ∷ Reg (col 2) (event 1 3) 2 ∷ Reg (col 3) (event 0 2) 2 ∷ Reg (col 5) (event 0 0) 1
      ∷ Fin (col 4) 1 1 ∷ []) ∷ [])
  pub marks : map (λ list. map (λ l. l.mark) list) machine_1.lists ≡
      ((mark 0 1 19 ∷ mark 6 0 3 ∷ [])
      ∷ (mark 1 0 3 ∷ mark 7 2 19 ∷ [])
      ∷ (mark 5 0 25 ∷ mark 2 0 19 ∷ []) ∷ [])
  pub drained :
      (rounds (record {
        shape = record { cores = 3; shards = 1; batch = 2; steal_cost = 3; group = 4 };
        rows = ((11, 3) ∷ (19, 1) ∷ (9, 3) ∷ []);
        pinned = 0;
      }) (act 9) 34 machine_1).histories ≡
      ((Reg (col 0) (event 2 4) 3 ∷ Reg (col 7) (event 2 0) 3 ∷ Reg (col 8) (event 2 5) 3
      ∷ Reg (col 3) (event 2 4) 3 ∷ Reg (col 7) (event 2 7) 3 ∷ Reg (col 3) (event 1 7) 3
      ∷ Reg (col 8) (event 2 2) 3 ∷ Reg (col 3) (event 1 0) 3 ∷ Take (col 7) 1 2 ∷ Take (col 0) 0 1
      ∷ Reg (col 4) (event 1 5) 0 ∷ Reg (col 5) (event 0 4) 0 ∷ Fin (col 0) 0 1 ∷ Take (col 8) 2 2
      ∷ Reg (col 5) (event 1 6) 2 ∷ Reg (col 6) (event 0 5) 2 ∷ Take (col 3) 0 2
      ∷ Reg (col 0) (event 1 1) 1 ∷ Reg (col 1) (event 0 0) 1 ∷ Reg (col 7) (event 1 8) 1
      ∷ Reg (col 8) (event 0 7) 1 ∷ Fin (col 7) 1 2 ∷ Take (col 4) 1 1 ∷ Reg (col 4) (event 1 5) 0
      ∷ Reg (col 2) (event 1 3) 2 ∷ Reg (col 3) (event 0 2) 2 ∷ Reg (col 5) (event 0 0) 1
      ∷ Fin (col 4) 1 1 ∷ Reg (col 5) (event 0 4) 0 ∷ Fin (col 8) 2 2 ∷ Take (col 1) 1 1
      ∷ Reg (col 7) (event 0 0) 0 ∷ Take (col 5) 2 2 ∷ Fin (col 1) 1 1 ∷ Fin (col 3) 0 2
      ∷ Take (col 7) 1 2 ∷ Reg (col 6) (event 0 0) 2 ∷ Take (col 0) 0 1 ∷ Reg (col 8) (event 0 0) 1
      ∷ Fin (col 5) 2 2 ∷ Reg (col 1) (event 0 0) 0 ∷ Fin (col 7) 1 2 ∷ Take (col 2) 2 1
      ∷ Fin (col 0) 0 1 ∷ Take (col 4) 1 1 ∷ Reg (col 3) (event 0 0) 2 ∷ Take (col 6) 0 2
      ∷ Reg (col 5) (event 0 0) 1 ∷ Fin (col 2) 2 1 ∷ Fin (col 6) 0 2 ∷ Fin (col 4) 1 1
      ∷ Take (col 8) 2 2 ∷ Take (col 3) 0 2 ∷ Take (col 1) 1 1 ∷ Fin (col 8) 2 2
      ∷ Reg (col 0) (event 0 0) 0 ∷ Fin (col 1) 1 1 ∷ Take (col 5) 2 2 ∷ Fin (col 3) 0 2
      ∷ Fin (col 5) 2 2 ∷ Take (col 0) 0 1 ∷ Take (col 5) 2 1 ∷ Fin (col 0) 0 1 ∷ Fin (col 5) 2 1
      ∷ Take (col 3) 0 1 ∷ Fin (col 3) 0 1 ∷ []) ∷ [])
  pub quiet :
      is_quiet (rounds (record {
        shape = record { cores = 3; shards = 1; batch = 2; steal_cost = 3; group = 4 };
        rows = ((11, 3) ∷ (19, 1) ∷ (9, 3) ∷ []);
        pinned = 0;
      }) (act 9) 34 machine_1) ≡ true
  pub busy :
      is_quiet (rounds (record {
        shape = record { cores = 3; shards = 1; batch = 2; steal_cost = 3; group = 4 };
        rows = ((11, 3) ∷ (19, 1) ∷ (9, 3) ∷ []);
        pinned = 0;
      }) (act 9) 33 machine_1) ≡ false

pub record IsCase2 : Type 0 where
  pub histories : machine_2.histories ≡
      ((Reg (col 2) (event 0 5) 3 ∷ Reg (col 0) (event 0 1) 3 ∷ Reg (col 4) (event 2 3) 3
      ∷ Reg (col 4) (event 2 0) 3 ∷ Reg (col 0) (event 2 1) 3 ∷ Reg (col 4) (event 2 2) 3
      ∷ Take (col 0) 0 2 ∷ Reg (col 2) (event 0 1) 0 ∷ Fin (col 0) 0 2 ∷ Reg (col 0) (event 0 5) 2
      ∷ Reg (col 0) (event 1 1) 0 ∷ Reg (col 4) (event 1 5) 1 ∷ Take (col 2) 2 2 ∷ Fin (col 2) 2 2
      ∷ Reg (col 4) (event 1 5) 0 ∷ [])
      ∷ (Reg (col 5) (event 2 5) 3 ∷ Reg (col 1) (event 2 4) 3 ∷ Reg (col 1) (event 1 1) 3
      ∷ Reg (col 3) (event 2 0) 3 ∷ Reg (col 3) (event 2 4) 3 ∷ Take (col 5) 2 1
      ∷ Reg (col 1) (event 1 2) 0 ∷ Reg (col 5) (event 1 0) 2 ∷ Take (col 3) 0 2 ∷ Fin (col 5) 2 1
      ∷ Take (col 1) 1 2 ∷ Reg (col 5) (event 0 4) 1 ∷ Reg (col 1) (event 0 0) 1 ∷ Fin (col 1) 1 2
      ∷ Take (col 5) 2 2 ∷ Reg (col 1) (event 0 0) 0 ∷ []) ∷ [])
  pub marks : map (λ list. map (λ l. l.mark) list) machine_2.lists ≡
      ((mark 0 2 19 ∷ []) ∷ (mark 1 2 35 ∷ []) ∷ ([]) ∷ [])

pub record IsCase3 : Type 0 where
  pub histories : machine_3.histories ≡
      ((Reg (col 2) (event 1 6) 3 ∷ Reg (col 5) (event 2 2) 3 ∷ Reg (col 1) (event 0 1) 3
      ∷ Reg (col 3) (event 2 3) 3 ∷ Reg (col 1) (event 0 5) 3 ∷ Reg (col 4) (event 2 3) 3
      ∷ Reg (col 1) (event 2 0) 3 ∷ Reg (col 1) (event 0 2) 3 ∷ Take (col 1) 1 1 ∷ Take (col 2) 2 1
      ∷ Reg (col 6) (event 0 0) 2 ∷ Fin (col 1) 1 1 ∷ Fin (col 2) 2 1 ∷ Take (col 5) 2 1
      ∷ Reg (col 2) (event 1 3) 2 ∷ Reg (col 3) (event 0 2) 2 ∷ Fin (col 5) 2 1 ∷ Take (col 2) 2 1
      ∷ Take (col 4) 1 1 ∷ Reg (col 3) (event 1 4) 1 ∷ Reg (col 4) (event 0 3) 1
      ∷ Reg (col 3) (event 0 0) 2 ∷ Fin (col 2) 2 1 ∷ Take (col 3) 0 1 ∷ Reg (col 3) (event 1 4) 0
      ∷ Fin (col 4) 1 1 ∷ Reg (col 4) (event 0 3) 0 ∷ Fin (col 3) 0 1 ∷ Steal (col 6) 0 2
      ∷ Take (col 6) 2 1 ∷ Fin (col 6) 2 1 ∷ []) ∷ [])
  pub marks : map (λ list. map (λ l. l.mark) list) machine_3.lists ≡
      ((mark 3 1 102 ∷ []) ∷ (mark 1 1 53 ∷ []) ∷ ([]) ∷ [])
  pub drained :
      (rounds (record {
        shape = record { cores = 3; shards = 1; batch = 1; steal_cost = 5; group = 4 };
        rows = ((25, 1) ∷ (26, 1) ∷ (10, 3) ∷ []);
        pinned = 0;
      }) (act 7) 38 machine_3).histories ≡
      ((Reg (col 2) (event 1 6) 3 ∷ Reg (col 5) (event 2 2) 3 ∷ Reg (col 1) (event 0 1) 3
      ∷ Reg (col 3) (event 2 3) 3 ∷ Reg (col 1) (event 0 5) 3 ∷ Reg (col 4) (event 2 3) 3
      ∷ Reg (col 1) (event 2 0) 3 ∷ Reg (col 1) (event 0 2) 3 ∷ Take (col 1) 1 1 ∷ Take (col 2) 2 1
      ∷ Reg (col 6) (event 0 0) 2 ∷ Fin (col 1) 1 1 ∷ Fin (col 2) 2 1 ∷ Take (col 5) 2 1
      ∷ Reg (col 2) (event 1 3) 2 ∷ Reg (col 3) (event 0 2) 2 ∷ Fin (col 5) 2 1 ∷ Take (col 2) 2 1
      ∷ Take (col 4) 1 1 ∷ Reg (col 3) (event 1 4) 1 ∷ Reg (col 4) (event 0 3) 1
      ∷ Reg (col 3) (event 0 0) 2 ∷ Fin (col 2) 2 1 ∷ Take (col 3) 0 1 ∷ Reg (col 3) (event 1 4) 0
      ∷ Fin (col 4) 1 1 ∷ Reg (col 4) (event 0 3) 0 ∷ Fin (col 3) 0 1 ∷ Steal (col 6) 0 2
      ∷ Take (col 6) 2 1 ∷ Fin (col 6) 2 1 ∷ Take (col 3) 0 1 ∷ Take (col 1) 1 1 ∷ Fin (col 3) 0 1
      ∷ Steal (col 4) 1 2 ∷ Fin (col 1) 1 1 ∷ Take (col 3) 0 1 ∷ Take (col 4) 2 1 ∷ Take (col 1) 1 1
      ∷ Reg (col 4) (event 0 0) 0 ∷ Fin (col 4) 2 1 ∷ Fin (col 3) 0 1 ∷ Reg (col 0) (event 1 1) 1
      ∷ Reg (col 1) (event 0 0) 1 ∷ Take (col 4) 2 1 ∷ Take (col 3) 0 1 ∷ Fin (col 1) 1 1
      ∷ Fin (col 4) 2 1 ∷ Fin (col 3) 0 1 ∷ Take (col 1) 1 1 ∷ Take (col 4) 2 1 ∷ Take (col 0) 0 1
      ∷ Fin (col 1) 1 1 ∷ Fin (col 4) 2 1 ∷ Reg (col 1) (event 0 0) 0 ∷ Take (col 1) 1 1
      ∷ Fin (col 0) 0 1 ∷ Steal (col 3) 0 2 ∷ Fin (col 1) 1 1 ∷ Take (col 3) 2 1 ∷ Take (col 1) 1 1
      ∷ Reg (col 4) (event 0 0) 2 ∷ Fin (col 1) 1 1 ∷ Fin (col 3) 2 1 ∷ Steal (col 4) 2 1
      ∷ Steal (col 4) 1 2 ∷ Take (col 4) 2 1 ∷ Fin (col 4) 2 1 ∷ []) ∷ [])
  pub quiet :
      is_quiet (rounds (record {
        shape = record { cores = 3; shards = 1; batch = 1; steal_cost = 5; group = 4 };
        rows = ((25, 1) ∷ (26, 1) ∷ (10, 3) ∷ []);
        pinned = 0;
      }) (act 7) 38 machine_3) ≡ true
  pub busy :
      is_quiet (rounds (record {
        shape = record { cores = 3; shards = 1; batch = 1; steal_cost = 5; group = 4 };
        rows = ((25, 1) ∷ (26, 1) ∷ (10, 3) ∷ []);
        pinned = 0;
      }) (act 7) 37 machine_3) ≡ false

pub record IsCase4 : Type 0 where
  pub histories : machine_4.histories ≡
      ((Reg (col 4) (event 1 2) 3 ∷ Reg (col 2) (event 2 7) 3 ∷ Reg (col 0) (event 2 5) 3
      ∷ Reg (col 4) (event 2 4) 3 ∷ Reg (col 6) (event 2 2) 3 ∷ Reg (col 2) (event 2 0) 3
      ∷ Reg (col 6) (event 2 6) 3 ∷ Reg (col 4) (event 2 6) 3 ∷ Reg (col 6) (event 2 6) 3
      ∷ Reg (col 6) (event 1 2) 3 ∷ Take (col 4) 1 1 ∷ Reg (col 2) (event 0 0) 1 ∷ Fin (col 4) 1 1
      ∷ Take (col 0) 0 1 ∷ Reg (col 6) (event 0 5) 0 ∷ Take (col 2) 2 1 ∷ Reg (col 8) (event 0 7) 2
      ∷ Reg (col 8) (event 0 0) 1 ∷ Take (col 4) 1 1 ∷ Fin (col 2) 2 1 ∷ Fin (col 0) 0 1 ∷ [])
      ∷ (Reg (col 7) (event 1 8) 3 ∷ Reg (col 5) (event 1 6) 0 ∷ Reg (col 7) (event 1 8) 2
      ∷ Take (col 7) 1 1 ∷ Fin (col 7) 1 1 ∷ []) ∷ [])
  pub marks : map (λ list. map (λ l. l.mark) list) machine_4.lists ≡
      (([]) ∷ (mark 7 1 3 ∷ []) ∷ (mark 8 0 12 ∷ mark 2 1 30 ∷ []) ∷ [])

pub record IsCase5 : Type 0 where
  pub histories : machine_5.histories ≡
      ((Reg (col 3) (event 1 3) 2 ∷ Reg (col 0) (event 0 5) 2 ∷ Reg (col 1) (event 2 4) 2
      ∷ Reg (col 3) (event 2 3) 2 ∷ Reg (col 2) (event 2 3) 2 ∷ Reg (col 4) (event 0 5) 2
      ∷ Reg (col 2) (event 0 1) 2 ∷ Reg (col 3) (event 2 5) 2 ∷ Reg (col 0) (event 2 4) 2
      ∷ Reg (col 3) (event 2 0) 2 ∷ Reg (col 1) (event 2 0) 2 ∷ Take (col 0) 0 2
      ∷ Reg (col 4) (event 1 5) 0 ∷ Reg (col 5) (event 0 4) 0 ∷ Fin (col 0) 0 2 ∷ Take (col 2) 0 2
      ∷ Reg (col 3) (event 1 4) 0 ∷ Reg (col 4) (event 0 3) 0 ∷ Fin (col 2) 0 2 ∷ Take (col 3) 1 2
      ∷ Reg (col 3) (event 0 0) 1 ∷ Reg (col 3) (event 1 4) 1 ∷ Take (col 4) 0 2
      ∷ Reg (col 4) (event 0 3) 1 ∷ Fin (col 3) 1 2 ∷ Take (col 1) 1 2 ∷ Reg (col 4) (event 1 5) 1
      ∷ []) ∷ [])
  pub marks : map (λ list. map (λ l. l.mark) list) machine_5.lists ≡
      (([]) ∷ (mark 5 0 8 ∷ mark 3 2 22 ∷ []) ∷ [])

pub record IsCase6 : Type 0 where
  pub histories : machine_6.histories ≡
      ((Reg (col 1) (event 0 3) 3 ∷ Reg (col 3) (event 2 6) 3 ∷ Reg (col 3) (event 2 2) 3
      ∷ Reg (col 4) (event 2 6) 3 ∷ Reg (col 6) (event 2 2) 3 ∷ Reg (col 1) (event 2 0) 3
      ∷ Reg (col 1) (event 2 3) 3 ∷ Steal (col 3) 0 2 ∷ Take (col 6) 0 1 ∷ Reg (col 2) (event 1 3) 0
      ∷ Take (col 3) 2 2 ∷ Reg (col 6) (event 1 0) 2 ∷ Reg (col 0) (event 0 6) 2
      ∷ Reg (col 2) (event 1 3) 2 ∷ Take (col 1) 1 2 ∷ Reg (col 3) (event 0 2) 0 ∷ Fin (col 6) 0 1
      ∷ Take (col 0) 0 1 ∷ Reg (col 3) (event 0 2) 2 ∷ Fin (col 3) 2 2 ∷ Take (col 2) 2 2
      ∷ Reg (col 0) (event 1 1) 1 ∷ Reg (col 1) (event 0 0) 1 ∷ Fin (col 1) 1 2 ∷ Take (col 4) 1 1
      ∷ Fin (col 0) 0 1 ∷ Take (col 6) 0 1 ∷ Reg (col 3) (event 0 0) 2 ∷ Reg (col 3) (event 0 0) 2
      ∷ []) ∷ [])
  pub marks : map (λ list. map (λ l. l.mark) list) machine_6.lists ≡
      ((mark 0 1 4 ∷ []) ∷ (mark 1 2 28 ∷ []) ∷ (mark 3 2 18 ∷ []) ∷ [])
  pub drained :
      (rounds (record {
        shape = record { cores = 3; shards = 1; batch = 2; steal_cost = 3; group = 4 };
        rows = ((12, 2) ∷ (13, 3) ∷ (22, 1) ∷ []);
        pinned = 0;
      }) (act 7) 26 machine_6).histories ≡
      ((Reg (col 1) (event 0 3) 3 ∷ Reg (col 3) (event 2 6) 3 ∷ Reg (col 3) (event 2 2) 3
      ∷ Reg (col 4) (event 2 6) 3 ∷ Reg (col 6) (event 2 2) 3 ∷ Reg (col 1) (event 2 0) 3
      ∷ Reg (col 1) (event 2 3) 3 ∷ Steal (col 3) 0 2 ∷ Take (col 6) 0 1 ∷ Reg (col 2) (event 1 3) 0
      ∷ Take (col 3) 2 2 ∷ Reg (col 6) (event 1 0) 2 ∷ Reg (col 0) (event 0 6) 2
      ∷ Reg (col 2) (event 1 3) 2 ∷ Take (col 1) 1 2 ∷ Reg (col 3) (event 0 2) 0 ∷ Fin (col 6) 0 1
      ∷ Take (col 0) 0 1 ∷ Reg (col 3) (event 0 2) 2 ∷ Fin (col 3) 2 2 ∷ Take (col 2) 2 2
      ∷ Reg (col 0) (event 1 1) 1 ∷ Reg (col 1) (event 0 0) 1 ∷ Fin (col 1) 1 2 ∷ Take (col 4) 1 1
      ∷ Fin (col 0) 0 1 ∷ Take (col 6) 0 1 ∷ Reg (col 3) (event 0 0) 2 ∷ Reg (col 3) (event 0 0) 2
      ∷ Reg (col 0) (event 0 0) 0 ∷ Reg (col 6) (event 1 0) 1 ∷ Reg (col 0) (event 0 6) 1
      ∷ Fin (col 2) 2 2 ∷ Fin (col 6) 0 1 ∷ Fin (col 4) 1 1 ∷ Take (col 3) 2 2 ∷ Take (col 0) 0 2
      ∷ Take (col 1) 1 2 ∷ Fin (col 3) 2 2 ∷ Reg (col 1) (event 0 0) 0 ∷ Reg (col 3) (event 1 4) 1
      ∷ Fin (col 0) 0 2 ∷ Reg (col 4) (event 0 3) 1 ∷ Take (col 3) 2 2 ∷ Take (col 6) 0 1
      ∷ Fin (col 1) 1 2 ∷ Fin (col 3) 2 2 ∷ Reg (col 0) (event 0 0) 0 ∷ Take (col 4) 1 1
      ∷ Take (col 3) 2 1 ∷ Fin (col 6) 0 1 ∷ Fin (col 4) 1 1 ∷ Reg (col 4) (event 0 0) 2
      ∷ Take (col 0) 0 2 ∷ Take (col 1) 1 1 ∷ Fin (col 3) 2 1 ∷ Fin (col 0) 0 2 ∷ Fin (col 1) 1 1
      ∷ Take (col 4) 1 1 ∷ Fin (col 4) 1 1 ∷ []) ∷ [])
  pub quiet :
      is_quiet (rounds (record {
        shape = record { cores = 3; shards = 1; batch = 2; steal_cost = 3; group = 4 };
        rows = ((12, 2) ∷ (13, 3) ∷ (22, 1) ∷ []);
        pinned = 0;
      }) (act 7) 26 machine_6) ≡ true
  pub busy :
      is_quiet (rounds (record {
        shape = record { cores = 3; shards = 1; batch = 2; steal_cost = 3; group = 4 };
        rows = ((12, 2) ∷ (13, 3) ∷ (22, 1) ∷ []);
        pinned = 0;
      }) (act 7) 25 machine_6) ≡ false

pub record IsCase7 : Type 0 where
  pub histories : machine_7.histories ≡
      ((Reg (col 4) (event 2 1) 3 ∷ Reg (col 2) (event 2 4) 3 ∷ Reg (col 2) (event 1 2) 3
      ∷ Reg (col 2) (event 2 5) 3 ∷ Reg (col 4) (event 2 5) 3 ∷ Reg (col 4) (event 0 6) 3
      ∷ Steal (col 4) 1 0 ∷ Take (col 4) 0 2 ∷ Reg (col 2) (event 0 1) 0 ∷ Reg (col 2) (event 0 0) 1
      ∷ Take (col 2) 2 2 ∷ Reg (col 6) (event 0 5) 0 ∷ Fin (col 4) 0 2 ∷ Take (col 6) 0 1
      ∷ Fin (col 6) 0 1 ∷ Take (col 4) 0 1 ∷ Fin (col 4) 0 1 ∷ Reg (col 4) (event 1 5) 2
      ∷ Reg (col 0) (event 1 1) 1 ∷ Reg (col 6) (event 0 0) 1 ∷ [])
      ∷ (Reg (col 5) (event 2 0) 3 ∷ Reg (col 1) (event 1 2) 0 ∷ Reg (col 5) (event 1 6) 0
      ∷ Take (col 1) 1 1 ∷ Fin (col 1) 1 1 ∷ Steal (col 5) 2 1 ∷ Take (col 5) 1 2
      ∷ Reg (col 1) (event 0 0) 1 ∷ Fin (col 5) 1 2 ∷ []) ∷ [])
  pub marks : map (λ list. map (λ l. l.mark) list) machine_7.lists ≡
      ((mark 4 3 12 ∷ mark 0 0 12 ∷ mark 6 1 13 ∷ []) ∷ (mark 1 1 13 ∷ []) ∷ ([]) ∷ [])
  pub drained :
      (rounds (record {
        shape = record { cores = 3; shards = 2; batch = 2; steal_cost = 5; group = 4 };
        rows = ((27, 2) ∷ (37, 3) ∷ (34, 1) ∷ []);
        pinned = 0;
      }) (act 7) 24 machine_7).histories ≡
      ((Reg (col 4) (event 2 1) 3 ∷ Reg (col 2) (event 2 4) 3 ∷ Reg (col 2) (event 1 2) 3
      ∷ Reg (col 2) (event 2 5) 3 ∷ Reg (col 4) (event 2 5) 3 ∷ Reg (col 4) (event 0 6) 3
      ∷ Steal (col 4) 1 0 ∷ Take (col 4) 0 2 ∷ Reg (col 2) (event 0 1) 0 ∷ Reg (col 2) (event 0 0) 1
      ∷ Take (col 2) 2 2 ∷ Reg (col 6) (event 0 5) 0 ∷ Fin (col 4) 0 2 ∷ Take (col 6) 0 1
      ∷ Fin (col 6) 0 1 ∷ Take (col 4) 0 1 ∷ Fin (col 4) 0 1 ∷ Reg (col 4) (event 1 5) 2
      ∷ Reg (col 0) (event 1 1) 1 ∷ Reg (col 6) (event 0 0) 1 ∷ Steal (col 4) 0 1
      ∷ Reg (col 2) (event 0 0) 2 ∷ Take (col 0) 0 1 ∷ Fin (col 2) 2 2 ∷ Take (col 2) 2 2
      ∷ Fin (col 0) 0 1 ∷ Take (col 6) 0 1 ∷ Take (col 4) 1 1 ∷ Reg (col 6) (event 0 5) 2
      ∷ Fin (col 6) 0 1 ∷ Fin (col 2) 2 2 ∷ Fin (col 4) 1 1 ∷ Take (col 2) 2 2
      ∷ Reg (col 6) (event 0 0) 1 ∷ Fin (col 2) 2 2 ∷ Take (col 6) 0 2 ∷ Fin (col 6) 0 2 ∷ [])
      ∷ (Reg (col 5) (event 2 0) 3 ∷ Reg (col 1) (event 1 2) 0 ∷ Reg (col 5) (event 1 6) 0
      ∷ Take (col 1) 1 1 ∷ Fin (col 1) 1 1 ∷ Steal (col 5) 2 1 ∷ Take (col 5) 1 2
      ∷ Reg (col 1) (event 0 0) 1 ∷ Fin (col 5) 1 2 ∷ Reg (col 5) (event 0 4) 2 ∷ Steal (col 1) 1 0
      ∷ Reg (col 1) (event 0 0) 0 ∷ Take (col 5) 1 1 ∷ Fin (col 5) 1 1 ∷ Reg (col 5) (event 1 6) 2
      ∷ Reg (col 5) (event 0 0) 1 ∷ Take (col 1) 0 2 ∷ Take (col 5) 1 2 ∷ Fin (col 1) 0 2
      ∷ Fin (col 5) 1 2 ∷ []) ∷ [])
  pub quiet :
      is_quiet (rounds (record {
        shape = record { cores = 3; shards = 2; batch = 2; steal_cost = 5; group = 4 };
        rows = ((27, 2) ∷ (37, 3) ∷ (34, 1) ∷ []);
        pinned = 0;
      }) (act 7) 24 machine_7) ≡ true
  pub busy :
      is_quiet (rounds (record {
        shape = record { cores = 3; shards = 2; batch = 2; steal_cost = 5; group = 4 };
        rows = ((27, 2) ∷ (37, 3) ∷ (34, 1) ∷ []);
        pinned = 0;
      }) (act 7) 23 machine_7) ≡ false

pub record IsCase8 : Type 0 where
  pub histories : machine_8.histories ≡
      ((Reg (col 0) (event 0 5) 3 ∷ Reg (col 2) (event 2 5) 3 ∷ Reg (col 2) (event 2 1) 3
      ∷ Reg (col 2) (event 1 2) 3 ∷ Reg (col 0) (event 2 1) 3 ∷ Reg (col 0) (event 0 0) 1
      ∷ Reg (col 2) (event 0 1) 0 ∷ Reg (col 2) (event 1 3) 2 ∷ Reg (col 0) (event 1 1) 0
      ∷ Reg (col 4) (event 1 5) 2 ∷ Steal (col 2) 2 1 ∷ Reg (col 2) (event 0 0) 1
      ∷ Steal (col 2) 1 2 ∷ [])
      ∷ (Reg (col 5) (event 2 2) 3 ∷ Reg (col 3) (event 2 1) 3 ∷ Reg (col 5) (event 2 4) 3
      ∷ Reg (col 3) (event 2 0) 3 ∷ Reg (col 1) (event 0 3) 3 ∷ Reg (col 1) (event 1 0) 3
      ∷ Take (col 1) 1 2 ∷ Fin (col 1) 1 2 ∷ Take (col 3) 0 2 ∷ Reg (col 1) (event 1 2) 0
      ∷ Take (col 5) 2 2 ∷ Reg (col 3) (event 0 2) 2 ∷ Reg (col 1) (event 0 0) 0 ∷ Fin (col 3) 0 2
      ∷ Reg (col 5) (event 0 4) 2 ∷ Fin (col 5) 2 2 ∷ Take (col 1) 1 2 ∷ Take (col 5) 2 1
      ∷ Fin (col 5) 2 1 ∷ []) ∷ [])
  pub marks : map (λ list. map (λ l. l.mark) list) machine_8.lists ≡
      ((mark 3 2 6 ∷ []) ∷ (mark 4 0 12 ∷ []) ∷ ([]) ∷ [])

pub record IsCase9 : Type 0 where
  pub histories : machine_9.histories ≡
      ((Reg (col 0) (event 2 1) 2 ∷ Reg (col 4) (event 2 3) 2 ∷ Reg (col 4) (event 2 4) 2
      ∷ Reg (col 6) (event 0 0) 2 ∷ Reg (col 4) (event 2 4) 2 ∷ Reg (col 0) (event 0 2) 2
      ∷ Take (col 0) 0 2 ∷ Reg (col 0) (event 1 1) 1 ∷ Reg (col 2) (event 1 3) 1
      ∷ Reg (col 2) (event 0 0) 1 ∷ Reg (col 2) (event 0 0) 1 ∷ Reg (col 2) (event 0 1) 0 ∷ [])
      ∷ (Reg (col 7) (event 2 0) 2 ∷ Reg (col 5) (event 2 2) 2 ∷ Reg (col 5) (event 0 1) 2
      ∷ Reg (col 1) (event 1 2) 2 ∷ Take (col 7) 1 1 ∷ Reg (col 1) (event 1 2) 0
      ∷ Reg (col 1) (event 0 0) 1 ∷ Fin (col 7) 1 1 ∷ Take (col 5) 1 2 ∷ Reg (col 3) (event 0 2) 1
      ∷ Fin (col 5) 1 2 ∷ Take (col 1) 1 2 ∷ Fin (col 1) 1 2 ∷ Take (col 3) 1 1 ∷ Fin (col 3) 1 1
      ∷ Take (col 1) 1 1 ∷ Fin (col 1) 1 1 ∷ []) ∷ [])
  pub marks : map (λ list. map (λ l. l.mark) list) machine_9.lists ≡
      ((mark 4 0 9 ∷ mark 6 0 14 ∷ mark 2 0 58 ∷ []) ∷ ([]) ∷ [])

pub record IsCase10 : Type 0 where
  pub histories : machine_10.histories ≡
      ((Reg (col 3) (event 0 1) 3 ∷ Reg (col 1) (event 1 6) 3 ∷ Reg (col 5) (event 2 0) 3
      ∷ Reg (col 6) (event 1 5) 3 ∷ Reg (col 5) (event 2 0) 3 ∷ Reg (col 5) (event 2 3) 3
      ∷ Reg (col 3) (event 0 1) 3 ∷ Reg (col 7) (event 2 2) 3 ∷ Reg (col 8) (event 1 7) 3
      ∷ Reg (col 8) (event 2 5) 3 ∷ Reg (col 3) (event 1 2) 3 ∷ Take (col 1) 1 1
      ∷ Reg (col 6) (event 0 0) 1 ∷ Fin (col 1) 1 1 ∷ Take (col 7) 1 1 ∷ Take (col 3) 0 2
      ∷ Take (col 5) 2 2 ∷ Reg (col 0) (event 1 1) 2 ∷ Reg (col 2) (event 1 3) 1
      ∷ Reg (col 3) (event 0 2) 1 ∷ Fin (col 7) 1 1 ∷ Fin (col 3) 0 2 ∷ Steal (col 8) 2 1
      ∷ Take (col 8) 1 2 ∷ Reg (col 7) (event 0 0) 1 ∷ Reg (col 5) (event 1 6) 1 ∷ Take (col 6) 0 2
      ∷ Reg (col 5) (event 0 0) 0 ∷ Reg (col 1) (event 0 0) 2 ∷ Fin (col 6) 0 2
      ∷ Reg (col 0) (event 1 1) 2 ∷ Reg (col 1) (event 0 0) 2 ∷ Fin (col 5) 2 2 ∷ Take (col 3) 0 2
      ∷ Reg (col 2) (event 0 0) 0 ∷ Fin (col 3) 0 2 ∷ Take (col 2) 2 2 ∷ Take (col 0) 0 2
      ∷ Reg (col 1) (event 0 0) 0 ∷ []) ∷ [])
  pub marks : map (λ list. map (λ l. l.mark) list) machine_10.lists ≡
      (([]) ∷ (mark 7 1 25 ∷ mark 1 1 75 ∷ []) ∷ (mark 5 2 35 ∷ []) ∷ [])
  pub drained :
      (rounds (record {
        shape = record { cores = 3; shards = 1; batch = 2; steal_cost = 8; group = 4 };
        rows = ((25, 1) ∷ (8, 2) ∷ (20, 3) ∷ []);
        pinned = 0;
      }) (act 9) 23 machine_10).histories ≡
      ((Reg (col 3) (event 0 1) 3 ∷ Reg (col 1) (event 1 6) 3 ∷ Reg (col 5) (event 2 0) 3
      ∷ Reg (col 6) (event 1 5) 3 ∷ Reg (col 5) (event 2 0) 3 ∷ Reg (col 5) (event 2 3) 3
      ∷ Reg (col 3) (event 0 1) 3 ∷ Reg (col 7) (event 2 2) 3 ∷ Reg (col 8) (event 1 7) 3
      ∷ Reg (col 8) (event 2 5) 3 ∷ Reg (col 3) (event 1 2) 3 ∷ Take (col 1) 1 1
      ∷ Reg (col 6) (event 0 0) 1 ∷ Fin (col 1) 1 1 ∷ Take (col 7) 1 1 ∷ Take (col 3) 0 2
      ∷ Take (col 5) 2 2 ∷ Reg (col 0) (event 1 1) 2 ∷ Reg (col 2) (event 1 3) 1
      ∷ Reg (col 3) (event 0 2) 1 ∷ Fin (col 7) 1 1 ∷ Fin (col 3) 0 2 ∷ Steal (col 8) 2 1
      ∷ Take (col 8) 1 2 ∷ Reg (col 7) (event 0 0) 1 ∷ Reg (col 5) (event 1 6) 1 ∷ Take (col 6) 0 2
      ∷ Reg (col 5) (event 0 0) 0 ∷ Reg (col 1) (event 0 0) 2 ∷ Fin (col 6) 0 2
      ∷ Reg (col 0) (event 1 1) 2 ∷ Reg (col 1) (event 0 0) 2 ∷ Fin (col 5) 2 2 ∷ Take (col 3) 0 2
      ∷ Reg (col 2) (event 0 0) 0 ∷ Fin (col 3) 0 2 ∷ Take (col 2) 2 2 ∷ Take (col 0) 0 2
      ∷ Reg (col 1) (event 0 0) 0 ∷ Reg (col 6) (event 0 5) 1 ∷ Reg (col 1) (event 0 0) 0
      ∷ Reg (col 3) (event 0 0) 2 ∷ Fin (col 8) 1 2 ∷ Fin (col 0) 0 2 ∷ Take (col 7) 1 1
      ∷ Fin (col 2) 2 2 ∷ Take (col 6) 0 1 ∷ Fin (col 7) 1 1 ∷ Take (col 5) 2 2 ∷ Fin (col 6) 0 1
      ∷ Take (col 1) 1 2 ∷ Reg (col 3) (event 1 4) 2 ∷ Take (col 3) 0 2 ∷ Reg (col 4) (event 0 3) 2
      ∷ Fin (col 1) 1 2 ∷ Reg (col 4) (event 0 0) 0 ∷ Reg (col 6) (event 0 0) 2 ∷ Fin (col 3) 0 2
      ∷ Take (col 4) 1 2 ∷ Fin (col 5) 2 2 ∷ Take (col 6) 0 1 ∷ Fin (col 4) 1 2 ∷ Fin (col 6) 0 1
      ∷ Take (col 5) 2 1 ∷ Take (col 1) 1 2 ∷ Fin (col 5) 2 1 ∷ Fin (col 1) 1 2 ∷ []) ∷ [])
  pub quiet :
      is_quiet (rounds (record {
        shape = record { cores = 3; shards = 1; batch = 2; steal_cost = 8; group = 4 };
        rows = ((25, 1) ∷ (8, 2) ∷ (20, 3) ∷ []);
        pinned = 0;
      }) (act 9) 23 machine_10) ≡ true
  pub busy :
      is_quiet (rounds (record {
        shape = record { cores = 3; shards = 1; batch = 2; steal_cost = 8; group = 4 };
        rows = ((25, 1) ∷ (8, 2) ∷ (20, 3) ∷ []);
        pinned = 0;
      }) (act 9) 22 machine_10) ≡ false

pub record IsCase11 : Type 0 where
  pub histories : machine_11.histories ≡
      ((Reg (col 4) (event 1 4) 2 ∷ Reg (col 0) (event 2 1) 2 ∷ Reg (col 4) (event 2 4) 2
      ∷ Take (col 4) 0 1 ∷ Reg (col 4) (event 0 0) 0 ∷ Fin (col 4) 0 1 ∷ Take (col 0) 0 1
      ∷ Reg (col 2) (event 0 1) 0 ∷ Fin (col 0) 0 1 ∷ Take (col 4) 0 1 ∷ Reg (col 4) (event 1 5) 0
      ∷ Fin (col 4) 0 1 ∷ Take (col 2) 0 1 ∷ Fin (col 2) 0 1 ∷ [])
      ∷ (Reg (col 3) (event 1 1) 2 ∷ Reg (col 3) (event 1 2) 2 ∷ Reg (col 5) (event 2 2) 2
      ∷ Take (col 3) 1 1 ∷ Reg (col 1) (event 0 0) 1 ∷ Fin (col 3) 1 1 ∷ Take (col 5) 1 1
      ∷ Reg (col 1) (event 1 2) 0 ∷ Reg (col 5) (event 0 4) 0 ∷ []) ∷ [])
  pub marks : map (λ list. map (λ l. l.mark) list) machine_11.lists ≡
      ((mark 4 2 23 ∷ []) ∷ (mark 1 0 23 ∷ mark 3 1 12 ∷ []) ∷ [])
  pub drained :
      (rounds (record {
        shape = record { cores = 2; shards = 2; batch = 1; steal_cost = 3; group = 4 };
        rows = ((35, 3) ∷ (36, 3) ∷ (13, 1) ∷ []);
        pinned = 0;
      }) (act 6) 38 machine_11).histories ≡
      ((Reg (col 4) (event 1 4) 2 ∷ Reg (col 0) (event 2 1) 2 ∷ Reg (col 4) (event 2 4) 2
      ∷ Take (col 4) 0 1 ∷ Reg (col 4) (event 0 0) 0 ∷ Fin (col 4) 0 1 ∷ Take (col 0) 0 1
      ∷ Reg (col 2) (event 0 1) 0 ∷ Fin (col 0) 0 1 ∷ Take (col 4) 0 1 ∷ Reg (col 4) (event 1 5) 0
      ∷ Fin (col 4) 0 1 ∷ Take (col 2) 0 1 ∷ Fin (col 2) 0 1 ∷ Reg (col 2) (event 1 3) 1
      ∷ Take (col 4) 0 1 ∷ Fin (col 4) 0 1 ∷ Take (col 2) 0 1 ∷ Fin (col 2) 0 1 ∷ Take (col 4) 0 1
      ∷ Reg (col 2) (event 0 0) 1 ∷ Fin (col 4) 0 1 ∷ Take (col 2) 0 1 ∷ Fin (col 2) 0 1
      ∷ Reg (col 2) (event 0 0) 1 ∷ Take (col 2) 0 1 ∷ Fin (col 2) 0 1 ∷ [])
      ∷ (Reg (col 3) (event 1 1) 2 ∷ Reg (col 3) (event 1 2) 2 ∷ Reg (col 5) (event 2 2) 2
      ∷ Take (col 3) 1 1 ∷ Reg (col 1) (event 0 0) 1 ∷ Fin (col 3) 1 1 ∷ Take (col 5) 1 1
      ∷ Reg (col 1) (event 1 2) 0 ∷ Reg (col 5) (event 0 4) 0 ∷ Reg (col 3) (event 0 2) 1
      ∷ Fin (col 5) 1 1 ∷ Take (col 1) 1 1 ∷ Reg (col 3) (event 0 0) 0 ∷ Fin (col 1) 1 1
      ∷ Take (col 3) 1 1 ∷ Reg (col 5) (event 0 0) 0 ∷ Fin (col 3) 1 1 ∷ Take (col 5) 1 1
      ∷ Fin (col 5) 1 1 ∷ Steal (col 3) 1 0 ∷ Take (col 1) 1 1 ∷ Take (col 3) 0 1 ∷ Fin (col 3) 0 1
      ∷ Fin (col 1) 1 1 ∷ Take (col 5) 1 1 ∷ Fin (col 5) 1 1 ∷ Take (col 3) 0 1 ∷ Fin (col 3) 0 1
      ∷ []) ∷ [])
  pub quiet :
      is_quiet (rounds (record {
        shape = record { cores = 2; shards = 2; batch = 1; steal_cost = 3; group = 4 };
        rows = ((35, 3) ∷ (36, 3) ∷ (13, 1) ∷ []);
        pinned = 0;
      }) (act 6) 38 machine_11) ≡ true
  pub busy :
      is_quiet (rounds (record {
        shape = record { cores = 2; shards = 2; batch = 1; steal_cost = 3; group = 4 };
        rows = ((35, 3) ∷ (36, 3) ∷ (13, 1) ∷ []);
        pinned = 0;
      }) (act 6) 37 machine_11) ≡ false

pub record IsCase12 : Type 0 where
  pub histories : machine_12.histories ≡
      ((Reg (col 2) (event 0 1) 2 ∷ Reg (col 0) (event 1 0) 2 ∷ Reg (col 0) (event 0 2) 2
      ∷ Reg (col 2) (event 2 2) 2 ∷ Reg (col 4) (event 0 5) 2 ∷ Reg (col 2) (event 2 0) 2
      ∷ Reg (col 0) (event 2 2) 2 ∷ Take (col 2) 0 2 ∷ Reg (col 2) (event 1 3) 0 ∷ Fin (col 2) 0 2
      ∷ Take (col 0) 0 2 ∷ Reg (col 2) (event 1 3) 1 ∷ Reg (col 0) (event 1 1) 1
      ∷ Reg (col 0) (event 0 0) 0 ∷ Fin (col 0) 0 2 ∷ Take (col 4) 0 1 ∷ Reg (col 2) (event 1 3) 1
      ∷ Fin (col 4) 0 1 ∷ [])
      ∷ (Reg (col 3) (event 0 2) 2 ∷ Reg (col 5) (event 2 0) 2 ∷ Reg (col 5) (event 1 3) 2
      ∷ Reg (col 3) (event 2 2) 2 ∷ Reg (col 1) (event 2 2) 2 ∷ Take (col 3) 1 2
      ∷ Reg (col 3) (event 0 2) 0 ∷ Reg (col 3) (event 0 2) 1 ∷ Fin (col 3) 1 2 ∷ Take (col 5) 1 2
      ∷ Reg (col 1) (event 0 0) 1 ∷ Reg (col 3) (event 0 0) 1 ∷ Fin (col 5) 1 2 ∷ Take (col 1) 1 2
      ∷ Reg (col 3) (event 0 2) 1 ∷ Fin (col 1) 1 2 ∷ Take (col 3) 1 2 ∷ []) ∷ [])
  pub marks : map (λ list. map (λ l. l.mark) list) machine_12.lists ≡
      ((mark 0 2 81 ∷ []) ∷ ([]) ∷ [])

pub record IsCase13 : Type 0 where
  pub histories : machine_13.histories ≡
      ((Reg (col 2) (event 2 0) 3 ∷ Reg (col 2) (event 2 2) 3 ∷ Reg (col 2) (event 0 2) 3
      ∷ Reg (col 2) (event 2 0) 3 ∷ Reg (col 0) (event 2 3) 3 ∷ Reg (col 0) (event 2 1) 3
      ∷ Reg (col 6) (event 1 2) 3 ∷ Reg (col 0) (event 0 6) 3 ∷ Take (col 0) 0 2
      ∷ Reg (col 4) (event 0 3) 0 ∷ Take (col 2) 2 2 ∷ Reg (col 0) (event 1 1) 2
      ∷ Reg (col 2) (event 0 1) 0 ∷ Fin (col 0) 0 2 ∷ Take (col 6) 0 1 ∷ Reg (col 2) (event 0 0) 0
      ∷ Fin (col 6) 0 1 ∷ [])
      ∷ (Reg (col 1) (event 2 1) 3 ∷ Reg (col 1) (event 0 5) 3 ∷ Take (col 1) 1 2
      ∷ Reg (col 3) (event 1 4) 0 ∷ Reg (col 1) (event 0 0) 2 ∷ Reg (col 1) (event 1 2) 1
      ∷ Reg (col 1) (event 1 2) 0 ∷ Take (col 3) 0 1 ∷ []) ∷ [])
  pub marks : map (λ list. map (λ l. l.mark) list) machine_13.lists ≡
      ((mark 0 2 20 ∷ []) ∷ (mark 4 0 16 ∷ []) ∷ ([]) ∷ [])
  pub drained :
      (rounds (record {
        shape = record { cores = 3; shards = 2; batch = 2; steal_cost = 8; group = 4 };
        rows = ((16, 1) ∷ (9, 2) ∷ (13, 1) ∷ []);
        pinned = 0;
      }) (act 7) 39 machine_13).histories ≡
      ((Reg (col 2) (event 2 0) 3 ∷ Reg (col 2) (event 2 2) 3 ∷ Reg (col 2) (event 0 2) 3
      ∷ Reg (col 2) (event 2 0) 3 ∷ Reg (col 0) (event 2 3) 3 ∷ Reg (col 0) (event 2 1) 3
      ∷ Reg (col 6) (event 1 2) 3 ∷ Reg (col 0) (event 0 6) 3 ∷ Take (col 0) 0 2
      ∷ Reg (col 4) (event 0 3) 0 ∷ Take (col 2) 2 2 ∷ Reg (col 0) (event 1 1) 2
      ∷ Reg (col 2) (event 0 1) 0 ∷ Fin (col 0) 0 2 ∷ Take (col 6) 0 1 ∷ Reg (col 2) (event 0 0) 0
      ∷ Fin (col 6) 0 1 ∷ Reg (col 4) (event 0 0) 0 ∷ Reg (col 2) (event 0 1) 1
      ∷ Reg (col 2) (event 1 3) 2 ∷ Take (col 0) 0 2 ∷ Fin (col 2) 2 2 ∷ Take (col 4) 1 2
      ∷ Take (col 2) 2 2 ∷ Fin (col 4) 1 2 ∷ Fin (col 0) 0 2 ∷ Reg (col 0) (event 1 1) 2
      ∷ Reg (col 2) (event 0 0) 1 ∷ Fin (col 2) 2 2 ∷ Take (col 0) 0 1 ∷ Take (col 2) 2 2
      ∷ Fin (col 0) 0 1 ∷ Reg (col 2) (event 0 0) 1 ∷ Fin (col 2) 2 2 ∷ Take (col 2) 2 2
      ∷ Fin (col 2) 2 2 ∷ Steal (col 2) 2 1 ∷ Steal (col 2) 1 2 ∷ Take (col 2) 2 2 ∷ Fin (col 2) 2 2
      ∷ [])
      ∷ (Reg (col 1) (event 2 1) 3 ∷ Reg (col 1) (event 0 5) 3 ∷ Take (col 1) 1 2
      ∷ Reg (col 3) (event 1 4) 0 ∷ Reg (col 1) (event 0 0) 2 ∷ Reg (col 1) (event 1 2) 1
      ∷ Reg (col 1) (event 1 2) 0 ∷ Take (col 3) 0 1 ∷ Fin (col 3) 0 1 ∷ Fin (col 1) 1 2
      ∷ Reg (col 3) (event 0 2) 2 ∷ Reg (col 1) (event 0 0) 0 ∷ Take (col 1) 1 2 ∷ Take (col 3) 0 1
      ∷ Reg (col 1) (event 0 0) 2 ∷ Fin (col 3) 0 1 ∷ Fin (col 1) 1 2 ∷ Reg (col 1) (event 0 0) 0
      ∷ Take (col 1) 1 2 ∷ Fin (col 1) 1 2 ∷ Take (col 1) 1 2 ∷ Reg (col 3) (event 0 0) 2
      ∷ Fin (col 1) 1 2 ∷ Take (col 3) 0 1 ∷ Fin (col 3) 0 1 ∷ []) ∷ [])
  pub quiet :
      is_quiet (rounds (record {
        shape = record { cores = 3; shards = 2; batch = 2; steal_cost = 8; group = 4 };
        rows = ((16, 1) ∷ (9, 2) ∷ (13, 1) ∷ []);
        pinned = 0;
      }) (act 7) 39 machine_13) ≡ true
  pub busy :
      is_quiet (rounds (record {
        shape = record { cores = 3; shards = 2; batch = 2; steal_cost = 8; group = 4 };
        rows = ((16, 1) ∷ (9, 2) ∷ (13, 1) ∷ []);
        pinned = 0;
      }) (act 7) 38 machine_13) ≡ false

pub record IsCase14 : Type 0 where
  pub histories : machine_14.histories ≡
      ((Reg (col 0) (event 0 4) 3 ∷ Reg (col 0) (event 0 3) 3 ∷ Reg (col 2) (event 2 3) 3
      ∷ Reg (col 2) (event 0 0) 2 ∷ Take (col 0) 0 2 ∷ Fin (col 0) 0 2 ∷ Reg (col 4) (event 1 5) 0
      ∷ Reg (col 0) (event 0 5) 1 ∷ Take (col 2) 2 2 ∷ Reg (col 4) (event 0 3) 2 ∷ Fin (col 2) 2 2
      ∷ Take (col 0) 0 1 ∷ [])
      ∷ (Reg (col 5) (event 1 2) 3 ∷ Reg (col 5) (event 0 2) 3 ∷ Reg (col 1) (event 2 5) 3
      ∷ Reg (col 3) (event 0 2) 3 ∷ Reg (col 5) (event 0 0) 3 ∷ Reg (col 3) (event 2 4) 3
      ∷ Take (col 5) 2 2 ∷ Take (col 1) 1 1 ∷ Fin (col 5) 2 2 ∷ Reg (col 5) (event 1 0) 1
      ∷ Take (col 3) 0 2 ∷ Fin (col 1) 1 1 ∷ Reg (col 3) (event 1 4) 2 ∷ Reg (col 5) (event 0 4) 0
      ∷ Fin (col 3) 0 2 ∷ []) ∷ [])
  pub marks : map (λ list. map (λ l. l.mark) list) machine_14.lists ≡
      ((mark 3 2 33 ∷ []) ∷ (mark 4 0 33 ∷ []) ∷ ([]) ∷ [])
  pub drained :
      (rounds (record {
        shape = record { cores = 3; shards = 2; batch = 2; steal_cost = 3; group = 4 };
        rows = ((14, 2) ∷ (33, 1) ∷ (8, 1) ∷ []);
        pinned = 0;
      }) (act 6) 19 machine_14).histories ≡
      ((Reg (col 0) (event 0 4) 3 ∷ Reg (col 0) (event 0 3) 3 ∷ Reg (col 2) (event 2 3) 3
      ∷ Reg (col 2) (event 0 0) 2 ∷ Take (col 0) 0 2 ∷ Fin (col 0) 0 2 ∷ Reg (col 4) (event 1 5) 0
      ∷ Reg (col 0) (event 0 5) 1 ∷ Take (col 2) 2 2 ∷ Reg (col 4) (event 0 3) 2 ∷ Fin (col 2) 2 2
      ∷ Take (col 0) 0 1 ∷ Fin (col 0) 0 1 ∷ Take (col 4) 1 2 ∷ Reg (col 4) (event 0 0) 0
      ∷ Fin (col 4) 1 2 ∷ Reg (col 0) (event 0 0) 2 ∷ Steal (col 4) 1 0 ∷ Steal (col 0) 0 1
      ∷ Take (col 4) 0 1 ∷ Fin (col 4) 0 1 ∷ Take (col 0) 1 1 ∷ Fin (col 0) 1 1 ∷ [])
      ∷ (Reg (col 5) (event 1 2) 3 ∷ Reg (col 5) (event 0 2) 3 ∷ Reg (col 1) (event 2 5) 3
      ∷ Reg (col 3) (event 0 2) 3 ∷ Reg (col 5) (event 0 0) 3 ∷ Reg (col 3) (event 2 4) 3
      ∷ Take (col 5) 2 2 ∷ Take (col 1) 1 1 ∷ Fin (col 5) 2 2 ∷ Reg (col 5) (event 1 0) 1
      ∷ Take (col 3) 0 2 ∷ Fin (col 1) 1 1 ∷ Reg (col 3) (event 1 4) 2 ∷ Reg (col 5) (event 0 4) 0
      ∷ Fin (col 3) 0 2 ∷ Steal (col 5) 2 1 ∷ Take (col 3) 0 1 ∷ Steal (col 5) 1 2 ∷ Fin (col 3) 0 1
      ∷ Reg (col 5) (event 0 0) 1 ∷ Take (col 5) 2 2 ∷ Fin (col 5) 2 2 ∷ Take (col 5) 2 2
      ∷ Fin (col 5) 2 2 ∷ []) ∷ [])
  pub quiet :
      is_quiet (rounds (record {
        shape = record { cores = 3; shards = 2; batch = 2; steal_cost = 3; group = 4 };
        rows = ((14, 2) ∷ (33, 1) ∷ (8, 1) ∷ []);
        pinned = 0;
      }) (act 6) 19 machine_14) ≡ true
  pub busy :
      is_quiet (rounds (record {
        shape = record { cores = 3; shards = 2; batch = 2; steal_cost = 3; group = 4 };
        rows = ((14, 2) ∷ (33, 1) ∷ (8, 1) ∷ []);
        pinned = 0;
      }) (act 6) 18 machine_14) ≡ false

pub record IsCase15 : Type 0 where
  pub histories : machine_15.histories ≡
      ((Reg (col 2) (event 2 2) 3 ∷ Reg (col 0) (event 0 3) 3 ∷ Reg (col 4) (event 2 4) 3
      ∷ Reg (col 7) (event 2 7) 3 ∷ Reg (col 6) (event 0 0) 3 ∷ Reg (col 1) (event 0 0) 3
      ∷ Reg (col 2) (event 1 0) 3 ∷ Reg (col 0) (event 0 6) 3 ∷ Reg (col 6) (event 2 0) 3
      ∷ Reg (col 7) (event 2 0) 3 ∷ Reg (col 2) (event 2 0) 3 ∷ Take (col 4) 1 1
      ∷ Reg (col 4) (event 1 5) 1 ∷ Reg (col 5) (event 0 4) 1 ∷ Fin (col 4) 1 1 ∷ Take (col 2) 2 2
      ∷ Reg (col 2) (event 1 3) 2 ∷ Reg (col 3) (event 0 2) 2 ∷ Take (col 7) 1 2
      ∷ Reg (col 0) (event 0 0) 2 ∷ Fin (col 2) 2 2 ∷ Take (col 0) 0 2 ∷ Fin (col 0) 0 2
      ∷ Take (col 5) 2 1 ∷ Fin (col 5) 2 1 ∷ Take (col 2) 2 2 ∷ Reg (col 0) (event 1 1) 2 ∷ [])
      ∷ [])
  pub marks : map (λ list. map (λ l. l.mark) list) machine_15.lists ≡
      ((mark 6 0 33 ∷ mark 3 0 15 ∷ mark 0 2 15 ∷ []) ∷ (mark 1 0 15 ∷ mark 4 1 9 ∷ []) ∷ ([]) ∷ [])
  pub drained :
      (rounds (record {
        shape = record { cores = 3; shards = 1; batch = 2; steal_cost = 8; group = 4 };
        rows = ((15, 1) ∷ (27, 3) ∷ (36, 2) ∷ []);
        pinned = 0;
      }) (act 8) 38 machine_15).histories ≡
      ((Reg (col 2) (event 2 2) 3 ∷ Reg (col 0) (event 0 3) 3 ∷ Reg (col 4) (event 2 4) 3
      ∷ Reg (col 7) (event 2 7) 3 ∷ Reg (col 6) (event 0 0) 3 ∷ Reg (col 1) (event 0 0) 3
      ∷ Reg (col 2) (event 1 0) 3 ∷ Reg (col 0) (event 0 6) 3 ∷ Reg (col 6) (event 2 0) 3
      ∷ Reg (col 7) (event 2 0) 3 ∷ Reg (col 2) (event 2 0) 3 ∷ Take (col 4) 1 1
      ∷ Reg (col 4) (event 1 5) 1 ∷ Reg (col 5) (event 0 4) 1 ∷ Fin (col 4) 1 1 ∷ Take (col 2) 2 2
      ∷ Reg (col 2) (event 1 3) 2 ∷ Reg (col 3) (event 0 2) 2 ∷ Take (col 7) 1 2
      ∷ Reg (col 0) (event 0 0) 2 ∷ Fin (col 2) 2 2 ∷ Take (col 0) 0 2 ∷ Fin (col 0) 0 2
      ∷ Take (col 5) 2 1 ∷ Fin (col 5) 2 1 ∷ Take (col 2) 2 2 ∷ Reg (col 0) (event 1 1) 2
      ∷ Reg (col 7) (event 1 0) 1 ∷ Take (col 6) 0 2 ∷ Reg (col 0) (event 0 7) 1
      ∷ Reg (col 1) (event 0 0) 2 ∷ Reg (col 0) (event 1 1) 0 ∷ Reg (col 0) (event 1 1) 1
      ∷ Reg (col 3) (event 0 0) 2 ∷ Reg (col 1) (event 0 0) 0 ∷ Reg (col 1) (event 0 0) 1
      ∷ Fin (col 2) 2 2 ∷ Fin (col 6) 0 2 ∷ Fin (col 7) 1 2 ∷ Steal (col 0) 0 2 ∷ Take (col 3) 0 2
      ∷ Take (col 1) 1 2 ∷ Take (col 0) 2 2 ∷ Fin (col 3) 0 2 ∷ Fin (col 1) 1 2
      ∷ Reg (col 1) (event 0 0) 2 ∷ Steal (col 4) 1 0 ∷ Take (col 7) 1 1 ∷ Fin (col 0) 2 2
      ∷ Take (col 4) 0 1 ∷ Reg (col 0) (event 0 0) 1 ∷ Take (col 0) 2 2 ∷ Reg (col 5) (event 0 0) 0
      ∷ Fin (col 7) 1 1 ∷ Fin (col 4) 0 1 ∷ Take (col 1) 1 2 ∷ Reg (col 1) (event 0 0) 2
      ∷ Fin (col 0) 2 2 ∷ Fin (col 1) 1 2 ∷ Steal (col 0) 2 0 ∷ Take (col 5) 2 1 ∷ Take (col 1) 1 2
      ∷ Fin (col 5) 2 1 ∷ Take (col 0) 0 2 ∷ Reg (col 1) (event 0 0) 0 ∷ Fin (col 1) 1 2
      ∷ Fin (col 0) 0 2 ∷ Take (col 1) 1 1 ∷ Fin (col 1) 1 1 ∷ []) ∷ [])
  pub quiet :
      is_quiet (rounds (record {
        shape = record { cores = 3; shards = 1; batch = 2; steal_cost = 8; group = 4 };
        rows = ((15, 1) ∷ (27, 3) ∷ (36, 2) ∷ []);
        pinned = 0;
      }) (act 8) 38 machine_15) ≡ true
  pub busy :
      is_quiet (rounds (record {
        shape = record { cores = 3; shards = 1; batch = 2; steal_cost = 8; group = 4 };
        rows = ((15, 1) ∷ (27, 3) ∷ (36, 2) ∷ []);
        pinned = 0;
      }) (act 8) 37 machine_15) ≡ false

pub record IsCase16 : Type 0 where
  pub histories : machine_16.histories ≡
      ((Reg (col 4) (event 2 4) 2 ∷ Reg (col 4) (event 2 4) 2 ∷ Reg (col 3) (event 0 1) 2
      ∷ Reg (col 1) (event 2 3) 2 ∷ Reg (col 3) (event 0 2) 2 ∷ Reg (col 2) (event 0 1) 2
      ∷ Take (col 3) 1 1 ∷ Fin (col 3) 1 1 ∷ Take (col 4) 0 1 ∷ Reg (col 4) (event 1 0) 0
      ∷ Reg (col 0) (event 0 4) 0 ∷ Fin (col 4) 0 1 ∷ Take (col 2) 0 1 ∷ Take (col 1) 1 1
      ∷ Fin (col 2) 0 1 ∷ Reg (col 3) (event 1 4) 1 ∷ Reg (col 4) (event 0 3) 1 ∷ Fin (col 1) 1 1
      ∷ Take (col 3) 1 1 ∷ Take (col 0) 0 1 ∷ []) ∷ [])
  pub marks : map (λ list. map (λ l. l.mark) list) machine_16.lists ≡
      ((mark 4 1 24 ∷ []) ∷ ([]) ∷ [])

pub record IsCase17 : Type 0 where
  pub histories : machine_17.histories ≡
      ((Reg (col 6) (event 1 6) 3 ∷ Reg (col 4) (event 2 2) 3 ∷ Reg (col 6) (event 2 2) 3
      ∷ Reg (col 6) (event 0 0) 0 ∷ Steal (col 4) 1 0 ∷ Steal (col 6) 0 2 ∷ Take (col 6) 2 1
      ∷ Take (col 4) 0 1 ∷ Reg (col 2) (event 1 3) 0 ∷ Reg (col 6) (event 0 0) 2 ∷ Fin (col 6) 2 1
      ∷ Take (col 2) 2 1 ∷ Reg (col 2) (event 0 1) 1 ∷ Fin (col 4) 0 1 ∷ [])
      ∷ (Reg (col 5) (event 0 3) 3 ∷ Reg (col 1) (event 1 1) 3 ∷ Reg (col 3) (event 1 6) 3
      ∷ Reg (col 1) (event 2 1) 3 ∷ Reg (col 1) (event 2 6) 3 ∷ Take (col 5) 2 1 ∷ Fin (col 5) 2 1
      ∷ Take (col 3) 0 1 ∷ Fin (col 3) 0 1 ∷ Take (col 1) 1 1 ∷ Reg (col 3) (event 0 0) 2
      ∷ Reg (col 1) (event 0 0) 1 ∷ Fin (col 1) 1 1 ∷ Take (col 1) 1 1 ∷ Reg (col 1) (event 1 2) 1
      ∷ Fin (col 1) 1 1 ∷ Reg (col 3) (event 0 2) 0 ∷ Take (col 3) 0 1 ∷ Fin (col 3) 0 1
      ∷ Take (col 3) 0 1 ∷ Fin (col 3) 0 1 ∷ []) ∷ [])
  pub marks : map (λ list. map (λ l. l.mark) list) machine_17.lists ≡
      (([]) ∷ (mark 1 2 33 ∷ []) ∷ (mark 6 1 35 ∷ []) ∷ [])
  pub drained :
      (rounds (record {
        shape = record { cores = 3; shards = 2; batch = 1; steal_cost = 3; group = 4 };
        rows = ((28, 3) ∷ (7, 1) ∷ (34, 2) ∷ []);
        pinned = 0;
      }) (act 8) 38 machine_17).histories ≡
      ((Reg (col 6) (event 1 6) 3 ∷ Reg (col 4) (event 2 2) 3 ∷ Reg (col 6) (event 2 2) 3
      ∷ Reg (col 6) (event 0 0) 0 ∷ Steal (col 4) 1 0 ∷ Steal (col 6) 0 2 ∷ Take (col 6) 2 1
      ∷ Take (col 4) 0 1 ∷ Reg (col 2) (event 1 3) 0 ∷ Reg (col 6) (event 0 0) 2 ∷ Fin (col 6) 2 1
      ∷ Take (col 2) 2 1 ∷ Reg (col 2) (event 0 1) 1 ∷ Fin (col 4) 0 1 ∷ Fin (col 2) 2 1
      ∷ Steal (col 6) 2 1 ∷ Take (col 2) 2 1 ∷ Take (col 6) 1 1 ∷ Fin (col 2) 2 1
      ∷ Reg (col 6) (event 1 7) 0 ∷ Reg (col 2) (event 1 3) 1 ∷ Fin (col 6) 1 1 ∷ Take (col 2) 2 1
      ∷ Take (col 6) 1 1 ∷ Fin (col 6) 1 1 ∷ Fin (col 2) 2 1 ∷ Take (col 6) 1 1 ∷ Fin (col 6) 1 1
      ∷ Reg (col 2) (event 0 0) 0 ∷ Take (col 6) 1 1 ∷ Fin (col 6) 1 1 ∷ Steal (col 2) 2 0
      ∷ Steal (col 2) 0 1 ∷ Take (col 2) 1 1 ∷ Fin (col 2) 1 1 ∷ [])
      ∷ (Reg (col 5) (event 0 3) 3 ∷ Reg (col 1) (event 1 1) 3 ∷ Reg (col 3) (event 1 6) 3
      ∷ Reg (col 1) (event 2 1) 3 ∷ Reg (col 1) (event 2 6) 3 ∷ Take (col 5) 2 1 ∷ Fin (col 5) 2 1
      ∷ Take (col 3) 0 1 ∷ Fin (col 3) 0 1 ∷ Take (col 1) 1 1 ∷ Reg (col 3) (event 0 0) 2
      ∷ Reg (col 1) (event 0 0) 1 ∷ Fin (col 1) 1 1 ∷ Take (col 1) 1 1 ∷ Reg (col 1) (event 1 2) 1
      ∷ Fin (col 1) 1 1 ∷ Reg (col 3) (event 0 2) 0 ∷ Take (col 3) 0 1 ∷ Fin (col 3) 0 1
      ∷ Take (col 3) 0 1 ∷ Fin (col 3) 0 1 ∷ Steal (col 1) 1 0 ∷ Take (col 1) 0 1
      ∷ Reg (col 7) (event 0 6) 0 ∷ Fin (col 1) 0 1 ∷ Reg (col 3) (event 0 2) 1 ∷ Steal (col 7) 1 2
      ∷ Take (col 1) 0 1 ∷ Fin (col 1) 0 1 ∷ Reg (col 3) (event 0 0) 2 ∷ Take (col 3) 0 1
      ∷ Take (col 7) 2 1 ∷ Fin (col 3) 0 1 ∷ Fin (col 7) 2 1 ∷ Take (col 1) 0 1 ∷ Steal (col 3) 0 2
      ∷ Fin (col 1) 0 1 ∷ Reg (col 7) (event 0 0) 1 ∷ Take (col 3) 2 1 ∷ Fin (col 3) 2 1
      ∷ Take (col 7) 2 1 ∷ Fin (col 7) 2 1 ∷ []) ∷ [])
  pub quiet :
      is_quiet (rounds (record {
        shape = record { cores = 3; shards = 2; batch = 1; steal_cost = 3; group = 4 };
        rows = ((28, 3) ∷ (7, 1) ∷ (34, 2) ∷ []);
        pinned = 0;
      }) (act 8) 38 machine_17) ≡ true
  pub busy :
      is_quiet (rounds (record {
        shape = record { cores = 3; shards = 2; batch = 1; steal_cost = 3; group = 4 };
        rows = ((28, 3) ∷ (7, 1) ∷ (34, 2) ∷ []);
        pinned = 0;
      }) (act 8) 37 machine_17) ≡ false

pub record IsCase18 : Type 0 where
  pub histories : machine_18.histories ≡
      ((Reg (col 3) (event 0 2) 2 ∷ Reg (col 4) (event 1 4) 2 ∷ Reg (col 3) (event 2 3) 2
      ∷ Reg (col 3) (event 2 2) 2 ∷ Reg (col 2) (event 2 2) 2 ∷ Reg (col 4) (event 2 4) 2
      ∷ Reg (col 4) (event 0 3) 2 ∷ Reg (col 1) (event 2 3) 2 ∷ Take (col 3) 1 2
      ∷ Reg (col 3) (event 1 4) 1 ∷ Take (col 4) 0 2 ∷ Reg (col 4) (event 0 0) 0
      ∷ Reg (col 4) (event 0 3) 1 ∷ Fin (col 3) 1 2 ∷ Reg (col 4) (event 1 0) 0
      ∷ Reg (col 0) (event 0 4) 0 ∷ Fin (col 4) 0 2 ∷ Take (col 1) 1 1 ∷ Take (col 2) 0 1
      ∷ Reg (col 3) (event 1 4) 1 ∷ Reg (col 4) (event 0 3) 1 ∷ []) ∷ [])
  pub marks : map (λ list. map (λ l. l.mark) list) machine_18.lists ≡
      ((mark 0 0 12 ∷ mark 4 2 54 ∷ []) ∷ (mark 3 2 46 ∷ []) ∷ [])

pub record IsCase19 : Type 0 where
  pub histories : machine_19.histories ≡
      ((Reg (col 6) (event 2 4) 3 ∷ Reg (col 7) (event 2 3) 3 ∷ Reg (col 8) (event 0 5) 3
      ∷ Reg (col 8) (event 0 2) 3 ∷ Reg (col 7) (event 0 6) 3 ∷ Reg (col 7) (event 0 8) 3
      ∷ Reg (col 2) (event 2 7) 3 ∷ Reg (col 6) (event 2 3) 3 ∷ Reg (col 3) (event 1 8) 3
      ∷ Reg (col 7) (event 2 6) 3 ∷ Reg (col 4) (event 0 6) 3 ∷ Reg (col 6) (event 2 0) 3
      ∷ Take (col 6) 0 1 ∷ Reg (col 4) (event 1 5) 0 ∷ Reg (col 5) (event 0 4) 0 ∷ Take (col 8) 2 1
      ∷ Fin (col 8) 2 1 ∷ Take (col 2) 2 1 ∷ Take (col 7) 1 1 ∷ Reg (col 3) (event 1 4) 1
      ∷ Reg (col 4) (event 0 3) 1 ∷ Fin (col 6) 0 1 ∷ Take (col 3) 0 1 ∷ Fin (col 7) 1 1
      ∷ Take (col 4) 1 1 ∷ Reg (col 7) (event 1 8) 2 ∷ Reg (col 8) (event 0 7) 2 ∷ Fin (col 2) 2 1
      ∷ Reg (col 8) (event 0 0) 0 ∷ Fin (col 3) 0 1 ∷ []) ∷ [])
  pub marks : map (λ list. map (λ l. l.mark) list) machine_19.lists ≡
      ((mark 6 1 22 ∷ []) ∷ (mark 7 1 49 ∷ []) ∷ (mark 8 1 30 ∷ mark 5 0 10 ∷ []) ∷ [])

pub record IsCase20 : Type 0 where
  pub histories : machine_20.histories ≡
      ((Reg (col 4) (event 0 3) 1 ∷ Take (col 4) 0 1 ∷ Reg (col 4) (event 1 5) 1 ∷ Fin (col 4) 0 1
      ∷ Take (col 4) 0 1 ∷ Fin (col 4) 0 1 ∷ Reg (col 4) (event 0 3) 0 ∷ Take (col 4) 0 1
      ∷ Reg (col 4) (event 0 0) 1 ∷ [])
      ∷ (Reg (col 5) (event 0 2) 2 ∷ Reg (col 5) (event 2 3) 2 ∷ Reg (col 3) (event 0 4) 2
      ∷ Reg (col 3) (event 2 4) 2 ∷ Reg (col 5) (event 2 3) 2 ∷ Reg (col 1) (event 0 4) 2
      ∷ Take (col 5) 1 2 ∷ Reg (col 3) (event 1 4) 1 ∷ Fin (col 5) 1 2 ∷ Take (col 3) 1 2
      ∷ Reg (col 5) (event 0 0) 0 ∷ Reg (col 5) (event 0 4) 1 ∷ Fin (col 3) 1 2 ∷ Take (col 1) 1 1
      ∷ Steal (col 5) 1 0 ∷ Take (col 5) 0 2 ∷ Fin (col 1) 1 1 ∷ Reg (col 3) (event 1 4) 0
      ∷ Fin (col 5) 0 2 ∷ Take (col 3) 1 2 ∷ []) ∷ [])
  pub marks : map (λ list. map (λ l. l.mark) list) machine_20.lists ≡
      ((mark 5 4 37 ∷ []) ∷ ([]) ∷ [])
  pub drained :
      (rounds (record {
        shape = record { cores = 2; shards = 2; batch = 2; steal_cost = 8; group = 4 };
        rows = ((37, 1) ∷ (26, 3) ∷ (37, 2) ∷ []);
        pinned = 0;
      }) (act 6) 11 machine_20).histories ≡
      ((Reg (col 4) (event 0 3) 1 ∷ Take (col 4) 0 1 ∷ Reg (col 4) (event 1 5) 1 ∷ Fin (col 4) 0 1
      ∷ Take (col 4) 0 1 ∷ Fin (col 4) 0 1 ∷ Reg (col 4) (event 0 3) 0 ∷ Take (col 4) 0 1
      ∷ Reg (col 4) (event 0 0) 1 ∷ Reg (col 4) (event 0 0) 1 ∷ Fin (col 4) 0 1 ∷ Steal (col 4) 0 1
      ∷ Take (col 4) 1 2 ∷ Fin (col 4) 1 2 ∷ [])
      ∷ (Reg (col 5) (event 0 2) 2 ∷ Reg (col 5) (event 2 3) 2 ∷ Reg (col 3) (event 0 4) 2
      ∷ Reg (col 3) (event 2 4) 2 ∷ Reg (col 5) (event 2 3) 2 ∷ Reg (col 1) (event 0 4) 2
      ∷ Take (col 5) 1 2 ∷ Reg (col 3) (event 1 4) 1 ∷ Fin (col 5) 1 2 ∷ Take (col 3) 1 2
      ∷ Reg (col 5) (event 0 0) 0 ∷ Reg (col 5) (event 0 4) 1 ∷ Fin (col 3) 1 2 ∷ Take (col 1) 1 1
      ∷ Steal (col 5) 1 0 ∷ Take (col 5) 0 2 ∷ Fin (col 1) 1 1 ∷ Reg (col 3) (event 1 4) 0
      ∷ Fin (col 5) 0 2 ∷ Take (col 3) 1 2 ∷ Fin (col 3) 1 2 ∷ Take (col 5) 0 1 ∷ Fin (col 5) 0 1
      ∷ []) ∷ [])
  pub quiet :
      is_quiet (rounds (record {
        shape = record { cores = 2; shards = 2; batch = 2; steal_cost = 8; group = 4 };
        rows = ((37, 1) ∷ (26, 3) ∷ (37, 2) ∷ []);
        pinned = 0;
      }) (act 6) 11 machine_20) ≡ true
  pub busy :
      is_quiet (rounds (record {
        shape = record { cores = 2; shards = 2; batch = 2; steal_cost = 8; group = 4 };
        rows = ((37, 1) ∷ (26, 3) ∷ (37, 2) ∷ []);
        pinned = 0;
      }) (act 6) 10 machine_20) ≡ false

pub record IsCase21 : Type 0 where
  pub histories : machine_21.histories ≡
      ((Reg (col 8) (event 2 8) 2 ∷ Reg (col 1) (event 2 5) 2 ∷ Reg (col 8) (event 1 5) 2
      ∷ Reg (col 6) (event 0 7) 2 ∷ Reg (col 0) (event 2 8) 2 ∷ Reg (col 4) (event 0 0) 2
      ∷ Reg (col 5) (event 0 5) 2 ∷ Reg (col 4) (event 2 0) 2 ∷ Reg (col 4) (event 1 8) 2
      ∷ Reg (col 5) (event 2 6) 2 ∷ Take (col 1) 1 1 ∷ Reg (col 5) (event 1 6) 1
      ∷ Reg (col 6) (event 0 5) 1 ∷ Fin (col 1) 1 1 ∷ Take (col 5) 1 2 ∷ Reg (col 6) (event 1 7) 1
      ∷ Reg (col 7) (event 0 6) 1 ∷ Fin (col 5) 1 2 ∷ Take (col 8) 0 2 ∷ Take (col 7) 1 1 ∷ [])
      ∷ [])
  pub marks : map (λ list. map (λ l. l.mark) list) machine_21.lists ≡
      ((mark 6 0 79 ∷ mark 0 0 7 ∷ mark 4 0 65 ∷ []) ∷ (mark 5 2 37 ∷ []) ∷ [])

pub record IsCase22 : Type 0 where
  pub histories : machine_22.histories ≡
      ((Reg (col 3) (event 2 1) 3 ∷ Reg (col 3) (event 0 4) 3 ∷ Reg (col 1) (event 0 1) 3
      ∷ Reg (col 0) (event 2 3) 3 ∷ Reg (col 0) (event 0 2) 3 ∷ Reg (col 3) (event 2 1) 3
      ∷ Reg (col 0) (event 2 3) 3 ∷ Reg (col 2) (event 2 3) 3 ∷ Reg (col 0) (event 1 2) 3
      ∷ Reg (col 0) (event 1 4) 3 ∷ Reg (col 4) (event 2 4) 3 ∷ Reg (col 2) (event 1 4) 3
      ∷ Take (col 2) 2 2 ∷ Take (col 3) 0 2 ∷ Reg (col 1) (event 1 2) 0 ∷ Reg (col 2) (event 0 1) 0
      ∷ Fin (col 3) 0 2 ∷ Take (col 0) 0 2 ∷ Reg (col 3) (event 1 4) 2 ∷ Reg (col 4) (event 0 3) 2
      ∷ Reg (col 3) (event 1 4) 0 ∷ Reg (col 4) (event 0 0) 2 ∷ Reg (col 4) (event 0 3) 0
      ∷ Fin (col 2) 2 2 ∷ Take (col 1) 1 2 ∷ Reg (col 2) (event 0 0) 1 ∷ Fin (col 1) 1 2
      ∷ Take (col 4) 1 2 ∷ []) ∷ [])
  pub marks : map (λ list. map (λ l. l.mark) list) machine_22.lists ≡
      ((mark 3 2 27 ∷ []) ∷ ([]) ∷ ([]) ∷ [])
  pub drained :
      (rounds (record {
        shape = record { cores = 3; shards = 1; batch = 2; steal_cost = 8; group = 4 };
        rows = ((13, 2) ∷ (15, 2) ∷ (26, 2) ∷ []);
        pinned = 0;
      }) (act 5) 38 machine_22).histories ≡
      ((Reg (col 3) (event 2 1) 3 ∷ Reg (col 3) (event 0 4) 3 ∷ Reg (col 1) (event 0 1) 3
      ∷ Reg (col 0) (event 2 3) 3 ∷ Reg (col 0) (event 0 2) 3 ∷ Reg (col 3) (event 2 1) 3
      ∷ Reg (col 0) (event 2 3) 3 ∷ Reg (col 2) (event 2 3) 3 ∷ Reg (col 0) (event 1 2) 3
      ∷ Reg (col 0) (event 1 4) 3 ∷ Reg (col 4) (event 2 4) 3 ∷ Reg (col 2) (event 1 4) 3
      ∷ Take (col 2) 2 2 ∷ Take (col 3) 0 2 ∷ Reg (col 1) (event 1 2) 0 ∷ Reg (col 2) (event 0 1) 0
      ∷ Fin (col 3) 0 2 ∷ Take (col 0) 0 2 ∷ Reg (col 3) (event 1 4) 2 ∷ Reg (col 4) (event 0 3) 2
      ∷ Reg (col 3) (event 1 4) 0 ∷ Reg (col 4) (event 0 0) 2 ∷ Reg (col 4) (event 0 3) 0
      ∷ Fin (col 2) 2 2 ∷ Take (col 1) 1 2 ∷ Reg (col 2) (event 0 0) 1 ∷ Fin (col 1) 1 2
      ∷ Take (col 4) 1 2 ∷ Fin (col 0) 0 2 ∷ Take (col 2) 2 2 ∷ Reg (col 4) (event 1 0) 1
      ∷ Reg (col 0) (event 0 4) 1 ∷ Take (col 3) 0 2 ∷ Fin (col 2) 2 2 ∷ Reg (col 1) (event 1 2) 0
      ∷ Fin (col 4) 1 2 ∷ Steal (col 0) 0 2 ∷ Reg (col 2) (event 0 1) 0 ∷ Take (col 1) 1 1
      ∷ Take (col 0) 2 2 ∷ Reg (col 4) (event 0 0) 0 ∷ Reg (col 2) (event 0 0) 1
      ∷ Reg (col 3) (event 1 4) 2 ∷ Fin (col 3) 0 2 ∷ Fin (col 1) 1 1 ∷ Reg (col 4) (event 0 3) 2
      ∷ Take (col 4) 1 2 ∷ Take (col 3) 0 2 ∷ Reg (col 2) (event 0 0) 2 ∷ Reg (col 4) (event 0 0) 0
      ∷ Fin (col 4) 1 2 ∷ Fin (col 0) 2 2 ∷ Reg (col 4) (event 0 0) 0 ∷ Take (col 4) 1 2
      ∷ Take (col 2) 2 2 ∷ Fin (col 3) 0 2 ∷ Reg (col 0) (event 0 0) 1 ∷ Fin (col 2) 2 2
      ∷ Steal (col 0) 2 0 ∷ Fin (col 4) 1 2 ∷ Take (col 2) 2 1 ∷ Take (col 0) 0 2 ∷ Take (col 4) 1 2
      ∷ Fin (col 2) 2 1 ∷ Reg (col 4) (event 0 0) 0 ∷ Fin (col 4) 1 2 ∷ Fin (col 0) 0 2
      ∷ Take (col 4) 1 2 ∷ Take (col 0) 0 1 ∷ Fin (col 0) 0 1 ∷ Fin (col 4) 1 2 ∷ []) ∷ [])
  pub quiet :
      is_quiet (rounds (record {
        shape = record { cores = 3; shards = 1; batch = 2; steal_cost = 8; group = 4 };
        rows = ((13, 2) ∷ (15, 2) ∷ (26, 2) ∷ []);
        pinned = 0;
      }) (act 5) 38 machine_22) ≡ true
  pub busy :
      is_quiet (rounds (record {
        shape = record { cores = 3; shards = 1; batch = 2; steal_cost = 8; group = 4 };
        rows = ((13, 2) ∷ (15, 2) ∷ (26, 2) ∷ []);
        pinned = 0;
      }) (act 5) 37 machine_22) ≡ false

pub record IsCase23 : Type 0 where
  pub histories : machine_23.histories ≡
      ((Reg (col 2) (event 2 3) 3 ∷ Reg (col 0) (event 2 1) 3 ∷ Reg (col 4) (event 0 3) 3
      ∷ Reg (col 2) (event 1 3) 3 ∷ Reg (col 2) (event 2 1) 3 ∷ Reg (col 1) (event 2 3) 3
      ∷ Reg (col 1) (event 1 2) 3 ∷ Reg (col 2) (event 0 0) 3 ∷ Take (col 2) 2 2
      ∷ Reg (col 3) (event 1 4) 2 ∷ Reg (col 4) (event 0 3) 2 ∷ Take (col 4) 1 2 ∷ Fin (col 4) 1 2
      ∷ Take (col 1) 1 2 ∷ Reg (col 3) (event 1 4) 1 ∷ Take (col 0) 0 1 ∷ Reg (col 1) (event 1 2) 0
      ∷ Reg (col 2) (event 0 1) 0 ∷ Fin (col 0) 0 1 ∷ Take (col 3) 0 2 ∷ Reg (col 4) (event 0 3) 1
      ∷ Reg (col 2) (event 0 0) 1 ∷ Fin (col 1) 1 2 ∷ Take (col 4) 1 1 ∷ []) ∷ [])
  pub marks : map (λ list. map (λ l. l.mark) list) machine_23.lists ≡
      (([]) ∷ (mark 1 2 6 ∷ []) ∷ ([]) ∷ [])
  pub drained :
      (rounds (record {
        shape = record { cores = 3; shards = 1; batch = 2; steal_cost = 3; group = 4 };
        rows = ((9, 3) ∷ (18, 3) ∷ (16, 3) ∷ []);
        pinned = 0;
      }) (act 5) 28 machine_23).histories ≡
      ((Reg (col 2) (event 2 3) 3 ∷ Reg (col 0) (event 2 1) 3 ∷ Reg (col 4) (event 0 3) 3
      ∷ Reg (col 2) (event 1 3) 3 ∷ Reg (col 2) (event 2 1) 3 ∷ Reg (col 1) (event 2 3) 3
      ∷ Reg (col 1) (event 1 2) 3 ∷ Reg (col 2) (event 0 0) 3 ∷ Take (col 2) 2 2
      ∷ Reg (col 3) (event 1 4) 2 ∷ Reg (col 4) (event 0 3) 2 ∷ Take (col 4) 1 2 ∷ Fin (col 4) 1 2
      ∷ Take (col 1) 1 2 ∷ Reg (col 3) (event 1 4) 1 ∷ Take (col 0) 0 1 ∷ Reg (col 1) (event 1 2) 0
      ∷ Reg (col 2) (event 0 1) 0 ∷ Fin (col 0) 0 1 ∷ Take (col 3) 0 2 ∷ Reg (col 4) (event 0 3) 1
      ∷ Reg (col 2) (event 0 0) 1 ∷ Fin (col 1) 1 2 ∷ Take (col 4) 1 1 ∷ Reg (col 4) (event 0 0) 0
      ∷ Fin (col 4) 1 1 ∷ Reg (col 3) (event 0 0) 2 ∷ Fin (col 2) 2 2 ∷ Reg (col 4) (event 0 0) 0
      ∷ Take (col 1) 1 1 ∷ Fin (col 3) 0 2 ∷ Take (col 2) 2 2 ∷ Reg (col 2) (event 0 0) 1
      ∷ Fin (col 1) 1 1 ∷ Reg (col 1) (event 1 2) 2 ∷ Take (col 3) 0 1 ∷ Take (col 4) 1 2
      ∷ Reg (col 2) (event 0 1) 2 ∷ Fin (col 3) 0 1 ∷ Fin (col 2) 2 2 ∷ Fin (col 4) 1 2
      ∷ Steal (col 1) 1 0 ∷ Take (col 2) 2 2 ∷ Take (col 1) 0 1 ∷ Fin (col 2) 2 2
      ∷ Reg (col 2) (event 0 0) 0 ∷ Fin (col 1) 0 1 ∷ Take (col 2) 2 2 ∷ Fin (col 2) 2 2
      ∷ Take (col 2) 2 1 ∷ Fin (col 2) 2 1 ∷ []) ∷ [])
  pub quiet :
      is_quiet (rounds (record {
        shape = record { cores = 3; shards = 1; batch = 2; steal_cost = 3; group = 4 };
        rows = ((9, 3) ∷ (18, 3) ∷ (16, 3) ∷ []);
        pinned = 0;
      }) (act 5) 28 machine_23) ≡ true
  pub busy :
      is_quiet (rounds (record {
        shape = record { cores = 3; shards = 1; batch = 2; steal_cost = 3; group = 4 };
        rows = ((9, 3) ∷ (18, 3) ∷ (16, 3) ∷ []);
        pinned = 0;
      }) (act 5) 27 machine_23) ≡ false

-- the machine does in each case what the model does
pub record AreTheModels : Type 0 where
  pub case_0 : IsCase0
  pub case_1 : IsCase1
  pub case_2 : IsCase2
  pub case_3 : IsCase3
  pub case_4 : IsCase4
  pub case_5 : IsCase5
  pub case_6 : IsCase6
  pub case_7 : IsCase7
  pub case_8 : IsCase8
  pub case_9 : IsCase9
  pub case_10 : IsCase10
  pub case_11 : IsCase11
  pub case_12 : IsCase12
  pub case_13 : IsCase13
  pub case_14 : IsCase14
  pub case_15 : IsCase15
  pub case_16 : IsCase16
  pub case_17 : IsCase17
  pub case_18 : IsCase18
  pub case_19 : IsCase19
  pub case_20 : IsCase20
  pub case_21 : IsCase21
  pub case_22 : IsCase22
  pub case_23 : IsCase23
