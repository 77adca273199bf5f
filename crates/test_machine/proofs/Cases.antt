-- The runs of the model, by computation.
use Rattle.std.proofs.Common.{refl}
use Rattle.mely_machine.specs.MachineStep.{step}
use Rattle.mely_machine.specs.MachineRun.{post, steps, rounds}
use Rattle.test_machine.specs.Cases.{AreTheModels, IsCase0, IsCase1, IsCase2, IsCase3, IsCase4, IsCase5, IsCase6, IsCase7, IsCase8, IsCase9, IsCase10, IsCase11, IsCase12, IsCase13, IsCase14, IsCase15, IsCase16, IsCase17, IsCase18, IsCase19, IsCase20, IsCase21, IsCase22, IsCase23}

case_0 : IsCase0
unfolding post steps step rounds
case_0 = record { histories = refl; marks = refl; drained = refl; quiet = refl; busy = refl }

case_1 : IsCase1
unfolding post steps step rounds
case_1 = record { histories = refl; marks = refl; drained = refl; quiet = refl; busy = refl }

case_2 : IsCase2
unfolding post steps step rounds
case_2 = record { histories = refl; marks = refl }

case_3 : IsCase3
unfolding post steps step rounds
case_3 = record { histories = refl; marks = refl; drained = refl; quiet = refl; busy = refl }

case_4 : IsCase4
unfolding post steps step rounds
case_4 = record { histories = refl; marks = refl }

case_5 : IsCase5
unfolding post steps step rounds
case_5 = record { histories = refl; marks = refl }

case_6 : IsCase6
unfolding post steps step rounds
case_6 = record { histories = refl; marks = refl; drained = refl; quiet = refl; busy = refl }

case_7 : IsCase7
unfolding post steps step rounds
case_7 = record { histories = refl; marks = refl; drained = refl; quiet = refl; busy = refl }

case_8 : IsCase8
unfolding post steps step rounds
case_8 = record { histories = refl; marks = refl }

case_9 : IsCase9
unfolding post steps step rounds
case_9 = record { histories = refl; marks = refl }

case_10 : IsCase10
unfolding post steps step rounds
case_10 = record { histories = refl; marks = refl; drained = refl; quiet = refl; busy = refl }

case_11 : IsCase11
unfolding post steps step rounds
case_11 = record { histories = refl; marks = refl; drained = refl; quiet = refl; busy = refl }

case_12 : IsCase12
unfolding post steps step rounds
case_12 = record { histories = refl; marks = refl }

case_13 : IsCase13
unfolding post steps step rounds
case_13 = record { histories = refl; marks = refl; drained = refl; quiet = refl; busy = refl }

case_14 : IsCase14
unfolding post steps step rounds
case_14 = record { histories = refl; marks = refl; drained = refl; quiet = refl; busy = refl }

case_15 : IsCase15
unfolding post steps step rounds
case_15 = record { histories = refl; marks = refl; drained = refl; quiet = refl; busy = refl }

case_16 : IsCase16
unfolding post steps step rounds
case_16 = record { histories = refl; marks = refl }

case_17 : IsCase17
unfolding post steps step rounds
case_17 = record { histories = refl; marks = refl; drained = refl; quiet = refl; busy = refl }

case_18 : IsCase18
unfolding post steps step rounds
case_18 = record { histories = refl; marks = refl }

case_19 : IsCase19
unfolding post steps step rounds
case_19 = record { histories = refl; marks = refl }

case_20 : IsCase20
unfolding post steps step rounds
case_20 = record { histories = refl; marks = refl; drained = refl; quiet = refl; busy = refl }

case_21 : IsCase21
unfolding post steps step rounds
case_21 = record { histories = refl; marks = refl }

case_22 : IsCase22
unfolding post steps step rounds
case_22 = record { histories = refl; marks = refl; drained = refl; quiet = refl; busy = refl }

case_23 : IsCase23
unfolding post steps step rounds
case_23 = record { histories = refl; marks = refl; drained = refl; quiet = refl; busy = refl }

pub cases : AreTheModels
cases = record { case_0 = case_0; case_1 = case_1; case_2 = case_2; case_3 = case_3; case_4 = case_4; case_5 = case_5; case_6 = case_6; case_7 = case_7; case_8 = case_8; case_9 = case_9; case_10 = case_10; case_11 = case_11; case_12 = case_12; case_13 = case_13; case_14 = case_14; case_15 = case_15; case_16 = case_16; case_17 = case_17; case_18 = case_18; case_19 = case_19; case_20 = case_20; case_21 = case_21; case_22 = case_22; case_23 = case_23 }
