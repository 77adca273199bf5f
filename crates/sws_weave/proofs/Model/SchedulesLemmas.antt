-- Worked schedules, by computation.
use Rattle.std.proofs.Common.{◌≡◌, ◌<◌, refl, ℕ, zero, suc, Bool, true, false, not, ◌&&◌, List, [], ◌∷◌, arith, ap, ◌∙◌, inl, inr}
use Rattle.std.proofs.lemmas.Bool.{cases_eq}
use Rattle.sws_steps.specs.Logs.{Step}
use Rattle.sws_steps.specs.declared.Handler.TheVariants as handler
use Rattle.mely_machine.specs.Rules.{Rules}
use Rattle.mely_machine.specs.Machine.{Acts, Machine}
use Rattle.mely_machine.specs.MachineStep.{step}
use Rattle.mely_machine.specs.MachineRun.{initial_machine, post, steps, rounds, is_quiet}
use Rattle.mely_history.specs.Schedules.{spelled_out}
use Rattle.sws_weave.specs.Server.{initial_server, serve}
use Rattle.sws_weave.specs.ServerRun.{server_rules, IsRunOfPaths}
use Rattle.sws_weave.specs.ServerRows.{col, event, two_cores, worked_histories, polled_histories, step as step_of, answered, logged_histories}

-- before each of the first rounds something is left to do
abbrev busy_below : {X : Type 0} → Rules → Acts X → ℕ → Machine X → Bool
busy_below rules act zero m = true
busy_below rules act (suc n) m = not (is_quiet (rounds rules act n m)) && busy_below rules act n m

both : (a b : Bool) → (not a && b) ≡ true → (a ≡ false) × (b ≡ true)
both true b h = cc
both false b h = (refl, h)

busy_at : {X : Type 0} (rules : Rules) (act : Acts X) (k : ℕ) (m : Machine X) → busy_below rules act k m ≡ true → (n : ℕ) → n < k → is_quiet (rounds rules act n m) ≡ false
busy_at rules act zero m h n low = absurd (omega (arith, low))
busy_at rules act (suc k) m h n low =
    let parts = both (is_quiet (rounds rules act k m)) (busy_below rules act k m) h in
    elim (cases_eq n k) [
      | inl e ↦ ap (λ (j : ℕ). is_quiet (rounds rules act j m)) e ∙ parts.0
      | inr apart ↦ busy_at rules act k m parts.1 n (let ne = apart in omega (arith, low, ne))
    ]

-- a connection without input
abbrev pub silent : List Step
silent = step_of handler.Open false ∷ step_of handler.Read false ∷ step_of handler.Parse false ∷ step_of handler.Close false ∷ []

-- the worked schedule: core 1 steals the connection of class 2, though another colour of
-- class 1 stands before it
pub worked : IsRunOfPaths two_cores false (silent ∷ []) ((0, 6) ∷ (1, 12) ∷ []) worked_histories
unfolding post steps step rounds serve
worked = record {
  end = rounds (server_rules two_cores) serve 22 (steps (server_rules two_cores) serve (spelled_out ((0, 6) ∷ (1, 12) ∷ [])) (post (server_rules two_cores) (col 0) (event 0 0) (initial_machine (server_rules two_cores) (initial_server false (silent ∷ [])))));
  drains = record {
    count = 22;
    busy = busy_at (server_rules two_cores) serve 22 (steps (server_rules two_cores) serve (spelled_out ((0, 6) ∷ (1, 12) ∷ [])) (post (server_rules two_cores) (col 0) (event 0 0) (initial_machine (server_rules two_cores) (initial_server false (silent ∷ []))))) refl;
    last = refl;
    quiet = refl;
  };
  told = refl;
}

-- no connection: the poll stays on core 0, though core 1 looks for it
pub polled : IsRunOfPaths two_cores false [] ((1, 2) ∷ []) polled_histories
unfolding post steps step rounds serve
polled = record {
  end = rounds (server_rules two_cores) serve 4 (steps (server_rules two_cores) serve (spelled_out ((1, 2) ∷ [])) (post (server_rules two_cores) (col 0) (event 0 1) (initial_machine (server_rules two_cores) (initial_server false []))));
  drains = record {
    count = 4;
    busy = busy_at (server_rules two_cores) serve 4 (steps (server_rules two_cores) serve (spelled_out ((1, 2) ∷ [])) (post (server_rules two_cores) (col 0) (event 0 1) (initial_machine (server_rules two_cores) (initial_server false [])))) refl;
    last = refl;
    quiet = refl;
  };
  told = refl;
}

-- a connection with one line
pub logged : IsRunOfPaths two_cores true (answered ∷ []) ((0, 6) ∷ (1, 12) ∷ []) logged_histories
unfolding post steps step rounds serve
logged = record {
  end = rounds (server_rules two_cores) serve 44 (steps (server_rules two_cores) serve (spelled_out ((0, 6) ∷ (1, 12) ∷ [])) (post (server_rules two_cores) (col 0) (event 0 0) (initial_machine (server_rules two_cores) (initial_server true (answered ∷ [])))));
  drains = record {
    count = 44;
    busy = busy_at (server_rules two_cores) serve 44 (steps (server_rules two_cores) serve (spelled_out ((0, 6) ∷ (1, 12) ∷ [])) (post (server_rules two_cores) (col 0) (event 0 0) (initial_machine (server_rules two_cores) (initial_server true (answered ∷ []))))) refl;
    last = refl;
    quiet = refl;
  };
  told = refl;
}
