-- Sums in 64 bits, over connections and over generations.
use Rattle.std.specs.Prelude.{is_some, sum_by, count_by}
use Rattle.std.proofs.Common.{◌≡◌, ℕ, ◌+◌, ◌≤◌, cond, Bool, List, [], ◌∷◌, ◌++◌, Option, Some, None, refl, sym, ap, ◌∙◌, subst, arith, append-nil}
use Rattle.std.proofs.lemmas.List.Sums.{sum_by-append}
use Rattle.std.proofs.lemmas.Grind.{flat_map-append}
use Rattle.sws_link.specs.Counts.{full_count}
use Rattle.sws_handlers.specs.declared.ended.Ended.{Ended}
use Rattle.sws_handlers.specs.declared.ended.Served.{Served}
use Rattle.sws_lane.specs.Generations.{Generation, AreTotals, all_served, served_by}
use Rattle.sws_lane.specs.Totals.{AddsUp, AreKept, both_totals, capped, is_done, is_fault, is_idle, no_totals, one_generation}
use Rattle.sws_lane.specs.declared.totals.Totals.{Totals}

-- ---- numbers

capped_more : (a b c m n : ℕ) → b ≡ capped (a + m) → c ≡ capped (b + n) → c ≡ capped (a + (m + n))
capped_more a b c m n e f = omega arith

capped_both : (a b c n : ℕ) → b ≡ capped (0 + n) → c ≡ capped (a + b) → c ≡ capped (a + n)
capped_both a b c n e f = omega arith

capped_same : (a : ℕ) → a ≤ full_count → a ≡ capped (a + 0)
capped_same a few = omega arith

counted_both : {X : Type 0} (p : X → Bool) (xs ys : List X) → count_by p (xs ++ ys) ≡ count_by p xs + count_by p ys
counted_both p xs ys = sum_by-append (λ x. cond (p x) 1 0) xs ys

-- ---- connections

-- none were added
pub no_more : {L : Type 0} (now : Totals) → AreKept now → AddsUp {L = L} now [] now
no_more now kept = record {
  generations = refl;
  connections = capped_same now.connections kept.connections;
  done = capped_same now.done kept.done;
  idle = capped_same now.idle kept.idle;
  fault = capped_same now.fault kept.fault;
  read = capped_same now.read kept.read;
  written = capped_same now.written kept.written;
}

-- these and then others
pub adds_more : {L : Type 0} (a b c : Totals) (xs ys : List (Served L)) → AddsUp a xs b → AddsUp b ys c → AddsUp a (xs ++ ys) c
adds_more {L} a b c xs ys h k = record {
  generations = k.generations ∙ h.generations;
  connections = counted (λ s. is_some s.link) a.connections b.connections c.connections h.connections k.connections;
  done = counted (λ s. is_done s.end) a.done b.done c.done h.done k.done;
  idle = counted (λ s. is_idle s.end) a.idle b.idle c.idle h.idle k.idle;
  fault = counted (λ s. is_fault s.end) a.fault b.fault c.fault h.fault k.fault;
  read = summed (λ s. s.read) a.read b.read c.read h.read k.read;
  written = summed (λ s. s.written) a.written b.written c.written h.written k.written;
}
  where
    summed : (f : Served L → ℕ) (m n o : ℕ) → n ≡ capped (m + sum_by f xs) → o ≡ capped (n + sum_by f ys) → o ≡ capped (m + sum_by f (xs ++ ys))
    summed f m n o e g = subst (λ (k : ℕ). o ≡ capped (m + k)) (sym (sum_by-append f xs ys)) (capped_more m n o (sum_by f xs) (sum_by f ys) e g)

    counted : (p : Served L → Bool) (m n o : ℕ) → n ≡ capped (m + count_by p xs) → o ≡ capped (n + count_by p ys) → o ≡ capped (m + count_by p (xs ++ ys))
    counted p m n o e g = subst (λ (k : ℕ). o ≡ capped (m + k)) (sym (counted_both p xs ys)) (capped_more m n o (count_by p xs) (count_by p ys) e g)

-- ---- generations

module _ {W L : Type 0} where
  -- none were served
  pub no_generation : (now : Totals) → AreKept now → AreTotals {W = W} {L = L} now [] now
  no_generation now kept = record {
    generations = capped_same now.generations kept.generations;
    connections = capped_same now.connections kept.connections;
    done = capped_same now.done kept.done;
    idle = capped_same now.idle kept.idle;
    fault = capped_same now.fault kept.fault;
    read = capped_same now.read kept.read;
    written = capped_same now.written kept.written;
  }

  -- these and then others
  pub totals_more : (a b c : Totals) (xs ys : List (Generation W L)) → AreTotals a xs b → AreTotals b ys c → AreTotals a (xs ++ ys) c
  totals_more a b c xs ys h k = record {
    generations = subst (λ (n : ℕ). c.generations ≡ capped (a.generations + n)) (sym (counted_both (λ (one : Generation W L). is_some one.ended) xs ys))
        (capped_more a.generations b.generations c.generations _ _ h.generations k.generations);
    connections = counted (λ s. is_some s.link) a.connections b.connections c.connections h.connections k.connections;
    done = counted (λ s. is_done s.end) a.done b.done c.done h.done k.done;
    idle = counted (λ s. is_idle s.end) a.idle b.idle c.idle h.idle k.idle;
    fault = counted (λ s. is_fault s.end) a.fault b.fault c.fault h.fault k.fault;
    read = summed (λ s. s.read) a.read b.read c.read h.read k.read;
    written = summed (λ s. s.written) a.written b.written c.written h.written k.written;
  }
    where
      parts : all_served (xs ++ ys) ≡ all_served xs ++ all_served ys
      parts = flat_map-append (λ (one : Generation W L). served_by one.ended) xs ys

      summed : (f : Served L → ℕ) (m n o : ℕ) → n ≡ capped (m + sum_by f (all_served xs)) → o ≡ capped (n + sum_by f (all_served ys))
          → o ≡ capped (m + sum_by f (all_served (xs ++ ys)))
      summed f m n o e g =
          subst (λ (k : ℕ). o ≡ capped (m + k)) (sym (ap (sum_by f) parts ∙ sum_by-append f (all_served xs) (all_served ys)))
          (capped_more m n o (sum_by f (all_served xs)) (sum_by f (all_served ys)) e g)

      counted : (p : Served L → Bool) (m n o : ℕ) → n ≡ capped (m + count_by p (all_served xs)) → o ≡ capped (n + count_by p (all_served ys))
          → o ≡ capped (m + count_by p (all_served (xs ++ ys)))
      counted p m n o e g =
          subst (λ (k : ℕ). o ≡ capped (m + k)) (sym (ap (count_by p) parts ∙ counted_both p (all_served xs) (all_served ys)))
          (capped_more m n o (count_by p (all_served xs)) (count_by p (all_served ys)) e g)

  -- the totals of one generation, put to others
  pub totals_both : (a b : Totals) (gs : List (Generation W L)) → AreTotals no_totals gs b → AreTotals a gs (both_totals a b)
  totals_both a b gs h = record {
    generations = capped_both a.generations b.generations _ _ h.generations refl;
    connections = capped_both a.connections b.connections _ _ h.connections refl;
    done = capped_both a.done b.done _ _ h.done refl;
    idle = capped_both a.idle b.idle _ _ h.idle refl;
    fault = capped_both a.fault b.fault _ _ h.fault refl;
    read = capped_both a.read b.read _ _ h.read refl;
    written = capped_both a.written b.written _ _ h.written refl;
  }

  -- one that was run
  pub totals_of_run : (one : Generation W L) (ended : Ended W L) (now : Totals) → one.ended ≡ Some ended → AddsUp one_generation ended.served.items now → AreTotals no_totals (one ∷ []) now
  totals_of_run one ended now is h = record {
    generations = h.generations ∙ sym (ap (λ (e : Option (Ended W L)). capped (0 + count_by (λ (o : Option (Ended W L)). is_some o) (e ∷ []))) is);
    connections = same (λ s. capped (0 + count_by (λ (c : Served L). is_some c.link) s)) now.connections h.connections;
    done = same (λ s. capped (0 + count_by (λ (c : Served L). is_done c.end) s)) now.done h.done;
    idle = same (λ s. capped (0 + count_by (λ (c : Served L). is_idle c.end) s)) now.idle h.idle;
    fault = same (λ s. capped (0 + count_by (λ (c : Served L). is_fault c.end) s)) now.fault h.fault;
    read = same (λ s. capped (0 + sum_by (λ (c : Served L). c.read) s)) now.read h.read;
    written = same (λ s. capped (0 + sum_by (λ (c : Served L). c.written) s)) now.written h.written;
  }
    where
      all : all_served (one ∷ []) ≡ ended.served.items
      all = append-nil (served_by one.ended) ∙ ap served_by is

      same : (f : List (Served L) → ℕ) (n : ℕ) → n ≡ f ended.served.items → n ≡ f (all_served (one ∷ []))
      same f n e = e ∙ sym (ap f all)

  -- one that was not
  pub totals_of_none : (one : Generation W L) → one.ended ≡ None → AreTotals no_totals (one ∷ []) no_totals
  totals_of_none one is = record {
    generations = sym (ap (λ (e : Option (Ended W L)). capped (0 + count_by (λ (o : Option (Ended W L)). is_some o) (e ∷ []))) is);
    connections = same (λ s. capped (0 + count_by (λ (c : Served L). is_some c.link) s)) refl;
    done = same (λ s. capped (0 + count_by (λ (c : Served L). is_done c.end) s)) refl;
    idle = same (λ s. capped (0 + count_by (λ (c : Served L). is_idle c.end) s)) refl;
    fault = same (λ s. capped (0 + count_by (λ (c : Served L). is_fault c.end) s)) refl;
    read = same (λ s. capped (0 + sum_by (λ (c : Served L). c.read) s)) refl;
    written = same (λ s. capped (0 + sum_by (λ (c : Served L). c.written) s)) refl;
  }
    where
      all : all_served (one ∷ []) ≡ []
      all = append-nil (served_by one.ended) ∙ ap served_by is

      same : (f : List (Served L) → ℕ) → 0 ≡ f [] → 0 ≡ f (all_served (one ∷ []))
      same f e = e ∙ sym (ap f all)
