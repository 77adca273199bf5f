-- Where one thread might have made all runs of handlers, it might have received all messages: what
-- is under way is what the events under way carry and what waits on the colours, in some order.
use Rattle.std.proofs.Common.{◌≡◌, ◌<◌, ◌≤◌, ◌+◌, ◌==◌, ℕ, zero, suc, Bool, true, false, List, [], ◌∷◌, ◌++◌, Option, None, Some, if◌then◌else◌, cond, length, map, refl, sym, ◌∙◌, ap, subst, arith, inl, inr, append_assoc, append-nil, eq-eqb, ne_eqb, option_map}
use Rattle.std.proofs.lemmas.Bool.{cases_eq, cases_lt}
use Rattle.std.proofs.lemmas.Grind.{flat_map-append}
use Rattle.std.proofs.lemmas.List.{length-append, map-append}
use Rattle.std.proofs.lemmas.List.Elements.{filter-append}
use Rattle.std.proofs.lemmas.Option.{same_Some}
use Rattle.std.specs.List.{AllByRecursion, cons_option, flat_map}
use Rattle.mely_event.specs.declared.colour.Colour.{Colour}
use Rattle.mely_event.specs.declared.event.Event.{Event}
use Rattle.mely_history.proofs.LegalAccountLemmas.{same_colour}
use Rattle.mely_tally.specs.Account.{HandlerRun}
use Rattle.mely_chain.specs.Runs.{runs_on}
use Rattle.mely_cause.specs.Serial.{MadeByOne, states_after}
use Rattle.mely_actor.specs.declared.actor.Actor.{Ghosts as ActorWords}
use Rattle.mely_actor.specs.declared.load.Load.{Load}
use Rattle.mely_actor.specs.declared.load.Load.TheVariants.{Posts, Message}
use Rattle.mely_actor.specs.declared.load.Plan.{Plan}
use Rattle.mely_actor.specs.KeptState.{KeptState}
use Rattle.mely_actor.specs.Running.{Runs, Steps}
use Rattle.mely_actor.specs.Serial.{Receipt, ReceivedByOne, receipts_on, received_in, sent_in, values_after, values_along}
use Rattle.mely_actor.proofs.ReceiptLemmas.{carried, carried-append, in_load, put_and_left, receipt_by, receipt_of, receipts_in, sends_are, sends_by}
use Rattle.mely_actor.proofs.ReorderLemmas.{Same, joined, same_all, same_behind, same_is, same_joined, same_then, taken}

-- ---- what waits on all colours

module _ {A M V : Type 0} where
  abbrev pub waiting_at : Option (KeptState A M V) → List (Colour × M)
  waiting_at None = []
  waiting_at (Some state) = state.waiting

  -- on those below a number
  abbrev pub all_waiting : ℕ → (Colour → Option (KeptState A M V)) → List (Colour × M)
  all_waiting zero states = []
  all_waiting (suc n) states = all_waiting n states ++ waiting_at (states (record { 0 = n }))

  pub none_waiting : (n : ℕ) (states : Colour → Option (KeptState A M V)) → ((c : Colour) → c.0 < n → waiting_at (states c) ≡ []) → all_waiting n states ≡ []
  none_waiting zero states none = refl
  none_waiting (suc n) states none = ap (λ l. l ++ waiting_at (states (record { 0 = n }))) (none_waiting n states (λ c low. none c (omega (arith, low)))) ∙ none (record { 0 = n }) (omega arith)

  module _ (states : Colour → Option (KeptState A M V)) (run : HandlerRun (KeptState A M V) (Load M)) where
    other_state : (c : Colour) → (c.0 ≡ run.colour.0 → ⊥) → states_after states run c ≡ states c
    other_state c other = ap (λ own. if own then Some run.becomes else states c) (ne_eqb c.0 run.colour.0 other)

    own_state : (c : Colour) → c.0 ≡ run.colour.0 → states_after states run c ≡ Some run.becomes
    own_state c own = ap (λ b. if b then Some run.becomes else states c) (eq-eqb c.0 run.colour.0 own)

    same_below : (n : ℕ) → n ≤ run.colour.0 → all_waiting n (states_after states run) ≡ all_waiting n states
    same_below zero low = refl
    same_below (suc n) low =
        ap (λ l. l ++ waiting_at (states_after states run (record { 0 = n }))) (same_below n (omega (arith, low)))
        ∙ ap (λ s. all_waiting n states ++ waiting_at s) (other_state (record { 0 = n }) (λ same. absurd (omega (arith, same, low))))

    -- a run changes what waits on its colour alone
    record Split (n : ℕ) : Type 0 where
      front : List (Colour × M)
      back : List (Colour × M)
      was : all_waiting n states ≡ front ++ (run.state.waiting ++ back)
      is : all_waiting n (states_after states run) ≡ front ++ (run.becomes.waiting ++ back)

    split : (n : ℕ) → run.colour.0 < n → states run.colour ≡ Some run.state → Split n
    split zero low at = absurd (omega (arith, low))
    split (suc n) low at = elim (cases_lt run.colour.0 n) [
      | inl less ↦
          let rest = split n less at in
          let more = waiting_at (states (record { 0 = n })) in
          record {
            front = rest.front;
            back = rest.back ++ more;
            was = ap (λ l. l ++ more) rest.was ∙ append_assoc rest.front (run.state.waiting ++ rest.back) more ∙ ap (λ l. rest.front ++ l) (append_assoc run.state.waiting rest.back more);
            is = ap (λ s. all_waiting n (states_after states run) ++ waiting_at s) (other_state (record { 0 = n }) (λ same. absurd (omega (arith, same, less))))
                ∙ ap (λ l. l ++ more) rest.is ∙ append_assoc rest.front (run.becomes.waiting ++ rest.back) more ∙ ap (λ l. rest.front ++ l) (append_assoc run.becomes.waiting rest.back more);
          }
      | inr high ↦
          let last : n ≡ run.colour.0 = omega (arith, high, low) in
          let mine : run.colour ≡ record { 0 = n } = same_colour run.colour (record { 0 = n }) (sym last) in
          record {
            front = all_waiting n states;
            back = [];
            was = ap (λ s. all_waiting n states ++ waiting_at s) (ap states (sym mine) ∙ at) ∙ ap (λ l. all_waiting n states ++ l) (sym (append-nil run.state.waiting));
            is = ap (λ l. l ++ waiting_at (states_after states run (record { 0 = n }))) (same_below n (omega (arith, high)))
                ∙ ap (λ s. all_waiting n states ++ waiting_at s) (own_state (record { 0 = n }) last) ∙ ap (λ l. all_waiting n states ++ l) (sym (append-nil run.becomes.waiting));
          }
    ]

-- ---- the order of what is under way

module _ {X : Type 0} (front back first last was is sends puts : List X) (put : puts ++ is ≡ was ++ sends) where
  -- what a run puts and what waits then is what waited and what it sends
  pub arranged : Same (((front ++ back) ++ puts) ++ (first ++ (is ++ last))) ((front ++ (back ++ (first ++ (was ++ last)))) ++ sends)
  arranged =
      let one : Same (front ∷ back ∷ puts ∷ first ∷ is ∷ last ∷ []) (puts ∷ is ∷ front ∷ back ∷ first ∷ last ∷ []) = (puts ∷ is ∷ [], back ∷ first ∷ last ∷ [], refl, (puts ∷ is ∷ [], first ∷ last ∷ [], refl, ([], is ∷ first ∷ last ∷ [], refl, (is ∷ [], last ∷ [], refl, ([], last ∷ [], refl, ([], [], refl, refl)))))) in
      let two : Same (was ∷ sends ∷ front ∷ back ∷ first ∷ last ∷ []) (front ∷ back ∷ first ∷ was ∷ last ∷ sends ∷ []) = (front ∷ back ∷ first ∷ [], last ∷ sends ∷ [], refl, (front ∷ back ∷ first ∷ last ∷ [], [], refl, ([], back ∷ first ∷ last ∷ [], refl, ([], first ∷ last ∷ [], refl, ([], last ∷ [], refl, ([], [], refl, refl)))))) in
      let rest = front ++ (back ++ (first ++ (last ++ []))) in
      let between : joined (puts ∷ is ∷ front ∷ back ∷ first ∷ last ∷ []) ≡ joined (was ∷ sends ∷ front ∷ back ∷ first ∷ last ∷ []) = sym (append_assoc puts is rest) ∙ ap (λ l. l ++ rest) put ∙ append_assoc was sends rest in
      let begin : ((front ++ back) ++ puts) ++ (first ++ (is ++ last)) ≡ joined (front ∷ back ∷ puts ∷ first ∷ is ∷ last ∷ []) = ap (λ l. ((front ++ back) ++ puts) ++ (first ++ (is ++ l))) (sym (append-nil last)) ∙ append_assoc (front ++ back) puts (first ++ (is ++ (last ++ []))) ∙ append_assoc front back (puts ++ (first ++ (is ++ (last ++ [])))) in
      let end : joined (front ∷ back ∷ first ∷ was ∷ last ∷ sends ∷ []) ≡ (front ++ (back ++ (first ++ (was ++ last)))) ++ sends =
      ap (λ l. front ++ (back ++ (first ++ (was ++ (last ++ l))))) (append-nil sends)
      ∙ ap (λ l. front ++ (back ++ (first ++ l))) (sym (append_assoc was last sends))
      ∙ ap (λ l. front ++ (back ++ l)) (sym (append_assoc first (was ++ last) sends))
      ∙ ap (λ l. front ++ l) (sym (append_assoc back (first ++ (was ++ last)) sends))
      ∙ sym (append_assoc front (back ++ (first ++ (was ++ last))) sends) in
      let all = same_then (joined (front ∷ back ∷ puts ∷ first ∷ is ∷ last ∷ [])) (joined (was ∷ sends ∷ front ∷ back ∷ first ∷ last ∷ [])) (joined (front ∷ back ∷ first ∷ was ∷ last ∷ sends ∷ []))
      (same_is (joined (front ∷ back ∷ puts ∷ first ∷ is ∷ last ∷ [])) (joined (puts ∷ is ∷ front ∷ back ∷ first ∷ last ∷ [])) (joined (was ∷ sends ∷ front ∷ back ∷ first ∷ last ∷ [])) between (same_joined (front ∷ back ∷ puts ∷ first ∷ is ∷ last ∷ []) (puts ∷ is ∷ front ∷ back ∷ first ∷ last ∷ []) one))
      (same_joined (was ∷ sends ∷ front ∷ back ∷ first ∷ last ∷ []) (front ∷ back ∷ first ∷ was ∷ last ∷ sends ∷ []) two) in
      same_is (((front ++ back) ++ puts) ++ (first ++ (is ++ last))) (joined (front ∷ back ∷ first ∷ was ∷ last ∷ sends ∷ [])) ((front ++ (back ++ (first ++ (was ++ last)))) ++ sends) end
      (subst (λ l. Same l (joined (front ∷ back ∷ first ∷ was ∷ last ∷ sends ∷ []))) (sym begin) all)

  -- where the run was of something that carried just what it sends
  pub arranged_sends : Same (((front ++ back) ++ puts) ++ (first ++ (is ++ last))) ((front ++ (sends ++ back)) ++ (first ++ (was ++ last)))
  arranged_sends =
      let one : Same (front ∷ back ∷ first ∷ was ∷ last ∷ sends ∷ []) (front ∷ sends ∷ back ∷ first ∷ was ∷ last ∷ []) = ([], sends ∷ back ∷ first ∷ was ∷ last ∷ [], refl, (sends ∷ [], first ∷ was ∷ last ∷ [], refl, (sends ∷ [], was ∷ last ∷ [], refl, (sends ∷ [], last ∷ [], refl, (sends ∷ [], [], refl, ([], [], refl, refl)))))) in
      let begin : (front ++ (back ++ (first ++ (was ++ last)))) ++ sends ≡ joined (front ∷ back ∷ first ∷ was ∷ last ∷ sends ∷ []) =
      append_assoc front (back ++ (first ++ (was ++ last))) sends
      ∙ ap (λ l. front ++ l) (append_assoc back (first ++ (was ++ last)) sends)
      ∙ ap (λ l. front ++ (back ++ l)) (append_assoc first (was ++ last) sends)
      ∙ ap (λ l. front ++ (back ++ (first ++ l))) (append_assoc was last sends)
      ∙ ap (λ l. front ++ (back ++ (first ++ (was ++ (last ++ l))))) (sym (append-nil sends)) in
      let end : joined (front ∷ sends ∷ back ∷ first ∷ was ∷ last ∷ []) ≡ (front ++ (sends ++ back)) ++ (first ++ (was ++ last)) =
      ap (λ l. front ++ (sends ++ (back ++ (first ++ (was ++ l))))) (append-nil last)
      ∙ ap (λ l. front ++ l) (sym (append_assoc sends back (first ++ (was ++ last))))
      ∙ sym (append_assoc front (sends ++ back) (first ++ (was ++ last))) in
      same_then (((front ++ back) ++ puts) ++ (first ++ (is ++ last))) ((front ++ (back ++ (first ++ (was ++ last)))) ++ sends) ((front ++ (sends ++ back)) ++ (first ++ (was ++ last))) arranged
      (same_is ((front ++ (back ++ (first ++ (was ++ last)))) ++ sends) (joined (front ∷ sends ∷ back ∷ first ∷ was ∷ last ∷ [])) ((front ++ (sends ++ back)) ++ (first ++ (was ++ last))) end
      (subst (λ l. Same l (joined (front ∷ sends ∷ back ∷ first ∷ was ∷ last ∷ []))) (sym begin) (same_joined (front ∷ back ∷ first ∷ was ∷ last ∷ sends ∷ []) (front ∷ sends ∷ back ∷ first ∷ was ∷ last ∷ []) one)))

-- ---- receipts behind others

module _ {M V : Type 0} (before : List (Receipt M V)) (receipt : Receipt M V) where
  on_more : (c : Colour) (own : Bool) → (receipt.colour.0 == c.0) ≡ own → receipts_on c (before ++ receipt ∷ []) ≡ receipts_on c before ++ cond own (receipt ∷ []) []
  on_more c own is = filter-append (λ (r : Receipt M V). r.colour.0 == c.0) before (receipt ∷ []) ∙ ap (λ b. receipts_on c before ++ cond b (receipt ∷ []) []) is

  pub received_more : (c : Colour) → receipt.colour.0 ≡ c.0 → received_in c (before ++ receipt ∷ []) ≡ received_in c before ++ receipt.message ∷ []
  received_more c same = ap (map (λ r. r.message)) (on_more c true (eq-eqb receipt.colour.0 c.0 same)) ∙ map-append (λ (r : Receipt M V). r.message) (receipts_on c before) (receipt ∷ [])

  pub sent_more : (c : Colour) → receipt.colour.0 ≡ c.0 → sent_in c (before ++ receipt ∷ []) ≡ sent_in c before ++ receipt.sends
  sent_more c same = ap (flat_map (λ r. r.sends)) (on_more c true (eq-eqb receipt.colour.0 c.0 same)) ∙ flat_map-append (λ (r : Receipt M V). r.sends) (receipts_on c before) (receipt ∷ []) ∙ ap (λ l. sent_in c before ++ l) (append-nil receipt.sends)

  on_other : (c : Colour) → (receipt.colour.0 ≡ c.0 → ⊥) → receipts_on c (before ++ receipt ∷ []) ≡ receipts_on c before
  on_other c apart = on_more c false (ne_eqb receipt.colour.0 c.0 apart) ∙ append-nil (receipts_on c before)

-- ---- runs

-- what holds of the runs of each colour holds of all
module _ {S P : Type 0} (Holds : HandlerRun S P → Type 0) where
  fewer : (c : Colour) (run : HandlerRun S P) (all : List (HandlerRun S P)) (own : Bool) → AllByRecursion Holds (cond own (run ∷ runs_on c all) (runs_on c all)) → AllByRecursion Holds (runs_on c all)
  fewer c run all true each = each.1
  fewer c run all false each = each

  pub all_of_each : (all : List (HandlerRun S P)) → ((c : Colour) → AllByRecursion Holds (runs_on c all)) → AllByRecursion Holds all
  all_of_each [] each = tt
  all_of_each (run ∷ all) each =
      let own : AllByRecursion Holds (run ∷ runs_on run.colour all) = subst (λ own. AllByRecursion Holds (cond own (run ∷ runs_on run.colour all) (runs_on run.colour all))) (eq-eqb run.colour.0 run.colour.0 refl) (each run.colour) in
      (own.0, all_of_each all (λ c. fewer c run all (run.colour.0 == c.0) (each c)))

module _ {A V M : Type 0} (a : ActorWords A V M) (plan : Plan A M) (n : ℕ) where
  abbrev State : Type 0
  State = KeptState A M V

  abbrev Run : Type 0
  Run = HandlerRun State (Load M)

  abbrev Put : Type 0
  Put = Colour × Event × Option (Load M)

  -- a run of these actors
  pub record IsOurs (run : Run) : Type 0 where
    pub of_plan : run.state.plan ≡ plan
    pub of_colour : run.state.log.colour ≡ run.colour
    pub there : run.colour.0 < n
    pub does : Runs a run.state run.load run.becomes run.puts

  -- one that didn't fail, with such a load
  pub record Stepped (run : Run) (load : Option (Load M)) : Type 0 where
    pub of_plan : run.state.plan ≡ plan
    pub of_colour : run.state.log.colour ≡ run.colour
    pub there : run.colour.0 < n
    pub step : Steps a run.state load run.becomes run.puts

  abbrev pub AreWell : (Colour → Option State) → Type 0
  AreWell states = (c : Colour) (state : State) → states c ≡ Some state → state.failed ≡ false

  record Went (all : List (Run)) (states : Colour → Option State) : Type 0 where
    well : AreWell states
    each : AllByRecursion (λ run. Stepped run run.load) all

  -- where none has failed in the end, none failed on the way
  went : (all : List (Run)) (states left : Colour → Option State) (under_way : List Put) → AllByRecursion IsOurs all → MadeByOne states under_way all left → AreWell left → Went all states
  went [] states left under_way ours made well = record { well = λ c state at. well c state (made.1 c ∙ at); each = tt }
  went (run ∷ all) states left under_way ours (front, back, is, at, later) well =
      let rest = went all (states_after states run) left (front ++ back ++ run.puts) ours.1 later well in
      let step = ours.0.does (rest.well run.colour run.becomes (own_state states run run.colour refl)) in
      record {
        well = λ c state there. elim (cases_eq c.0 run.colour.0) [
          | inl same ↦
              let mine : run.state ≡ state = same_Some run.state state (sym at ∙ ap states (sym (same_colour c run.colour same)) ∙ there) in
              sym (ap (λ (s : State). s.failed) mine) ∙ step.well
          | inr apart ↦ rest.well c state (other_state states run c apart ∙ there)
        ];
        each = (record { of_plan = ours.0.of_plan; of_colour = ours.0.of_colour; there = ours.0.there; step = step }, rest.each);
      }

  -- ---- the author's fact at each moment

  abbrev pub values_of : (Colour → Option State) → Colour → Option V
  values_of states c = option_map (λ state. state.value) (states c)

  abbrev pub Keeps : Colour → List (Receipt M V) → V → Type 0
  Keeps c before value = a.kept plan.actor c (received_in c before) (sent_in c before) value

  abbrev pub KeepNow : List (Receipt M V) → (Colour → Option V) → Type 0
  KeepNow before values = (c : Colour) (value : V) → values c ≡ Some value → Keeps c before value

  abbrev pub KeepAlong : List (Receipt M V) → (Colour → Option V) → List (Receipt M V) → Type 0
  KeepAlong before values [] = KeepNow before values
  KeepAlong before values (receipt ∷ later) = KeepNow before values × KeepAlong (before ++ receipt ∷ []) (values_after values receipt) later

  -- wherever the order is cut it is kept
  pub kept_at : (before : List (Receipt M V)) (values : Colour → Option V) (all some later : List (Receipt M V)) → KeepAlong before values all → all ≡ some ++ later → KeepNow (before ++ some) (values_along values some)
  kept_at before values [] [] later keep is = subst (λ l. KeepNow l values) (sym (append-nil before)) keep
  kept_at before values (receipt ∷ all) [] later keep is = subst (λ l. KeepNow l values) (sym (append-nil before)) keep.0
  kept_at before values [] (one ∷ some) later keep is = cc
  kept_at before values (receipt ∷ all) (one ∷ some) later keep is =
      let first : receipt ≡ one = cc in
      let rest : all ≡ some ++ later = cc in
      let behind = subst (λ r. KeepAlong (before ++ r ∷ []) (values_after values r) all) first keep.1 in
      subst (λ l. KeepNow l (values_along (values_after values one) some)) (append_assoc before (one ∷ []) some) (kept_at (before ++ one ∷ []) (values_after values one) all some later behind rest)

  -- the states have received so many, and keep it
  abbrev pub Have : List (Receipt M V) → (Colour → Option State) → Type 0
  Have before states = (c : Colour) (state : State) → states c ≡ Some state → (state.count ≡ length (received_in c before)) × Keeps c before state.value

  now_of : (before : List (Receipt M V)) (states : Colour → Option State) → Have before states → KeepNow before (values_of states)
  now_of before states have c value at = for (states c) refl at where
    for : (state : Option State) → states c ≡ state → option_map (λ s. s.value) state ≡ Some value → Keeps c before value
    for None is none = cc
    for (Some state) is some = subst (Keeps c before) (same_Some state.value value some) (have c state is).1

  moved : (p : Plan A M) (d e : Colour) (received : List M) (sent : List (Colour × M)) (value : V) → p ≡ plan → d ≡ e → a.kept p.actor d received sent value → a.kept plan.actor e received sent value
  moved p d e received sent value plans colours kept = subst (λ (x : Plan A M). a.kept x.actor e received sent value) plans (subst (λ x. a.kept p.actor x received sent value) colours kept)

  moved_back : (p : Plan A M) (d e : Colour) (received : List M) (sent : List (Colour × M)) (value : V) → p ≡ plan → d ≡ e → a.kept plan.actor e received sent value → a.kept p.actor d received sent value
  moved_back p d e received sent value plans colours kept = subst (λ (x : Plan A M). a.kept x.actor d received sent value) (sym plans) (subst (λ x. a.kept plan.actor x received sent value) (sym colours) kept)

  module _ (run : Run) (states : Colour → Option State) (before : List (Receipt M V)) (at : states run.colour ≡ Some run.state) (have : Have before states) where
    -- by a run that receives nothing
    have_still : run.becomes.count ≡ run.state.count → run.becomes.value ≡ run.state.value → Have before (states_after states run)
    have_still counts value c state there = elim (cases_eq c.0 run.colour.0) [
      | inl same ↦
          let mine : run.becomes ≡ state = same_Some run.becomes state (sym (own_state states run c same) ∙ there) in
          let was = have c run.state (ap states (same_colour c run.colour same) ∙ at) in
          (sym (ap (λ (s : State). s.count) mine) ∙ counts ∙ was.0, subst (Keeps c before) (sym value ∙ ap (λ (s : State). s.value) mine) was.1)
      | inr apart ↦ have c state (sym (other_state states run c apart) ∙ there)
    ]

    values_still : run.becomes.value ≡ run.state.value → (c : Colour) → values_of (states_after states run) c ≡ values_of states c
    values_still value c = elim (cases_eq c.0 run.colour.0) [
      | inl same ↦ ap (option_map (λ (s : State). s.value)) (own_state states run c same) ∙ ap (λ v. Some v) value ∙ sym (ap (option_map (λ (s : State). s.value)) (ap states (same_colour c run.colour same) ∙ at))
      | inr apart ↦ ap (option_map (λ (s : State). s.value)) (other_state states run c apart)
    ]

    -- and by one that receives a message
    module _ (message : M) (did : Stepped run (Some (Message message))) where
      abbrev receipt : Receipt M V
      receipt = receipt_of run message

      sent_so : sends_by run ≡ did.step.sends
      sent_so = sends_are run.state.waiting run.puts run.becomes.waiting did.step.sends (put_and_left a.event_of _ _ _ (run.state.waiting ++ did.step.sends) run.becomes.waiting run.puts did.step.put)

      have_more : Have (before ++ receipt ∷ []) (states_after states run)
      have_more c state there = elim (cases_eq c.0 run.colour.0) [
        | inl same ↦
            let mine : run.becomes ≡ state = same_Some run.becomes state (sym (own_state states run c same) ∙ there) in
            let was = have c run.state (ap states (same_colour c run.colour same) ∙ at) in
            let of_colour : run.state.log.colour ≡ c = did.of_colour ∙ sym (same_colour c run.colour same) in
            let kept = moved run.state.plan run.state.log.colour c (received_in c before ++ message ∷ []) (sent_in c before ++ did.step.sends) run.becomes.value did.of_plan of_colour
            (did.step.does.keeps (received_in c before) (sent_in c before) (sym was.0) (moved_back run.state.plan run.state.log.colour c (received_in c before) (sent_in c before) run.state.value did.of_plan of_colour was.1)) in
            let received = received_more before receipt c (sym same) in
            let sent = sent_more before receipt c (sym same) ∙ ap (λ l. sent_in c before ++ l) sent_so in
            let long = length-append (received_in c before) (message ∷ []) in
            let one : length (message ∷ []) ≡ 1 = refl in
            let counts = did.step.does.counts in
            let so_many = was.0 in
            let all : run.becomes.count ≡ length (received_in c before ++ message ∷ []) = omega (arith, long, one, counts, so_many) in (
              sym (ap (λ (s : State). s.count) mine) ∙ all ∙ ap length (sym received),
              subst (λ (s : State). Keeps c (before ++ receipt ∷ []) s.value) mine
                  (subst (λ l. a.kept plan.actor c l (sent_in c (before ++ receipt ∷ [])) run.becomes.value) (sym received) (subst (λ l. a.kept plan.actor c (received_in c before ++ message ∷ []) l run.becomes.value) (sym sent) kept)),
            )
        | inr apart ↦
            let was = have c state (sym (other_state states run c apart) ∙ there) in
            let other = on_other before receipt c (λ same. apart (sym same)) in
            subst (λ l. (state.count ≡ length (map (λ (r : Receipt M V). r.message) l)) × a.kept plan.actor c (map (λ (r : Receipt M V). r.message) l) (flat_map (λ (r : Receipt M V). r.sends) l) state.value) (sym other) was
      ]

      values_more : (c : Colour) → values_of (states_after states run) c ≡ values_after (values_of states) receipt c
      values_more c = for (c.0 == run.colour.0) where
        for : (own : Bool) → option_map (λ (s : State). s.value) (if own then Some run.becomes else states c) ≡ (if own then Some run.becomes.value else option_map (λ (s : State). s.value) (states c))
        for true = refl
        for false = refl

  -- ---- one order

  pub record ByOne (before : List (Receipt M V)) (values : Colour → Option V) (messages : List (Colour × M)) (receipts : List (Receipt M V)) (left : Colour → Option V) : Type 0 where
    pub made : ReceivedByOne values messages receipts left
    pub keep : KeepAlong before values receipts

  module _ (run : Run) (states : Colour → Option State) (under_way front back : List Put) (before : List (Receipt M V)) (messages : List (Colour × M)) (receipts : List (Receipt M V)) (left : Colour → Option V)
      (at : states run.colour ≡ Some run.state) (same : Same (carried under_way ++ all_waiting n states) messages) (have : Have before states)
      (later : (some : List (Receipt M V)) (others : List (Colour × M)) → Same (carried (front ++ back ++ run.puts) ++ all_waiting n (states_after states run)) others → Have some (states_after states run) → ByOne some (values_of (states_after states run)) others receipts left) where
    module _ (load : Option (Load M)) (did : Stepped run load) (is : under_way ≡ front ++ (run.colour, run.event, load) ∷ back) where
      cut : Split states run n
      cut = split states run n did.there at

      was_under_way : carried under_way ++ all_waiting n states ≡ (carried front ++ (in_load run.colour load ++ carried back)) ++ (cut.front ++ (run.state.waiting ++ cut.back))
      was_under_way = ap (λ l. l ++ all_waiting n states) (ap carried is ∙ carried-append front ((run.colour, run.event, load) ∷ back)) ∙ ap (λ l. (carried front ++ (in_load run.colour load ++ carried back)) ++ l) cut.was

      is_under_way : carried (front ++ back ++ run.puts) ++ all_waiting n (states_after states run) ≡ ((carried front ++ carried back) ++ carried run.puts) ++ (cut.front ++ (run.becomes.waiting ++ cut.back))
      is_under_way = ap (λ l. l ++ all_waiting n (states_after states run)) (carried-append (front ++ back) run.puts ∙ ap (λ l. l ++ carried run.puts) (carried-append front back)) ∙ ap (λ l. ((carried front ++ carried back) ++ carried run.puts) ++ l) cut.is

      put : carried run.puts ++ run.becomes.waiting ≡ run.state.waiting ++ did.step.sends
      put = put_and_left a.event_of _ _ _ (run.state.waiting ++ did.step.sends) run.becomes.waiting run.puts did.step.put

      -- a run that receives nothing moves what is under way
      still : did.step.sends ≡ in_load run.colour load → run.becomes.count ≡ run.state.count → run.becomes.value ≡ run.state.value → ByOne before (values_of states) messages receipts left
      still sends counts value =
          let was = (carried front ++ (in_load run.colour load ++ carried back)) ++ (cut.front ++ (run.state.waiting ++ cut.back)) in
          let now = ((carried front ++ carried back) ++ carried run.puts) ++ (cut.front ++ (run.becomes.waiting ++ cut.back)) in
          let moves : Same now was = arranged_sends (carried front) (carried back) cut.front cut.back run.state.waiting run.becomes.waiting (in_load run.colour load) (carried run.puts) (put ∙ ap (λ l. run.state.waiting ++ l) sends) in
          let all = same_then now was messages moves (subst (λ l. Same l messages) was_under_way same) in
          let values : values_of (states_after states run) ≡ values_of states = λ i c. values_still run states before at have value c i in
          subst (λ v. ByOne before v messages receipts left) values (later before messages (subst (λ l. Same l messages) (sym is_under_way) all) (have_still run states before at have counts value))

    -- one that receives a message takes it from what is under way
    receives : (message : M) → Stepped run (Some (Message message)) → under_way ≡ front ++ (run.colour, run.event, Some (Message message)) ∷ back → ByOne before (values_of states) messages (receipt_of run message ∷ receipts) left
    receives message did is =
        let split = cut (Some (Message message)) did is in
        let rest = split.front ++ (run.state.waiting ++ split.back) in
        let there = taken (carried front) (run.colour, message) (carried back ++ rest) messages (subst (λ l. Same l messages) (was_under_way (Some (Message message)) did is ∙ append_assoc (carried front) ((run.colour, message) ∷ carried back) rest) same) in
        let now = ((carried front ++ carried back) ++ carried run.puts) ++ (split.front ++ (run.becomes.waiting ++ split.back)) in
        let others = carried front ++ (carried back ++ rest) in
        let moves : Same now (others ++ sends_by run) = arranged (carried front) (carried back) split.front split.back run.state.waiting run.becomes.waiting (sends_by run) (carried run.puts)
        (put (Some (Message message)) did is ∙ ap (λ l. run.state.waiting ++ l) (sym (sent_so run states before at have message did))) in
        let all = same_then now (others ++ sends_by run) ((there.0 ++ there.1) ++ sends_by run) moves (same_behind (sends_by run) others (there.0 ++ there.1) there.3) in
        let values : values_of (states_after states run) ≡ values_after (values_of states) (receipt_of run message) = λ i c. values_more run states before at have message did c i in
        let rest_made = subst (λ v. ByOne (before ++ receipt_of run message ∷ []) v (there.0 ++ there.1 ++ sends_by run) receipts left) values
        (later (before ++ receipt_of run message ∷ []) (there.0 ++ there.1 ++ sends_by run) (subst (λ l. Same l (there.0 ++ there.1 ++ sends_by run)) (sym (is_under_way (Some (Message message)) did is)) all) (have_more run states before at have message did)) in
        record {
          made = (there.0, there.1, there.2, ap (option_map (λ (s : State). s.value)) at, rest_made.made);
          keep = (now_of before states have, rest_made.keep);
        }

    one_by : (load : Option (Load M)) → Stepped run load → under_way ≡ front ++ (run.colour, run.event, load) ∷ back → ByOne before (values_of states) messages (cons_option (receipt_by run load) receipts) left
    one_by (Some (Posts all)) did is = still (Some (Posts all)) did is did.step.does.sends_are did.step.does.counts did.step.does.keeps
    one_by (Some (Message message)) did is = receives message did is
    one_by None did is = still None did is did.step.does.sends_are did.step.does.counts did.step.does.keeps

  by_one : (all : List (Run)) (states left : Colour → Option State) (under_way : List Put) (before : List (Receipt M V)) (messages : List (Colour × M)) → AllByRecursion (λ run. Stepped run run.load) all → MadeByOne states under_way all left → all_waiting n left ≡ [] → Same (carried under_way ++ all_waiting n states) messages → Have before states
      → ByOne before (values_of states) messages (receipts_in all) (values_of left)
  by_one [] states left under_way before messages each made none same have =
      let last : left ≡ states = λ i c. made.1 c i in
      let nothing : carried under_way ++ all_waiting n states ≡ [] = ap (λ l. carried l ++ all_waiting n states) made.0 ∙ ap (all_waiting n) (sym last) ∙ none in
      record {
        made = (subst (λ l. Same l messages) nothing same, λ c. ap (option_map (λ (s : State). s.value)) (made.1 c));
        keep = now_of before states have;
      }
  by_one (run ∷ all) states left under_way before messages each (front, back, is, at, later) none same have =
      one_by run states under_way front back before messages (receipts_in all) (values_of left) at same have
      (λ some others still so. by_one all (states_after states run) left (front ++ back ++ run.puts) some others each.1 later none still so)
      run.load each.0 is

  -- where one thread might have made the runs of these actors, one might have received the messages
  pub received_by_one : (all : List (Run)) (states left : Colour → Option State) (under_way : List Put) → AllByRecursion IsOurs all → MadeByOne states under_way all left → AreWell left → all_waiting n states ≡ [] → all_waiting n left ≡ [] → Have [] states
      → ByOne [] (values_of states) (carried under_way) (receipts_in all) (values_of left)
  received_by_one all states left under_way ours made well first none have =
      let each = (went all states left under_way ours made well).each in
      let begun : carried under_way ++ all_waiting n states ≡ carried under_way = ap (λ l. carried under_way ++ l) first ∙ append-nil (carried under_way) in
      by_one all states left under_way [] (carried under_way) each made none (subst (λ l. Same l (carried under_way)) (sym begun) (same_all (carried under_way))) have
