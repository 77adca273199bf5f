-- What `serve` may call, and what it leaves.
use Rattle.std.specs.Prelude.{Err}
use Rattle.std.specs.List.{fold, cons_option, AllByRecursion, slice_get}
use Rattle.std.proofs.Common.{◌≡◌, ◌≢◌, inl, inr, ℕ, zero, suc, ◌+◌, ◌*◌, ◌<◌, ◌≤◌, List, [], ◌∷◌, ◌++◌, length, map, Option, Some, None, IsSome, refl, sym, ap, ◌∙◌, subst, arith, append-nil, Bool}
use Rattle.std.specs.Prelude.{sum_by}
use Rattle.std.proofs.Math.Nat.{mul-suc}
use Rattle.std.proofs.lemmas.Option.{slice_get_within}
use Rattle.mely_history.specs.declared.shape.Shape.{Shape}
use Rattle.sws_link.proofs.CountLemmas.{HasCause-as}
use Rattle.sws_link.specs.Contents.{Puts}
use Rattle.sws_link.specs.Counts.{Rose, HasCause}
use Rattle.sws_link.specs.Worlds.{Coming, WorldContents, Listens, total_within}
use Rattle.sws_link.specs.declared.Link.{Ghosts as LinkWords}
use Rattle.sws_link.specs.declared.Opened.TheVariants as opened
use Rattle.sws_link.specs.declared.Put.{Put}
use Rattle.sws_link.specs.declared.Put.TheVariants as put
use Rattle.sws_link.specs.declared.Sink.{Ghosts as SinkWords}
use Rattle.sws_link.specs.declared.world.World.{Ghosts as WorldWords}
use Rattle.sws_steps.specs.Protocol.{most_input, most_output}
use Rattle.sws_steps.specs.declared.End.{End}
use Rattle.sws_steps.specs.declared.End.TheVariants as ending
use Rattle.sws_steps.specs.declared.talk.Talk.{Ghosts as TalkWords}
use Rattle.sws_handlers.specs.Counting.{colours_over}
use Rattle.sws_weave.specs.ServerLeaves.{ServerLeaves, HasRun}
use Rattle.sws_handlers.specs.declared.ended.Ended.{Ended}
use Rattle.sws_handlers.specs.declared.ended.Served.{Served}
use Rattle.sws_handlers.specs.declared.ended.Verdict.TheVariants as verdict
use Rattle.sws_replay.specs.Replays.{WritesOne, result_of}
use Rattle.sws_replay.specs.declared.fault.RunFault.TheVariants.{Write}
use Rattle.sws_report.specs.Summary.{summary}
use Rattle.sws_top.specs.declared.outcomes.Outcome.{Outcome}
use Rattle.sws_top.specs.Faults.{put_fault_of, fault_of_run}
use Rattle.sws_top.specs.RanServe.{ends_of, summary_of, CanSumUp, EndsBy, HasServedPort}
use Rattle.sws_top.specs.Texts.{WritesText}

-- ---- what may be called

total_few : (coming : Option (List Coming)) (total : ℕ) → total_within coming total ≤ total
total_few None total = omega arith
total_few (Some coming) total = omega arith

module _ {W L : Type 0} (x : WorldWords W L) (before : W) (port connections : ℕ) (first : W)
    (listens : Listens x.tells x.faults x.waits before port connections opened.Ready first) where
  opened_total : (x.tells first).total ≡ total_within (x.tells before).coming connections
  opened_total = ap (λ (t : WorldContents). t.total) listens.becomes

  pub opened_few : connections ≤ 1024 → (x.tells first).total ≤ 1024
  opened_few few = let most = total_few (x.tells before).coming connections in omega (arith, opened_total)

  opened_faults : x.faults first ≡ x.faults before
  opened_faults = listens.failed.stays (λ e. cc)

ok≢memory : verdict.Ok ≢ verdict.Memory
ok≢memory same = cc

world≢memory : verdict.World ≢ verdict.Memory
world≢memory same = cc

-- ---- sums over what was served

later : {A : Type 0} (P : A → Type 0) (x : A) (xs : List A) → ((i : ℕ) (a : A) → slice_get (x ∷ xs) i ≡ Some a → P a)
    → P x × ((i : ℕ) (a : A) → slice_get xs i ≡ Some a → P a)
later P x xs all = (all 0 x refl, λ i a is. all (suc i) a is)

fold_bound : {A : Type 0} (f : A → ℕ) (most : ℕ) (xs : List A) (a : ℕ) → ((i : ℕ) (x : A) → slice_get xs i ≡ Some x → f x ≤ most)
    → fold (λ sum x. sum + f x) a xs ≤ a + most * length xs
fold_bound f most [] a all = omega arith
fold_bound f most (x ∷ xs) a all =
    let parts = later (λ x. f x ≤ most) x xs all in
    let rest = fold_bound f most xs (a + f x) parts.1 in
    let one = parts.0 in
    let more : most * suc (length xs) ≡ most * length xs + most = mul-suc most (length xs) in
    omega arith

sum_bound : {A : Type 0} (f : A → ℕ) (most : ℕ) (xs : List A) → ((i : ℕ) (x : A) → slice_get xs i ≡ Some x → f x ≤ most) → sum_by f xs ≤ most * length xs
sum_bound f most xs all = let bound = fold_bound f most xs 0 all in omega arith

length_mapped : {A B : Type 0} (f : A → B) (xs : List A) → length (map f xs) ≡ length xs
length_mapped f [] = refl
length_mapped f (x ∷ xs) = ap suc (length_mapped f xs)

get_in : {A : Type 0} (xs : List A) (i : ℕ) → i < length xs → (x : A) × (slice_get xs i ≡ Some x)
get_in [] i within = absurd (omega arith)
get_in (x ∷ xs) zero within = (x, refl)
get_in (x ∷ xs) (suc i) within = get_in xs i (omega arith)

none_refused : {L : Type 0} (served : List (Served L)) → ((i : ℕ) (s : Served L) → slice_get served i ≡ Some s → s.end ≢ Some ending.Memory) → AllByRecursion (λ end. end ≢ ending.Memory) (ends_of served)
none_refused [] none = tt
none_refused (s ∷ served) none =
    by_end s.end (none 0 s refl) (none_refused served (λ i t is. none (suc i) t is))
  where
    by_end : (end : Option End) → end ≢ Some ending.Memory → AllByRecursion (λ end. end ≢ ending.Memory) (ends_of served)
        → AllByRecursion (λ end. end ≢ ending.Memory) (cons_option end (ends_of served))
    by_end None fine rest = rest
    by_end (Some end) fine rest = (λ same. fine (ap (λ e. Some e) same), rest)

module _ {W L T G H : Type 0} (x : WorldWords W L) (l : LinkWords L) (y : TalkWords T L G H) (shape : Shape) (hall : H) (first : W) (log : Bool) (ended : Ended W L) where
  sums : y.input_limit hall ≤ most_input → y.output_limit hall < most_output → HasRun x l y shape hall first log ended → (x.tells first).total ≤ 1024 → ended.verdict ≡ verdict.Ok → CanSumUp ended.served.items
  sums most_in most_out run few ok =
      let many = run.many_served in
      let trails = map (λ t. t.items) ended.trails.items in
      let long : length trails ≡ colours_over (x.tells first).total log = length_mapped (λ t. t.items) ended.trails.items ∙ run.many_trails in
      let read = sum_bound (λ (s : Served L). s.read) most_input ended.served.items (λ i s is.
      let within = slice_get_within ended.served.items i s is in
      let trail = get_in trails (i + 2) (omega arith) in
      let less = (run.conn i s trail.0 is trail.1).few_read in omega (arith, less, most_in)) in
      let written = sum_bound (λ (s : Served L). s.written) most_output ended.served.items (λ i s is.
      let within = slice_get_within ended.served.items i s is in
      let trail = get_in trails (i + 2) (omega arith) in
      let less = (run.conn i s trail.0 is trail.1).few_written in omega (arith, less, most_out)) in
      record { ends = none_refused ended.served.items (run.enough (λ same. ok≢memory (sym ok ∙ same))); read = omega arith; written = omega arith }

  -- at the verdict Ok all can be summed up
  pub can_sum_up : y.input_limit hall ≤ most_input → y.output_limit hall < most_output → ServerLeaves x l y shape hall first log ended → (x.tells first).total ≤ 1024 → ended.verdict ≡ verdict.Ok → CanSumUp ended.served.items
  can_sum_up most_in most_out (inl begun) few ok = (let other : verdict.Ok ≡ verdict.Memory = sym ok ∙ begun.refused in cc)
  can_sum_up most_in most_out (inr run) few ok = sums most_in most_out run few ok

  -- a world that failed is handed out
  pub held_of : ServerLeaves x l y shape hall first log ended → ended.verdict ≡ verdict.World → IsSome ended.world
  held_of (inl begun) failed = (let other : verdict.World ≡ verdict.Memory = sym failed ∙ begun.refused in cc)
  held_of (inr run) failed = run.held (λ same. world≢memory (sym failed ∙ same))

  module _ (world : W) (port connections : ℕ) (listens : Listens x.tells x.faults x.waits world port connections opened.Ready first) where
    -- and its count of faults rose
    pub rose_of : ServerLeaves x l y shape hall first log ended → (last : W) → ended.world ≡ Some last → ended.verdict ≡ verdict.World → Rose (x.faults world) (x.faults last)
    rose_of (inl begun) last is failed = (let other : verdict.World ≡ verdict.Memory = sym failed ∙ begun.refused in cc)
    rose_of (inr run) last is failed =
        subst (λ count. Rose count (x.faults last)) (opened_faults x world port connections first listens)
        ((run.stands last is).failed (run.failed failed))

    many_of : ServerLeaves x l y shape hall first log ended → ended.verdict ≢ verdict.Memory → length ended.served.items ≡ total_within (x.tells world).coming connections
    many_of (inl begun) run = absurd (run begun.refused)
    many_of (inr ran) run = ran.many_served ∙ opened_total x world port connections first listens

    pub served_by : {O : Type 0} (o : SinkWords O) (out out_now : O) (outcome : Outcome W L) → ServerLeaves x l y shape hall first log ended → outcome.ended ≡ Some ended → outcome.world ≡ None
        → EndsBy o out out_now outcome.fault ended.log.items ended.served.items ended.verdict → HasServedPort x l o y out out_now world outcome port connections shape log hall
    served_by o out out_now outcome leaves there gone ends = record {
      first = first;
      listens = listens;
      ended = ended;
      there = there;
      gone = gone;
      leaves = leaves;
      many = λ run. many_of leaves run;
      ends = ends;
    }

-- a run on threads loses no connection
pub never_lost : {W L T G H : Type 0} (x : WorldWords W L) (l : LinkWords L) (y : TalkWords T L G H) (shape : Shape) (hall : H) (first : W) (log : Bool) (ended : Ended W L) (conn : ℕ)
    → ServerLeaves x l y shape hall first log ended → ended.verdict ≢ verdict.Apart conn
never_lost x l y shape hall first log ended conn (inl begun) is = (let other : verdict.Apart conn ≡ verdict.Memory = sym is ∙ begun.refused in cc)
never_lost x l y shape hall first log ended conn (inr run) is = run.never_apart conn is

-- ---- the summary

put_writes : (before now : Option (List ℕ)) (answer : Put) (bytes : List ℕ) → Puts before now answer bytes
    → WritesOne (λ text. text ≡ bytes) before now (result_of answer)
put_writes None now put.Done bytes puts = puts
put_writes None now put.Failed bytes puts = puts
put_writes None now put.Memory bytes puts = puts
put_writes (Some before) now put.Done bytes puts = (before ++ bytes, puts, (bytes, refl, refl))
put_writes (Some before) now put.Failed bytes puts = (before ++ puts.0, puts.2, (puts.0, (bytes, refl, puts.1), refl))
put_writes (Some before) now put.Memory bytes puts = (before ++ puts.0, puts.2, (puts.0, inr (bytes, refl, puts.1), refl))

pub text_written : {O : Type 0} (o : SinkWords O) (out now : O) (answer : Put) (bytes : List ℕ) → Puts (o.written out) (o.written now) answer bytes
    → HasCause (o.faults out) (o.faults now) (answer ≡ put.Failed) → WritesText o out now (put_fault_of answer) (λ text. text ≡ bytes)
text_written o out now answer bytes puts cause = record {
  answer = result_of answer;
  ended = ended_is answer;
  writes = put_writes (o.written out) (o.written now) answer bytes puts;
  cause = HasCause-as (o.faults out) (o.faults out) (o.faults now) (answer ≡ put.Failed) (result_of answer ≡ Err Write) refl cause (λ e. ap result_of e) (back answer);
}
  where
    ended_is : (answer : Put) → put_fault_of answer ≡ fault_of_run (result_of answer)
    ended_is put.Done = refl
    ended_is put.Failed = refl
    ended_is put.Memory = refl

    back : (answer : Put) → result_of answer ≡ Err Write → answer ≡ put.Failed
    back put.Done e = cc
    back put.Failed e = refl
    back put.Memory e = cc

-- nothing was written of a text for which there was no memory
pub nothing_put : (written : Option (List ℕ)) (bytes : List ℕ) → Puts written written put.Memory bytes
nothing_put None bytes = refl
nothing_put (Some before) bytes = ([], (bytes, refl), ap Some (sym (append-nil before)))

-- the summary of what was served
pub summary_put : {L : Type 0} (served : List (Served L)) (ends : List End) (read written : ℕ) (before now : Option (List ℕ)) (answer : Put) → ends ≡ ends_of served
    → read ≡ sum_by (λ (s : Served L). s.read) served → written ≡ sum_by (λ (s : Served L). s.written) served → Puts before now answer (summary ends read written)
    → Puts before now answer (summary_of served)
unfolding summary_of
summary_put {L} served ends read written before now answer e f g puts =
    subst (λ (w : ℕ). Puts before now answer (summary (ends_of served) (sum_by (λ (s : Served L). s.read) served) w)) g
    (subst (λ (r : ℕ). Puts before now answer (summary (ends_of served) r written)) f
    (subst (λ (es : List End). Puts before now answer (summary es read written)) e puts))
