-- One generation after another.
use Rattle.std.specs.Prelude.{option_map, flat_map}
use Rattle.std.proofs.Common.{◌≡◌, ℕ, true, false, List, [], ◌∷◌, ◌++◌, Option, Some, None, refl, sym, ap, ◌∙◌, subst, append_assoc, append-nil}
use Rattle.std.proofs.lemmas.Grind.{flat_map-append}
use Rattle.sws_link.specs.Contents.{IsPrefix}
use Rattle.sws_link.specs.Worlds.{Listens}
use Rattle.sws_link.specs.declared.Link.{Ghosts as LinkWords}
use Rattle.sws_link.specs.declared.Opened.{Opened}
use Rattle.sws_link.specs.declared.Opened.TheVariants as opened
use Rattle.sws_link.specs.declared.world.World.{Ghosts as WorldWords}
use Rattle.sws_site.specs.Site.{SiteState}
use Rattle.sws_steps.specs.declared.talk.Talk.{Ghosts as TalkWords}
use Rattle.sws_handlers.specs.declared.ended.Ended.{Ended}
use Rattle.sws_lane.specs.Generations.{Generation, IsRun, IsRunBy, IsRunOf, RunsBy, AreGenerations, AreTotals, LeavesBy, world_by}
use Rattle.sws_lane.specs.Keepers.{KeeperCall, Report, IsCalled}
use Rattle.sws_lane.specs.Keepers as call
use Rattle.sws_lane.specs.Keeping.{Keeps, KeepsServing, ServesNext, ServesNone, calls_in, last_call}
use Rattle.sws_lane.specs.Totals.{AddsUp, AreKept, both_totals, no_totals, one_generation}
use Rattle.sws_lane.specs.declared.keeper.Keeper.{Ghosts as KeeperWords}
use Rattle.sws_lane.specs.declared.lane.Lane.{Lane}
use Rattle.sws_lane.specs.declared.lane.Terms.{Terms}
use Rattle.sws_lane.specs.declared.totals.Totals.{Totals}
use Rattle.sws_lane.proofs.TurnLemmas.{in_turn}
use Rattle.sws_lane.proofs.TotalLemmas.{no_generation, totals_more, totals_both, totals_of_none, totals_of_run}

-- ---- calls

calls_none : (calls : Option (List KeeperCall)) → calls ≡ option_map (λ all. all ++ []) calls
calls_none None = refl
calls_none (Some all) = ap Some (sym (append-nil all))

calls_more : (calls : Option (List KeeperCall)) (xs ys : List KeeperCall)
    → option_map (λ all. all ++ ys) (option_map (λ all. all ++ xs) calls) ≡ option_map (λ all. all ++ (xs ++ ys)) calls
calls_more None xs ys = refl
calls_more (Some all) xs ys = ap Some (append_assoc all xs ys)

module _ {W L T U G H : Type 0} (x : WorldWords W L) (l : LinkWords L) (y : TalkWords T L G SiteState) (z : TalkWords U L H SiteState) (terms : Terms) where
  generations_more : (first : Option W) (xs ys : List (Generation W L)) (between last : Option W) → AreGenerations x l y z terms first xs between
      → AreGenerations x l y z terms between ys last → AreGenerations x l y z terms first (xs ++ ys) last
  generations_more first [] ys between last h k = subst (λ w. AreGenerations x l y z terms w ys last) h k
  generations_more None (one ∷ xs) ys between last h k = absurd h
  generations_more (Some world) (one ∷ xs) ys between last h k =
      (h.0, generations_more (world_by one.first one.ended) xs ys between last h.1 k)

  -- ---- one

  -- a run with the log, and one without
  pub run_logged : (site : SiteState) (first : W) (ended : Ended W L) → terms.log ≡ true → IsRunOf x l y terms site first ended
      → IsRun x l y z terms site first ended
  run_logged site first ended log run = subst (λ kept. IsRunBy x l y z terms kept site first ended) (sym log) run

  pub run_unlogged : (site : SiteState) (first : W) (ended : Ended W L) → terms.log ≡ false → IsRunOf x l z terms site first ended
      → IsRun x l y z terms site first ended
  run_unlogged site first ended log run = subst (λ kept. IsRunBy x l y z terms kept site first ended) (sym log) run

  pub leaves_unopened : (site : SiteState) (world first : W) (answer : Opened) (last : Option W) (report : Report)
      → Listens x.tells x.faults x.waits world terms.port terms.connections answer first → RunsBy x l y z terms answer site first None
      → last ≡ Some first → report.opened ≡ answer → report.verdict ≡ None → report.totals ≡ no_totals
      → LeavesBy x l y z terms site world last report
  leaves_unopened site world first answer last report listens runs left opened verdict totals =
      let one : Generation W L = record { site = site; answer = answer; first = first; ended = None; told = report } in
      record {
        one = one;
        of_site = refl;
        is = record {
          listens = listens;
          runs = runs;
          told = record {
            opened = opened;
            verdict = verdict;
            totals = subst (λ (t : Totals). AreTotals no_totals (one ∷ []) t) (sym totals) (totals_of_none one refl);
          };
        };
        left = left;
        reported = refl;
      }

  pub leaves_run : (site : SiteState) (world first : W) (ended : Ended W L) (last : Option W) (report : Report)
      → Listens x.tells x.faults x.waits world terms.port terms.connections opened.Ready first → IsRun x l y z terms site first ended
      → last ≡ ended.world → report.opened ≡ opened.Ready → report.verdict ≡ Some ended.verdict → AddsUp one_generation ended.served.items report.totals
      → LeavesBy x l y z terms site world last report
  leaves_run site world first ended last report listens run left ready verdict adds =
      let one : Generation W L = record { site = site; answer = opened.Ready; first = first; ended = Some ended; told = report } in
      record {
        one = one;
        of_site = refl;
        is = record {
          listens = listens;
          runs = (ended, refl, run);
          told = record {
            opened = ready;
            verdict = verdict;
            totals = totals_of_run one ended report.totals refl adds;
          };
        };
        left = left;
        reported = refl;
      }

  -- ---- a lane

  module _ {K : Type 0} (k : KeeperWords K) where
    -- nothing was served, and the keeper was called so
    pub serves_none : (lane lane_now : Lane W K L) (after : List KeeperCall) → AreKept lane.totals → lane_now.totals ≡ lane.totals
        → lane_now.world ≡ lane.world → k.calls_of lane_now.keeper ≡ option_map (λ all. all ++ after) (k.calls_of lane.keeper)
        → KeepsServing x l y z k terms lane lane_now after
    serves_none lane lane_now after kept totals world calls = record {
      generations = [];
      each = world;
      totals = subst (λ (t : Totals). AreTotals {W = W} {L = L} lane.totals [] t) (sym totals) (no_generation lane.totals kept);
      calls = calls;
    }

    -- a lane as it is
    pub serves_so_far : (lane : Lane W K L) → AreKept lane.totals → KeepsServing x l y z k terms lane lane []
    serves_so_far lane kept = serves_none lane lane [] kept refl refl (calls_none (k.calls_of lane.keeper))

    -- the world is lost, and nobody was asked
    pub stops_lost : (lane lane_now : Lane W K L) → AreKept lane.totals → lane_now.totals ≡ lane.totals → lane.world ≡ None
        → lane_now.world ≡ None → k.calls_of lane_now.keeper ≡ k.calls_of lane.keeper → ServesNone x l y z k terms lane lane_now
    unfolding serves_none
    stops_lost lane lane_now kept totals lost gone same = record {
      served = subst (λ w. KeepsServing x l y z k terms lane lane_now (last_call w)) (sym gone)
          (serves_none lane lane_now [] kept totals (gone ∙ sym lost) (same ∙ calls_none (k.calls_of lane.keeper)));
      none = refl;
    }

    -- the keeper refused
    pub stops_refused : (lane lane_now : Lane W K L) (world : W) → AreKept lane.totals → lane_now.totals ≡ lane.totals
        → lane.world ≡ Some world → lane_now.world ≡ Some world → IsCalled k.calls_of lane.keeper call.Refused lane_now.keeper
        → ServesNone x l y z k terms lane lane_now
    unfolding serves_none
    stops_refused lane lane_now world kept totals there stays refused = record {
      served = subst (λ w. KeepsServing x l y z k terms lane lane_now (last_call w)) (sym stays)
          (serves_none lane lane_now (call.Refused ∷ []) kept totals (stays ∙ sym there) refused);
      none = refl;
    }

    -- some were served, and then others
    pub serves_more : (p q r : Lane W K L) (after : List KeeperCall) → KeepsServing x l y z k terms p q [] → KeepsServing x l y z k terms q r after
        → KeepsServing x l y z k terms p r after
    serves_more p q r after h g = record {
      generations = h.generations ++ g.generations;
      each = generations_more p.world h.generations g.generations q.world r.world h.each g.each;
      totals = totals_more p.totals q.totals r.totals h.generations g.generations h.totals g.totals;
      calls =
          let front = flat_map calls_in h.generations in
          let back = flat_map calls_in g.generations in
          let joined : (front ++ []) ++ (back ++ after) ≡ flat_map calls_in (h.generations ++ g.generations) ++ after =
          ap (λ c. c ++ (back ++ after)) (append-nil front)
          ∙ (sym (append_assoc front back after) ∙ ap (λ c. c ++ after) (sym (flat_map-append calls_in h.generations g.generations))) in
          g.calls ∙ (ap (option_map (λ all. all ++ (back ++ after))) h.calls
          ∙ (calls_more (k.calls_of p.keeper) (front ++ []) (back ++ after)
          ∙ ap (λ more. option_map (λ all. all ++ more) (k.calls_of p.keeper)) joined));
    }

    -- one was served
    pub serves_one : (lane lane_now : Lane W K L) (begun : K) (world : W) (site : SiteState) (report : Report) → lane.world ≡ Some world
        → LeavesBy x l y z terms site world lane_now.world report → lane_now.totals ≡ both_totals lane.totals report.totals
        → site ≡ k.site_of begun → IsCalled k.calls_of lane.keeper (call.Began (k.site_of begun)) begun
        → IsCalled k.calls_of begun (call.Heard report) lane_now.keeper → ServesNext x l y z k terms lane lane_now
    serves_one lane lane_now begun world site report there leaves totals of begins ends = record {
      served = record {
        generations = leaves.one ∷ [];
        each = subst (λ w. AreGenerations x l y z terms w (leaves.one ∷ []) lane_now.world) (sym there) (leaves.is, leaves.left);
        totals = subst (λ (t : Totals). AreTotals lane.totals (leaves.one ∷ []) t) (sym totals)
            (totals_both lane.totals report.totals (leaves.one ∷ []) (subst (λ (r : Report). AreTotals no_totals (leaves.one ∷ []) r.totals) leaves.reported leaves.is.told.totals));
        calls = ends ∙ (ap (option_map (λ all. all ++ call.Heard report ∷ [])) begins
            ∙ (calls_more (k.calls_of lane.keeper) (call.Began (k.site_of begun) ∷ []) (call.Heard report ∷ [])
            ∙ ap (λ more. option_map (λ all. all ++ more) (k.calls_of lane.keeper))
            (ap (λ s. call.Began s ∷ call.Heard report ∷ []) (sym (leaves.of_site ∙ of)) ∙ ap (λ r. call.Began leaves.one.site ∷ call.Heard r ∷ []) (sym leaves.reported))));
      };
      one = refl;
    }

    -- they are in turn too
    pub keeps_all : ((site : SiteState) (front bytes : List ℕ) → IsPrefix front bytes → IsPrefix (y.responses site front) (y.responses site bytes))
        → ((site : SiteState) (bytes : List ℕ) → z.responses site bytes ≡ y.responses site bytes)
        → (lane lane_now : Lane W K L) → KeepsServing x l y z k terms lane lane_now (last_call lane_now.world) → Keeps x l y z k terms lane lane_now
    keeps_all law same lane lane_now served = record {
      served = served;
      in_turn = in_turn x l y z terms law same served.generations lane.world lane_now.world served.each;
    }
