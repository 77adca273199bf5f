-- A link to which nothing was done was served by a connection that was never opened.
use Rattle.std.proofs.Common.{◌≡◌, ℕ, [], ◌++◌, List, Option, None, Some, length, refl, sym, ap}
use Rattle.std.proofs.lemmas.Option.{same_Some}
use Rattle.sws_link.specs.Exchanges.{Exchanges}
use Rattle.sws_link.specs.Links.{LinkContents, IsInitialLink}
use Rattle.sws_link.specs.Scripts.{Script}
use Rattle.sws_link.specs.Worlds.{Coming, initial_contents}
use Rattle.sws_link.proofs.CountLemmas.{IsLater-same}
use Rattle.sws_link.specs.declared.Link.{Ghosts as LinkWords}
use Rattle.sws_link.specs.declared.world.World.{Ghosts as WorldWords}
use Rattle.sws_conn.specs.Outcome.{Outcome}
use Rattle.sws_conn.specs.Talks.{unopened_view, HasServed, ServesTold}
use Rattle.sws_handlers.specs.Loads.{IsComing, LinkStands}

coming_initial : (coming : Option (List Coming)) (i : ℕ) (told : Option LinkContents) → IsComing coming i told → IsInitialLink told
coming_initial None i told is = is
coming_initial (Some coming) i None is = tt
coming_initial (Some coming) i (Some tells) is = let same : tells ≡ initial_contents is.0 = same_Some tells (initial_contents is.0) is.2 in (ap (λ (t : LinkContents). t.taken) same, ap (λ (t : LinkContents). t.written) same)

initial_told : (respond : List ℕ → List ℕ) (told : Option LinkContents) → IsInitialLink told → ServesTold respond told told unopened_view
initial_told respond None initial = refl
initial_told respond (Some tells) initial = (
  tells,
  refl,
  record {
    input = refl;
    consumes = record { consumed = []; buffer = []; taken_is = initial.0; begins = (respond [], ap (λ l. l ++ respond []) (sym initial.1)) };
    begins = (respond tells.taken, ap (λ l. l ++ respond tells.taken) (sym initial.1));
    whole = λ never. cc;
    read = sym (ap length initial.0);
    written = λ known. sym (ap length initial.1);
  },
)

none_exchanged : {L : Type 0} (l : LinkWords L) (link : L) → Exchanges l.tells l.is_shut l.faults l.waits [] link link
unfolding Exchanges
none_exchanged l link = refl

pub initial_served : {W L : Type 0} (x : WorldWords W L) (l : LinkWords L) (first : W) (i : ℕ) (link : L) (respond : List ℕ → List ℕ) (outcome : Script → Outcome) → LinkStands x l first i link → HasServed l respond outcome link link unopened_view
initial_served x l first i link respond outcome stands = record {
  told = initial_told respond (l.tells link) (coming_initial (x.tells first).coming i (l.tells link) stands.coming);
  shut = stands.not_shut;
  faults = IsLater-same (l.faults link);
  waits = IsLater-same (l.waits link);
  fault = λ never. cc;
  idle = λ never. cc;
  exchange = record { calls = []; leads = none_exchanged l link; read = refl; written = refl };
  outcome_is = λ end never. cc;
}
