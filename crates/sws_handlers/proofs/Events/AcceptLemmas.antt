-- An accept puts what fits.
use Rattle.std.proofs.Common.{◌≡◌, ℕ, zero, suc, ◌+◌, ◌≤◌, ◌<◌, Bool, true, false, true≢false, Option, Some, None, List, [], ◌∷◌, length, drop, refl, sym, ◌∙◌, ap, subst, arith, inl, inr}
use Rattle.std.proofs.lemmas.Bool.Decides.{eqb_tells}
use Rattle.std.specs.Prelude.{◌==◌, IsTrue, slice_get, option_map}
use Rattle.std.specs.List.{AllByRecursion}
use Rattle.mely_event.specs.declared.colour.Colour.{Colour}
use Rattle.mely_worker.specs.Access.{FitsIn}
use Rattle.sws_link.proofs.CountLemmas.{Rose-later, Rose-earlier, IsLater-trans}
use Rattle.sws_link.specs.Counts.{Rose, IsLater}
use Rattle.sws_link.specs.Links.{LinkContents, IsInitialLink}
use Rattle.sws_link.specs.declared.Link.{Ghosts as LinkWords}
use Rattle.sws_link.specs.declared.world.World.{Ghosts as WorldWords}
use Rattle.sws_link.specs.declared.Accepted.{Accepted}
use Rattle.sws_link.specs.declared.Accepted.TheVariants as accepted
use Rattle.sws_link.specs.Worlds.{WorldContents, Coming, TakesNext, GivesLink, Accepts}
use Rattle.sws_handlers.specs.declared.load.WorldLoad.{WorldLoad}
use Rattle.sws_handlers.specs.Loads.{WorldStands, LinkStands, IsComing, AcceptFits, Fit}
use Rattle.sws_handlers.specs.Handling.{Put, poll_put, poll_after, accept_puts, RunsAccept}

drop_next : {A : Type 0} (xs : List A) (n : ℕ) (a : A) (rest : List A) → drop n xs ≡ a ∷ rest → (drop (suc n) xs ≡ rest) × (slice_get xs n ≡ Some a)
drop_next [] zero a rest is = cc
drop_next [] (suc n) a rest is = cc
drop_next (x ∷ xs) zero a rest is = (let same : xs ≡ rest = cc in same, let same : x ≡ a = cc in ap (λ v. Some v) same)
drop_next (x ∷ xs) (suc n) a rest is = drop_next xs n a rest is

-- the next link is the one of its number
pub next_coming : (coming : Option (List Coming)) (n : ℕ) (told : Option LinkContents) (now : Option (List Coming)) → TakesNext (option_map (λ c. drop n c) coming) told now → IsInitialLink told → (now ≡ option_map (λ c. drop (n + 1) c) coming) × IsComing coming n told
next_coming None n told now is initial = (is, initial)
next_coming (Some coming) n told now is initial =
    let d = drop_next coming n is.0 is.1 is.2 in
    let e : n + 1 ≡ suc n = omega arith in
    (is.3 ∙ ap (λ (c : List Coming). Some c) (sym (ap (λ k. drop k coming) e ∙ d.0)), (is.0, d.1, is.4))

module _ {W L : Type 0} (x : WorldWords W L) (l : LinkWords L) (first : W) (held : WorldLoad W) (arg : ℕ) (c : Colour) (fit : AcceptFits x l first c arg held) where
  abbrev total : ℕ
  total = (x.tells first).total

  abbrev PutFits : Put W L → Type 0
  PutFits put = FitsIn (total + 2) 10 (Fit x l first) put

  abbrev held_at : W → ℕ → WorldLoad W
  held_at now n = record { world = now; accepted = n; failed = held.failed }

  same_stands : (now : W) → x.tells now ≡ x.tells held.world → IsLater (x.faults held.world) (x.faults now) → WorldStands x l first (held_at now held.accepted)
  same_stands now same later =
      let s = fit.stands in
      record {
        total = ap (λ (w : WorldContents). w.total) same ∙ s.total;
        port = ap (λ (w : WorldContents). w.port) same ∙ s.port;
        scripted = ap (λ (w : WorldContents). w.scripted) same ∙ s.scripted;
        accepted = ap (λ (w : WorldContents). w.accepted) same ∙ s.accepted;
        within = s.within;
        coming = ap (λ (w : WorldContents). w.coming) same ∙ s.coming;
        faults = IsLater-trans (x.faults first) (x.faults held.world) (x.faults now) s.faults later;
        failed = λ yes_is. Rose-later (x.faults first) (x.faults held.world) (x.faults now) (s.failed yes_is) later;
        sure = s.sure;
      }

  next_stands : (now : W) (link : L) → GivesLink l.tells l.is_shut l.faults l.waits (x.tells held.world) link (x.tells now) → IsLater (x.faults held.world) (x.faults now) → WorldStands x l first (held_at now (held.accepted + 1)) × LinkStands x l first held.accepted link
  next_stands now link gives later =
      let s = fit.stands in
      let more = fit.more in
      let comes = next_coming (x.tells first).coming held.accepted (l.tells link) (x.tells now).coming (subst (λ (o : Option (List Coming)). TakesNext o (l.tells link) (x.tells now).coming) s.coming gives.next) gives.initial in
      let n = gives.counted in (
        record {
          total = ap (λ (w : WorldContents). w.total) n ∙ s.total;
          port = ap (λ (w : WorldContents). w.port) n ∙ s.port;
          scripted = ap (λ (w : WorldContents). w.scripted) n ∙ s.scripted;
          accepted = ap (λ (w : WorldContents). w.accepted) n ∙ ap (λ k. k + 1) s.accepted;
          within = omega (arith, more);
          coming = comes.0;
          faults = IsLater-trans (x.faults first) (x.faults held.world) (x.faults now) s.faults later;
          failed = λ yes_is. Rose-later (x.faults first) (x.faults held.world) (x.faults now) (s.failed yes_is) later;
          sure = s.sure;
        },
        record { coming = comes.1; not_shut = gives.not_shut; no_faults_yet = gives.no_faults_yet; no_waits_yet = gives.no_waits_yet },
      )

  poll_fits : (now : W) (n arg : ℕ) → arg ≤ 2 → (arg ≡ 0 → n < total) → (arg ≡ 2 → Rose (x.faults first) (x.faults now)) → (IsTrue (x.tells first).scripted → arg ≤ 1) → WorldStands x l first (held_at now n) → PutFits (poll_put arg (held_at now n))
  poll_fits now n arg known more failing sure stands = record { colour = omega arith; handler = omega arith; load = record { colour = refl; known = known; stands = stands; more = more; failing = failing; sure = sure } }

  after_few : (b : Bool) → poll_after b ≤ 1
  after_few true = omega arith
  after_few false = omega arith

  after_more : (b : Bool) → (held.accepted + 1 == total) ≡ b → poll_after b ≡ 0 → held.accepted + 1 < total
  after_more true is none = absurd (omega (arith, none))
  after_more false is none =
      let more = fit.more in
      elim (eqb_tells (held.accepted + 1) total) [ inl same ↦ absurd (true≢false (sym same.0 ∙ is)) | inr apart ↦ let isnt = apart.1 in omega (arith, more, isnt) ]

  by_answer : (now : W) (answer : Accepted L) → Accepts x.tells x.faults x.waits l.tells l.is_shut l.faults l.waits held.world answer now → AllByRecursion PutFits (accept_puts total held now answer) × (length (accept_puts total held now answer) ≤ 2)
  by_answer now (accepted.Link link) is =
      let both = next_stands now link is.gives is.failed.later in
      let more = fit.more in
      let few = after_few (held.accepted + 1 == total) in (
        (
          poll_fits now (held.accepted + 1) (poll_after (held.accepted + 1 == total)) (omega (arith, few)) (after_more (held.accepted + 1 == total) refl) (λ two. absurd (omega (arith, two, few))) (λ s. few) both.0,
          (record { colour = omega (arith, more); handler = omega arith; load = record { step = record { colour = refl; conn = more }; initial = both.1 } }, tt),
        ),
        omega arith,
      )
  by_answer now accepted.NotYet is = ((poll_fits now held.accepted 0 (omega arith) (λ e. fit.more) (λ no_is. cc) (λ s. omega arith) (same_stands now is.gives is.failed.later), tt), omega arith)
  by_answer now accepted.Failed is =
      let s = fit.stands in
      ((poll_fits now held.accepted 2 (omega arith) (λ no_is. cc) (λ e. Rose-earlier (x.faults first) (x.faults held.world) (x.faults now) s.faults is.failed.later (is.failed.rose refl)) (λ scripted. absurd (is.scripted (subst (λ (b : Bool). b ≡ true) (sym s.scripted) scripted))) (same_stands now is.gives is.failed.later), tt), omega arith)

  pub accept_puts_fit : (puts : List (Put W L)) → RunsAccept x l total held puts → AllByRecursion PutFits puts × (length puts ≤ 2)
  accept_puts_fit puts runs = subst (λ (ps : List (Put W L)). AllByRecursion PutFits ps × (length ps ≤ 2)) (sym runs.puts_are) (by_answer runs.now runs.answer runs.accepts)
