-- The due event of a connection.
use Rattle.std.proofs.Common.{◌≡◌, ℕ, Bool, true, false, true≢false, inl, inr, Option, Some, None, IsSome, refl, sym, ◌∙◌}
use Rattle.std.proofs.lemmas.Bool.Decides.{eqb_tells}
use Rattle.std.specs.Prelude.{◌==◌, ◌&&◌}
use Rattle.sws_steps.specs.declared.Next.{Next}
use Rattle.sws_steps.specs.declared.Next.TheVariants as next
use Rattle.sws_steps.specs.declared.Handler.{Handler}
use Rattle.sws_steps.specs.declared.Handler.TheVariants as handler
use Rattle.sws_conn.specs.Conn.{reported_by}
use Rattle.sws_conn.specs.Talks.{TalkView, ServesNow, due, due_after}

opening_at : (waiting : Bool) (pending : Next) → due_after (reported_by waiting pending) ≡ Some handler.Open → pending ≡ next.Open
opening_at true pending is = cc
opening_at false next.Open is = refl
opening_at false next.Read is = cc
opening_at false next.Parse is = cc
opening_at false next.Look is = cc
opening_at false next.Write is = cc
opening_at false next.Wait is = cc
opening_at false next.Close is = cc
opening_at false next.Nothing is = cc

pub opening_is : (view : TalkView) → due view ≡ Some handler.Open → view.pending ≡ next.Open
opening_is view is = opening_at view.waiting view.pending is

pub some_of : (d : Option Handler) → IsSome d → (step : Handler) × (d ≡ Some step)
some_of None is = cc
some_of (Some step) is = (step, refl)

pub linked_none : {L : Type 0} (Served : L → TalkView → Type 0) (link : Option L) (view : TalkView) → ServesNow Served link view → link ≡ None → ⊥
linked_none Served None view serves none = serves
linked_none Served (Some link) view serves none = cc

first_of : (a b : Bool) → (a && b) ≡ true → a ≡ true
first_of true b is = refl
first_of false b is = cc

two_numbers : (h n : ℕ) (b : Bool) → ((h == n) && b) ≡ true → (h == 3) ≡ true → (n ≡ 3 → ⊥) → ⊥
two_numbers h n b one other apart = elim (eqb_tells h n) [
  | inl same ↦ elim (eqb_tells h 3) [ inl three ↦ apart (sym same.1 ∙ three.1) | inr no_three ↦ absurd (true≢false (sym other ∙ no_three.0)) ]
  | inr not_n ↦ absurd (true≢false (sym (first_of (h == n) b one) ∙ not_n.0))
]
