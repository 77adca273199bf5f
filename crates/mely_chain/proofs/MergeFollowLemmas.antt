-- Runs that follow one another, one part of them behind the other.
use Rattle.std.proofs.Common.{List, [], ◌∷◌, ◌++◌, Option, map, ◌∙◌, ap, subst}
use Rattle.std.proofs.lemmas.List.{map-append}
use Rattle.mely_event.specs.declared.event.Event.{Event}
use Rattle.mely_tally.specs.Account.{HandlerRun}
use Rattle.mely_chain.specs.Runs.{RunThrough, Follow, given_to}

module _ {S P : Type 0} where
  pub follow-append : (from mid to : S) (xs ys : List (HandlerRun S P)) → Follow from xs mid → Follow mid ys to → Follow from (xs ++ ys) to
  follow-append from mid to [] ys first second = subst (λ s. Follow s ys to) first second
  follow-append from mid to (run ∷ xs) ys first second = (first.0, follow-append run.becomes mid to xs ys first.1 second)

  pub through-append : (from mid to : S) (es fs : List (Event × Option P)) (xs ys : List (HandlerRun S P)) → RunThrough from es mid xs → RunThrough mid fs to ys → RunThrough from (es ++ fs) to (xs ++ ys)
  through-append from mid to es fs xs ys first second = record {
    given = map-append given_to xs ys ∙ ap (λ l. l ++ map given_to ys) first.given ∙ ap (λ l. es ++ l) second.given;
    follow = follow-append from mid to xs ys first.follow second.follow;
  }
