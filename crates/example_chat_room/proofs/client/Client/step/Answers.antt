use Rattle.std.proofs.Common.{◌≡◌, ◌∷◌, ◌++◌, subst}
use Rattle.std.specs.Prelude.{MatchOption}
use Rattle.example_chat_room.specs.Clients.{shown_client}
use Rattle.example_chat_room.proofs.TalkLemmas.{talk_said}
use Rattle.example_chat_room.proofs.client.Client.step.Goals as goal

pub returns-in-Some-clause-goes : goal.returns-in-Some-clause-goes
returns-in-Some-clause-goes g c =
    let view = shown_client {l = g.L.Link} c.args.self.now in
    let after = c.take_line.new.self.bytes.items in
    let taken = subst (λ o. MatchOption o (after ≡ view.inbox) (λ line. view.inbox ≡ line.items ++ 10 ∷ after)) c.in-Some.is c.in-Ok.ensures.taken in
    λ input said shown talk. talk_said view input said shown talk c.in-Some.text.items after c.requires.come c.requires.goes_on taken
