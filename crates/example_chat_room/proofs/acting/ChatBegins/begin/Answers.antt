use Rattle.std.proofs.Common.{[], refl, sym, ap, subst, arith}
use Rattle.example_chat_room.specs.Talks.{IsTalk}
use Rattle.example_chat_room.proofs.TalkLemmas.{talk_begun}
use Rattle.example_chat_room.proofs.acting.ChatBegins.begin.Goals as goal

pub returns : goal.returns
returns g c = record {
  signed = tt;
  is = record {
    own = omega arith;
    passed = λ _. refl;
    is = record {
      come = ap (λ v. v.has_come) c.new-2.ensures;
      seen = [];
      missed = [];
      heard = refl;
      none_missed = λ _. refl;
      input = [];
      is_input = λ e. absurd (let no : ⊥ = cc (e, ap (λ v. v.has_come) c.new-2.ensures) in no);
      talk = subst (IsTalk [] [] []) (sym c.new-2.ensures) talk_begun;
    };
  };
}
