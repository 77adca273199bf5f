-- A connection hears a reply.
use Rattle.std.proofs.Common.{◌≡◌, ◌≢◌, ◌<◌, ℕ, Bool, true, false, List, [], ◌∷◌, ◌++◌, Option, None, Some, length, map, refl, sym, ◌∙◌, ap, subst, arith, eqb, eq-eqb}
use Rattle.std.proofs.lemmas.List.{append-nil, append_assoc, map-append}
use Rattle.std.proofs.lemmas.Option.{same_Some}
use Rattle.std.specs.List.{AllByRecursion}
use Rattle.std.proofs.lemmas.Bool.{eqb-true}
use Rattle.std.specs.Option.{option_eq}
use Rattle.std.specs.Prelude.{IfSome}
use Rattle.mely_net.specs.declared.asked.Asked.{Asked}
use Rattle.mely_net.specs.declared.asked.Asked.TheVariants.{At, Each, Here, Last}
use Rattle.mely_net.specs.declared.end.End.{End}
use Rattle.mely_net.specs.declared.end.End.TheVariants as ends
use Rattle.mely_net.specs.declared.several.Next.{Next}
use Rattle.mely_net.specs.declared.several.Next.TheVariants.{Asks, Whole}
use Rattle.mely_net.specs.Clients.{Says, after_leaving, ended_by}
use Rattle.mely_net.specs.Exchanges.{Exchange}
use Rattle.mely_net.specs.Lines.{IsAll, IsLast, IsLine, IsWhose, Line, exchanges_by, exchanges_in, exchanges_of, shown_of, shown_to_fault}
use Rattle.mely_net.specs.Nexts.{IsNext}
use Rattle.mely_net.specs.Rules.{Rules}
use Rattle.mely_net.specs.Several.{SeveralState}
use Rattle.mely_net.specs.Talks.{ClientView, Hears, IsAnswered, IsAsked, IsKnown, IsOf, IsTalk, IsTold, Request, asked_by, done_by, frame_of, parts_of, replies_of, requests_of, several_of}
use Rattle.mely_net.specs.Turning.{Answers, AnswersBy, TurnsTo}
use Rattle.mely_net.proofs.FrameLemmas.{all_push, exchanges_push, last_push, same_state}
use Rattle.mely_net.proofs.AnswerLemmas.{line_carried}
use Rattle.mely_net.proofs.TalkLemmas.{not_both}

-- a number that is there
pub there_so : (o : Option ℕ) (n : ℕ) → option_eq eqb o (Some n) ≡ true → o ≡ Some n
there_so None n is = absurd (let never : ⊥ = cc is in never)
there_so (Some m) n is = ap Some (eqb-true m n is)

pub apart_so : (o : Option ℕ) (n : ℕ) → option_eq eqb o (Some n) ≡ false → o ≢ Some n
apart_so o n is same = let there = eq-eqb n n refl in let here = ap (λ q. option_eq eqb q (Some n)) same in cc (there, here, is)

-- the cell that is known to be asked is that of the request under way
known_one : {Q P : Type 0} (astray : List (ℕ × P)) (under_way : Option (Request Q P)) (asked : Option ℕ) (several : Option (SeveralState Q P)) (cell : ℕ) → IsKnown astray under_way asked several → asked ≡ Some cell
    → (astray ≡ []) × ((one : Request Q P) × (under_way ≡ Some one) × (one.cell ≡ cell) × (several ≡ several_of one.asked one))
known_one [] None asked several cell known is = absurd (let none = known.0 in let never : ⊥ = cc (none, is) in never)
known_one [] (Some one) asked several cell known is = (refl, (one, refl, let there = known.0 in let same : one.cell ≡ cell = cc (there, is) in same, known.1))
known_one (reply ∷ astray) under_way asked several cell known is = absurd (let none = known.0 in let never : ⊥ = cc (none, is) in never)

not_last_so : {Q P : Type 0} (last : Bool) (under_way : Option (Request Q P)) (one : Request Q P) → (last ≡ true → under_way ≡ None) → under_way ≡ Some one → last ≡ false
not_last_so true under_way one idle is = absurd (let none = idle refl in let never : ⊥ = cc (none, is) in never)
not_last_so false under_way one idle is = refl

-- a reply to another cell's request
known_apart : {Q P : Type 0} (astray : List (ℕ × P)) (under_way : Option (Request Q P)) (asked : Option ℕ) (several : Option (SeveralState Q P)) (reply : ℕ × P) → asked ≢ Some reply.0 → IsKnown astray under_way asked several → IsKnown (astray ++ reply ∷ []) under_way None several
known_apart [] None asked several reply apart known = (refl, tt)
known_apart [] (Some one) asked several reply apart known = (refl, λ same. apart (known.0 ∙ ap Some same))
known_apart (first ∷ astray) under_way asked several reply apart known = (refl, known.1)

-- exchanges are their requests with their replies
exchanges_whole : {Q P : Type 0} (exchanges : List (Exchange Q P)) → exchanges_by (requests_of exchanges) (parts_of exchanges) ≡ exchanges
exchanges_whole [] = refl
exchanges_whole (one ∷ exchanges) = ap (λ l. one ∷ l) (exchanges_whole exchanges)

as_long : {Q P : Type 0} (exchanges : List (Exchange Q P)) → length (parts_of exchanges) ≡ length (requests_of exchanges)
as_long [] = refl
as_long (one ∷ exchanges) = let rest = as_long exchanges in omega (arith, rest)

all_last : {X : Type 0} (P : X → Type 0) (xs ys : List X) → AllByRecursion P (xs ++ ys) → AllByRecursion P ys
all_last P [] ys all = all
all_last P (x ∷ xs) ys all = all_last P xs ys all.1

pushed_some : {X : Type 0} (xs : List X) (x : X) → xs ++ x ∷ [] ≢ []
pushed_some [] x is = cc is
pushed_some (y ∷ xs) x is = cc is

pub ended_some : (end : End) (old : Option End) → ended_by end old ≡ None → ⊥
ended_some end None is = cc is
ended_some end (Some old) is = cc is

astray_done : (end : Option End) → ended_by ends.Astray end ≡ Some ends.Done → end ≡ Some ends.Done
astray_done None is = absurd (let never : ⊥ = cc is in never)
astray_done (Some end) is = is

astray_left : (end : Option End) → ended_by ends.Astray end ≡ Some ends.Left → end ≡ Some ends.Left
astray_left None is = absurd (let never : ⊥ = cc is in never)
astray_left (Some end) is = is

module _ {Q P C : Type 0} (rules : Rules Q P C) where
  waiting_all : (end : Option End) (one : Request Q P) (rest unwritten : List ℕ) → IsAnswered end (Some one) → IsAll rules end rest unwritten
  waiting_all None one rest unwritten answered = tt
  waiting_all (Some ends.Left) one rest unwritten answered = absurd (let never : ⊥ = cc answered in never)
  waiting_all (Some ends.Done) one rest unwritten answered = absurd (let never : ⊥ = cc answered in never)
  waiting_all (Some ends.Fault) one rest unwritten answered = tt
  waiting_all (Some ends.Memory) one rest unwritten answered = tt
  waiting_all (Some ends.Astray) one rest unwritten answered = tt

  waiting_answered : (end : Option End) (one other : Request Q P) → IsAnswered end (Some one) → IsAnswered end (Some other)
  waiting_answered None one other answered = tt
  waiting_answered (Some ends.Left) one other answered = absurd (let never : ⊥ = cc answered in never)
  waiting_answered (Some ends.Done) one other answered = absurd (let never : ⊥ = cc answered in never)
  waiting_answered (Some ends.Fault) one other answered = tt
  waiting_answered (Some ends.Memory) one other answered = tt
  waiting_answered (Some ends.Astray) one other answered = tt

  astray_all : (end : Option End) (rest unwritten : List ℕ) → IsAll rules end rest unwritten → IsAll rules (ended_by ends.Astray end) rest unwritten
  astray_all None rest unwritten all = tt
  astray_all (Some end) rest unwritten all = all

  astray_answered : (end : Option End) (under_way : Option (Request Q P)) → IsAnswered end under_way → IsAnswered (ended_by ends.Astray end) under_way
  astray_answered None under_way answered = tt
  astray_answered (Some end) under_way answered = answered

  -- the reply that it waits for
  module _ (client after : ClientView Q P) (cell : ℕ) (reply : P) (asks : List (ℕ × Q)) (replies : List (ℕ × P)) (talk : IsTalk rules asks replies client) (none : talk.astray ≡ []) (one : Request Q P) (there : talk.under_way ≡ Some one) (same : one.cell ≡ cell) where
    abbrev heard : Exchange Q P
    heard = record { peer = one.cell; request = one.request; reply = reply }

    abbrev all_heard : List (Exchange Q P)
    all_heard = one.done ++ heard ∷ []

    was_asked : asks ≡ requests_of (exchanges_in talk.lines ++ all_heard)
    was_asked =
        talk.spoken.asked ∙ ap (λ u. requests_of (exchanges_in talk.lines ++ done_by u) ++ asked_by u) there
        ∙ sym (map-append (λ (e : Exchange Q P). (e.peer, e.request)) (exchanges_in talk.lines ++ one.done) (record { peer = one.cell; request = one.request; reply = reply } ∷ []))
        ∙ ap requests_of (append_assoc (exchanges_in talk.lines) one.done (record { peer = one.cell; request = one.request; reply = reply } ∷ []))

    was_replied : replies ++ (cell, reply) ∷ [] ≡ replies_of (exchanges_in talk.lines ++ all_heard)
    was_replied =
        ap (λ l. l ++ (cell, reply) ∷ []) (talk.spoken.replied ∙ ap (λ u. replies_of (exchanges_in talk.lines ++ done_by u) ++ talk.astray) there ∙ ap (λ a. replies_of (exchanges_in talk.lines ++ one.done) ++ a) none ∙ append-nil (replies_of (exchanges_in talk.lines ++ one.done)))
        ∙ ap (λ n. replies_of (exchanges_in talk.lines ++ one.done) ++ (n, reply) ∷ []) (sym same)
        ∙ sym (map-append (λ (e : Exchange Q P). (e.peer, e.reply)) (exchanges_in talk.lines ++ one.done) (record { peer = one.cell; request = one.request; reply = reply } ∷ []))
        ∙ ap replies_of (append_assoc (exchanges_in talk.lines) one.done (record { peer = one.cell; request = one.request; reply = reply } ∷ []))

    is_asked : IsAsked rules one
    is_asked = subst (λ u. IfSome u (IsAsked rules)) there talk.spoken.is_asked

    goes_on : client.is_last ≡ false
    goes_on = not_last_so client.is_last talk.under_way one talk.kept.idle there

    has_come : client.has_come ≡ false → ⊥
    has_come e = let no_request = (talk.kept.fresh e).no_request in cc (no_request, there)

    -- it is the last one of a line
    hears_line : (line : Line Q P) → line.frame ≡ one.frame → IsLine rules line → exchanges_of line.asked line.parts line.reply ≡ all_heard → (IsLast line.asked → ⊥)
        → Says (rules.shown line.reply line.parts) (record client { asked = None; several = None }) after → IsTalk rules asks (replies ++ (cell, reply) ∷ []) after
    hears_line line frame_is is_line exchanges not_last says =
        let on = talk.kept.goes_on goes_on in
        let lines_are : exchanges_in (talk.lines ++ line ∷ []) ≡ exchanges_in talk.lines ++ all_heard = exchanges_push talk.lines line ∙ ap (λ l. exchanges_in talk.lines ++ l) exchanges in
        record {
          lines = talk.lines ++ line ∷ [];
          under_way = None;
          refused = None;
          astray = [];
          rest = talk.rest;
          unwritten = talk.unwritten ++ rules.shown line.reply line.parts;
          spoken = record {
            asked = was_asked ∙ ap requests_of (sym (append-nil (exchanges_in (talk.lines ++ line ∷ [])) ∙ lines_are)) ∙ sym (append-nil (requests_of (exchanges_in (talk.lines ++ line ∷ []) ++ [])));
            replied = was_replied ∙ ap replies_of (sym (append-nil (exchanges_in (talk.lines ++ line ∷ [])) ∙ lines_are)) ∙ sym (append-nil (replies_of (exchanges_in (talk.lines ++ line ∷ []) ++ [])));
            lines_are = all_push (IsLine rules) talk.lines line talk.spoken.lines_are is_line;
            end_at_last = last_push talk.lines line on.not_last;
            is_asked = tt;
          };
          kept = record {
            known = (says.same.asked, says.same.several);
            none_astray = λ e. refl;
            strays = λ e. absurd (talk.kept.strays (says.same.strays e) none);
            goes_on = λ e. record { not_last = all_push (λ (l : Line Q P). IsLast l.asked → ⊥) talk.lines line on.not_last not_last; no_fault = refl };
            idle = λ e. refl;
            over = λ e. not_both client.is_last (sym says.same.is_last ∙ e) goes_on;
            done = λ e. not_both client.is_last (talk.kept.done (says.same.done e)) goes_on;
            fresh = λ e. absurd (has_come (sym says.same.has_come ∙ e));
            empty = λ e _. absurd (has_come (sym says.same.has_come ∙ e));
          };
          carried = line_carried rules talk.lines line talk.rest talk.unwritten (record client { asked = None; several = None }) after says
              (subst (λ f. IfSome client.told (IsTold rules (map (λ l. l.frame) talk.lines ++ f ∷ []) talk.rest (shown_of rules talk.lines) talk.unwritten)) (sym frame_is) (told_of talk.lines talk.under_way talk.refused talk.rest talk.unwritten there on.no_fault talk.carried.told)) talk.carried.inbox_is talk.carried.outbox_is
              (waiting_all client.end one talk.rest (talk.unwritten ++ rules.shown line.reply line.parts) waits)
              (λ left. let no_one = subst (λ e. IsAnswered e (Some one)) left waits in cc no_one);
        }
      where
        waits : IsAnswered client.end (Some one)
        waits = subst (λ u. IsAnswered client.end u) there talk.carried.answered

        told_of : (lines : List (Line Q P)) (under_way : Option (Request Q P)) (refused : Option P) (rest unwritten : List ℕ) → under_way ≡ Some one → refused ≡ None
            → IfSome client.told (IsTold rules (map (λ l. l.frame) lines ++ frame_of under_way) rest (shown_of rules lines ++ shown_to_fault rules refused) unwritten)
            → IfSome client.told (IsTold rules (map (λ l. l.frame) lines ++ one.frame ∷ []) rest (shown_of rules lines) unwritten)
        told_of lines under_way refused rest unwritten is no_fault told =
            subst (λ s. IfSome client.told (IsTold rules (map (λ l. l.frame) lines ++ one.frame ∷ []) rest s unwritten)) (ap (λ r. shown_of rules lines ++ shown_to_fault rules r) no_fault ∙ append-nil (shown_of rules lines))
            (subst (λ u. IfSome client.told (IsTold rules (map (λ l. l.frame) lines ++ frame_of u) rest (shown_of rules lines ++ shown_to_fault rules refused) unwritten)) is told)

    -- the request asked no other cell
    hears_one : client.several ≡ None → client.several ≡ several_of one.asked one → Says (rules.shown reply []) (record client { asked = None; several = None }) after → IsTalk rules asks (replies ++ (cell, reply) ∷ []) after
    hears_one alone known says = for one.asked refl is_asked.is_of (sym known ∙ alone) where
      for : (asked : Asked Q P) → one.asked ≡ asked → IsOf asked one → several_of asked one ≡ None → IsTalk rules asks (replies ++ (cell, reply) ∷ []) after
      for (At to request) is of nothing =
          hears_line (record { frame = one.frame; asked = At to request; parts = []; reply = reply }) refl (record { asks = subst (rules.Asks one.frame) is is_asked.asks; replies = refl })
          (ap (λ (n : ℕ). (record { peer = n; request = request; reply = reply }) ∷ []) (sym of.1) ∙ ap (λ (q : Q). (record { peer = one.cell; request = q; reply = reply }) ∷ []) (sym of.2) ∙ ap (λ (l : List (Exchange Q P)). l ++ record { peer = one.cell; request = one.request; reply = reply } ∷ []) (sym of.0)) (λ never. never) says
      for (Each all own) is of nothing = absurd (let never : ⊥ = cc nothing in never)
      for (Here own) is of nothing = absurd of
      for (Last own) is of nothing = absurd of

    -- the next cell is asked
    hears_next : (all : _) (own : P) → one.asked ≡ Each all own → (next : ℕ) (request : Q) (left : List (ℕ × Q)) (several : SeveralState Q P) → one.left ≡ (next, request) ∷ left → several ≡ record { left = left; parts = parts_of all_heard; reply = own }
        → after ≡ record client { asked = Some next; several = Some several } → IsTalk rules (asks ++ (next, request) ∷ []) (replies ++ (cell, reply) ∷ []) after
    hears_next all own is next request left several left_is several_is after_is = subst (IsTalk rules (asks ++ (next, request) ∷ []) (replies ++ (cell, reply) ∷ [])) (sym after_is) (record {
      lines = talk.lines;
      under_way = Some (record { frame = one.frame; asked = Each all own; done = all_heard; cell = next; request = request; left = left });
      refused = talk.refused;
      astray = [];
      rest = talk.rest;
      unwritten = talk.unwritten;
      spoken = record {
        asked = ap (λ l. l ++ (next, request) ∷ []) was_asked;
        replied = was_replied ∙ sym (append-nil (replies_of (exchanges_in talk.lines ++ all_heard)));
        lines_are = talk.spoken.lines_are;
        end_at_last = talk.spoken.end_at_last;
        is_asked = record {
          asks = subst (rules.Asks one.frame) is is_asked.asks;
          whose = subst (IsWhose rules.cells) is is_asked.whose;
          is_of = of_next;
        };
      };
      kept = record {
        known = (refl, ap Some several_is);
        none_astray = λ e. refl;
        strays = λ e. absurd (talk.kept.strays e none);
        goes_on = talk.kept.goes_on;
        idle = λ e. not_both client.is_last e goes_on;
        over = λ e. not_both client.is_last e goes_on;
        done = talk.kept.done;
        fresh = λ e. absurd (has_come e);
        empty = λ e _. absurd (has_come e);
      };
      carried = record {
        told = subst (λ f. IfSome client.told (IsTold rules (map (λ l. l.frame) talk.lines ++ f) talk.rest (shown_of rules talk.lines ++ shown_to_fault rules talk.refused) talk.unwritten)) (ap frame_of there) talk.carried.told;
        is_refused = talk.carried.is_refused;
        inbox_is = talk.carried.inbox_is;
        outbox_is = talk.carried.outbox_is;
        all = talk.carried.all;
        nothing_left = talk.carried.nothing_left;
        answered = waiting_answered client.end one (record { frame = one.frame; asked = Each all own; done = all_heard; cell = next; request = request; left = left }) (subst (λ u. IsAnswered client.end u) there talk.carried.answered);
      };
    })
      where
        of_next : requests_of all_heard ++ (next, request) ∷ left ≡ all.items
        of_next =
            ap (λ l. l ++ (next, request) ∷ left) (map-append (λ (e : Exchange Q P). (e.peer, e.request)) one.done (record { peer = one.cell; request = one.request; reply = reply } ∷ []))
            ∙ append_assoc (requests_of one.done) ((one.cell, one.request) ∷ []) ((next, request) ∷ left)
            ∙ ap (λ l. requests_of one.done ++ (one.cell, one.request) ∷ l) (sym left_is)
            ∙ subst (λ a. IsOf a one) is is_asked.is_of

    -- all cells have replied
    hears_whole : (all : _) (own : P) → one.asked ≡ Each all own → one.left ≡ [] → (parts : List P) → parts ≡ parts_of all_heard
        → Says (rules.shown own parts) (record client { asked = None; several = None }) after → IsTalk rules asks (replies ++ (cell, reply) ∷ []) after
    hears_whole all own is left_is parts parts_are says =
        let line : Line Q P = record { frame = one.frame; asked = Each all own; parts = parts; reply = own } in
        hears_line line refl (record { asks = subst (rules.Asks one.frame) is is_asked.asks; replies = (refl, ap length parts_are ∙ as_long all_heard ∙ ap length of_all) })
        (ap (λ a. exchanges_by a parts) (sym of_all) ∙ ap (exchanges_by (requests_of all_heard)) parts_are ∙ exchanges_whole all_heard) (λ never. never) says
      where
        of_all : requests_of all_heard ≡ all.items
        of_all =
            map-append (λ (e : Exchange Q P). (e.peer, e.request)) one.done (record { peer = one.cell; request = one.request; reply = reply } ∷ [])
            ∙ ap (λ l. requests_of one.done ++ (one.cell, one.request) ∷ l) (sym left_is)
            ∙ subst (λ a. IsOf a one) is is_asked.is_of

    -- a request of several cells
    hears_turn : (several : SeveralState Q P) (next : Next Q P) (new : List (ℕ × Q)) → client.several ≡ Some several → client.several ≡ several_of one.asked one
        → IsNext several.left (several.parts ++ reply ∷ []) several.reply next → TurnsTo rules next new (record client { asked = None; several = None }) after → IsTalk rules (asks ++ new) (replies ++ (cell, reply) ∷ []) after
    hears_turn several next new is known nexts turns = for one.asked refl next (sym known ∙ is) nexts turns where
      parts_more : (parts : List P) → parts ≡ parts_of one.done ++ reply ∷ [] → parts ≡ parts_of all_heard
      parts_more parts are = are ∙ sym (map-append (λ (e : Exchange Q P). e.reply) one.done (record { peer = one.cell; request = one.request; reply = reply } ∷ []))

      within : (all : _) (own : P) → one.asked ≡ Each all own → (to : ℕ) (request : Q) (left : List (ℕ × Q)) → one.left ≡ (to, request) ∷ left → to < rules.cells
      within all own of to request left left_is =
          let whose = subst (IsWhose rules.cells) of is_asked.whose in
          let split : requests_of one.done ++ (one.cell, one.request) ∷ (to, request) ∷ left ≡ all.items = ap (λ l. requests_of one.done ++ (one.cell, one.request) ∷ l) (sym left_is) ∙ subst (λ a. IsOf a one) of is_asked.is_of in
          (all_last (λ (ask : ℕ × Q). ask.0 < rules.cells) (requests_of one.done) ((one.cell, one.request) ∷ (to, request) ∷ left) (subst (AllByRecursion (λ (ask : ℕ × Q). ask.0 < rules.cells)) (sym split) whose)).1.0

      for : (asked : Asked Q P) → one.asked ≡ asked → (next : Next Q P) → several_of asked one ≡ Some several → IsNext several.left (several.parts ++ reply ∷ []) several.reply next → TurnsTo rules next new (record client { asked = None; several = None }) after → IsTalk rules (asks ++ new) (replies ++ (cell, reply) ∷ []) after
      for (At to request) of next there nexts turns = absurd (let never : ⊥ = cc there in never)
      for (Here own) of next there nexts turns = absurd (let never : ⊥ = cc there in never)
      for (Last own) of next there nexts turns = absurd (let never : ⊥ = cc there in never)
      for (Each all own) of (Asks to request rest) there nexts turns =
          let state : several ≡ record { left = one.left; parts = parts_of one.done; reply = own } = same_Some several _ (sym there) in
          let left_is : one.left ≡ (to, request) ∷ rest.left = sym (ap (λ (s : SeveralState Q P). s.left) state) ∙ nexts.0 in
          let parts_are : rest.parts ≡ parts_of one.done ++ reply ∷ [] = nexts.1 ∙ ap (λ (s : SeveralState Q P). s.parts ++ reply ∷ []) state in
          let reply_is : rest.reply ≡ own = nexts.2 ∙ ap (λ (s : SeveralState Q P). s.reply) state in
          let turn = turns (within all own of to request rest.left left_is) in
          subst (λ n. IsTalk rules (asks ++ n) (replies ++ (cell, reply) ∷ []) after) (sym turn.1)
          (hears_next all own of to request rest.left rest left_is (same_state rest rest.left (parts_of all_heard) own refl (parts_more rest.parts parts_are) reply_is) turn.0)
      for (Each all own) of (Whole said parts) there nexts turns =
          let state : several ≡ record { left = one.left; parts = parts_of one.done; reply = own } = same_Some several _ (sym there) in
          let left_is : one.left ≡ [] = sym (ap (λ (s : SeveralState Q P). s.left) state) ∙ nexts.0 in
          let reply_is : said ≡ own = nexts.1 ∙ ap (λ (s : SeveralState Q P). s.reply) state in
          let parts_are : parts.items ≡ parts_of one.done ++ reply ∷ [] = nexts.2 ∙ ap (λ (s : SeveralState Q P). s.parts ++ reply ∷ []) state in
          subst (λ n. IsTalk rules n (replies ++ (cell, reply) ∷ []) after) (sym (ap (λ n. asks ++ n) turns.1 ∙ append-nil asks))
          (hears_whole all own of left_is parts.items (parts_more parts.items parts_are) (subst (λ p. Says (rules.shown p parts.items) (record client { asked = None; several = None }) after) reply_is turns.0))

  -- so it is where it asked a cell that has replied
  pub hears_reply : (client after : ClientView Q P) (cell : ℕ) (reply : P) (new : List (ℕ × Q)) → client.asked ≡ Some cell → Answers rules reply new (record client { asked = None }) after → Hears rules (cell, reply) new client after
  hears_reply client after cell reply new is answers = λ asks replies talk.
      let known = known_one talk.astray talk.under_way client.asked client.several cell talk.kept.known is in
      for asks replies talk known.0 known.1.0 known.1.1 known.1.2 known.1.3 client.several refl answers
    where
      for : (asks : List (ℕ × Q)) (replies : List (ℕ × P)) (talk : IsTalk rules asks replies client) → talk.astray ≡ [] → (one : Request Q P) → talk.under_way ≡ Some one → one.cell ≡ cell → client.several ≡ several_of one.asked one
          → (several : Option (SeveralState Q P)) → client.several ≡ several → AnswersBy rules several reply new (record client { asked = None }) after → IsTalk rules (asks ++ new) (replies ++ (cell, reply) ∷ []) after
      for asks replies talk none one there same known None alone answers =
          subst (λ n. IsTalk rules n (replies ++ (cell, reply) ∷ []) after) (sym (ap (λ n. asks ++ n) answers.1 ∙ append-nil asks))
          (hears_one client after cell reply asks replies talk none one there same alone known (subst (λ s. Says (rules.shown reply []) (record client { asked = None; several = s }) after) alone answers.0))
      for asks replies talk none one there same known (Some several) some answers = hears_turn client after cell reply asks replies talk none one there same several answers.0 new some known answers.1 answers.2

  -- one that it doesn't wait for
  pub hears_astray : (client : ClientView Q P) (cell : ℕ) (reply : P) → client.asked ≢ Some cell → Hears rules (cell, reply) [] client (after_leaving ends.Astray (record client { asked = None }))
  hears_astray client cell reply apart = λ asks replies talk. subst (λ l. IsTalk rules l (replies ++ (cell, reply) ∷ []) (after_leaving ends.Astray (record client { asked = None }))) (sym (append-nil asks)) (record {
    lines = talk.lines;
    under_way = talk.under_way;
    refused = talk.refused;
    astray = talk.astray ++ (cell, reply) ∷ [];
    rest = talk.rest;
    unwritten = talk.unwritten;
    spoken = record {
      asked = talk.spoken.asked;
      replied = ap (λ l. l ++ (cell, reply) ∷ []) talk.spoken.replied ∙ append_assoc (replies_of (exchanges_in talk.lines ++ done_by talk.under_way)) talk.astray ((cell, reply) ∷ []);
      lines_are = talk.spoken.lines_are;
      end_at_last = talk.spoken.end_at_last;
      is_asked = talk.spoken.is_asked;
    };
    kept = record {
      known = known_apart talk.astray talk.under_way client.asked client.several (cell, reply) apart talk.kept.known;
      none_astray = λ e. absurd (ended_some ends.Astray client.end e);
      strays = λ _. pushed_some talk.astray (cell, reply);
      goes_on = talk.kept.goes_on;
      idle = talk.kept.idle;
      over = talk.kept.over;
      done = λ e. talk.kept.done (astray_done client.end e);
      fresh = talk.kept.fresh;
      empty = λ _ e. absurd (ended_some ends.Astray client.end e);
    };
    carried = record {
      told = talk.carried.told;
      is_refused = talk.carried.is_refused;
      inbox_is = λ e. absurd (ended_some ends.Astray client.end e);
      outbox_is = λ e. absurd (ended_some ends.Astray client.end e);
      all = astray_all client.end talk.rest talk.unwritten talk.carried.all;
      nothing_left = λ e. talk.carried.nothing_left (astray_left client.end e);
      answered = astray_answered client.end talk.under_way talk.carried.answered;
    };
  })
