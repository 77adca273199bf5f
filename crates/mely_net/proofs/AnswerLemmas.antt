-- A connection that waits for nobody cuts a frame, and answers it or asks a cell; or it answers a
-- fault.
use Rattle.std.proofs.Common.{◌≡◌, ◌<◌, ℕ, Vec, Bool, true, false, List, [], ◌∷◌, ◌++◌, Option, None, Some, length, map, refl, sym, ◌∙◌, ap, subst, inl, inr}
use Rattle.std.proofs.lemmas.List.{append-nil, append_assoc}
use Rattle.std.specs.List.{AllByRecursion}
use Rattle.std.specs.Prelude.{IfSome}
use Rattle.sws_link.specs.Links.{LinkContents}
use Rattle.std.specs.Global.{Global}
use Rattle.mely_net.specs.declared.asked.Asked.{Asked}
use Rattle.mely_net.specs.declared.asked.Asked.TheVariants.{Each}
use Rattle.mely_net.specs.declared.several.Next.{Next}
use Rattle.mely_net.specs.declared.several.Next.TheVariants.{Asks, Whole}
use Rattle.mely_net.specs.declared.cut.Cut.TheVariants as cut
use Rattle.mely_net.specs.declared.end.End.{End}
use Rattle.mely_net.specs.declared.end.End.TheVariants as ends
use Rattle.mely_net.specs.Clients.{IsFailure, Says, ended_by}
use Rattle.mely_net.specs.Cutting.{cut_within}
use Rattle.mely_net.specs.Lines.{IsAll, IsLast, IsLine, IsReply, IsWhose, Line, exchanges_by, exchanges_in, exchanges_of, shown_of, shown_to_fault}
use Rattle.mely_net.specs.Nexts.{IsNext}
use Rattle.mely_net.specs.Rules.{Rules}
use Rattle.mely_net.specs.Several.{SeveralState}
use Rattle.mely_net.specs.Talks.{ClientView, IsAnswered, IsAsked, IsCarried, IsSpoken, IsTalk, IsTold, Request, frame_of, replies_of, requests_of, several_of}
use Rattle.mely_net.specs.Turning.{Begins, TurnsTo}
use Rattle.mely_net.proofs.FrameLemmas.{all_push, exchanges_push, frames_of_push, frames_push, has_last_push, last_push, same_state, shown_push}
use Rattle.mely_net.proofs.TalkLemmas.{failure_all, none_under_way, not_both}

-- nobody waits where no request is under way
pub answered_none : (Q P : Type 0) (end : Option End) → IsAnswered {Q = Q} {P = P} end None
answered_none Q P None = tt
answered_none Q P (Some ends.Left) = refl
answered_none Q P (Some ends.Done) = refl
answered_none Q P (Some ends.Fault) = tt
answered_none Q P (Some ends.Memory) = tt
answered_none Q P (Some ends.Astray) = tt

says_not_left : {Q P : Type 0} (shown : List ℕ) (before after : ClientView Q P) → Says shown before after → (before.end ≡ Some ends.Left → ⊥) → after.end ≡ Some ends.Left → ⊥
says_not_left shown before after says stays left = elim says.end [
  | inl same ↦ stays (sym same ∙ left)
  | inr fails ↦ subst IsFailure left fails.1
]

module _ {Q P C : Type 0} (rules : Rules Q P C) where
  -- a connection that waits for nobody and cuts frames
  pub record IsIdle (asks : List (ℕ × Q)) (replies : List (ℕ × P)) (client : ClientView Q P) : Type 0 where
    pub lines : List (Line Q P)
    pub spoken : IsSpoken rules asks replies lines None []
    pub alone : client.several ≡ None
    pub none_last : AllByRecursion (λ line. IsLast line.asked → ⊥) lines
    pub told : IfSome client.told (IsTold rules (map (λ line. line.frame) lines) client.inbox (shown_of rules lines) client.outbox)

  pub idle_of : (asks : List (ℕ × Q)) (replies : List (ℕ × P)) (client : ClientView Q P) → client.end ≡ None → client.asked ≡ None → client.is_last ≡ false → IsTalk rules asks replies client → IsIdle asks replies client
  idle_of asks replies client goes idle not_last talk =
      let none_astray = talk.kept.none_astray goes in
      let both = none_under_way talk.astray talk.under_way client.asked client.several none_astray talk.kept.known idle in
      let none = both.0 in
      let on = talk.kept.goes_on not_last in
      record {
        lines = talk.lines;
        spoken = subst (λ u. IsSpoken rules asks replies talk.lines u []) none (subst (λ a. IsSpoken rules asks replies talk.lines talk.under_way a) none_astray talk.spoken);
        alone = both.1;
        none_last = on.not_last;
        told = told_of talk.lines talk.under_way talk.refused talk.rest talk.unwritten none on.no_fault (talk.carried.inbox_is goes) (talk.carried.outbox_is goes) talk.carried.told;
      }
    where
      told_of : (lines : List (Line Q P)) (under_way : Option (Request Q P)) (refused : Option P) (rest unwritten : List ℕ) → under_way ≡ None → refused ≡ None → rest ≡ client.inbox → unwritten ≡ client.outbox
          → IfSome client.told (IsTold rules (map (λ line. line.frame) lines ++ frame_of under_way) rest (shown_of rules lines ++ shown_to_fault rules refused) unwritten)
          → IfSome client.told (IsTold rules (map (λ line. line.frame) lines) client.inbox (shown_of rules lines) client.outbox)
      told_of lines under_way refused rest unwritten none no_fault inbox outbox told =
          subst (λ f. IfSome client.told (IsTold rules f client.inbox (shown_of rules lines) client.outbox)) (ap (λ u. map (λ (line : Line Q P). line.frame) lines ++ frame_of u) none ∙ append-nil (map (λ (line : Line Q P). line.frame) lines))
          (subst (λ s. IfSome client.told (IsTold rules (map (λ line. line.frame) lines ++ frame_of under_way) client.inbox s client.outbox)) (ap (λ r. shown_of rules lines ++ shown_to_fault rules r) no_fault ∙ append-nil (shown_of rules lines))
          (subst (λ u. IfSome client.told (IsTold rules (map (λ line. line.frame) lines ++ frame_of under_way) client.inbox (shown_of rules lines ++ shown_to_fault rules refused) u)) outbox
          (subst (λ r. IfSome client.told (IsTold rules (map (λ line. line.frame) lines ++ frame_of under_way) r (shown_of rules lines ++ shown_to_fault rules refused) unwritten)) inbox told)))

  -- a frame is cut off what has come
  told_cut : (told : Option LinkContents) (frames : List (List ℕ)) (inbox frame behind shown unwritten : List ℕ) → inbox ≡ frame ++ behind → cut_within rules.cut rules.longest inbox ≡ cut.Frame (length frame) → IfSome told (IsTold rules frames inbox shown unwritten) → IfSome told (IsTold rules (frames ++ frame ∷ []) behind shown unwritten)
  told_cut None frames inbox frame behind shown unwritten parts is so = tt
  told_cut (Some told) frames inbox frame behind shown unwritten parts is so = record {
    framed = frames_push rules.cut rules.longest told.taken frames inbox frame behind so.framed parts is;
    written = so.written;
  }

  -- and more is shown
  pub told_shown : (told : Option LinkContents) (frames : List (List ℕ)) (rest shown unwritten more : List ℕ) → IfSome told (IsTold rules frames rest shown unwritten) → IfSome told (IsTold rules frames rest (shown ++ more) (unwritten ++ more))
  told_shown None frames rest shown unwritten more so = tt
  told_shown (Some told) frames rest shown unwritten more so = record {
    framed = so.framed;
    written = sym (append_assoc told.written unwritten more) ∙ ap (λ l. l ++ more) so.written;
  }

  -- it is all, or the connection has failed
  pub says_all : (shown rest unwritten : List ℕ) (before after : ClientView Q P) → Says shown before after → IsAll rules before.end rest unwritten → IsAll rules after.end rest unwritten
  says_all shown rest unwritten before after says all = elim says.end [
    | inl same ↦ subst (λ e. IsAll rules e rest unwritten) (sym same) all
    | inr fails ↦ failure_all rules after.end rest unwritten fails.1
  ]

  -- a further line is carried
  pub line_carried : (lines : List (Line Q P)) (line : Line Q P) (rest unwritten : List ℕ) (before after : ClientView Q P) → Says (rules.shown line.reply line.parts) before after
      → IfSome before.told (IsTold rules (map (λ one. one.frame) lines ++ line.frame ∷ []) rest (shown_of rules lines) unwritten)
      → (before.end ≡ None → rest ≡ before.inbox) → (before.end ≡ None → unwritten ≡ before.outbox) → IsAll rules before.end rest (unwritten ++ rules.shown line.reply line.parts) → (before.end ≡ Some ends.Left → ⊥)
      → IsCarried rules (lines ++ line ∷ []) None None rest (unwritten ++ rules.shown line.reply line.parts) after
  line_carried lines line rest unwritten before after says told inbox outbox all stays =
      let shown = told_shown before.told _ rest _ unwritten (rules.shown line.reply line.parts) told in
      let frames_are = sym (append-nil (map (λ (one : Line Q P). one.frame) (lines ++ line ∷ [])) ∙ frames_of_push lines line) in
      let shown_is = sym (append-nil (shown_of rules (lines ++ line ∷ [])) ∙ shown_push lines line rules) in
      record {
        told = subst (λ t. IfSome t (IsTold rules (map (λ one. one.frame) (lines ++ line ∷ []) ++ []) rest (shown_of rules (lines ++ line ∷ []) ++ []) (unwritten ++ rules.shown line.reply line.parts))) (sym says.told)
            (subst (λ s. IfSome before.told (IsTold rules (map (λ one. one.frame) (lines ++ line ∷ []) ++ []) rest s (unwritten ++ rules.shown line.reply line.parts))) shown_is
            (subst (λ f. IfSome before.told (IsTold rules f rest (shown_of rules lines ++ rules.shown line.reply line.parts) (unwritten ++ rules.shown line.reply line.parts))) frames_are shown));
        is_refused = tt;
        inbox_is = λ e. inbox (says.same.goes_on e) ∙ sym says.inbox;
        outbox_is = λ e. ap (λ l. l ++ rules.shown line.reply line.parts) (outbox (says.same.goes_on e)) ∙ sym (says.outbox e);
        all = says_all (rules.shown line.reply line.parts) rest (unwritten ++ rules.shown line.reply line.parts) before after says all;
        nothing_left = λ e. absurd (says_not_left (rules.shown line.reply line.parts) before after says stays e);
        answered = answered_none Q P after.end;
      }

  -- a cell is asked, the first or the only one
  pub asks_cell : (asks : List (ℕ × Q)) (replies : List (ℕ × P)) (client : ClientView Q P) (frame behind : List ℕ) (asked : Asked Q P) (cell : ℕ) (request : Q) (left : List (ℕ × Q)) (several : Option (SeveralState Q P)) → client.has_come ≡ true → client.end ≡ None → client.is_last ≡ false
      → client.inbox ≡ frame ++ behind → cut_within rules.cut rules.longest client.inbox ≡ cut.Frame (length frame)
      → IsAsked rules (record { frame = frame; asked = asked; done = []; cell = cell; request = request; left = left }) → several ≡ several_of asked (record { frame = frame; asked = asked; done = []; cell = cell; request = request; left = left })
      → IsIdle asks replies client → IsTalk rules (asks ++ (cell, request) ∷ []) replies (record client { inbox = behind; asked = Some cell; several = several })
  asks_cell asks replies client frame behind asked cell request left several come goes not_last parts is is_asked known idle = record {
    lines = idle.lines;
    under_way = Some (record { frame = frame; asked = asked; done = []; cell = cell; request = request; left = left });
    refused = None;
    astray = [];
    rest = behind;
    unwritten = client.outbox;
    spoken = record {
      asked = ap (λ l. l ++ (cell, request) ∷ []) (idle.spoken.asked ∙ append-nil (requests_of (exchanges_in idle.lines ++ [])));
      replied = idle.spoken.replied;
      lines_are = idle.spoken.lines_are;
      end_at_last = idle.spoken.end_at_last;
      is_asked = is_asked;
    };
    kept = record {
      known = (refl, known);
      none_astray = λ e. refl;
      strays = λ e. absurd (let never : ⊥ = cc (goes, e) in never);
      goes_on = λ e. record { not_last = idle.none_last; no_fault = refl };
      idle = λ e. not_both client.is_last e not_last;
      over = λ e. not_both client.is_last e not_last;
      done = λ e. absurd (let never : ⊥ = cc (goes, e) in never);
      fresh = λ e. not_both client.has_come come e;
      empty = λ e _. not_both client.has_come come e;
    };
    carried = record {
      told = subst (λ s. IfSome client.told (IsTold rules (map (λ line. line.frame) idle.lines ++ frame ∷ []) behind s client.outbox)) (sym (append-nil (shown_of rules idle.lines))) (told_cut client.told (map (λ line. line.frame) idle.lines) client.inbox frame behind (shown_of rules idle.lines) client.outbox parts is idle.told);
      is_refused = tt;
      inbox_is = λ e. refl;
      outbox_is = λ e. refl;
      all = subst (λ e. IsAll rules e behind client.outbox) (sym goes) tt;
      nothing_left = λ e. absurd (let never : ⊥ = cc (goes, e) in never);
      answered = subst (λ e. IsAnswered {Q = Q} {P = P} e (Some (record { frame = frame; asked = asked; done = []; cell = cell; request = request; left = left }))) (sym goes) tt;
    };
  }

  -- the connection itself answers
  pub answers_here : (asks : List (ℕ × Q)) (replies : List (ℕ × P)) (client after : ClientView Q P) (frame behind : List ℕ) (asked : Asked Q P) (parts : List P) (reply : P) (last : Bool) → client.has_come ≡ true → client.end ≡ None → client.asked ≡ None
      → client.inbox ≡ frame ++ behind → cut_within rules.cut rules.longest client.inbox ≡ cut.Frame (length frame) → rules.Asks frame asked → IsReply asked parts reply → exchanges_of asked parts reply ≡ [] → (last ≡ false → IsLast asked → ⊥) → (last ≡ true → IsLast asked)
      → Says (rules.shown reply parts) (record client { inbox = behind; is_last = last }) after → IsIdle asks replies client → IsTalk rules asks replies after
  answers_here asks replies client after frame behind asked parts reply last come goes waits_not split is asks_it replies_it own not_last is_last says idle =
      let line : Line Q P = record { frame = frame; asked = asked; parts = parts; reply = reply } in
      let none : exchanges_in idle.lines ≡ exchanges_in (idle.lines ++ line ∷ []) = sym (exchanges_push idle.lines line ∙ ap (λ l. exchanges_in idle.lines ++ l) own ∙ append-nil (exchanges_in idle.lines)) in
      record {
        lines = idle.lines ++ line ∷ [];
        under_way = None;
        refused = None;
        astray = [];
        rest = behind;
        unwritten = client.outbox ++ rules.shown reply parts;
        spoken = record {
          asked = idle.spoken.asked ∙ ap (λ e. requests_of (e ++ []) ++ []) none;
          replied = idle.spoken.replied ∙ ap (λ e. replies_of (e ++ []) ++ []) none;
          lines_are = all_push (IsLine rules) idle.lines line idle.spoken.lines_are (record { asks = asks_it; replies = replies_it });
          end_at_last = last_push idle.lines line idle.none_last;
          is_asked = tt;
        };
        kept = record {
          known = (says.same.asked ∙ waits_not, says.same.several ∙ idle.alone);
          none_astray = λ e. refl;
          strays = λ e. absurd (let old = says.same.strays e in let never : ⊥ = cc (goes, old) in never);
          goes_on = λ e. record { not_last = all_push (λ (one : Line Q P). IsLast one.asked → ⊥) idle.lines line idle.none_last (not_last (sym says.same.is_last ∙ e)); no_fault = refl };
          idle = λ e. refl;
          over = λ e. inl (has_last_push idle.lines line (is_last (sym says.same.is_last ∙ e)));
          done = λ e. absurd (let old = says.same.done e in let never : ⊥ = cc (goes, old) in never);
          fresh = λ e. not_both client.has_come come (sym says.same.has_come ∙ e);
          empty = λ e _. not_both client.has_come come (sym says.same.has_come ∙ e);
        };
        carried = line_carried idle.lines line behind client.outbox (record client { inbox = behind; is_last = last }) after says
            (told_cut client.told (map (λ one. one.frame) idle.lines) client.inbox frame behind (shown_of rules idle.lines) client.outbox split is idle.told) (λ e. refl) (λ e. refl) (subst (λ e. IsAll rules e behind (client.outbox ++ rules.shown reply parts)) (sym goes) tt) (λ e. cc (goes, e));
      }

  -- memory was wanted once a frame was cut
  cut_fails : (asks : List (ℕ × Q)) (replies : List (ℕ × P)) (client after : ClientView Q P) (behind : List ℕ) → client.has_come ≡ true → client.end ≡ None → after ≡ record client { inbox = behind; end = Some ends.Memory } → IsTalk rules asks replies client → IsTalk rules asks replies after
  cut_fails asks replies client after behind come goes is talk = subst (IsTalk rules asks replies) (sym is) (record {
    lines = talk.lines;
    under_way = talk.under_way;
    refused = talk.refused;
    astray = talk.astray;
    rest = talk.rest;
    unwritten = talk.unwritten;
    spoken = talk.spoken;
    kept = record {
      known = talk.kept.known;
      none_astray = λ e. absurd (let never : ⊥ = cc e in never);
      strays = λ e. absurd (let never : ⊥ = cc e in never);
      goes_on = talk.kept.goes_on;
      idle = talk.kept.idle;
      over = talk.kept.over;
      done = λ e. absurd (let never : ⊥ = cc e in never);
      fresh = talk.kept.fresh;
      empty = λ e _. not_both client.has_come come e;
    };
    carried = record {
      told = talk.carried.told;
      is_refused = talk.carried.is_refused;
      inbox_is = λ e. absurd (let never : ⊥ = cc e in never);
      outbox_is = λ e. absurd (let never : ⊥ = cc e in never);
      all = tt;
      nothing_left = λ e. absurd (let never : ⊥ = cc e in never);
      answered = tt;
    };
  })

  -- several cells are asked, of which the first is; or there is none
  pub asks_each : (asks : List (ℕ × Q)) (replies : List (ℕ × P)) (client after : ClientView Q P) (frame behind : List ℕ) (all : Vec (ℕ × Q) Global) (reply : P) (new : List (ℕ × Q)) → client.has_come ≡ true → client.end ≡ None → client.asked ≡ None → client.is_last ≡ false
      → client.inbox ≡ frame ++ behind → cut_within rules.cut rules.longest client.inbox ≡ cut.Frame (length frame) → rules.Asks frame (Each all reply) → IsWhose rules.cells (Each all reply)
      → Begins rules all.items reply new (record client { inbox = behind }) after → IsTalk rules asks replies client → IsTalk rules (asks ++ new) replies after
  asks_each asks replies client after frame behind all reply new come goes idle not_last split is asks_it whose (inr (none, failed)) talk =
      subst (λ n. IsTalk rules n replies after) (sym (ap (λ n. asks ++ n) none ∙ append-nil asks))
      (cut_fails asks replies client after behind come goes (failed ∙ ap (λ (e : Option End). record client { inbox = behind; end = ended_by ends.Memory e }) goes) talk)
  asks_each asks replies client after frame behind all reply new come goes idle not_last split is asks_it whose (inl (next, nexts, turns)) talk = for next nexts turns where
    for : (next : Next Q P) → IsNext all.items [] reply next → TurnsTo rules next new (record client { inbox = behind }) after → IsTalk rules (asks ++ new) replies after
    for (Asks cell request several) nexts turns =
        let low = (subst (AllByRecursion (λ (ask : ℕ × Q). ask.0 < rules.cells)) nexts.0 whose).0 in
        let turn = turns low in
        let state : several ≡ record { left = several.left; parts = []; reply = reply } = same_state several several.left [] reply refl nexts.1 nexts.2 in
        subst (λ n. IsTalk rules (asks ++ n) replies after) (sym turn.1) (subst (IsTalk rules (asks ++ (cell, request) ∷ []) replies) (sym turn.0)
        (asks_cell asks replies client frame behind (Each all reply) cell request several.left (Some several) come goes not_last split is (record { asks = asks_it; whose = whose; is_of = sym nexts.0 }) (ap Some state)
        (idle_of asks replies client goes idle not_last talk)))
    for (Whole own parts) nexts turns =
        let none : parts.items ≡ [] = nexts.2 in
        subst (λ n. IsTalk rules n replies after) (sym (ap (λ n. asks ++ n) turns.1 ∙ append-nil asks))
        (answers_here asks replies client after frame behind (Each all reply) [] own client.is_last come goes idle split is asks_it (nexts.1, ap length (sym nexts.0)) (ap (λ a. exchanges_by a (let nothing : List P = [] in nothing)) nexts.0) (λ _ never. never) (λ last. not_both client.is_last last not_last)
        (subst (λ p. Says (rules.shown own p) (record client { inbox = behind }) after) none turns.0) (idle_of asks replies client goes idle not_last talk))

  -- a fault is answered
  pub refuses : (asks : List (ℕ × Q)) (replies : List (ℕ × P)) (client after : ClientView Q P) (reply : P) → client.has_come ≡ true → client.end ≡ None → client.asked ≡ None
      → cut_within rules.cut rules.longest client.inbox ≡ cut.Fault → rules.Refuses reply
      → Says (rules.shown reply []) (record client { is_last = true }) after → IsIdle asks replies client → IsTalk rules asks replies after
  refuses asks replies client after reply come goes waits_not is refuses_so says idle = record {
    lines = idle.lines;
    under_way = None;
    refused = Some reply;
    astray = [];
    rest = client.inbox;
    unwritten = client.outbox ++ rules.shown reply [];
    spoken = idle.spoken;
    kept = record {
      known = (says.same.asked ∙ waits_not, says.same.several ∙ idle.alone);
      none_astray = λ e. refl;
      strays = λ e. absurd (let old = says.same.strays e in let never : ⊥ = cc (goes, old) in never);
      goes_on = λ e. absurd (let same = says.same.is_last in let never : ⊥ = cc (same, e) in never);
      idle = λ e. refl;
      over = λ e. inr (λ none. let never : ⊥ = cc none in never);
      done = λ e. absurd (let old = says.same.done e in let never : ⊥ = cc (goes, old) in never);
      fresh = λ e. not_both client.has_come come (sym says.same.has_come ∙ e);
      empty = λ e _. not_both client.has_come come (sym says.same.has_come ∙ e);
    };
    carried = record {
      told = subst (λ t. IfSome t (IsTold rules (map (λ one. one.frame) idle.lines ++ []) client.inbox (shown_of rules idle.lines ++ rules.shown reply []) (client.outbox ++ rules.shown reply []))) (sym says.told)
          (subst (λ f. IfSome client.told (IsTold rules f client.inbox (shown_of rules idle.lines ++ rules.shown reply []) (client.outbox ++ rules.shown reply []))) (sym (append-nil (map (λ (one : Line Q P). one.frame) idle.lines)))
          (told_shown client.told _ client.inbox _ client.outbox (rules.shown reply []) idle.told));
      is_refused = record { refuses = refuses_so; fault = is };
      inbox_is = λ e. sym says.inbox;
      outbox_is = λ e. sym (says.outbox e);
      all = says_all (rules.shown reply []) client.inbox (client.outbox ++ rules.shown reply []) (record client { is_last = true }) after says (subst (λ e. IsAll rules e client.inbox (client.outbox ++ rules.shown reply [])) (sym goes) tt);
      nothing_left = λ e. absurd (says_not_left (rules.shown reply []) (record client { is_last = true }) after says (λ left. cc (goes, left)) e);
      answered = answered_none Q P after.end;
    };
  }
