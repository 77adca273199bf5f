-- What is so of a connection stays so where bytes are written or read, its link comes, or it ends.
use Rattle.std.proofs.Common.{◌≡◌, ℕ, Bool, true, false, List, [], ◌∷◌, ◌++◌, Option, None, Some, map, refl, sym, ◌∙◌, ap, subst, inl, inr, ◌⊎◌}
use Rattle.std.proofs.lemmas.List.{append-nil, append_assoc}
use Rattle.std.specs.Prelude.{IfSome}
use Rattle.sws_link.specs.Links.{IsInitialLink, LinkContents}
use Rattle.mely_net.specs.declared.end.End.{End}
use Rattle.mely_net.specs.declared.end.End.TheVariants as ends
use Rattle.mely_net.specs.Clients.{Finishes, IsFailure, IsSame, Reads, ToldRead, ToldWrote, Writes, after_leaving, after_opening, ended_by, opened_by}
use Rattle.mely_net.specs.Cutting.{AreFrames, IsSteady, cut_within}
use Rattle.mely_net.specs.declared.cut.Cut.TheVariants.{More}
use Rattle.mely_net.specs.Lines.{IsAll, IsRefused, Line, shown_of, shown_to_fault}
use Rattle.mely_net.specs.Rules.{Rules}
use Rattle.mely_net.specs.Several.{SeveralState}
use Rattle.mely_net.specs.Talks.{ClientView, IsAnswered, IsFresh, IsKept, IsKnown, IsTalk, IsTold, Keeps, Request, frame_of}
use Rattle.mely_net.proofs.FrameLemmas.{frames_more}

-- a connection of which nothing new is asked
pub keeps_same : {Q P C : Type 0} (rules : Rules Q P C) (before after : ClientView Q P) → ((asks : List (ℕ × Q)) (replies : List (ℕ × P)) → IsTalk rules asks replies before → IsTalk rules asks replies after) → Keeps rules [] before after
keeps_same rules before after stays = λ asks replies talk. subst (λ l. IsTalk rules l replies after) (sym (append-nil asks)) (stays asks replies talk)

pub same_so : {Q P C : Type 0} (rules : Rules Q P C) (before after : ClientView Q P) → Keeps rules [] before after → (asks : List (ℕ × Q)) (replies : List (ℕ × P)) → IsTalk rules asks replies before → IsTalk rules asks replies after
same_so rules before after keeps asks replies talk = subst (λ l. IsTalk rules l replies after) (append-nil asks) (keeps asks replies talk)

pub not_both : {A : Type 0} (b : Bool) → b ≡ true → b ≡ false → A
not_both true one other = absurd (let never : ⊥ = cc other in never)
not_both false one other = absurd (let never : ⊥ = cc one in never)

-- a failure says nothing of what isn't written, nor of who waits
pub failure_all : {Q P C : Type 0} (rules : Rules Q P C) (end : Option End) (rest unwritten : List ℕ) → IsFailure end → IsAll rules end rest unwritten
failure_all rules None rest unwritten fails = absurd fails
failure_all rules (Some ends.Left) rest unwritten fails = absurd fails
failure_all rules (Some ends.Done) rest unwritten fails = absurd fails
failure_all rules (Some ends.Fault) rest unwritten fails = tt
failure_all rules (Some ends.Memory) rest unwritten fails = tt
failure_all rules (Some ends.Astray) rest unwritten fails = tt

pub failure_answered : {Q P : Type 0} (end : Option End) (under_way : Option (Request Q P)) → IsFailure end → IsAnswered end under_way
failure_answered None under_way fails = absurd fails
failure_answered (Some ends.Left) under_way fails = absurd fails
failure_answered (Some ends.Done) under_way fails = absurd fails
failure_answered (Some ends.Fault) under_way fails = tt
failure_answered (Some ends.Memory) under_way fails = tt
failure_answered (Some ends.Astray) under_way fails = tt

-- where no cell is asked, no request is under way
pub none_under_way : {Q P : Type 0} (astray : List (ℕ × P)) (under_way : Option (Request Q P)) (asked : Option ℕ) (several : Option (SeveralState Q P)) → astray ≡ [] → IsKnown astray under_way asked several → asked ≡ None → (under_way ≡ None) × (several ≡ None)
none_under_way [] None asked several none known idle = (refl, known.1)
none_under_way [] (Some one) asked several none known idle = absurd (let is = known.0 in let never : ⊥ = cc (is, idle) in never)
none_under_way (reply ∷ astray) under_way asked several none known idle = absurd (let never : ⊥ = cc none in never)

module _ {Q P : Type 0} (lines : List (Line Q P)) (under_way : Option (Request Q P)) (refused : Option P) (astray : List (ℕ × P)) (before after : ClientView Q P) (same : IsSame before after) (come : before.has_come ≡ true) (kept : IsKept lines under_way refused astray before) where
  pub kept_same : IsKept lines under_way refused astray after
  kept_same = record {
    known = subst (IsKnown astray under_way after.asked) (sym same.several) (subst (λ a. IsKnown astray under_way a before.several) (sym same.asked) kept.known);
    none_astray = λ e. kept.none_astray (same.goes_on e);
    strays = λ e. kept.strays (same.strays e);
    goes_on = λ e. kept.goes_on (sym same.is_last ∙ e);
    idle = λ e. kept.idle (sym same.is_last ∙ e);
    over = λ e. kept.over (sym same.is_last ∙ e);
    done = λ e. same.is_last ∙ kept.done (same.done e);
    fresh = λ e. not_both before.has_come come (sym same.has_come ∙ e);
    empty = λ e _. not_both before.has_come come (sym same.has_come ∙ e);
  }

module _ {Q P C : Type 0} (rules : Rules Q P C) where
  told_writes : (old now : Option LinkContents) (frames : List (List ℕ)) (rest shown unwritten gone left : List ℕ) → unwritten ≡ gone ++ left → ToldWrote gone old now → IfSome old (IsTold rules frames rest shown unwritten) → IfSome now (IsTold rules frames rest shown left)
  told_writes None now frames rest shown unwritten gone left parts wrote told = subst (λ t. IfSome t (IsTold rules frames rest shown left)) (sym wrote) tt
  told_writes (Some before) now frames rest shown unwritten gone left parts wrote told =
      subst (λ t. IfSome t (IsTold rules frames rest shown left)) (sym wrote.1) (record {
        framed = subst (λ taken. AreFrames rules.cut rules.longest taken frames rest) (sym wrote.2) told.framed;
        written = ap (λ l. l ++ left) wrote.3 ∙ append_assoc before.written gone left ∙ ap (λ l. before.written ++ l) (sym parts) ∙ told.written;
      })

  told_reads : IsSteady rules.cut → (old now : Option LinkContents) (frames : List (List ℕ)) (rest shown unwritten came : List ℕ) → ToldRead came old now → IfSome old (IsTold rules frames rest shown unwritten) → IfSome now (IsTold rules frames (rest ++ came) shown unwritten)
  told_reads steady None now frames rest shown unwritten came read told = subst (λ t. IfSome t (IsTold rules frames (rest ++ came) shown unwritten)) (sym read) tt
  told_reads steady (Some before) now frames rest shown unwritten came read told =
      subst (λ t. IfSome t (IsTold rules frames (rest ++ came) shown unwritten)) (sym read.1) (record {
        framed = subst (λ taken. AreFrames rules.cut rules.longest taken frames (rest ++ came)) (sym read.2) (frames_more rules.cut rules.longest steady before.taken frames rest came told.framed);
        written = ap (λ l. l ++ unwritten) read.3 ∙ told.written;
      })

  -- where bytes were written
  pub writes_keep : (before after : ClientView Q P) → before.has_come ≡ true → before.end ≡ None → Writes before after → Keeps rules [] before after
  writes_keep before after come goes writes = keeps_same rules before after (λ asks replies talk.
      let unwritten_is = talk.carried.outbox_is goes ∙ writes.all in
      record {
        lines = talk.lines;
        under_way = talk.under_way;
        refused = talk.refused;
        astray = talk.astray;
        rest = talk.rest;
        unwritten = writes.left;
        spoken = talk.spoken;
        kept = kept_same talk.lines talk.under_way talk.refused talk.astray before after writes.same come talk.kept;
        carried = record {
          told = told_writes before.told after.told _ talk.rest _ talk.unwritten writes.gone writes.left unwritten_is writes.told talk.carried.told;
          is_refused = talk.carried.is_refused;
          inbox_is = λ e. talk.carried.inbox_is goes ∙ sym writes.inbox;
          outbox_is = λ e. sym (writes.outbox e);
          all = all_of talk.rest writes.left writes.end;
          nothing_left = λ e. absurd (not_left writes.end e);
          answered = answered_of talk.under_way writes.end;
        };
      })
    where
      all_of : (rest unwritten : List ℕ) → (after.end ≡ before.end) ⊎ IsFailure after.end → IsAll rules after.end rest unwritten
      all_of rest unwritten (inl is) = subst (λ e. IsAll rules e rest unwritten) (sym (is ∙ goes)) tt
      all_of rest unwritten (inr fails) = failure_all rules after.end rest unwritten fails

      not_left : (after.end ≡ before.end) ⊎ IsFailure after.end → after.end ≡ Some ends.Left → ⊥
      not_left (inl is) left = cc (is, goes, left)
      not_left (inr fails) left = subst IsFailure left fails

      answered_of : (under_way : Option (Request Q P)) → (after.end ≡ before.end) ⊎ IsFailure after.end → IsAnswered after.end under_way
      answered_of under_way (inl is) = subst (λ e. IsAnswered e under_way) (sym (is ∙ goes)) tt
      answered_of under_way (inr fails) = failure_answered after.end under_way fails

  -- where bytes were read, with nothing on its way and no cell to reply
  pub reads_keep : IsSteady rules.cut → (before after : ClientView Q P) → before.has_come ≡ true → before.end ≡ None → before.asked ≡ None → before.is_last ≡ false → before.outbox ≡ [] → cut_within rules.cut rules.longest before.inbox ≡ More → Reads before after → Keeps rules [] before after
  reads_keep steady before after come goes idle not_last nothing no_frame reads = keeps_same rules before after (λ asks replies talk.
      let unwritten_is = talk.carried.outbox_is goes in
      let none = (none_under_way talk.astray talk.under_way before.asked before.several (talk.kept.none_astray goes) talk.kept.known idle).0 in
      record {
        lines = talk.lines;
        under_way = talk.under_way;
        refused = talk.refused;
        astray = talk.astray;
        rest = talk.rest ++ reads.came;
        unwritten = talk.unwritten;
        spoken = talk.spoken;
        kept = kept_same talk.lines talk.under_way talk.refused talk.astray before after reads.same come talk.kept;
        carried = record {
          told = told_reads steady before.told after.told _ talk.rest _ talk.unwritten reads.came reads.told talk.carried.told;
          is_refused = subst (λ r. IfSome r (IsRefused rules (talk.rest ++ reads.came))) (sym (talk.kept.goes_on not_last).no_fault) tt;
          inbox_is = λ e. ap (λ l. l ++ reads.came) (talk.carried.inbox_is goes) ∙ sym (reads.inbox e);
          outbox_is = λ e. unwritten_is ∙ sym reads.outbox;
          all = all_of talk.rest talk.unwritten (talk.carried.inbox_is goes) (unwritten_is ∙ nothing) reads.end;
          nothing_left = λ e. (reads.all e).1;
          answered = answered_of talk.under_way none reads.end;
        };
      })
    where
      all_of : (rest unwritten : List ℕ) → rest ≡ before.inbox → unwritten ≡ [] → (after.end ≡ before.end) ⊎ (IsFailure after.end ⊎ (after.end ≡ Some ends.Left)) → IsAll rules after.end (rest ++ reads.came) unwritten
      all_of rest unwritten inbox none (inl is) = subst (λ e. IsAll rules e (rest ++ reads.came) unwritten) (sym (is ∙ goes)) tt
      all_of rest unwritten inbox none (inr (inl fails)) = failure_all rules after.end (rest ++ reads.came) unwritten fails
      all_of rest unwritten inbox none (inr (inr left)) = subst (λ e. IsAll rules e (rest ++ reads.came) unwritten) (sym left)
          (none, ap (cut_within rules.cut rules.longest) (ap (λ l. rest ++ l) (reads.all left).0 ∙ append-nil rest ∙ inbox) ∙ no_frame)

      answered_of : (under_way : Option (Request Q P)) → under_way ≡ None → (after.end ≡ before.end) ⊎ (IsFailure after.end ⊎ (after.end ≡ Some ends.Left)) → IsAnswered after.end under_way
      answered_of under_way none (inl is) = subst (λ e. IsAnswered e under_way) (sym (is ∙ goes)) tt
      answered_of under_way none (inr (inl fails)) = failure_answered after.end under_way fails
      answered_of under_way none (inr (inr left)) = subst (λ e. IsAnswered e under_way) (sym left) none

  -- an end, by what the connection had before
  end_by : (client : ClientView Q P) (end : End) (old : Option End) → client.end ≡ old → ((asks : List (ℕ × Q)) (replies : List (ℕ × P)) (talk : IsTalk rules asks replies client) → client.end ≡ None → IsAll rules (Some end) talk.rest talk.unwritten × IsAnswered (Some end) talk.under_way) → (Some end ≡ Some ends.Astray → ⊥) → (Some end ≡ Some ends.Left → ⊥) → (Some end ≡ Some ends.Done → client.is_last ≡ true)
      → (asks : List (ℕ × Q)) (replies : List (ℕ × P)) → IsTalk rules asks replies client → IsTalk rules asks replies (record client { end = ended_by end old })
  end_by client end None is well apart stays last asks replies talk =
      let so = well asks replies talk is in
      record {
        lines = talk.lines;
        under_way = talk.under_way;
        refused = talk.refused;
        astray = talk.astray;
        rest = talk.rest;
        unwritten = talk.unwritten;
        spoken = talk.spoken;
        kept = record {
          known = talk.kept.known;
          none_astray = λ e. absurd (let never : ⊥ = cc e in never);
          strays = λ e. absurd (apart e);
          goes_on = talk.kept.goes_on;
          idle = talk.kept.idle;
          over = talk.kept.over;
          done = last;
          fresh = talk.kept.fresh;
          empty = λ _ e. absurd (let never : ⊥ = cc e in never);
        };
        carried = record {
          told = talk.carried.told;
          is_refused = talk.carried.is_refused;
          inbox_is = λ e. absurd (let never : ⊥ = cc e in never);
          outbox_is = λ e. absurd (let never : ⊥ = cc e in never);
          all = so.0;
          nothing_left = λ e. absurd (stays e);
          answered = so.1;
        };
      }
  end_by client end (Some old) is well apart stays last asks replies talk = subst (λ (e : Option End). IsTalk rules asks replies (record client { end = e })) is talk

  -- a connection that fails
  pub failure_keeps : (client : ClientView Q P) (end : End) → IsFailure (Some end) → Keeps rules [] client (after_leaving end client)
  failure_keeps client end fails = keeps_same rules client (after_leaving end client) (end_by client end client.end refl (λ asks replies talk goes. (failure_all rules (Some end) talk.rest talk.unwritten fails, failure_answered (Some end) talk.under_way fails)) (λ e. subst IsFailure e fails) (λ e. subst IsFailure e fails) (λ e. absurd (subst IsFailure e fails)))

  -- one that has written all that it had to
  pub done_keeps : (client : ClientView Q P) → client.is_last ≡ true → (client.end ≡ None → client.outbox ≡ []) → Keeps rules [] client (after_leaving ends.Done client)
  done_keeps client last nothing = keeps_same rules client (after_leaving ends.Done client) (end_by client ends.Done client.end refl (λ asks replies talk goes. (talk.carried.outbox_is goes ∙ nothing goes, talk.kept.idle last)) (λ e. cc e) (λ e. cc e) (λ e. last))

  pub finishes_keep : (before after : ClientView Q P) → before.has_come ≡ true → before.end ≡ None → Finishes before after → Keeps rules [] before after
  finishes_keep before after come goes finishes = keeps_same rules before after (λ asks replies talk.
      let between = same_so rules before finishes.between (writes_keep before finishes.between come goes finishes.writes) asks replies talk in
      elim finishes.ends [
        | inl same ↦ subst (IsTalk rules asks replies) (sym same) between
        | inr done ↦ subst (IsTalk rules asks replies) (sym done.0) (same_so rules finishes.between (after_leaving ends.Done finishes.between) (done_keeps finishes.between done.1 done.2) asks replies between)
      ])

  -- a link that comes, of which nothing is taken or written
  opened : (client : ClientView Q P) (told : Option LinkContents) → IsInitialLink told → (come : Bool) (end : Option End) → client.has_come ≡ come → client.end ≡ end
      → (asks : List (ℕ × Q)) (replies : List (ℕ × P)) → IsTalk rules asks replies client → IsTalk rules asks replies (opened_by told client come end)
  opened client told initial true end come is asks replies talk = talk
  opened client told initial false (Some end) come is asks replies talk = talk
  opened client told initial false None come is asks replies talk =
      let fresh = talk.kept.fresh come in
      let empty = talk.kept.empty come is in
      record {
        lines = talk.lines;
        under_way = talk.under_way;
        refused = talk.refused;
        astray = talk.astray;
        rest = [];
        unwritten = [];
        spoken = talk.spoken;
        kept = record {
          known = talk.kept.known;
          none_astray = talk.kept.none_astray;
          strays = talk.kept.strays;
          goes_on = talk.kept.goes_on;
          idle = talk.kept.idle;
          over = talk.kept.over;
          done = talk.kept.done;
          fresh = λ e. absurd (let never : ⊥ = cc e in never);
          empty = λ e _. absurd (let never : ⊥ = cc e in never);
        };
        carried = record {
          told = begun talk.lines talk.under_way talk.refused fresh told initial;
          is_refused = subst (λ r. IfSome r (IsRefused rules [])) (sym fresh.no_fault) tt;
          inbox_is = λ e. sym empty.no_inbox;
          outbox_is = λ e. sym empty.no_outbox;
          all = subst (λ e. IsAll rules e [] []) (sym is) tt;
          nothing_left = λ e. absurd (let never : ⊥ = cc (is, e) in never);
          answered = subst (λ e. IsAnswered e talk.under_way) (sym is) tt;
        };
      }
    where
      begun : (lines : List (Line Q P)) (under_way : Option (Request Q P)) (refused : Option P) → IsFresh lines under_way refused → (told : Option LinkContents) → IsInitialLink told
          → IfSome told (IsTold rules (map (λ line. line.frame) lines ++ frame_of under_way) [] (shown_of rules lines ++ shown_to_fault rules refused) [])
      begun lines under_way refused fresh None initial = tt
      begun [] None None fresh (Some told) initial = record { framed = initial.0; written = append-nil told.written ∙ initial.1 }
      begun [] None (Some reply) fresh (Some told) initial = absurd (let e = fresh.no_fault in let never : ⊥ = cc e in never)
      begun [] (Some one) refused fresh (Some told) initial = absurd (let e = fresh.no_request in let never : ⊥ = cc e in never)
      begun (line ∷ lines) under_way refused fresh (Some told) initial = absurd (let e = fresh.no_lines in let never : ⊥ = cc e in never)

  pub opened_keeps : (client : ClientView Q P) (told : Option LinkContents) → IsInitialLink told → Keeps rules [] client (after_opening told client)
  opened_keeps client told initial = keeps_same rules client (after_opening told client) (opened client told initial client.has_come client.end refl refl)

  -- one after another
  pub keeps_both : (new : List (ℕ × Q)) (before between after : ClientView Q P) → Keeps rules [] before between → Keeps rules new between after → Keeps rules new before after
  keeps_both new before between after one two = λ asks replies talk. two asks replies (same_so rules before between one asks replies talk)

  pub keeps_none : (client : ClientView Q P) → Keeps rules [] client client
  keeps_none client = keeps_same rules client client (λ asks replies talk. talk)

  pub keeps_nothing : (new : List (ℕ × Q)) (before after : ClientView Q P) → new ≡ [] → Keeps rules [] before after → Keeps rules new before after
  keeps_nothing new before after none keeps = subst (λ l. Keeps rules l before after) (sym none) keeps
