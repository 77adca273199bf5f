-- What a client does keeps what it has said and was shown.
use Rattle.std.proofs.Common.{◌≡◌, ◌≢◌, ℕ, Bool, true, false, List, [], ◌∷◌, ◌++◌, Option, None, Some, take, drop, refl, sym, ◌∙◌, ap, subst, arith, inl, inr, ◌⊎◌, length-append}
use Rattle.std.proofs.lemmas.List.{append-nil, append_assoc, take-append-drop}
use Rattle.std.specs.Prelude.{IfSome, is_some, ⊤}
use Rattle.sws_link.specs.declared.LinkRead.{LinkRead}
use Rattle.sws_link.specs.declared.LinkRead.TheVariants as read
use Rattle.sws_link.specs.declared.LinkWrite.{LinkWrite}
use Rattle.sws_link.specs.declared.LinkWrite.TheVariants as write
use Rattle.sws_link.specs.Links.{EndsRead, IsInitialLink, IsWritten, LinkContents, LinkPuts, LinkTakes, given_by, input_of}
use Rattle.example_chat_room.specs.declared.end.End.{End}
use Rattle.example_chat_room.specs.declared.end.End.TheVariants as ends
use Rattle.example_chat_room.specs.Clients.{to_come}
use Rattle.example_chat_room.specs.LineFaults.{IsLineFault}
use Rattle.example_chat_room.specs.Shown.{FitsLine}
use Rattle.example_chat_room.specs.Talks.{ClientView, HasEnded, IsFresh, IsFull, IsTalk, IsTold}

-- ---- ends

-- an end of a client that failed, which says nothing of what was taken and written
abbrev pub IsPlain : End → Type 0
IsPlain ends.Left = ⊥
IsPlain ends.LongLine = ⊥
IsPlain ends.Slow = ⊥
IsPlain ends.Fault = ⊤
IsPlain ends.Memory = ⊤

plain_ended : (end : End) (rest unwritten : List ℕ) (told : LinkContents) → IsPlain end → HasEnded (Some end) rest unwritten told
plain_ended ends.Left rest unwritten told plain = absurd plain
plain_ended ends.LongLine rest unwritten told plain = absurd plain
plain_ended ends.Slow rest unwritten told plain = absurd plain
plain_ended ends.Fault rest unwritten told plain = tt
plain_ended ends.Memory rest unwritten told plain = tt

fault_ended : (end : End) (rest unwritten : List ℕ) (told : LinkContents) → IsLineFault end rest → HasEnded (Some end) rest unwritten told
fault_ended ends.Left rest unwritten told fault = absurd fault
fault_ended ends.LongLine rest unwritten told fault = fault
fault_ended ends.Slow rest unwritten told fault = absurd fault
fault_ended ends.Fault rest unwritten told fault = absurd fault
fault_ended ends.Memory rest unwritten told fault = tt

full_ended : (end : End) (rest unwritten : List ℕ) (told : LinkContents) → IsFull end unwritten → HasEnded (Some end) rest unwritten told
full_ended ends.Left rest unwritten told full = absurd full
full_ended ends.LongLine rest unwritten told full = absurd full
full_ended ends.Slow rest unwritten told full = full
full_ended ends.Fault rest unwritten told full = absurd full
full_ended ends.Memory rest unwritten told full = tt

-- more is left unwritten, where the client hasn't left
more_ended : (end : End) (rest unwritten piece : List ℕ) (told : LinkContents) → Some end ≢ Some ends.Left → HasEnded (Some end) rest unwritten told → HasEnded (Some end) rest (unwritten ++ piece) told
more_ended ends.Left rest unwritten piece told not_left ended = absurd (not_left refl)
more_ended ends.LongLine rest unwritten piece told not_left ended = ended
more_ended ends.Slow rest unwritten piece told not_left ended = let all = length-append unwritten piece in omega (arith, all, ended)
more_ended ends.Fault rest unwritten piece told not_left ended = tt
more_ended ends.Memory rest unwritten piece told not_left ended = tt

never : {X : Type 0} (end : End) → Some end ≡ None → X
never end is = absurd (let no : ⊥ = cc is in no)

both : {X : Type 0} (b : Bool) → b ≡ true → b ≡ false → X
both b is isnt = absurd (let clash : ⊥ = cc (is, isnt) in clash)

-- ---- what a link tells

-- what was written of bytes is a front of them
part_written : (answer : LinkWrite) (bytes front : List ℕ) → IsWritten answer bytes front → (rest : List ℕ) × (bytes ≡ front ++ rest)
part_written (write.Wrote count) bytes front is = (drop count bytes, sym (take-append-drop count bytes) ∙ ap (λ l. l ++ drop count bytes) (sym is))
part_written write.NotReady bytes front is = (bytes, ap (λ l. l ++ bytes) (sym is))
part_written write.Failed bytes front is = is
part_written write.Memory bytes front is = is

module _ (input said shown inbox outbox : List ℕ) where
  wrote_told : (before now : Option LinkContents) (count : ℕ) (left : List ℕ) → LinkPuts before now (write.Wrote count) outbox → left ≡ drop count outbox
      → IfSome before (IsTold input said shown inbox outbox None) → IfSome now (IsTold input said shown inbox left None)
  wrote_told None now count left puts is told = subst (λ t. IfSome t (IsTold input said shown inbox left None)) (sym puts) tt
  wrote_told (Some before) now count left puts is told =
      let parts : outbox ≡ puts.front ++ left = sym (take-append-drop count outbox) ∙ ap (λ l. l ++ drop count outbox) (sym puts.front_is) ∙ ap (λ l. puts.front ++ l) (sym is) in
      subst (λ t. IfSome t (IsTold input said shown inbox left None)) (sym puts.is) (record {
        rest = told.rest;
        unwritten = left;
        input_is = ap (λ l. l ++ puts.after.left) puts.taken ∙ ap (λ l. before.taken ++ l) puts.left ∙ told.input_is;
        taken = puts.taken ∙ told.taken;
        written = ap (λ l. l ++ left) puts.written ∙ append_assoc before.written puts.front left ∙ ap (λ l. before.written ++ l) (sym parts ∙ sym (told.outbox_is refl)) ∙ told.written;
        inbox_is = told.inbox_is;
        outbox_is = λ _. refl;
        ended = tt;
      })

  failed_told : (before now : Option LinkContents) (answer : LinkWrite) (end : End) → LinkPuts before now answer outbox → IsPlain end
      → IfSome before (IsTold input said shown inbox outbox None) → IfSome now (IsTold input said shown inbox outbox (Some end))
  failed_told None now answer end puts plain told = subst (λ t. IfSome t (IsTold input said shown inbox outbox (Some end))) (sym puts) tt
  failed_told (Some before) now answer end puts plain told =
      let part = part_written answer outbox puts.front puts.front_is in
      subst (λ t. IfSome t (IsTold input said shown inbox outbox (Some end))) (sym puts.is) (record {
        rest = told.rest;
        unwritten = part.0;
        input_is = ap (λ l. l ++ puts.after.left) puts.taken ∙ ap (λ l. before.taken ++ l) puts.left ∙ told.input_is;
        taken = puts.taken ∙ told.taken;
        written = ap (λ l. l ++ part.0) puts.written ∙ append_assoc before.written puts.front part.0 ∙ ap (λ l. before.written ++ l) (sym part.1 ∙ sym (told.outbox_is refl)) ∙ told.written;
        inbox_is = λ e. never end e;
        outbox_is = λ e. never end e;
        ended = plain_ended end told.rest part.0 puts.after plain;
      })

  -- bytes come
  read_told : (before now : Option LinkContents) (room : ℕ) (answer : LinkRead) (into more : List ℕ) → LinkTakes before now room answer into → more ≡ inbox ++ given_by answer into
      → IfSome before (IsTold input said shown inbox outbox None) → IfSome now (IsTold input said shown more outbox None)
  read_told None now room answer into more takes is told = subst (λ t. IfSome t (IsTold input said shown more outbox None)) (sym takes) tt
  read_told (Some before) now room answer into more takes is told =
      subst (λ t. IfSome t (IsTold input said shown more outbox None)) (sym takes.is) (record {
        rest = more;
        unwritten = told.unwritten;
        input_is = ap (λ l. l ++ takes.after.left) takes.taken ∙ append_assoc before.taken (given_by answer into) takes.after.left ∙ ap (λ l. before.taken ++ l) (sym takes.left) ∙ told.input_is;
        taken = takes.taken ∙ ap (λ l. l ++ given_by answer into) told.taken ∙ append_assoc said told.rest (given_by answer into) ∙ ap (λ l. said ++ (l ++ given_by answer into)) (told.inbox_is refl) ∙ ap (λ l. said ++ l) (sym is);
        written = ap (λ l. l ++ told.unwritten) takes.written ∙ told.written;
        inbox_is = λ _. refl;
        outbox_is = told.outbox_is;
        ended = tt;
      })

  -- a read ends the client's time
  ended_told : (before now : Option LinkContents) (room : ℕ) (answer : LinkRead) (into more : List ℕ) (end : End) → LinkTakes before now room answer into → IsPlain end ⊎ ((end ≡ ends.Left) × (answer ≡ read.End) × FitsLine inbox × (outbox ≡ []))
      → IfSome before (IsTold input said shown inbox outbox None) → IfSome now (IsTold input said shown more outbox (Some end))
  ended_told None now room answer into more end takes how told = subst (λ t. IfSome t (IsTold input said shown more outbox (Some end))) (sym takes) tt
  ended_told (Some before) now room answer into more end takes how told =
      subst (λ t. IfSome t (IsTold input said shown more outbox (Some end))) (sym takes.is) (record {
        rest = told.rest ++ given_by answer into;
        unwritten = told.unwritten;
        input_is = ap (λ l. l ++ takes.after.left) takes.taken ∙ append_assoc before.taken (given_by answer into) takes.after.left ∙ ap (λ l. before.taken ++ l) (sym takes.left) ∙ told.input_is;
        taken = takes.taken ∙ ap (λ l. l ++ given_by answer into) told.taken ∙ append_assoc said told.rest (given_by answer into);
        written = ap (λ l. l ++ told.unwritten) takes.written ∙ told.written;
        inbox_is = λ e. never end e;
        outbox_is = λ e. never end e;
        ended = for how;
      })
    where
      for : IsPlain end ⊎ ((end ≡ ends.Left) × (answer ≡ read.End) × FitsLine inbox × (outbox ≡ [])) → HasEnded (Some end) (told.rest ++ given_by answer into) told.unwritten takes.after
      for (inl plain) = plain_ended end (told.rest ++ given_by answer into) told.unwritten takes.after plain
      for (inr (is, at_end, fits, none)) =
          let nothing : given_by answer into ≡ [] = ap (λ a. given_by a into) at_end in
          let kept : told.rest ++ given_by answer into ≡ inbox = ap (λ l. told.rest ++ l) nothing ∙ append-nil told.rest ∙ told.inbox_is refl in
          let left : takes.after.left ≡ [] = sym (takes.left ∙ ap (λ l. l ++ takes.after.left) nothing) ∙ subst (λ a. EndsRead a before.left) at_end takes.ends in
          subst (λ e. HasEnded (Some e) (told.rest ++ given_by answer into) told.unwritten takes.after) (sym is) (subst FitsLine (sym kept) fits, told.outbox_is refl ∙ none, left)

-- ---- the client

-- what a client has
abbrev pub at : Bool → Option LinkContents → List ℕ → List ℕ → Option End → ClientView
at come told inbox outbox end = record { has_come = come; told = told; inbox = inbox; outbox = outbox; end = end }

pub none_so : {X : Type 0} (o : Option X) → is_some o ≡ false → o ≡ None
none_so None there = refl
none_so (Some x) there = absurd (let no : ⊥ = cc there in no)

pub talk_begun : IsTalk [] [] [] to_come
talk_begun = record { told = tt; fresh = λ _. record { no_said = refl; no_shown = refl; no_inbox = refl; no_outbox = refl; end = inl refl } }

module _ (before : ClientView) (input said shown : List ℕ) (talk : IsTalk input said shown before) where
  goes_told : before.end ≡ None → IfSome before.told (IsTold input said shown before.inbox before.outbox None)
  goes_told goes = subst (λ e. IfSome before.told (IsTold input said shown before.inbox before.outbox e)) goes talk.told

  -- what is so of who has come
  come_talk : (told : Option LinkContents) (saying showing inbox outbox : List ℕ) (end : Option End) → IfSome told (IsTold input saying showing inbox outbox end) → IsTalk input saying showing (at true told inbox outbox end)
  come_talk told saying showing inbox outbox end so = record { told = so; fresh = λ e. both true refl e }

  -- a call of the link, which told this before
  puts_so : (seen told : Option LinkContents) (answer : LinkWrite) (bytes : List ℕ) → before.told ≡ seen → bytes ≡ before.outbox → LinkPuts seen told answer bytes → LinkPuts before.told told answer before.outbox
  puts_so seen told answer bytes is_told is_out puts = subst (λ b. LinkPuts before.told told answer b) is_out (subst (λ t. LinkPuts t told answer bytes) (sym is_told) puts)

  takes_so : (seen told : Option LinkContents) (room : ℕ) (answer : LinkRead) (into : List ℕ) → before.told ≡ seen → LinkTakes seen told room answer into → LinkTakes before.told told room answer into
  takes_so seen told room answer into is_told takes = subst (λ t. LinkTakes t told room answer into) (sym is_told) takes

  pub talk_wrote : (seen told : Option LinkContents) (answer : LinkWrite) (bytes : List ℕ) (count : ℕ) (left : List ℕ) → before.end ≡ None → before.told ≡ seen → bytes ≡ before.outbox → LinkPuts seen told answer bytes → answer ≡ write.Wrote count → left ≡ drop count before.outbox
      → IsTalk input said shown (at true told before.inbox left before.end)
  talk_wrote seen told answer bytes count left goes is_told is_out put is_count is = let puts = subst (λ a. LinkPuts before.told told a before.outbox) is_count (puts_so seen told answer bytes is_told is_out put) in subst (λ e. IsTalk input said shown (at true told before.inbox left e)) (sym goes) (come_talk told said shown before.inbox left None (wrote_told input said shown before.inbox before.outbox before.told told count left puts is (goes_told goes)))

  pub talk_failed : (seen told : Option LinkContents) (answer : LinkWrite) (bytes : List ℕ) (end : End) → before.end ≡ None → before.told ≡ seen → bytes ≡ before.outbox → LinkPuts seen told answer bytes → IsPlain end
      → IsTalk input said shown (at true told before.inbox before.outbox (Some end))
  talk_failed seen told answer bytes end goes is_told is_out put plain = let puts = puts_so seen told answer bytes is_told is_out put in come_talk told said shown before.inbox before.outbox (Some end) (failed_told input said shown before.inbox before.outbox before.told told answer end puts plain (goes_told goes))

  pub talk_read : (seen told : Option LinkContents) (room : ℕ) (answer : LinkRead) (into more : List ℕ) → before.end ≡ None → before.told ≡ seen → LinkTakes seen told room answer into → more ≡ before.inbox ++ given_by answer into → IsTalk input said shown (at true told more before.outbox before.end)
  talk_read seen told room answer into more goes is_told take is = let takes = takes_so seen told room answer into is_told take in subst (λ e. IsTalk input said shown (at true told more before.outbox e)) (sym goes) (come_talk told said shown more before.outbox None (read_told input said shown before.inbox before.outbox before.told told room answer into more takes is (goes_told goes)))

  pub talk_ends : (seen told : Option LinkContents) (room : ℕ) (answer : LinkRead) (into more : List ℕ) (end : End) → before.end ≡ None → before.told ≡ seen → LinkTakes seen told room answer into → IsPlain end ⊎ ((end ≡ ends.Left) × (answer ≡ read.End) × FitsLine before.inbox × (before.outbox ≡ []))
      → IsTalk input said shown (at true told more before.outbox (Some end))
  talk_ends seen told room answer into more end goes is_told take how = let takes = takes_so seen told room answer into is_told take in come_talk told said shown more before.outbox (Some end) (ended_told input said shown before.inbox before.outbox before.told told room answer into more end takes how (goes_told goes))

  -- its time ends
  pub talk_cut : before.end ≡ None → IsTalk input said shown (at before.has_come before.told before.inbox before.outbox (Some ends.Fault))
  talk_cut goes = record {
    told = for before.told (goes_told goes);
    fresh = λ come. let so = talk.fresh come in record { no_said = so.no_said; no_shown = so.no_shown; no_inbox = so.no_inbox; no_outbox = so.no_outbox; end = inr refl };
  }
    where
      for : (told : Option LinkContents) → IfSome told (IsTold input said shown before.inbox before.outbox None) → IfSome told (IsTold input said shown before.inbox before.outbox (Some ends.Fault))
      for None so = tt
      for (Some told) so = record { rest = so.rest; unwritten = so.unwritten; input_is = so.input_is; taken = so.taken; written = so.written; inbox_is = λ e. never ends.Fault e; outbox_is = λ e. never ends.Fault e; ended = tt }

  pub talk_fault : (end : End) → before.has_come ≡ true → before.end ≡ None → IsLineFault end before.inbox → IsTalk input said shown (at before.has_come before.told before.inbox before.outbox (Some end))
  talk_fault end come goes fault = record { told = for before.told (goes_told goes); fresh = λ e. both before.has_come come e }
    where
      for : (told : Option LinkContents) → IfSome told (IsTold input said shown before.inbox before.outbox None) → IfSome told (IsTold input said shown before.inbox before.outbox (Some end))
      for None so = tt
      for (Some told) so = record { rest = so.rest; unwritten = so.unwritten; input_is = so.input_is; taken = so.taken; written = so.written; inbox_is = λ e. never end e; outbox_is = λ e. never end e; ended = fault_ended end so.rest so.unwritten told (subst (IsLineFault end) (sym (so.inbox_is refl)) fault) }

  -- bytes are put on their way
  pub talk_put : (piece all : List ℕ) → before.has_come ≡ true → before.end ≡ None → all ≡ before.outbox ++ piece → IsTalk input said (shown ++ piece) (at before.has_come before.told before.inbox all before.end)
  talk_put piece all come goes is = subst (λ e. IsTalk input said (shown ++ piece) (at before.has_come before.told before.inbox all e)) (sym goes) (record { told = for before.told (goes_told goes); fresh = λ e. both before.has_come come e })
    where
      for : (told : Option LinkContents) → IfSome told (IsTold input said shown before.inbox before.outbox None) → IfSome told (IsTold input said (shown ++ piece) before.inbox all None)
      for None so = tt
      for (Some told) so = record { rest = so.rest; unwritten = all; input_is = so.input_is; taken = so.taken; written = ap (λ l. told.written ++ l) (is ∙ ap (λ l. l ++ piece) (sym (so.outbox_is refl))) ∙ sym (append_assoc told.written so.unwritten piece) ∙ ap (λ l. l ++ piece) so.written; inbox_is = so.inbox_is; outbox_is = λ _. refl; ended = tt }

  -- or can't be put
  pub talk_full : (piece outbox : List ℕ) (end : End) → before.has_come ≡ true → before.end ≡ None → IsFull end (before.outbox ++ piece) → IsTalk input said (shown ++ piece) (at before.has_come before.told before.inbox outbox (Some end))
  talk_full piece outbox end come goes full = record { told = for before.told (goes_told goes); fresh = λ e. both before.has_come come e }
    where
      for : (told : Option LinkContents) → IfSome told (IsTold input said shown before.inbox before.outbox None) → IfSome told (IsTold input said (shown ++ piece) before.inbox outbox (Some end))
      for None so = tt
      for (Some told) so = record { rest = so.rest; unwritten = so.unwritten ++ piece; input_is = so.input_is; taken = so.taken; written = sym (append_assoc told.written so.unwritten piece) ∙ ap (λ l. l ++ piece) so.written; inbox_is = λ e. never end e; outbox_is = λ e. never end e; ended = full_ended end so.rest (so.unwritten ++ piece) told (subst (λ l. IsFull end (l ++ piece)) (sym (so.outbox_is refl)) full) }

  -- and are never written once the client's time has ended
  pub talk_lost : (piece : List ℕ) → before.has_come ≡ true → is_some before.end ≡ true → before.end ≢ Some ends.Left → IsTalk input said (shown ++ piece) before
  talk_lost piece come over not_left = record { told = for before.told before.end over not_left talk.told; fresh = λ e. both before.has_come come e }
    where
      for : (told : Option LinkContents) (end : Option End) → is_some end ≡ true → end ≢ Some ends.Left → IfSome told (IsTold input said shown before.inbox before.outbox end) → IfSome told (IsTold input said (shown ++ piece) before.inbox before.outbox end)
      for None end over_ not so = tt
      for (Some told) None over_ not so = absurd (let no : ⊥ = cc over_ in no)
      for (Some told) (Some end) over_ not so = record { rest = so.rest; unwritten = so.unwritten ++ piece; input_is = so.input_is; taken = so.taken; written = sym (append_assoc told.written so.unwritten piece) ∙ ap (λ l. l ++ piece) so.written; inbox_is = so.inbox_is; outbox_is = λ e. never end e; ended = more_ended end so.rest so.unwritten piece told not so.ended }

  -- a line is said
  pub talk_said : (text rest : List ℕ) → before.has_come ≡ true → before.end ≡ None → before.inbox ≡ text ++ 10 ∷ rest → IsTalk input (said ++ (text ++ 10 ∷ [])) shown (at before.has_come before.told rest before.outbox before.end)
  talk_said text rest come goes is = subst (λ e. IsTalk input (said ++ (text ++ 10 ∷ [])) shown (at before.has_come before.told rest before.outbox e)) (sym goes) (record { told = for before.told (goes_told goes); fresh = λ e. both before.has_come come e })
    where
      parts : said ++ (text ++ 10 ∷ rest) ≡ (said ++ (text ++ 10 ∷ [])) ++ rest
      parts = ap (λ l. said ++ l) (sym (append_assoc text (10 ∷ []) rest)) ∙ sym (append_assoc said (text ++ 10 ∷ []) rest)

      for : (told : Option LinkContents) → IfSome told (IsTold input said shown before.inbox before.outbox None) → IfSome told (IsTold input (said ++ (text ++ 10 ∷ [])) shown rest before.outbox None)
      for None so = tt
      for (Some told) so = record { rest = rest; unwritten = so.unwritten; input_is = so.input_is; taken = so.taken ∙ ap (λ l. said ++ l) (so.inbox_is refl ∙ is) ∙ parts; written = so.written; inbox_is = λ _. refl; outbox_is = so.outbox_is; ended = tt }

-- a link comes
pub talk_opened : (before : ClientView) (input said shown : List ℕ) (told : Option LinkContents) → before.has_come ≡ false → IsInitialLink told → IsTalk input said shown before → (own : List ℕ) × IfSome told (λ t. own ≡ input_of t) × IsTalk own said shown (at true told before.inbox before.outbox before.end)
talk_opened before input said shown told come initial talk = for told initial (talk.fresh come)
  where
    nothing : (end : Option End) (rest unwritten : List ℕ) (t : LinkContents) → (end ≡ None) ⊎ (end ≡ Some ends.Fault) → HasEnded end rest unwritten t
    nothing end rest unwritten t (inl none) = subst (λ e. HasEnded e rest unwritten t) (sym none) tt
    nothing end rest unwritten t (inr fault) = subst (λ e. HasEnded e rest unwritten t) (sym fault) tt

    for : (now : Option LinkContents) → IsInitialLink now → IsFresh said shown before → (own : List ℕ) × IfSome now (λ t. own ≡ input_of t) × IsTalk own said shown (at true now before.inbox before.outbox before.end)
    for None first fresh = ([], tt, record { told = tt; fresh = λ e. both true refl e })
    for (Some t) first fresh = (
      input_of t,
      refl,
      record {
        told = record {
          rest = [];
          unwritten = [];
          input_is = refl;
          taken = first.0 ∙ ap (λ l. l ++ []) (sym fresh.no_said);
          written = append-nil t.written ∙ first.1 ∙ sym fresh.no_shown;
          inbox_is = λ _. sym fresh.no_inbox;
          outbox_is = λ _. sym fresh.no_outbox;
          ended = nothing before.end [] [] t fresh.end;
        };
        fresh = λ e. both true refl e;
      },
    )
