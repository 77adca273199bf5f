-- What a read and a write of a link do to a connection.
use Rattle.std.specs.Prelude.{Result, Ok, Err, IfSome, OnOk, is_err, is_some}
use Rattle.std.proofs.Common.{◌≡◌, ℕ, Bool, false, List, [], ◌++◌, Option, None, Some, refl, sym, ◌∙◌, ap, subst, inl, inr, ◌⊎◌}
use Rattle.std.proofs.lemmas.List.{append-nil, append_assoc}
use Rattle.sws_link.specs.declared.LinkRead.{LinkRead}
use Rattle.sws_link.specs.declared.LinkRead.TheVariants as read
use Rattle.sws_link.specs.declared.LinkWrite.{LinkWrite}
use Rattle.sws_link.specs.declared.LinkWrite.TheVariants as write
use Rattle.sws_link.specs.Links.{EndsRead, IsWritten, LinkContents, LinkPuts, LinkTakes, given_by, written_by}
use Rattle.mely_net.specs.declared.end.End.{End}
use Rattle.mely_net.specs.declared.end.End.TheVariants as ends
use Rattle.mely_net.specs.Clients.{IsFailure, Reads, ToldRead, ToldWrote, Writes, after_leaving, ended_by}
use Rattle.mely_net.specs.Talks.{ClientView}

-- the same connection, of which this is told and which has these bytes
abbrev pub moved : {Q P : Type 0} → ClientView Q P → Bool → Option LinkContents → List ℕ → List ℕ → ClientView Q P
moved before come told inbox outbox = record {
  has_come = come;
  told = told;
  inbox = inbox;
  outbox = outbox;
  asked = before.asked;
  several = before.several;
  is_last = before.is_last;
  end = before.end;
}

pub told_read : (before now : Option LinkContents) (room : ℕ) (answer : LinkRead) (into : List ℕ) → LinkTakes before now room answer into → ToldRead (given_by answer into) before now
told_read None now room answer into takes = takes
told_read (Some before) now room answer into takes = (takes.after, takes.is, takes.taken, takes.written)

-- at its end nothing is left of a link's input
pub told_ended : (before now : Option LinkContents) (room : ℕ) (answer : LinkRead) (into : List ℕ) → LinkTakes before now room answer into → answer ≡ read.End → IfSome now (λ t. t.left ≡ [])
told_ended None now room answer into takes is = subst (λ t. IfSome t (λ told. told.left ≡ [])) (sym takes) tt
told_ended (Some before) now room answer into takes is =
    let none = subst (λ a. EndsRead a before.left) is takes.ends in
    let left = takes.left ∙ ap (λ a. given_by a into ++ takes.after.left) is in
    subst (λ t. IfSome t (λ told. told.left ≡ [])) (sym takes.is) (sym left ∙ none)

written_so : (answer : LinkWrite) (bytes : List ℕ) → IsWritten answer bytes (written_by answer bytes)
written_so (write.Wrote count) bytes = refl
written_so write.NotReady bytes = refl
written_so write.Failed bytes = (bytes, refl)
written_so write.Memory bytes = (bytes, refl)

pub told_wrote : (before now : Option LinkContents) (answer : LinkWrite) (bytes : List ℕ) → LinkPuts before now answer bytes → (front : List ℕ) × IsWritten answer bytes front × ToldWrote front before now
told_wrote None now answer bytes puts = (written_by answer bytes, written_so answer bytes, puts)
told_wrote (Some before) now answer bytes puts = (puts.front, puts.front_is, (puts.after, puts.is, puts.taken, puts.written))

-- two writes are one
wrote_both : (before between now : Option LinkContents) (one two : List ℕ) → ToldWrote one before between → ToldWrote two between now → ToldWrote (one ++ two) before now
wrote_both None between now one two first second = subst (λ t. ToldWrote two t now) first second
wrote_both (Some before) between now one two first second =
    let then_ = subst (λ t. ToldWrote two t now) first.1 second in
    (then_.0, then_.1, then_.2 ∙ first.2, then_.3 ∙ ap (λ l. l ++ two) first.3 ∙ append_assoc before.written one two)

wrote_none : (told : Option LinkContents) → ToldWrote [] told told
wrote_none None = refl
wrote_none (Some told) = (told, refl, refl, sym (append-nil told.written))

pub writes_none : {Q P : Type 0} (client : ClientView Q P) → Writes client client
writes_none client = record {
  same = record { has_come = refl; asked = refl; several = refl; is_last = refl; goes_on = λ e. e; strays = λ e. e; done = λ e. e };
  gone = [];
  left = client.outbox;
  all = refl;
  told = wrote_none client.told;
  inbox = refl;
  outbox = λ e. refl;
  end = inl refl;
}

module _ {Q P : Type 0} (before between : ClientView Q P) (writes : Writes before between) (goes : between.end ≡ None) (come : Bool) (has : come ≡ between.has_come) (told : Option LinkContents) (front rest : List ℕ) (parts : between.outbox ≡ front ++ rest) (wrote : ToldWrote front between.told told) where
  all_gone : before.outbox ≡ (writes.gone ++ front) ++ rest
  all_gone = writes.all ∙ ap (λ l. writes.gone ++ l) (sym (writes.outbox goes) ∙ parts) ∙ sym (append_assoc writes.gone front rest)

  -- a further write
  pub writes_more : Writes before (moved between come told between.inbox rest)
  writes_more = record {
    same = record { has_come = has ∙ writes.same.has_come; asked = writes.same.asked; several = writes.same.several; is_last = writes.same.is_last; goes_on = writes.same.goes_on; strays = writes.same.strays; done = writes.same.done };
    gone = writes.gone ++ front;
    left = rest;
    all = all_gone;
    told = wrote_both before.told between.told told writes.gone front writes.told wrote;
    inbox = writes.inbox;
    outbox = λ e. refl;
    end = writes.end;
  }

  -- one that failed
  pub writes_end : (end : End) → IsFailure (Some end) → Writes before (after_leaving end (moved between come told between.inbox between.outbox))
  writes_end end fails = subst (λ (e : Option End). Writes before (record (moved between come told between.inbox between.outbox) { end = e })) (sym (ap (λ (e : Option End). ended_by end e) goes)) (record {
    same = record { has_come = has ∙ writes.same.has_come; asked = writes.same.asked; several = writes.same.several; is_last = writes.same.is_last; goes_on = λ e. absurd (let never : ⊥ = cc e in never); strays = λ e. absurd (subst IsFailure e fails); done = λ e. absurd (subst IsFailure e fails) };
    gone = writes.gone ++ front;
    left = rest;
    all = all_gone;
    told = wrote_both before.told between.told told writes.gone front writes.told wrote;
    inbox = writes.inbox;
    outbox = λ e. absurd (let never : ⊥ = cc e in never);
    end = inr fails;
  })

not_astray : (end : End) → IsFailure (Some end) ⊎ (Some end ≡ Some ends.Left) → Some end ≡ Some ends.Astray → ⊥
not_astray end (inl fails) e = subst IsFailure e fails
not_astray end (inr left) e = cc (left, e)

not_done : (end : End) → IsFailure (Some end) ⊎ (Some end ≡ Some ends.Left) → Some end ≡ Some ends.Done → ⊥
not_done end (inl fails) e = subst IsFailure e fails
not_done end (inr left) e = cc (left, e)

module _ {Q P : Type 0} (before : ClientView Q P) (come : Bool) (has : come ≡ before.has_come) (told : Option LinkContents) (came inbox : List ℕ) (read : ToldRead came before.told told) where
  -- bytes that came
  pub reads_more : before.end ≡ None → inbox ≡ before.inbox ++ came → Reads before (moved before come told inbox before.outbox)
  reads_more goes more = record {
    same = record { has_come = has; asked = refl; several = refl; is_last = refl; goes_on = λ e. e; strays = λ e. e; done = λ e. e };
    came = came;
    told = read;
    inbox = λ e. more;
    outbox = refl;
    end = inl refl;
    all = λ e. absurd (let never : ⊥ = cc (goes, e) in never);
  }

  -- a read that ended the connection
  pub reads_end : (end : End) → before.end ≡ None → IsFailure (Some end) ⊎ (Some end ≡ Some ends.Left) → (Some end ≡ Some ends.Left → (came ≡ []) × IfSome told (λ t. t.left ≡ [])) → Reads before (after_leaving end (moved before come told inbox before.outbox))
  reads_end end goes how all = subst (λ (e : Option End). Reads before (record (moved before come told inbox before.outbox) { end = e })) (sym (ap (λ (e : Option End). ended_by end e) goes)) (record {
    same = record { has_come = has; asked = refl; several = refl; is_last = refl; goes_on = λ e. absurd (let never : ⊥ = cc e in never); strays = λ e. absurd (not_astray end how e); done = λ e. absurd (not_done end how e) };
    came = came;
    told = read;
    inbox = λ e. absurd (let never : ⊥ = cc e in never);
    outbox = refl;
    end = inr how;
    all = all;
  })

-- what is so of an answer that is no error
pub on_ok : {A E : Type 0} (answer : Result A E) (P : Type 0) → OnOk answer P → is_err answer ≡ false → P
on_ok (Ok a) P so well = so
on_ok (Err e) P so well = absurd (let never : ⊥ = cc well in never)

pub none_so : {X : Type 0} (o : Option X) → is_some o ≡ false → o ≡ None
none_so None there = refl
none_so (Some x) there = absurd (let never : ⊥ = cc there in never)
