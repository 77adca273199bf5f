-- What a world in memory tells once it has given a link.
use Rattle.std.proofs.Common.{◌≡◌, ℕ, Bool, true, false, List, [], map, Option, Some, None, refl, sym, ap, ◌∙◌, subst}
use Rattle.std.specs.Prelude.{IsSome}
use Rattle.std.specs.List.{AllByRecursion}
use Rattle.sws_link.specs.declared.Accepted.TheVariants as accepted
use Rattle.sws_link.specs.Counts.{Count, HasCause, kept_count, no_faults}
use Rattle.sws_link.specs.Calls.{CallsState, after_call}
use Rattle.sws_link.specs.Links.{LinkContents, IsInitialLink}
use Rattle.sws_link.specs.MemLinks.{bytes_tell, mem_link_tells, sure_link_tells, script_of, script_unless}
use Rattle.sws_link.specs.SureLink.{SureLinkState}
use Rattle.sws_link.specs.MemLink.{MemLinkState}
use Rattle.sws_link.specs.ScriptedBytes.{ScriptedBytesState}
use Rattle.sws_link.specs.LinkItems.{all_bytes}
use Rattle.sws_link.specs.Worlds.{Coming, initial_contents, AreScripted, IsScripted, TakesNext, GivesLink, Accepts}
use Rattle.sws_link.specs.MemWorlds.{GivesNext, IsInitialMemLink, IsInitialSureLink, bytes_coming, mem_coming, sure_coming, lobby_tells, is_none, mem_world_tells, sure_world_tells}
use Rattle.sws_link.specs.MemWorld.{MemWorldState}
use Rattle.sws_link.specs.Lobby.{LobbyState}
use Rattle.sws_link.proofs.CountLemmas.{HasCause-none}

-- a link of which nothing was taken or written tells what was to come of it
bytes-told : (failing : List ℕ) (bytes : ScriptedBytesState) → bytes.input.taken ≡ [] → bytes.written ≡ [] → Some (bytes_tell failing bytes) ≡ Some (initial_contents (bytes_coming failing bytes))
bytes-told failing bytes taken written =
    let told : List ℕ → List ℕ → Option LinkContents =
    (λ t w. Some (record { taken = t; left = all_bytes bytes.input.items; written = w; to_come = script_unless failing (script_of bytes); says_all = true })) in
    ap (λ t. told t bytes.written) taken ∙ ap (told []) written

-- the next link is given
lobby-gives : {L : Type 0} (tells : L → Option LinkContents) (is_shut : L → Bool) (faults waits : L → Count) (coming : L → Coming) (scripted : Bool)
    (before after : LobbyState L) (link : L) → GivesNext before link after
    → tells link ≡ Some (initial_contents (coming link)) → is_shut link ≡ false → faults link ≡ no_faults → waits link ≡ no_faults
    → GivesLink tells is_shut faults waits (lobby_tells coming scripted before) link (lobby_tells coming scripted after)
lobby-gives tells is_shut faults waits coming scripted before after link gives told not_shut no_faults_yet no_waits_yet = record {
  next = (coming link, map coming after.links, ap (λ links. map coming links) gives.next, refl, told);
  counted = ap (λ lobby. lobby_tells coming scripted lobby) gives.becomes;
  initial = subst IsInitialLink (sym told) (refl, refl);
  not_shut = not_shut;
  no_faults_yet = no_faults_yet;
  no_waits_yet = no_waits_yet;
}

-- where the answers to come are told, so are those of the next link, and of the links behind it
gives-answers : (before : Option (List Coming)) (told : Option LinkContents) (now : Option (List Coming)) → TakesNext before told now
    → AreScripted before → IsScripted told × AreScripted now
gives-answers None told now next are = absurd are
gives-answers (Some coming) told now (first, rest, is, now_is, told_is) are =
    let both = subst (AllByRecursion (λ (link : Coming). IsSome link.answers)) is are in
    (subst IsScripted (sym told_is) both.0, subst AreScripted (sym now_is) both.1)

-- no count has changed
cause-never : (IsFailure : Type 0) → (IsFailure → ⊥) → (count : Count) → HasCause count count IsFailure
cause-never IsFailure never count = HasCause-none count count IsFailure refl never

pub mem-accepts : (before : MemWorldState) (after : LobbyState MemLinkState) (calls : CallsState) (link : MemLinkState)
    → AllByRecursion IsInitialMemLink before.lobby.links → GivesNext before.lobby link after → calls ≡ after_call before.calls
    → HasCause (kept_count before.calls.failed) (kept_count calls.failed) (accepted.Link link ≡ accepted.Failed)
    → Accepts mem_world_tells (λ world. kept_count world.calls.failed) (λ _. no_faults)
    mem_link_tells (λ link. link.shut) (λ link. kept_count link.calls.failed) (λ link. kept_count link.waits)
    before (accepted.Link link) (record { lobby = after; calls = calls })
mem-accepts before after calls link initial gives called_is failed =
    let first : IsInitialMemLink link = (subst (AllByRecursion IsInitialMemLink) gives.next initial).0 in
    let next : GivesLink mem_link_tells (λ link. link.shut) (λ link. kept_count link.calls.failed) (λ link. kept_count link.waits)
    (mem_world_tells before) link (mem_world_tells (record { lobby = after; calls = calls })) = subst (λ (failing : List ℕ). GivesLink mem_link_tells (λ link. link.shut) (λ link. kept_count link.calls.failed) (λ link. kept_count link.waits)
    (mem_world_tells before) link (lobby_tells mem_coming (is_none failing) after))
    (sym (ap (λ (c : CallsState). c.failing) called_is))
    (lobby-gives mem_link_tells (λ link. link.shut) (λ link. kept_count link.calls.failed) (λ link. kept_count link.waits) mem_coming (is_none before.calls.failing)
    before.lobby after link gives (bytes-told link.calls.failing link.bytes first.taken first.written) first.not_shut
    (ap kept_count first.failed) (ap kept_count first.waits)) in
    let on = gives-answers (mem_world_tells before).coming (mem_link_tells link) (Some (map mem_coming after.links)) next.next in
    record {
      gives = next;
      scripted = λ s. tt;
      answers = λ are. (on are).0;
      still_scripted = λ are. (on are).1;
      failed = failed;
      waited = cause-never (accepted.Link link ≡ accepted.NotYet) (λ no. cc) no_faults;
    }

pub sure-accepts : (before after : LobbyState SureLinkState) (link : SureLinkState)
    → AllByRecursion IsInitialSureLink before.links → GivesNext before link after
    → Accepts sure_world_tells (λ _. no_faults) (λ _. no_faults) sure_link_tells (λ link. link.shut) (λ _. no_faults) (λ link. kept_count link.waits)
    before (accepted.Link link) after
sure-accepts before after link initial gives =
    let first : IsInitialSureLink link = (subst (AllByRecursion IsInitialSureLink) gives.next initial).0 in
    let next : GivesLink sure_link_tells (λ link. link.shut) (λ _. no_faults) (λ link. kept_count link.waits)
    (sure_world_tells before) link (sure_world_tells after) = lobby-gives sure_link_tells (λ link. link.shut) (λ _. no_faults) (λ link. kept_count link.waits) sure_coming true
    before after link gives (bytes-told [] link.bytes first.taken first.written) first.not_shut refl (ap kept_count first.waits) in
    let on = gives-answers (sure_world_tells before).coming (sure_link_tells link) (Some (map sure_coming after.links)) next.next in
    record {
      gives = next;
      scripted = λ s. tt;
      answers = λ are. (on are).0;
      still_scripted = λ are. (on are).1;
      failed = cause-never (accepted.Link link ≡ accepted.Failed) (λ no. cc) no_faults;
      waited = cause-never (accepted.Link link ≡ accepted.NotYet) (λ no. cc) no_faults;
    }
