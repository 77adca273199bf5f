-- What a world tells, and what its calls change in that. A world that doesn't know its links to
-- come has `None` for them, and goes on so.
use Rattle.std.specs.Prelude.{◌≡◌, ◌≢◌, ℕ, ◌+◌, min, Bool, false, IsTrue, List, [], ◌∷◌, length, Option, Some, None, IsSome, Contains, ⊤}
use Rattle.std.specs.List.{AllByRecursion}
use Rattle.sws_link.specs.declared.Opened.{Opened}
use Rattle.sws_link.specs.declared.Opened.TheVariants as opened
use Rattle.sws_link.specs.declared.Polled.{Polled}
use Rattle.sws_link.specs.declared.Polled.TheVariants as polled
use Rattle.sws_link.specs.declared.Accepted.{Accepted}
use Rattle.sws_link.specs.declared.Accepted.TheVariants as accepted
use Rattle.sws_link.specs.Counts.{Count, HasCause, no_faults}
use Rattle.sws_link.specs.Links.{LinkContents, IsInitialLink}
use Rattle.sws_link.specs.Scripts.{Script}

-- a link to come: its whole input, its answers where it tells them, and whether its writes write
-- nothing but what they say
pub record Coming : Type 0 where
  pub input : List ℕ
  pub answers : Option Script
  pub says_all : Bool

-- what a link tells when it comes: nothing was taken or written
abbrev pub initial_contents : Coming → LinkContents
initial_contents coming = record {
  taken = [];
  left = coming.input;
  written = [];
  to_come = coming.answers;
  says_all = coming.says_all;
}

-- what a world tells of itself
pub record WorldContents : Type 0 where
  -- the links to come, the next one first, where these are known
  pub coming : Option (List Coming)
  -- how many links it gives in all since it was opened, and how many of these were accepted
  pub total : ℕ
  pub accepted : ℕ
  -- the port at which it was opened last, or 0
  pub port : ℕ
  -- whether nothing of the outside stands in its way: no call fails, each link comes at once, and
  -- the first that waits is ready
  pub scripted : Bool

-- the answers to come of each link that is to come are told
abbrev pub AreScripted : Option (List Coming) → Type 0
AreScripted None = ⊥
AreScripted (Some coming) = AllByRecursion (λ link. IsSome link.answers) coming

-- a link tells its answers to come
abbrev pub IsScripted : Option LinkContents → Type 0
IsScripted None = ⊥
IsScripted (Some told) = IsSome told.to_come

-- ---- to open

-- as many as are asked for, and no more than are to come, where these are known
abbrev pub total_within : Option (List Coming) → ℕ → ℕ
total_within None total = total
total_within (Some coming) total = min total (length coming)

-- a world that gives links anew, of which none was accepted
abbrev pub opened_at : WorldContents → ℕ → ℕ → WorldContents
opened_at world port total = record world {
  total = total_within world.coming total;
  accepted = 0;
  port = port;
}

-- what a world tells after an opening
abbrev pub after_open : WorldContents → ℕ → ℕ → Opened → WorldContents
after_open world port total opened.Ready = opened_at world port total
after_open world port total opened.Failed = world
after_open world port total opened.Memory = world

-- ---- to poll

-- one of those that wait is named
abbrev pub IsAmong : Polled → List ℕ → Type 0
IsAmong (polled.Ready conn) waiting = Contains waiting conn
IsAmong polled.Quiet waiting = ⊤
IsAmong polled.Failed waiting = ⊤

-- the first of those that wait, or none
abbrev pub first_ready : List ℕ → Polled
first_ready [] = polled.Quiet
first_ready (conn ∷ waiting) = polled.Ready conn

-- ---- to accept

-- the next of the links to come, of which this is told, is taken off
abbrev pub TakesNext : Option (List Coming) → Option LinkContents → Option (List Coming) → Type 0
TakesNext None told now = now ≡ None
TakesNext (Some coming) told now =
    (first : Coming) × (rest : List Coming) × (coming ≡ first ∷ rest) × (now ≡ Some rest)
    × (told ≡ Some (initial_contents first))

module _ {L : Type 0} (link_tells : L → Option LinkContents) (link_shut : L → Bool)
    (link_faults link_waits : L → Count) where
  -- the next link comes, of which nothing was taken or written, which isn't
  -- shut and whose counts begin
  pub record GivesLink (before : WorldContents) (link : L) (after : WorldContents) : Type 0 where
    pub next : TakesNext before.coming (link_tells link) after.coming
    pub counted : after ≡ record before { coming = after.coming; accepted = before.accepted + 1 }
    pub initial : IsInitialLink (link_tells link)
    pub not_shut : link_shut link ≡ false
    pub no_faults_yet : link_faults link ≡ no_faults
    pub no_waits_yet : link_waits link ≡ no_faults

  -- what an accept changes in what a world tells, by its answer: only one that
  -- gives a link changes anything
  abbrev pub GivesBy : WorldContents → Accepted L → WorldContents → Type 0
  GivesBy before (accepted.Link link) after = GivesLink before link after
  GivesBy before accepted.NotYet after = after ≡ before
  GivesBy before accepted.Failed after = after ≡ before

-- the link that comes tells its answers to come
abbrev pub GivesScripted : {L : Type 0} → (L → Option LinkContents) → Accepted L → Type 0
GivesScripted tells (accepted.Link link) = IsScripted (tells link)
GivesScripted tells accepted.NotYet = ⊤
GivesScripted tells accepted.Failed = ⊤

-- a link was accepted
abbrev pub IsLink : {L : Type 0} → Accepted L → Type 0
IsLink (accepted.Link link) = ⊤
IsLink accepted.NotYet = ⊥
IsLink accepted.Failed = ⊥

-- ---- whole calls, of a world that is seen by what it tells and by its two counts

module _ {W : Type 0} (tells : W → WorldContents) (faults waits : W → Count) where
  -- the world was opened at the port for so many links
  pub record Listens (before : W) (port total : ℕ) (answer : Opened) (after : W) : Type 0 where
    pub becomes : tells after ≡ after_open (tells before) port total answer
    pub scripted : IsTrue (tells before).scripted → answer ≢ opened.Failed
    pub failed : HasCause (faults before) (faults after) (answer ≡ opened.Failed)
    pub same_waits : waits after ≡ waits before

  -- the world was asked which of those that wait is ready
  pub record Polls (before : W) (waiting : List ℕ) (answer : Polled) (after : W) : Type 0 where
    pub same : tells after ≡ tells before
    pub among : IsAmong answer waiting
    pub scripted : IsTrue (tells before).scripted → answer ≡ first_ready waiting
    pub failed : HasCause (faults before) (faults after) (answer ≡ polled.Failed)
    pub waited : HasCause (waits before) (waits after) ((answer ≡ polled.Quiet) × (waiting ≢ []))

  -- the world was asked for the next link
  pub record Accepts {L : Type 0} (link_tells : L → Option LinkContents) (link_shut : L
      → Bool) (link_faults link_waits : L → Count)
      (before : W) (answer : Accepted L) (after : W) : Type 0 where
    pub gives : GivesBy link_tells link_shut link_faults link_waits
        (tells before) answer (tells after)
    pub scripted : IsTrue (tells before).scripted → IsLink answer
    pub answers : AreScripted (tells before).coming → GivesScripted link_tells answer
    pub still_scripted : AreScripted (tells before).coming → AreScripted (tells after).coming
    pub failed : HasCause (faults before) (faults after) (answer ≡ accepted.Failed)
    pub waited : HasCause (waits before) (waits after) (answer ≡ accepted.NotYet)
