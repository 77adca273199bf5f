-- What the desk, a cell and a connection keep at a message.
use Rattle.std.proofs.Common.{◌≡◌, ◌<◌, ◌+◌, ◌-◌, ℕ, Bool, true, false, List, [], ◌∷◌, ◌++◌, Option, None, length, map, refl, sym, ◌∙◌, ap, subst, arith}
use Rattle.std.proofs.lemmas.List.{append-nil, map-append}
use Rattle.std.proofs.lemmas.List.Elements.{filter_map-append}
use Rattle.std.proofs.lemmas.Option.{slice_get_within}
use Rattle.std.specs.List.{AllByRecursion, cons_option}
use Rattle.mely_event.specs.declared.colour.Colour.{Colour}
use Rattle.sws_link.specs.declared.Link.{Ghosts as LinkWords}
use Rattle.mely_net.specs.declared.client.Client.{Client}
use Rattle.mely_net.specs.declared.message.Message.{Message}
use Rattle.mely_net.specs.declared.message.Message.TheVariants.{Poll, Accept, Wait, Open, Wake, Leave, Ask, Reply}
use Rattle.mely_net.specs.declared.part.Part.{Part}
use Rattle.mely_net.specs.declared.part.Part.TheVariants as part
use Rattle.mely_net.specs.Clients.{shown_client, to_come}
use Rattle.mely_net.specs.Exchanges.{Exchange, IsAt, Steps}
use Rattle.sws_link.specs.Links.{LinkContents}
use Rattle.sws_link.specs.Worlds.{WorldContents}
use Rattle.mely_net.specs.Messages.{IsClient, IsQuiet, IsSigned, MayGet, at, replies_in, replies_sent, reply_in, request_in, requests_in, requests_sent}
use Rattle.mely_net.specs.Parts.{Gets, IsCell, IsConnection, IsFresh, IsPart, KeepsPart, is_own}
use Rattle.mely_net.specs.Rules.{Rules}
use Rattle.mely_net.specs.Talks.{IsTalk, replies_of}
use Rattle.mely_net.proofs.FrameLemmas.{all_both}

module _ {Q P C : Type 0} (rules : Rules Q P C) where
  -- nothing has happened
  pub talk_begun : IsTalk rules [] [] to_come
  talk_begun = record {
    lines = [];
    under_way = None;
    refused = None;
    astray = [];
    rest = [];
    unwritten = [];
    spoken = record { asked = refl; replied = refl; lines_are = tt; end_at_last = tt; is_asked = tt };
    kept = record {
      known = (refl, refl);
      none_astray = λ _. refl;
      strays = λ e _. cc e;
      goes_on = λ _. record { not_last = tt; no_fault = refl };
      idle = λ _. refl;
      over = λ e. absurd (let never : ⊥ = cc e in never);
      done = λ e. absurd (let never : ⊥ = cc e in never);
      fresh = λ _. record { no_lines = refl; no_request = refl; no_fault = refl };
      empty = λ _ _. record { no_inbox = refl; no_outbox = refl };
    };
    carried = record { told = tt; is_refused = tt; inbox_is = λ _. refl; outbox_is = λ _. refl; all = tt; nothing_left = λ e. cc e; answered = tt };
  }

  -- a further step of a cell
  steps_push : (cell : ℕ) (history : List (Exchange Q P)) (first value after : C) (one : Exchange Q P) → Steps rules cell first history value → rules.Serves cell value one.request after one.reply → Steps rules cell first (history ++ one ∷ []) after
  steps_push cell [] first value after one steps serves = (after, subst (λ v. rules.Serves cell v one.request after one.reply) steps serves, refl)
  steps_push cell (before ∷ history) first value after one steps serves = (steps.0, steps.1, steps_push cell history steps.0 value after one steps.2 serves)

module _ {Q P C W L : Type 0} (rules : Rules Q P C) where
  module _ (l : LinkWords L) (colour : Colour) (received : List (Message W L Q P)) (sent new : List (Colour × Message W L Q P)) where
    -- a cell that gets what is no request
    pub cell_same : (message : Message W L Q P) (first value : C) → request_in message ≡ None → new ≡ [] → IsCell rules l colour received sent first value → IsCell rules l colour (received ++ message ∷ []) (sent ++ new) first value
    cell_same message first value no_request none kept = record {
      behind = kept.behind;
      there = kept.there;
      history = kept.history;
      asked = filter_map-append request_in received (message ∷ []) ∙ ap (λ o. requests_in received ++ cons_option o []) no_request ∙ append-nil (requests_in received) ∙ kept.asked;
      replied = ap (λ s. replies_sent (sent ++ s)) none ∙ ap replies_sent (append-nil sent) ∙ kept.replied;
      steps = kept.steps;
    }

    -- one that is asked and replies
    pub cell_asked : (first value after : C) (from : ℕ) (request : Q) (reply : P) (to : Colour) → to.0 ≡ from + rules.cells + 1 → rules.Serves (colour.0 - 1) value request after reply
        → new ≡ (to, Reply (colour.0 - 1) reply) ∷ [] → IsCell rules l colour received sent first value → IsCell rules l colour (received ++ Ask from request ∷ []) (sent ++ new) first after
    cell_asked first value after from request reply to to_is serves is kept =
        let one : Exchange Q P = record { peer = from; request = request; reply = reply } in
        record {
          behind = kept.behind;
          there = kept.there;
          history = kept.history ++ one ∷ [];
          asked = filter_map-append request_in received (Ask from request ∷ []) ∙ ap (λ r. r ++ (from, request) ∷ []) kept.asked ∙ sym (map-append (λ (e : Exchange Q P). (e.peer, e.request)) kept.history (one ∷ []));
          replied = filter_map-append (λ (send : Colour × Message W L Q P). at send.0.0 (reply_in send.1)) sent new ∙ ap (λ s. replies_sent sent ++ replies_sent s) is
              ∙ ap (λ r. r ++ (to.0, reply) ∷ []) kept.replied
              ∙ ap (λ n. map (λ (r : ℕ × P). (r.0 + rules.cells + 1, r.1)) (replies_of kept.history) ++ (n, reply) ∷ []) to_is
              ∙ sym (ap (map (λ (r : ℕ × P). (r.0 + rules.cells + 1, r.1))) (map-append (λ (e : Exchange Q P). (e.peer, e.reply)) kept.history (one ∷ [])) ∙ map-append (λ (r : ℕ × P). (r.0 + rules.cells + 1, r.1)) (replies_of kept.history) (replies_of (one ∷ [])));
          steps = steps_push rules (colour.0 - 1) kept.history first value after one kept.steps serves;
        }

    -- a connection that gets a message, and asks
    pub connection_goes : (message : Message W L Q P) (before after : Client L Q P l) (asks : List (ℕ × Q)) → Gets rules message asks (shown_client before) (shown_client after) → requests_sent new ≡ map (λ ask. (ask.0 + 1, ask.1)) asks → AllByRecursion (λ ask. ask.0 < rules.cells) asks
        → IsConnection rules l colour received sent before → IsConnection rules l colour (received ++ message ∷ []) (sent ++ new) after
    connection_goes message before after asks gets sends there kept = record {
      behind = kept.behind;
      asks = kept.asks ++ asks;
      asked = filter_map-append (λ (send : Colour × Message W L Q P). at send.0.0 (request_in send.1)) sent new ∙ ap (λ s. s ++ requests_sent new) kept.asked ∙ ap (λ s. map (λ (ask : ℕ × Q). (ask.0 + 1, ask.1)) kept.asks ++ s) sends
          ∙ sym (map-append (λ (ask : ℕ × Q). (ask.0 + 1, ask.1)) kept.asks asks);
      there = all_both (λ (ask : ℕ × Q). ask.0 < rules.cells) kept.asks asks kept.there there;
      talk = subst (λ r. IsTalk rules (kept.asks ++ asks) r (shown_client after)) (sym (filter_map-append reply_in received (message ∷ [])))
          (gets kept.asks (replies_in received) kept.talk);
    }

    -- one that gets a message which isn't for it
    pub connection_stays : (message : Message W L Q P) (client : Client L Q P l) → reply_in message ≡ None → new ≡ [] → IsConnection rules l colour received sent client → IsConnection rules l colour (received ++ message ∷ []) (sent ++ new) client
    connection_stays message client no_reply none kept = record {
      behind = kept.behind;
      asks = kept.asks;
      asked = ap (λ s. requests_sent (sent ++ s)) none ∙ ap requests_sent (append-nil sent) ∙ kept.asked;
      there = kept.there;
      talk = subst (λ r. IsTalk rules kept.asks r (shown_client client)) (sym (filter_map-append reply_in received (message ∷ []) ∙ ap (λ o. replies_in received ++ cons_option o []) no_reply ∙ append-nil (replies_in received))) kept.talk;
    }

-- a message that is for no connection replies nothing, and one that is comes to a connection
pub not_own : {W L Q P : Type 0} (message : Message W L Q P) → is_own message ≡ false → reply_in message ≡ None
not_own (Poll held) is = refl
not_own (Accept held) is = refl
not_own (Wait client) is = refl
not_own (Open link) is = refl
not_own Wake is = refl
not_own Leave is = refl
not_own (Ask client request) is = refl
not_own (Reply cell reply) is = absurd (let never : ⊥ = cc is in never)

pub own_client : {W L Q P : Type 0} (tells : W → WorldContents) (link_tells : L → Option LinkContents) (is_shut : L → Bool) (cells clients : ℕ) (colour : Colour) (message : Message W L Q P) → is_own message ≡ true → MayGet tells link_tells is_shut cells clients colour message → IsClient cells clients colour
own_client tells link_tells is_shut cells clients colour (Poll held) is may = absurd (let never : ⊥ = cc is in never)
own_client tells link_tells is_shut cells clients colour (Accept held) is may = absurd (let never : ⊥ = cc is in never)
own_client tells link_tells is_shut cells clients colour (Wait client) is may = absurd (let never : ⊥ = cc is in never)
own_client tells link_tells is_shut cells clients colour (Open link) is may = may.0
own_client tells link_tells is_shut cells clients colour Wake is may = may
own_client tells link_tells is_shut cells clients colour Leave is may = may
own_client tells link_tells is_shut cells clients colour (Ask client request) is may = absurd (let never : ⊥ = cc is in never)
own_client tells link_tells is_shut cells clients colour (Reply cell reply) is may = may.0

-- who neither asks nor replies signs nothing
quiet_one : {W L Q P : Type 0} (cells : ℕ) (sender : Colour) (message : Message W L Q P) → IsQuiet message → IsSigned cells sender message
quiet_one cells sender (Poll held) quiet = tt
quiet_one cells sender (Accept held) quiet = tt
quiet_one cells sender (Wait client) quiet = tt
quiet_one cells sender (Open link) quiet = tt
quiet_one cells sender Wake quiet = tt
quiet_one cells sender Leave quiet = tt
quiet_one cells sender (Ask client request) quiet = absurd quiet
quiet_one cells sender (Reply cell reply) quiet = absurd quiet

pub quiet_signed : {W L Q P : Type 0} (cells : ℕ) (sender : Colour) (sends : List (Colour × Message W L Q P)) → AllByRecursion (λ send. IsQuiet send.1) sends → AllByRecursion (λ send. IsSigned cells sender send.1) sends
quiet_signed cells sender [] quiet = tt
quiet_signed cells sender (send ∷ sends) quiet = (quiet_one cells sender send.1 quiet.0, quiet_signed cells sender sends quiet.1)

-- a colour keeps what its part does, and signs what it sends
module _ {Q P C W L : Type 0} (rules : Rules Q P C) (l : LinkWords L) (Begins : ℕ → C → Type 0) (colour : Colour) (received after_received : List (Message W L Q P)) (sent new : List (Colour × Message W L Q P)) (before after : Part C W L Q P l) (signed : AllByRecursion (λ send. IsSigned rules.cells colour send.1) new) where
  pub part_goes : (IsPart rules l Begins colour received sent before → IsPart rules l Begins colour after_received (sent ++ new) after) → KeepsPart rules l Begins colour received sent before → KeepsPart rules l Begins colour after_received (sent ++ new) after
  part_goes goes kept = record {
    signed = all_both (λ (send : Colour × Message W L Q P). IsSigned rules.cells colour send.1) sent new kept.signed signed;
    is = goes kept.is;
  }

-- what a run begins with keeps all that is asked of it
module _ {Q P C W L : Type 0} (rules : Rules Q P C) (l : LinkWords L) (cells : List C) (many : length cells ≡ rules.cells) where
  fresh_part : (number : ℕ) (one : Part C W L Q P l) → IsFresh cells number one → IsPart rules l (IsAt cells) (record { 0 = number }) (let nothing : List (Message W L Q P) = [] in nothing) [] one
  fresh_part number (part.Desk desk) is = is
  fresh_part number (part.Cell value) is = record {
    first = value;
    begins = is.1;
    is = record {
      behind = is.0;
      there = let some = is.0 in let within = slice_get_within cells (number - 1) value is.1 in omega (arith, some, within, many);
      history = [];
      asked = refl;
      replied = refl;
      steps = refl;
    };
  }
  fresh_part number (part.Client client) is = record {
    behind = let far = is.0 in omega (arith, far, many);
    asks = [];
    asked = refl;
    there = tt;
    talk = subst (IsTalk rules [] []) (sym is.1) (talk_begun rules);
  }

  pub fresh_keeps : (number : ℕ) (one : Part C W L Q P l) → IsFresh cells number one → KeepsPart rules l (IsAt cells) (record { 0 = number }) (let nothing : List (Message W L Q P) = [] in nothing) [] one
  fresh_keeps number one is = record { signed = tt; is = fresh_part number one is }
