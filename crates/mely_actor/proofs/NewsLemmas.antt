-- What the runs of one colour send, each with whether a message sent it or it was posted, and what of
-- it is sent to another.
use Rattle.std.proofs.Common.{◌≡◌, ◌+◌, ◌==◌, ℕ, Bool, true, false, List, [], ◌∷◌, ◌++◌, Option, Some, None, if◌then◌else◌, map, refl, sym, ◌∙◌, ap, arith, zero-add}
use Rattle.std.proofs.lemmas.Grind.{flat_map-append}
use Rattle.std.proofs.lemmas.List.Elements.{filter_map-append}
use Rattle.std.proofs.lemmas.List.Sums.{sum_by-cons}
use Rattle.std.specs.List.{cons_option, filter_map, flat_map, sum_by}
use Rattle.mely_event.specs.declared.colour.Colour.{Colour}
use Rattle.mely_event.specs.declared.event.Event.{Event}
use Rattle.mely_actor.specs.declared.load.Load.{Load}
use Rattle.mely_actor.specs.declared.load.Load.TheVariants.{Posts, Message}
use Rattle.mely_actor.specs.Loads.{message_of, messages_of}
use Rattle.mely_actor.specs.Sending.{count_to, sends_to}

-- the posts that a load has, and those of all loads
abbrev pub posts_of : {M : Type 0} → Option (Load M) → List (Colour × M)
posts_of (Some (Posts all)) = all.items
posts_of (Some (Message message)) = []
posts_of None = []

abbrev pub posts_in : {M : Type 0} → List (Event × Option (Load M)) → List (Colour × M)
posts_in loads = flat_map (λ load. posts_of load.1) loads

-- the sender of what a colour put
abbrev pub sender_of : Colour → Bool → Option Colour
sender_of d own = if own then Some d else None

module _ {M : Type 0} where
  -- what is sent, those that messages sent or those that were posted, or both
  abbrev pub picked : Bool → Bool → List (Bool × (Colour × M)) → List (Colour × M)
  picked own posted news = filter_map (λ one. if (if one.0 then own else posted) then Some one.1 else None) news

  abbrev pub own_news : List (Bool × (Colour × M)) → List (Colour × M)
  own_news news = picked true false news

  abbrev pub posted_news : List (Bool × (Colour × M)) → List (Colour × M)
  posted_news news = picked false true news

  abbrev pub all_news : List (Bool × (Colour × M)) → List (Colour × M)
  all_news news = map (λ one. one.1) news

  -- what is sent to a colour
  abbrev pub news_to : Colour → List (Bool × (Colour × M)) → List (Bool × M)
  news_to c news = filter_map (λ one. if one.1.0.0 == c.0 then Some (one.0, one.1.1) else None) news

  abbrev pub as_news : Bool → List (Colour × M) → List (Bool × (Colour × M))
  as_news own sends = map (λ send. (own, send)) sends

  -- what of it has such a sender, where this colour put it
  abbrev pub passing : (Option Colour → Bool) → Colour → List (Bool × M) → List M
  passing test d some = filter_map (λ one. if test (sender_of d one.0) then Some one.1 else None) some

  pub all-as : (own : Bool) (sends : List (Colour × M)) → all_news (as_news own sends) ≡ sends
  all-as own [] = refl
  all-as own (send ∷ sends) = ap (λ l. send ∷ l) (all-as own sends)

  pub all-picked : (own : Bool) (sends : List (Colour × M)) → picked own (if own then false else true) (as_news own sends) ≡ sends
  all-picked own [] = refl
  all-picked true (send ∷ sends) = ap (λ l. send ∷ l) (all-picked true sends)
  all-picked false (send ∷ sends) = ap (λ l. send ∷ l) (all-picked false sends)

  pub none-picked : (own : Bool) (sends : List (Colour × M)) → picked (if own then false else true) own (as_news own sends) ≡ []
  none-picked own [] = refl
  none-picked true (send ∷ sends) = none-picked true sends
  none-picked false (send ∷ sends) = none-picked false sends

  pub neither-picked : (news : List (Bool × (Colour × M))) → picked false false news ≡ []
  neither-picked [] = refl
  neither-picked ((true, send) ∷ news) = neither-picked news
  neither-picked ((false, send) ∷ news) = neither-picked news

  pub all-news_to : (c : Colour) (news : List (Bool × (Colour × M))) → map (λ one. one.1) (news_to c news) ≡ sends_to c (all_news news)
  all-news_to c [] = refl
  all-news_to c (one ∷ news) = for (one.1.0.0 == c.0) (all-news_to c news) where
    for : (here : Bool) → map (λ x. x.1) (news_to c news) ≡ sends_to c (all_news news) → map (λ x. x.1) (cons_option (if here then Some (one.0, one.1.1) else None) (news_to c news)) ≡ cons_option (if here then Some one.1.1 else None) (sends_to c (all_news news))
    for true rest = ap (λ l. one.1.1 ∷ l) rest
    for false rest = rest

  -- ---- one after another

  pub picked-append : (own posted : Bool) (news more : List (Bool × (Colour × M))) → picked own posted (news ++ more) ≡ picked own posted news ++ picked own posted more
  picked-append own posted news more = filter_map-append (λ (one : Bool × (Colour × M)). if (if one.0 then own else posted) then Some one.1 else None) news more

  pub to-append : (c : Colour) (sends more : List (Colour × M)) → sends_to c (sends ++ more) ≡ sends_to c sends ++ sends_to c more
  to-append c sends more = filter_map-append (λ (send : Colour × M). if send.0.0 == c.0 then Some send.1 else None) sends more

  pub messages-append : (loads more : List (Event × Option (Load M))) → messages_of (loads ++ more) ≡ messages_of loads ++ messages_of more
  messages-append loads more = filter_map-append (λ (load : Event × Option (Load M)). message_of load.1) loads more

  pub posts-append : (loads more : List (Event × Option (Load M))) → posts_in (loads ++ more) ≡ posts_in loads ++ posts_in more
  posts-append loads more = flat_map-append (λ (load : Event × Option (Load M)). posts_of load.1) loads more

  -- what has such a sender of what is sent to a colour is sent to it, of what has such a sender
  module _ (test : Option Colour → Bool) (d c : Colour) where
    behind : (own kind here : Bool) (m : M) (some : List (Bool × M)) → test (sender_of d kind) ≡ own → passing test d (cons_option (if here then Some (kind, m) else None) some) ≡ (if own then cons_option (if here then Some m else None) (passing test d some) else passing test d some)
    behind true kind true m some is = ap (λ b. cons_option (if b then Some m else None) (passing test d some)) is
    behind false kind true m some is = ap (λ b. cons_option (if b then Some m else None) (passing test d some)) is
    behind true kind false m some is = refl
    behind false kind false m some is = refl

    pub news-passed : (own posted : Bool) → test (Some d) ≡ own → test None ≡ posted → (news : List (Bool × (Colour × M))) → passing test d (news_to c news) ≡ sends_to c (picked own posted news)
    news-passed own posted is none [] = refl
    news-passed true posted is none ((true, send) ∷ news) = behind true true (send.0.0 == c.0) send.1 (news_to c news) is ∙ ap (λ l. cons_option (if send.0.0 == c.0 then Some send.1 else None) l) (news-passed true posted is none news)
    news-passed false posted is none ((true, send) ∷ news) = behind false true (send.0.0 == c.0) send.1 (news_to c news) is ∙ news-passed false posted is none news
    news-passed own true is none ((false, send) ∷ news) = behind true false (send.0.0 == c.0) send.1 (news_to c news) none ∙ ap (λ l. cons_option (if send.0.0 == c.0 then Some send.1 else None) l) (news-passed own true is none news)
    news-passed own false is none ((false, send) ∷ news) = behind false false (send.0.0 == c.0) send.1 (news_to c news) none ∙ news-passed own false is none news

  -- ---- their numbers

  module _ (c : Colour) (number : M → ℕ) where
    pub sends-counted : (sends : List (Colour × M)) → sum_by number (sends_to c sends) ≡ count_to c number sends
    sends-counted [] = refl
    sends-counted (send ∷ sends) =
        let rest = sends-counted sends in
        let first = sum_by-cons (λ (s : Colour × M). if s.0.0 == c.0 then number s.1 else 0) send sends in
        let here = for (send.0.0 == c.0) in
        omega (arith, rest, first, here)
      where
        for : (here : Bool) → sum_by number (cons_option (if here then Some send.1 else None) (sends_to c sends)) ≡ (if here then number send.1 else 0) + sum_by number (sends_to c sends)
        for true = sum_by-cons number send.1 (sends_to c sends)
        for false = sym (zero-add (sum_by number (sends_to c sends)))

    pub news-counted : (news : List (Bool × (Colour × M))) → count_to c number (all_news news) ≡ count_to c number (own_news news) + count_to c number (posted_news news)
    news-counted [] = refl
    news-counted ((true, send) ∷ news) =
        let rest = news-counted news in
        let all = sum_by-cons (λ (s : Colour × M). if s.0.0 == c.0 then number s.1 else 0) send (all_news news) in
        let own = sum_by-cons (λ (s : Colour × M). if s.0.0 == c.0 then number s.1 else 0) send (own_news news) in
        omega (arith, rest, all, own)
    news-counted ((false, send) ∷ news) =
        let rest = news-counted news in
        let all = sum_by-cons (λ (s : Colour × M). if s.0.0 == c.0 then number s.1 else 0) send (all_news news) in
        let own = sum_by-cons (λ (s : Colour × M). if s.0.0 == c.0 then number s.1 else 0) send (posted_news news) in
        omega (arith, rest, all, own)
