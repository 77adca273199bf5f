-- What authors' proofs want of lists, and the count of what was received by a known number of
-- colours.
use Rattle.std.proofs.Common.{◌≡◌, ◌<◌, ◌+◌, ◌==◌, ℕ, zero, suc, List, [], ◌∷◌, ◌++◌, if◌then◌else◌, length, refl, sym, ◌∙◌, ap, arith, length-append}
use Rattle.std.proofs.lemmas.List.Sums.{sum_by-cons}
use Rattle.std.specs.List.{AllByRecursion}
use Rattle.std.specs.Prelude.{sum_by}
use Rattle.mely_event.specs.declared.colour.Colour.{Colour}
use Rattle.mely_history.specs.declared.entry.Entry.{Entry}
use Rattle.mely_history.specs.declared.setup.Setup.{Setup}
use Rattle.mely_history.specs.Setup.{colours_of}
use Rattle.mely_app.specs.Puts.{sum_colours}
use Rattle.mely_app.proofs.PutsLemmas.{colours_both, colours_none, colours_one, colours_same}
use Rattle.mely_actor.specs.declared.actor.Actor.{Ghosts as ActorWords}
use Rattle.mely_actor.specs.Received.{AreKept}
use Rattle.mely_actor.specs.Sending.{count_to}

-- what is so of each is so in weaker words
pub all_so : {X : Type 0} (One Other : X → Type 0) (xs : List X) → ((x : X) → One x → Other x) → AllByRecursion One xs → AllByRecursion Other xs
all_so One Other [] so all = tt
all_so One Other (x ∷ xs) so all = (so x all.0, all_so One Other xs so all.1)

-- what was sent behind nothing
pub one_sent : {M : Type 0} (none after : List (Colour × M)) (send : Colour × M) → none ≡ [] → after ≡ none ++ send ∷ [] → after ≡ send ∷ []
one_sent none after send empty is = is ∙ ap (λ l. l ++ send ∷ []) empty

pub one_longer : {A : Type 0} (xs : List A) (x : A) → length (xs ++ x ∷ []) ≡ length xs + 1
one_longer xs x = let all = length-append xs (x ∷ []) in let one : length (x ∷ []) ≡ 1 = refl in omega (arith, all, one)

-- what each colour received is what was posted and sent, where the number of colours is known
pub arrived_by : {A V M : Type 0} (a : ActorWords A V M) (actor : A) (setup : Setup) (posts : List (Colour × M)) (histories : List (List Entry)) (values : List V) (kept : AreKept a actor setup posts histories values) (n : ℕ) → colours_of setup ≡ n → (c : Colour) (number : M → ℕ) → c.0 < n
    → sum_by number (kept.received c) ≡ count_to c number posts + sum_colours n (λ d. count_to c number (kept.sent d))
arrived_by a actor setup posts histories values kept n colours c number low =
    let counts = kept.arrived c (omega (arith, low, colours)) number in
    let many = ap (λ k. sum_colours k (λ d. count_to c number (kept.sent d))) colours in
    omega (arith, counts, many)

-- sums over two numbers of colours may be turned around
pub colours_turned : (n m : ℕ) (f : Colour → Colour → ℕ) → sum_colours n (λ c. sum_colours m (f c)) ≡ sum_colours m (λ d. sum_colours n (λ c. f c d))
colours_turned zero m f = sym (colours_none m)
colours_turned (suc n) m f =
    let rest = colours_turned n m f in
    let both = colours_both m (λ d. sum_colours n (λ c. f c d)) (f (record { 0 = n })) in
    omega (arith, rest, both)

-- what is sent to all colours is all that is sent
pub counted_in_all : {M : Type 0} (n : ℕ) (number : M → ℕ) (sends : List (Colour × M)) → AllByRecursion (λ send. send.0.0 < n) sends → sum_colours n (λ c. count_to c number sends) ≡ sum_by (λ send. number send.1) sends
counted_in_all n number [] there = colours_none n
counted_in_all {M} n number (send ∷ sends) there =
    let rest = counted_in_all n number sends there.1 in
    let one = colours_one n send.0 (number send.1) there.0 in
    let both = colours_both n (λ c. if send.0.0 == c.0 then number send.1 else 0) (λ c. count_to c number sends) in
    let first = sum_by-cons (λ (s : Colour × M). number s.1) send sends in
    let each = colours_same n (λ c. count_to c number (send ∷ sends)) (λ c. (if send.0.0 == c.0 then number send.1 else 0) + count_to c number sends) (λ c _. sum_by-cons (λ (s : Colour × M). if s.0.0 == c.0 then number s.1 else 0) send sends) in
    omega (arith, rest, one, both, first, each)

-- what all colours received is what was posted and what all sent, where each is sent to a colour
-- that there is
pub arrived_in_all : {M : Type 0} (n : ℕ) (number : M → ℕ) (posts : List (Colour × M)) (received : Colour → List M) (sent : Colour → List (Colour × M)) → AllByRecursion (λ send. send.0.0 < n) posts → ((d : Colour) → d.0 < n → AllByRecursion (λ send. send.0.0 < n) (sent d))
    → ((c : Colour) → c.0 < n → sum_by number (received c) ≡ count_to c number posts + sum_colours n (λ d. count_to c number (sent d)))
    → sum_colours n (λ c. sum_by number (received c)) ≡ sum_by (λ post. number post.1) posts + sum_colours n (λ d. sum_by (λ send. number send.1) (sent d))
arrived_in_all n number posts received sent there all arrived =
    let each = colours_same n (λ c. sum_by number (received c)) (λ c. count_to c number posts + sum_colours n (λ d. count_to c number (sent d))) arrived in
    let both = colours_both n (λ c. count_to c number posts) (λ c. sum_colours n (λ d. count_to c number (sent d))) in
    let posted = counted_in_all n number posts there in
    let turned = colours_turned n n (λ c d. count_to c number (sent d)) in
    let sends = colours_same n (λ d. sum_colours n (λ c. count_to c number (sent d))) (λ d. sum_by (λ send. number send.1) (sent d)) (λ d low. counted_in_all n number (sent d) (all d low)) in
    omega (arith, each, both, posted, turned, sends)
