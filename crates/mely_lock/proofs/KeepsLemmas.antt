-- Each kind of step keeps the rule, and its seat knows what it tells.
use Rattle.std.proofs.Common.{◌≡◌, ℕ, zero, suc, eqb, ne_eqb, ◌+◌, ◌%◌, ◌^◌, ◌<◌, ◌≤◌, ◌≢◌, Bool, true, false, List, [], ◌∷◌, ◌++◌, length, get_or, set, replicate, sum_by, sym, refl, ap, ◌∙◌, subst, inl, inr, ⊎_elim, arith, length-set, length-append, get_or-set_other, get_or-set_same, Option, Some, None}
use Rattle.std.specs.List.{AllByRecursion}
use Rattle.std.proofs.lemmas.List.Sums.{sum_by_push, sum_by-cons, count_by-le-length}
use mathlib.Core.Option as place
use mathlib.Core.Option.{some, none, some-injective, some-ne-none}
use mathlib.Core.Logic.{dite}
use native.Mathlib.Decide.{ℕ_discrete, dec_le}
use lib.ListN.{get_elem?}
use lib.Seq.{set-get_or}
use prog.Atomic.{either}
use Rattle.atomic_table.specs.Table.{State, keeps, takes, gives, stepped, Allows, Enters, Splits, Joins, Final, Seen, opening}
use Rattle.atomic_table.proofs.Lists.{set_again, set_else, at_longer}
use Rattle.mely_lock.specs.declared.claim.Claim.{Claim}
use Rattle.mely_lock.specs.declared.seat_knowledge.SeatKnowledge.{SeatKnowledge}
use Rattle.mely_lock.specs.Seen.{notes_of, OthersSince}
use Rattle.mely_lock.specs.Views.{view, outside, within, nobody, initial_claims, initial_view, shares_of}
use Rattle.mely_lock.specs.Rule.{inside_word, notes_word, lock_words, EachAt, EachClaim, IsOpen, IsShut, IsHome, EachOnce, Locked}
use Rattle.mely_lock.specs.Steps.{Seat, claim_with_front, seat_outside, seat_inside, Tried, Noted, Left, Closes, join_knowledge}
use Rattle.mely_lock.proofs.ListsLemmas.{set_there, only_one, Each-append, each_set, each_push, sum-set, sum_same, sum_one, sum_two, sum_but_one}
use Rattle.mely_lock.proofs.ClaimsLemmas.{shares_of-append, share_of_same, share_of_other, length-initial_claims, shares_of-initial_claims}
use Rattle.mely_lock.proofs.SeenLemmas.{none_more, since_itself, since_more}

not_both : (b : Bool) → b ≡ false → b ≡ true → ⊥
not_both b off on = cc

off_unless : (b : Bool) → (b ≡ true → ⊥) → b ≡ false
off_unless false never = refl
off_unless true never = absurd (never refl)

module _ {N F : Type 0} where
  abbrev pub head_claim : Claim N F → List (Claim N F) → Claim N F
  head_claim d [] = d
  head_claim d (c ∷ cs) = c

  same_within : (c d : Claim N F) → some (within c) ≡ some (within d) → c ≡ d
  same_within c d e = ap (λ (v : SeatKnowledge N F). head_claim c v.claims) (some-injective (within c) (within d) e)

abbrev value_of : {W : Type 0} → W → List (ℕ × Option W) → W
value_of d [] = d
value_of {W} d (h ∷ hs) = elim h.1 as (λ _. W) [ Some x ↦ x | None ↦ d ]

-- the words of a new lock
abbrev pub new_words : List ℕ
new_words = replicate lock_words 0

-- where the slots of a table are: each at home with its value, or out
abbrev Homes : Type 0 → Type 0
Homes W = List (place.Option (Option W))

module _ {W N F : Type 0} where
  same_waiting : (c d : Claim N F) → ◌≡◌ {A = Seat W N F} (seat_outside c) (seat_outside d) → c ≡ d
  same_waiting c d e = ap (λ (m : Seat W N F). head_claim c m.0.claims) e

  same_holding : (c d : Claim N F) (x y : W) → ◌≡◌ {A = Seat W N F} (seat_inside c (Some x)) (seat_inside d (Some y)) → (c ≡ d) × (x ≡ y)
  same_holding c d x y e = (ap (λ (m : Seat W N F). head_claim c m.0.claims) e, ap (λ (m : Seat W N F). value_of x m.1) e)

module _ {W N F : Type 0} (history_of : W → List N) (pass_of : N → ℕ) (frame_of : W → F) (frame : F) (passes : ℕ) where
  abbrev Lock : Type 0
  Lock = State (Option W) (SeatKnowledge N F)

  abbrev Rule : Lock → Type 0
  Rule = Locked history_of pass_of frame_of frame passes

  -- where nobody is inside by the words, nobody is
  open_if_free : (s : Lock) (r : Rule s) → get_or s.words inside_word 0 ≡ 0 → IsOpen s
  open_if_free s r free = ⊎_elim (λ (o : IsOpen s). o) (λ (h : IsShut s). let t = h.taken in absurd (omega arith)) r.door

  -- a seat that is inside is the one that the door knows
  shut_by : (id : ℕ) (c : Claim N F) (s : Lock) (r : Rule s) → get_elem? s.views id ≡ some (within c) → (h : IsShut s) × (h.holder ≡ c) × (id ≡ h.seat)
  shut_by id c s r at = ⊎_elim (λ (o : IsOpen s). absurd (not_both true (o.all_outside id (within c) at) refl))
      (λ (h : IsShut s). let same = h.alone id (within c) at refl in
      (h, same_within h.holder c (sym h.there ∙ (ap (λ (k : ℕ). get_elem? s.views k) (sym same) ∙ at)), same)) r.door

  -- the number of a seat with one claim is a pass's, and in no other seat
  held_once : (id : ℕ) (c : Claim N F) (inside : Bool) (s : Lock) (r : Rule s) → get_elem? s.views id ≡ some (view (c ∷ []) inside)
      → (c.number < passes) × ((k : ℕ) (v : SeatKnowledge N F) → k ≢ id → get_elem? s.views k ≡ some v → shares_of c.number v.claims ≡ 0)
  held_once id c inside s r at = let shares : SeatKnowledge N F → ℕ = λ v. shares_of c.number v.claims in let mine : shares_of c.number (c ∷ []) ≡ 1 = share_of_same c.number c [] refl in
      let one = sum_one shares s.views id (view (c ∷ []) inside) at in dite (dec_le passes c.number)
      (λ above. let none_there = r.numbers.never c.number above in absurd (omega arith))
      (λ below. let less : c.number < passes = omega arith in (less, λ k v ne there. let two = sum_two shares s.views id k (view (c ∷ []) inside) v (λ e. ne (sym e)) at there in let all = r.numbers.once c.number less in omega arith))

  -- the fourth part, once the only claim of a seat has seen more, whether that
  -- seat comes in or goes out
  each_once : (id : ℕ) (c : Claim N F) (was now : Bool) (history history' front : List N) (views : List (SeatKnowledge N F)) → get_elem? views id ≡ some (view (c ∷ []) was) → EachOnce pass_of passes history views
      → OthersSince pass_of c.number front history' → ((k : ℕ) (v : SeatKnowledge N F) → k ≢ id → get_elem? views k ≡ some v → AllByRecursion (λ d. OthersSince pass_of d.number d.front history') v.claims)
      → ((n : ℕ) → passes ≤ n → notes_of pass_of n history' ≡ []) → EachOnce pass_of passes history' (set views id (view (claim_with_front c front ∷ []) now))
  each_once id c was now history history' front views at numbers mine others strangers = let v : SeatKnowledge N F = view (c ∷ []) was in let w : SeatKnowledge N F = view (claim_with_front c front ∷ []) now in record {
    once = λ n l. sum_same (λ (u : SeatKnowledge N F). shares_of n u.claims) views id v w at refl ∙ numbers.once n l;
    never = λ n l. sum_same (λ (u : SeatKnowledge N F). shares_of n u.claims) views id v w at refl ∙ numbers.never n l;
    together = sum_same (λ (u : SeatKnowledge N F). length u.claims) views id v w at refl ∙ numbers.together;
    fronts = each_set (λ _ u. AllByRecursion (λ (d : Claim N F). OthersSince pass_of d.number d.front history') u.claims) views id w (mine, tt) others;
    strangers = strangers;
  }

  -- the frames that the seats were told stay
  frames_stay : (id : ℕ) (c : Claim N F) (was now : Bool) (front : List N) (views : List (SeatKnowledge N F)) → get_elem? views id ≡ some (view (c ∷ []) was) → EachClaim (λ d. d.frame ≡ frame) views
      → EachClaim (λ d. d.frame ≡ frame) (set views id (view (claim_with_front c front ∷ []) now))
  frames_stay id c was now front views at told = each_set (λ _ u. AllByRecursion (λ (d : Claim N F). d.frame ≡ frame) u.claims) views id (view (claim_with_front c front ∷ []) now) ((told id (view (c ∷ []) was) at).0, tt) (λ k v _. told k v)

  no_home : (homes : Homes W) (x y : W) → homes ≡ some (Some x) ∷ [] → set homes 0 none ≡ some (Some y) ∷ [] → ⊥
  no_home homes x y e q = some-ne-none (Some y) (sym (ap (λ (l : Homes W). get_or l 0 none) (ap (λ (l : Homes W). set l 0 none) (sym e) ∙ q)))

  -- a try that finds nobody inside
  comes_in : (id : ℕ) (c : Claim N F) (s : Lock) (r : Rule s) (o : IsOpen s) (x : W) → IsHome x s → get_elem? s.views id ≡ some (outside c)
      → Rule (stepped s inside_word (c.number + 1) id [] (within (claim_with_front c (history_of x))) (takes 0 (Some x)))
  comes_in id c s r o x home at = let w : SeatKnowledge N F = within (claim_with_front c (history_of x)) in let whole : history_of x ≡ r.history = r.tells.home o x home in let wide = r.words in
      let taken : get_or (set s.words inside_word (c.number + 1)) inside_word 0 ≡ c.number + 1 = get_or-set_same s.words inside_word (c.number + 1) 0 (omega arith) in
      let not_open : IsOpen (stepped s inside_word (c.number + 1) id [] w (takes 0 (Some x))) → ⊥ = λ o'. let free = o'.free in absurd (omega arith) in record {
        history = r.history;
        words = length-set s.words inside_word (c.number + 1) ∙ wide;
        door = inr record {
          seat = id;
          holder = claim_with_front c (history_of x);
          taken = taken;
          there = set_there s.views id (outside c) w at;
          alone = each_set (λ k v. v.inside ≡ true → k ≡ id) s.views id w (λ _. refl) (λ k v _ there on. absurd (not_both v.inside (o.all_outside k v there) on));
        };
        away = λ o'. absurd (not_open o');
        tells = record {
          counted = get_or-set_other s.words inside_word notes_word (c.number + 1) 0 (λ e. omega arith) ∙ r.tells.counted;
          home = λ o' _ _. absurd (not_open o');
          inside = each_set (λ _ v. v.inside ≡ true → AllByRecursion (λ (d : Claim N F). d.front ≡ r.history) v.claims) s.views id w (λ _. (whole, tt)) (λ k v _ there on. absurd (not_both v.inside (o.all_outside k v there) on));
        };
        numbers = each_once id c false true r.history r.history (history_of x) s.views at r.numbers (subst (λ (l : List N). OthersSince pass_of c.number (history_of x) l) whole (since_itself pass_of c.number (history_of x))) (λ k v _. r.numbers.fronts k v) r.numbers.strangers;
        frames = record { told = frames_stay id c false true (history_of x) s.views at r.frames.told; home = λ y there. absurd (no_home s.homes x y home there) };
      }

  -- a try that is refused
  unmoved : (id : ℕ) (c : Claim N F) (s : Lock) (r : Rule s) → get_elem? s.views id ≡ some (outside c) → Rule (stepped s inside_word (get_or s.words inside_word 0) id [] (outside c) keeps)
  unmoved id c s r at = let P : List ℕ × List (SeatKnowledge N F) → Type 0 = λ t. Rule record { words = t.0; homes = s.homes; views = t.1 } in
      subst P (λ i. (sym (set-get_or s.words inside_word 0) i, sym (set_again s.views id (outside c) at) i)) r

  pub tries : (id : ℕ) (c : Claim N F) → Allows Rule 1 id (seat_outside c) inside_word (λ n. either (eqb n 0) (c.number + 1) n) (Tried history_of pass_of frame_of (seat_outside c))
  tries id c s r deep at fits = let n : ℕ = get_or s.words inside_word 0 in ⊎_elim
      (λ (o : IsOpen s). let home = r.away o in let x : W = home.0 in let whole : history_of x ≡ r.history = r.tells.home o x home.1 in
      let now : either (eqb n 0) (c.number + 1) n ≡ c.number + 1 = ap (λ (z : ℕ). either (eqb z 0) (c.number + 1) z) o.free in (
        within (claim_with_front c (history_of x)),
        takes 0 (Some x),
        ap (λ hs. get_elem? hs 0) home.1,
        subst (λ (z : ℕ). Rule (stepped s inside_word z id [] (within (claim_with_front c (history_of x))) (takes 0 (Some x)))) (sym now) (comes_in id c s r o x home.1 at),
        (
          (λ ne. absurd (ne o.free)),
          λ _ d e. let same : c ≡ d = same_waiting {W = W} c d e in (
            x,
            ap (λ (k : Claim N F). seat_inside (claim_with_front k (history_of x)) (Some x)) same,
            let P : Claim N F → Type 0 = λ k. OthersSince pass_of k.number k.front (history_of x) × (frame_of x ≡ k.frame) in
                subst P same (subst (λ (l : List N). OthersSince pass_of c.number c.front l) (sym whole) (r.numbers.fronts id (outside c) at).0, r.frames.home x home.1 ∙ sym (r.frames.told id (outside c) at).0),
          ),
        ),
      ))
      (λ (h : IsShut s). let taken = h.taken in let ne : n ≢ 0 = λ e. omega arith in let now : either (eqb n 0) (c.number + 1) n ≡ n = ap (λ b. either b (c.number + 1) n) (ne_eqb n 0 ne) in
      (outside c, keeps, tt, subst (λ (z : ℕ). Rule (stepped s inside_word z id [] (outside c) keeps)) (sym now) (unmoved id c s r at), ((λ _. refl), λ e. absurd (ne e)))) r.door

  -- a note of a number that these claims lack
  fronts_more : (history : List N) (note : N) (cs : List (Claim N F)) → shares_of (pass_of note) cs ≡ 0 → AllByRecursion (λ d. OthersSince pass_of d.number d.front history) cs → AllByRecursion (λ d. OthersSince pass_of d.number d.front (history ++ note ∷ [])) cs
  fronts_more history note [] z k = tt
  fronts_more history note (d ∷ ds) z k = dite (ℕ_discrete d.number (pass_of note))
      (λ same. let one = share_of_same (pass_of note) d ds same in absurd (omega arith))
      (λ ne. let other = share_of_other (pass_of note) d ds ne in (since_more pass_of d.number d.front history note (λ q. ne (sym q)) k.0, fronts_more history note ds (omega arith) k.1))

  pub notes : (id : ℕ) (c : Claim N F) (x : W) (note : N) → history_of x ≡ c.front ++ note ∷ [] → pass_of note ≡ c.number → length (history_of x) < 2 ^ 64
      → Allows Rule 1 id (seat_inside c (Some x)) notes_word (λ n. (n + 1) % 2 ^ 64) (λ _. Noted history_of (seat_inside c (Some x)))
  notes id c x note grew own fits s r deep at _ = let w : SeatKnowledge N F = within (claim_with_front c (history_of x)) in let h = shut_by id c s r at in let once = held_once id c true s r at in let wide = r.words in let n : ℕ = get_or s.words notes_word 0 in
      let old : c.front ≡ r.history = (r.tells.inside id (within c) at refl).0 in
      let now : history_of x ≡ r.history ++ note ∷ [] = grew ∙ ap (λ (l : List N). l ++ note ∷ []) old in
      let more : length (history_of x) ≡ length r.history + 1 = ap length now ∙ length-append r.history (note ∷ []) in let long = r.tells.counted in
      let next : (n + 1) % 2 ^ 64 ≡ length (history_of x) = omega arith in
      let taken : get_or (set s.words notes_word ((n + 1) % 2 ^ 64)) inside_word 0 ≡ c.number + 1 = get_or-set_other s.words notes_word inside_word ((n + 1) % 2 ^ 64) 0 (λ q. omega arith) ∙ (h.0.taken ∙ ap (λ (k : Claim N F). k.number + 1) h.1) in
      let not_open : IsOpen (stepped s notes_word ((n + 1) % 2 ^ 64) id ((0, Some x) ∷ []) w keeps) → ⊥ = λ o'. let free = o'.free in absurd (omega arith) in (
        w,
        keeps,
        tt,
        record {
          history = history_of x;
          words = length-set s.words notes_word ((n + 1) % 2 ^ 64) ∙ wide;
          door = inr record {
            seat = id;
            holder = claim_with_front c (history_of x);
            taken = taken;
            there = set_there s.views id (within c) w at;
            alone = each_set (λ k v. v.inside ≡ true → k ≡ id) s.views id w (λ _. refl) (λ k v _ there on. h.0.alone k v there on ∙ sym h.2);
          };
          away = λ o'. absurd (not_open o');
          tells = record {
            counted = get_or-set_same s.words notes_word ((n + 1) % 2 ^ 64) 0 (omega arith) ∙ next;
            home = λ o' _ _. absurd (not_open o');
            inside = each_set (λ _ v. v.inside ≡ true → AllByRecursion (λ (d : Claim N F). d.front ≡ history_of x) v.claims) s.views id w (λ _. (refl, tt)) (λ k v ne there on. absurd (ne (h.0.alone k v there on ∙ sym h.2)));
          };
          numbers = each_once id c true true r.history (history_of x) (history_of x) s.views at r.numbers (since_itself pass_of c.number (history_of x))
              (λ k v ne there. subst (λ (l : List N). AllByRecursion (λ (d : Claim N F). OthersSince pass_of d.number d.front l) v.claims) (sym now) (fronts_more r.history note v.claims (ap (λ (q : ℕ). shares_of q v.claims) own ∙ once.1 k v ne there) (r.numbers.fronts k v there)))
              (λ q above. ap (notes_of pass_of q) now ∙ none_more pass_of q r.history note (λ e. let below = once.0 in omega arith) (r.numbers.strangers q above));
          frames = record { told = frames_stay id c true true (history_of x) s.views at r.frames.told; home = r.frames.home };
        },
        λ d y same. let both = same_holding c d x y same in let P : Claim N F → W → Seat W N F = λ k z. seat_inside (claim_with_front k (history_of z)) (Some z) in λ i. P (both.0 i) (both.1 i),
      )

  same_home : (homes : Homes W) (x y : W) → length homes ≡ 1 → set homes 0 (some (Some x)) ≡ some (Some y) ∷ [] → x ≡ y
  same_home homes x y deep q = let e : some (Some x) ≡ some (Some y) = ap (λ (l : Homes W). get_or l 0 none) (sym (only_one homes (some (Some x)) deep) ∙ q) in cc

  pub leaves : (id : ℕ) (c : Claim N F) (x : W) → history_of x ≡ c.front → frame_of x ≡ c.frame
      → Allows Rule 1 id (seat_inside c (Some x)) inside_word (λ _. 0) (λ _. Left (seat_inside c (Some x)))
  leaves id c x whole framed s r deep at _ = let w : SeatKnowledge N F = outside c in let h = shut_by id c s r at in let wide = r.words in
      let old : c.front ≡ r.history = (r.tells.inside id (within c) at refl).0 in let told : c.frame ≡ frame = (r.frames.told id (within c) at).0 in (
        w,
        gives,
        tt,
        record {
          history = r.history;
          words = length-set s.words inside_word 0 ∙ wide;
          door = inl record {
            free = get_or-set_same s.words inside_word 0 0 (omega arith);
            all_outside = each_set (λ _ v. v.inside ≡ false) s.views id w refl (λ k v ne there. off_unless v.inside (λ on. ne (h.0.alone k v there on ∙ sym h.2)));
          };
          away = λ _. (x, only_one s.homes (some (Some x)) deep);
          tells = record {
            counted = get_or-set_other s.words inside_word notes_word 0 0 (λ e. omega arith) ∙ r.tells.counted;
            home = λ _ y there. ap history_of (sym (same_home s.homes x y deep there)) ∙ (whole ∙ old);
            inside = each_set (λ _ v. v.inside ≡ true → AllByRecursion (λ (d : Claim N F). d.front ≡ r.history) v.claims) s.views id w (λ on. absurd (not_both false refl on)) (λ k v _. r.tells.inside k v);
          };
          numbers = each_once id c true false r.history r.history c.front s.views at r.numbers (r.numbers.fronts id (within c) at).0 (λ k v _. r.numbers.fronts k v) r.numbers.strangers;
          frames = record { told = frames_stay id c true false c.front s.views at r.frames.told; home = λ y there. ap frame_of (sym (same_home s.homes x y deep there)) ∙ (framed ∙ told) };
        },
        λ d y same. ap (λ (k : Claim N F). seat_outside k) (same_holding c d x y same).0,
      )

  -- claims may come to other seats, where no seat inside is touched: what keeps each claim and
  -- every sum over them keeps the rule
  regrouped : (s : Lock) (views : List (SeatKnowledge N F)) → Rule s
      → ((P : Claim N F → Type 0) → EachClaim P s.views → EachClaim P views)
      → ((g : List (Claim N F) → ℕ) → ((cs ds : List (Claim N F)) → g (cs ++ ds) ≡ g cs + g ds) → sum_by (λ v. g v.claims) views ≡ sum_by (λ v. g v.claims) s.views)
      → EachAt (λ k v. v.inside ≡ true → get_elem? s.views k ≡ some v) views
      → ((k : ℕ) (c : Claim N F) → get_elem? s.views k ≡ some (within c) → get_elem? views k ≡ some (within c))
      → Rule record { words = s.words; homes = s.homes; views = views }
  regrouped s views r claims sums inside stay = record {
    history = r.history;
    words = r.words;
    door = ⊎_elim (λ (o : IsOpen s). inl record { free = o.free; all_outside = λ k v at. off_unless v.inside (λ on. not_both v.inside (o.all_outside k v (inside k v at on)) on) })
        (λ (h : IsShut s). inr record { seat = h.seat; holder = h.holder; taken = h.taken; there = stay h.seat h.holder h.there; alone = λ k v at on. h.alone k v (inside k v at on) on }) r.door;
    away = λ o. r.away (open_if_free s r o.free);
    tells = record { counted = r.tells.counted; home = λ o. r.tells.home (open_if_free s r o.free); inside = λ k v at on. r.tells.inside k v (inside k v at on) on };
    numbers = record {
      once = λ n l. sums (shares_of n) (shares_of-append n) ∙ r.numbers.once n l;
      never = λ n l. sums (shares_of n) (shares_of-append n) ∙ r.numbers.never n l;
      together = sums length length-append ∙ r.numbers.together;
      fronts = claims _ r.numbers.fronts;
      strangers = r.numbers.strangers;
    };
    frames = record { told = claims _ r.frames.told; home = r.frames.home };
  }

  -- a seat that is outside is not one that is inside
  apart : (id k : ℕ) (v : SeatKnowledge N F) (c : Claim N F) (views : List (SeatKnowledge N F)) → get_elem? views id ≡ some v → v.inside ≡ false → get_elem? views k ≡ some (within c) → k ≢ id
  apart id k v c views at out there e = let same : v ≡ within c = some-injective v (within c) (sym at ∙ (ap (λ (j : ℕ). get_elem? views j) (sym e) ∙ there)) in
      not_both v.inside out (ap (λ (u : SeatKnowledge N F). u.inside) same)

  pub splits : (id : ℕ) (c : Claim N F) (cs : List (Claim N F)) → Splits Rule id (view (c ∷ cs) false) (view cs false) (outside c)
  splits id c cs s r at = let v : SeatKnowledge N F = view (c ∷ cs) false in let l : SeatKnowledge N F = view cs false in let left : List (SeatKnowledge N F) = set s.views id l in regrouped s (left ++ outside c ∷ []) r
      (λ P all. each_push (λ _ u. AllByRecursion P u.claims) left (outside c) (λ _. ((all id v at).0, tt)) (each_set (λ _ u. AllByRecursion P u.claims) s.views id l (all id v at).1 (λ k u _. all k u)))
      (λ g add. let moved = sum-set (λ (u : SeatKnowledge N F). g u.claims) s.views id v l at in let more = sum_by_push (λ (u : SeatKnowledge N F). g u.claims) left (outside c) in let both : g (c ∷ cs) ≡ g (c ∷ []) + g cs = add (c ∷ []) cs in omega arith)
      (each_push (λ k u. u.inside ≡ true → get_elem? s.views k ≡ some u) left (outside c) (λ _ on. absurd (not_both false refl on)) (each_set (λ k u. u.inside ≡ true → get_elem? s.views k ≡ some u) s.views id l (λ on. absurd (not_both false refl on)) (λ k u _ there _. there)))
      (λ k d there. at_longer left (outside c ∷ []) k (within d) (set_else s.views id k l (apart id k v d s.views at refl there) ∙ there))

  pub joins : (id : ℕ) (v : SeatKnowledge N F) (other : ℕ) (w : SeatKnowledge N F) → v.inside ≡ false → w.inside ≡ false → Joins Rule id v other w (join_knowledge v w) nobody
  joins id v other w v_out w_out s r at ne there = let b : SeatKnowledge N F = join_knowledge v w in let left : List (SeatKnowledge N F) = set s.views id b in let was : get_elem? s.views other ≡ some w = sym (set_else s.views id other b ne) ∙ there in
      regrouped s (set left other nobody) r
      (λ P all. each_set (λ _ u. AllByRecursion P u.claims) left other nobody tt (λ k u _. each_set (λ _ z. AllByRecursion P z.claims) s.views id b (Each-append P v.claims w.claims (all id v at) (all other w was)) (λ j z _. all j z) k u))
      (λ g add. let moved = sum-set (λ (u : SeatKnowledge N F). g u.claims) s.views id v b at in let spent = sum-set (λ (u : SeatKnowledge N F). g u.claims) left other w nobody there in let both = add v.claims w.claims in let none_of : g [] ≡ g [] + g [] = add [] [] in omega arith)
      (each_set (λ k u. u.inside ≡ true → get_elem? s.views k ≡ some u) left other nobody (λ on. absurd (not_both false refl on))
      (λ k u _. each_set (λ j z. z.inside ≡ true → get_elem? s.views j ≡ some z) s.views id b (λ on. absurd (not_both v.inside v_out on)) (λ j z _ here _. here) k u))
      (λ k d here. set_else left other k nobody (apart other k w d s.views was w_out here) ∙ (set_else s.views id k b (apart id k v d s.views at v_out here) ∙ here))

  pub sits : (slots : ℕ) → Enters Rule slots inside_word (λ _ v. v ≡ nobody)
  sits slots s r deep at = (
    nobody,
    regrouped s (s.views ++ nobody ∷ []) r
        (λ P all. each_push (λ _ u. AllByRecursion P u.claims) s.views nobody (λ _. tt) all)
        (λ g add. let more = sum_by_push (λ (u : SeatKnowledge N F). g u.claims) s.views nobody in let none_of : g [] ≡ g [] + g [] = add [] [] in omega arith)
        (each_push (λ k u. u.inside ≡ true → get_elem? s.views k ≡ some u) s.views nobody (λ _ on. absurd (not_both false refl on)) (λ k u there _. there))
        (λ k d there. at_longer s.views (nobody ∷ []) k (within d) there),
    refl,
  )

  pub opens : (x : W) → history_of x ≡ [] → frame_of x ≡ frame → Rule (opening new_words (Some x ∷ []) (initial_view passes frame))
  opens x empty framed = let v : SeatKnowledge N F = initial_view passes frame in
      let one : (g : List (Claim N F) → ℕ) → sum_by (λ (u : SeatKnowledge N F). g u.claims) (v ∷ []) ≡ g v.claims = λ g. let all = sum_by-cons (λ (u : SeatKnowledge N F). g u.claims) v [] in omega arith in
      let only : (P : SeatKnowledge N F → Type 0) → P v → EachAt (λ _ u. P u) (v ∷ []) = λ P p. each_push (λ _ u. P u) [] v (λ _. p) (λ k u e. absurd (some-ne-none u (sym e))) in
      let home : (y : W) → some (Some x) ∷ [] ≡ some (Some y) ∷ [] → x ≡ y = λ y e. same_home (none ∷ []) x y refl e in record {
        history = [];
        words = refl;
        door = inl record { free = refl; all_outside = only (λ u. u.inside ≡ false) refl };
        away = λ _. (x, refl);
        tells = record { counted = refl; home = λ _ y there. ap history_of (sym (home y there)) ∙ empty; inside = only (λ u. u.inside ≡ true → AllByRecursion (λ (d : Claim N F). d.front ≡ []) u.claims) (λ on. absurd (not_both false refl on)) };
        numbers = record {
          once = λ n l. one (shares_of n) ∙ (shares_of-initial_claims N n 0 passes frame).among (omega arith) (omega arith);
          never = λ n l. one (shares_of n) ∙ (shares_of-initial_claims N n 0 passes frame).above (omega arith);
          together = one length ∙ length-initial_claims N 0 passes frame;
          fronts = only (λ u. AllByRecursion (λ (d : Claim N F). OthersSince pass_of d.number d.front []) u.claims) (firsts 0 passes);
          strangers = λ n l. refl;
        };
        frames = record { told = only (λ u. AllByRecursion (λ (d : Claim N F). d.frame ≡ frame) u.claims) (framed_firsts 0 passes); home = λ y there. ap frame_of (sym (home y there)) ∙ framed };
      } where
        firsts : (k m : ℕ) → AllByRecursion (λ (d : Claim N F). OthersSince pass_of d.number d.front []) (initial_claims k m frame)
        firsts k zero = tt
        firsts k (suc m) = (([], refl, refl), firsts (k + 1) m)

        framed_firsts : (k m : ℕ) → AllByRecursion (λ (d : Claim N F). d.frame ≡ frame) (initial_claims {N = N} k m frame)
        framed_firsts k zero = tt
        framed_firsts k (suc m) = (refl, framed_firsts (k + 1) m)

  -- a seat that has as many claims as there are passes has one of each
  has_each : (id : ℕ) (v : SeatKnowledge N F) (s : Lock) (r : Rule s) → get_elem? s.views id ≡ some v → length v.claims ≡ passes → (n : ℕ) → n < passes → 0 < shares_of n v.claims
  has_each id v s r at all n below = let one = r.numbers.once n below in let total = r.numbers.together in
      let fewer = sum_but_one (λ (u : SeatKnowledge N F). shares_of n u.claims) (λ (u : SeatKnowledge N F). length u.claims) (λ u. count_by-le-length (λ (c : Claim N F). eqb c.number n) u.claims) s.views id v at in omega arith

  -- at the end: such a seat finds the value, which goes on from each of its claims
  pub closes : (id : ℕ) (v : SeatKnowledge N F) (ws : List ℕ) (xs : List (Option W)) → v.inside ≡ false → length v.claims ≡ passes → Final (Seen Rule id v) ws xs
      → (x : W) × (get_elem? xs 0 ≡ some (Some x)) × Closes history_of pass_of frame_of frame passes v.claims x
  closes id v ws xs out all (s, seen, same, long, homes) = let r = seen.0 in let at = seen.1 in ⊎_elim
      (λ (o : IsOpen s). let home = r.away o in let whole = r.tells.home o home.0 home.1 in (
        home.0,
        homes 0 (Some home.0) (ap (λ hs. get_elem? hs 0) home.1),
        record {
          framed = r.frames.home home.0 home.1;
          fronts = subst (λ (l : List N). AllByRecursion (λ (d : Claim N F). OthersSince pass_of d.number d.front l) v.claims) (sym whole) (r.numbers.fronts id v at);
          each = has_each id v s r at all;
          strangers = λ n above. ap (notes_of pass_of n) whole ∙ r.numbers.strangers n above;
        },
      ))
      (λ (h : IsShut s). let two = sum_two (λ (u : SeatKnowledge N F). length u.claims) s.views h.seat id (within h.holder) v (apart id h.seat v h.holder s.views at out h.there) h.there at in let total = r.numbers.together in absurd (omega arith)) r.door
