-- How what is found of a run grows.
use Rattle.std.proofs.Common.{◌≡◌, ℕ, zero, suc, ◌+◌, ◌<◌, ◌⊎◌, List, [], ◌∷◌, ◌++◌, Option, length, map, vec_len, vec_capacity, refl, sym, ◌∙◌, ap, subst, arith, inl, inr, Some, append_assoc, append-nil, length-append}
use Rattle.std.proofs.lemmas.List.{map-append}
use Rattle.std.specs.Prelude.{slice_get}
use Rattle.mely_event.specs.declared.event.Event.{Event}
use Rattle.sws_steps.specs.declared.talk.Talk.{Ghosts as TalkWords}
use Rattle.mely_log.specs.declared.log.Log.{Log}
use Rattle.sws_handlers.specs.declared.ended.Served.{Served}
use Rattle.sws_handlers.specs.declared.left.Left.{Left}
use Rattle.sws_handlers.specs.declared.load.WorldLoad.{WorldLoad}
use Rattle.sws_handlers.specs.declared.place.Role.{Role}
use Rattle.sws_handlers.specs.declared.place.Role.TheVariants.{Talking}
use Rattle.sws_handlers.specs.declared.place.Seat.{Seat}
use Rattle.sws_handlers.specs.KeptLines.{KeptLinesState}
use Rattle.sws_handlers.specs.Place.{PlaceState}
use Rattle.sws_handlers.specs.RunLeaves.{Talker, talker_by, talkers, or_else, resting_by, resting_in, lines_by, lines_in, ShowAll, ShowsSeat}
use Rattle.sws_handlers.specs.LeftKept.{KeepsStates}

-- what stands at a place of two lists, one behind the other
get_either : {A : Type 0} (xs ys : List A) (i : ℕ) → ((i < length xs) × (slice_get (xs ++ ys) i ≡ slice_get xs i)) ⊎ ((k : ℕ) × (i ≡ length xs + k) × (slice_get (xs ++ ys) i ≡ slice_get ys k))
get_either [] ys i = inr (i, omega arith, refl)
get_either (x ∷ xs) ys zero = inl (omega arith, refl)
get_either (x ∷ xs) ys (suc i) = elim (get_either xs ys i) [
  | inl front ↦ (let low = front.0 in inl (omega (arith, low), front.1))
  | inr back ↦ (let at = back.1 in inr (back.0, omega (arith, at), back.2))
]

module _ {W L T G H : Type 0} (y : TalkWords T L G H) where
  show_none : ShowAll {W = W} y [] []
  show_none = record { many = refl; each = λ i talker s at there. cc }

  one_each : (talker : Talker H W T) (s : Served L) → ShowsSeat y talker.seat s → (i : ℕ) (t : Talker H W T) (r : Served L) → slice_get (talker ∷ []) i ≡ Some t → slice_get (s ∷ []) i ≡ Some r → ShowsSeat y t.seat r
  one_each talker s shows zero t r at there =
      let same : talker ≡ t = cc in
      let is : s ≡ r = cc in
      subst (λ (z : Talker H W T). ShowsSeat y z.seat r) same (subst (ShowsSeat y talker.seat) is shows)
  one_each talker s shows (suc i) t r at there = cc

  show_one : (talker : Talker H W T) (s : Served L) → ShowsSeat y talker.seat s → ShowAll y (talker ∷ []) (s ∷ [])
  show_one talker s shows = record { many = refl; each = one_each talker s shows }

  -- connections behind connections
  show_more : (all more : List (Talker H W T)) (served added : List (Served L)) → ShowAll y all served → ShowAll y more added → ShowAll y (all ++ more) (served ++ added)
  show_more all more served added shows show =
      let many = shows.many in
      record {
        many = length-append served added ∙ ap (λ n. n + length added) many ∙ ap (λ n. length all + n) show.many ∙ sym (length-append all more);
        each = λ i talker s at there. elim (get_either all more i) [
          | inl front ↦ elim (get_either served added i) [
            | inl same ↦ shows.each i talker s (sym front.1 ∙ at) (sym same.1 ∙ there)
            | inr back ↦ (let low = front.0 in let high = back.1 in absurd (omega (arith, low, high, many)))
          ]
          | inr back ↦ elim (get_either served added i) [
            | inl front ↦ (let low = front.0 in let high = back.1 in absurd (omega (arith, low, high, many)))
            | inr same ↦
                let is = back.1 in
                let other = same.1 in
                let k : same.0 ≡ back.0 = omega (arith, is, other, many) in
                show.each back.0 talker s (sym back.2 ∙ at) (ap (slice_get added) (sym k) ∙ sym same.2 ∙ there)
          ]
        ];
      }

  talkers_more : (xs ys : List (PlaceState H W T)) → talkers (xs ++ ys) ≡ talkers xs ++ talkers ys
  talkers_more [] ys = refl
  talkers_more (x ∷ xs) ys = ap (λ (l : List (Talker H W T)). talker_by x x.role ++ l) (talkers_more xs ys) ∙ sym (append_assoc (talker_by x x.role) (talkers xs) (talkers ys))

  -- the first state apart
  pub talkers_head : (x : PlaceState H W T) (xs all : List (PlaceState H W T)) → all ≡ x ∷ xs → length (talkers all) ≡ length (talkers (x ∷ [])) + length (talkers xs)
  talkers_head x xs all is = ap (λ (l : List (PlaceState H W T)). length (talkers l)) is ∙ ap length (talkers_more (x ∷ []) xs) ∙ length-append (talkers (x ∷ [])) (talkers xs)

  resting_more : (before : Option (WorldLoad W)) (xs ys : List (PlaceState H W T)) → resting_in before (xs ++ ys) ≡ resting_in (resting_in before xs) ys
  resting_more before [] ys = refl
  resting_more before (x ∷ xs) ys = resting_more (or_else (resting_by x.role) before) xs ys

  lines_more : (before : KeptLinesState) (xs ys : List (PlaceState H W T)) → lines_in before (xs ++ ys) ≡ lines_in (lines_in before xs) ys
  lines_more before [] ys = refl
  lines_more before (x ∷ xs) ys = lines_more (lines_by x.role x.lines before) xs ys

  -- no state was looked at yet
  pub keep_none : (a : Left W L) → KeepsStates y [] a a
  keep_none a = record {
    added = [];
    shows = show_none;
    served = sym (append-nil a.served.items);
    served_len = omega arith;
    served_room = refl;
    world = refl;
    log = refl;
    trails = sym (append-nil (map (λ trail. trail.items) a.trails.items));
    trails_len = omega arith;
    trails_room = refl;
  }

  -- states behind states
  pub keep_more : (xs ys : List (PlaceState H W T)) (a b c : Left W L) → KeepsStates y xs a b → KeepsStates y ys b c → KeepsStates y (xs ++ ys) a c
  keep_more xs ys a b c one other =
      let all = length-append (talkers xs) (talkers ys) in
      let split = ap length (talkers_more xs ys) in
      let both = length-append xs ys in
      record {
        added = one.added ++ other.added;
        shows = subst (λ (l : List (Talker H W T)). ShowAll y l (one.added ++ other.added)) (sym (talkers_more xs ys)) (show_more (talkers xs) (talkers ys) one.added other.added one.shows other.shows);
        served = other.served ∙ ap (λ (l : List (Served L)). l ++ other.added) one.served ∙ append_assoc a.served.items one.added other.added;
        served_len = let m = one.served_len in let n = other.served_len in omega (arith, m, n, all, split);
        served_room = other.served_room ∙ one.served_room;
        world = other.world ∙ ap (λ (o : Option (WorldLoad W)). resting_in o ys) one.world ∙ sym (resting_more a.world xs ys);
        log = other.log ∙ ap (λ (ls : KeptLinesState). lines_in ls ys) one.log ∙ sym (lines_more a.log xs ys);
        trails = other.trails ∙ ap (λ (l : List (List Event)). l ++ map (λ (p : PlaceState H W T). p.trail) ys) one.trails ∙ append_assoc (map (λ trail. trail.items) a.trails.items) (map (λ (p : PlaceState H W T). p.trail) xs) (map (λ (p : PlaceState H W T). p.trail) ys)
            ∙ ap (λ (l : List (List Event)). map (λ trail. trail.items) a.trails.items ++ l) (sym (map-append (λ (p : PlaceState H W T). p.trail) xs ys));
        trails_len = let m = one.trails_len in let n = other.trails_len in omega (arith, m, n, both);
        trails_room = other.trails_room ∙ one.trails_room;
      }

  -- a state that doesn't talk
  pub keep_quiet : (place : PlaceState H W T) (role : Role W T) (trail : Log Event) (a b : Left W L) → place.role ≡ role → talker_by place role ≡ [] → trail.items ≡ place.trail → b.served ≡ a.served → b.world ≡ or_else (resting_by role) a.world → b.log ≡ lines_by role place.lines a.log
      → b.trails.items ≡ a.trails.items ++ trail ∷ [] → vec_len b.trails ≡ vec_len a.trails + 1 → vec_capacity b.trails ≡ vec_capacity a.trails → KeepsStates y (place ∷ []) a b
  keep_quiet place role trail a b role_is quiet trail_is served world log trails len room =
      let none : talkers (place ∷ []) ≡ [] = append-nil (talker_by place place.role) ∙ ap (talker_by place) role_is ∙ quiet in
      let no_length = ap length none in
      record {
        added = [];
        shows = subst (λ (l : List (Talker H W T)). ShowAll y l []) (sym none) show_none;
        served = ap (λ v. v.items) served ∙ sym (append-nil a.served.items);
        served_len = (let same = ap vec_len served in omega (arith, same, no_length));
        served_room = ap vec_capacity served;
        world = world ∙ ap (λ (r : Role W T). or_else (resting_by r) a.world) (sym role_is);
        log = log ∙ ap (λ (r : Role W T). lines_by r place.lines a.log) (sym role_is);
        trails = ap (λ l. map (λ v. v.items) l) trails ∙ map-append (λ v. v.items) a.trails.items (trail ∷ []) ∙ ap (λ (e : List Event). map (λ v. v.items) a.trails.items ++ e ∷ []) trail_is;
        trails_len = len;
        trails_room = room;
      }

  -- a state that talks
  pub keep_talking : (place : PlaceState H W T) (seat : Seat T) (trail : Log Event) (s : Served L) (a b : Left W L) → place.role ≡ Talking seat → trail.items ≡ place.trail → ShowsSeat y seat s
      → b.served.items ≡ a.served.items ++ s ∷ [] → vec_len b.served ≡ vec_len a.served + 1 → vec_capacity b.served ≡ vec_capacity a.served → b.world ≡ a.world → b.log ≡ a.log
      → b.trails.items ≡ a.trails.items ++ trail ∷ [] → vec_len b.trails ≡ vec_len a.trails + 1 → vec_capacity b.trails ≡ vec_capacity a.trails → KeepsStates y (place ∷ []) a b
  keep_talking place seat trail s a b role_is trail_is shows served served_len served_room world log trails len room =
      let one : talkers (place ∷ []) ≡ record { place = place; seat = seat } ∷ [] = append-nil (talker_by place place.role) ∙ ap (talker_by place) role_is in
      let one_length = ap length one in
      record {
        added = s ∷ [];
        shows = subst (λ (l : List (Talker H W T)). ShowAll y l (s ∷ [])) (sym one) (show_one (record { place = place; seat = seat }) s shows);
        served = served;
        served_len = omega (arith, served_len, one_length);
        served_room = served_room;
        world = world ∙ ap (λ (r : Role W T). or_else (resting_by r) a.world) (sym role_is);
        log = log ∙ ap (λ (r : Role W T). lines_by r place.lines a.log) (sym role_is);
        trails = ap (λ l. map (λ v. v.items) l) trails ∙ map-append (λ v. v.items) a.trails.items (trail ∷ []) ∙ ap (λ (e : List Event). map (λ v. v.items) a.trails.items ++ e ∷ []) trail_is;
        trails_len = len;
        trails_room = room;
      }
