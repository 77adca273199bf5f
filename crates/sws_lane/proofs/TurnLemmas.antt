-- The connections of all generations, over a world that tells its links to come.
use Rattle.std.specs.Prelude.{option_map}
use Rattle.std.specs.List.{slice_get}
use Rattle.std.proofs.Common.{◌≡◌, inl, inr, ℕ, zero, suc, ◌+◌, ◌<◌, Bool, true, false, List, [], ◌∷◌, ◌++◌, length, map, drop, Option, Some, None, refl, sym, ap, ◌∙◌, subst, arith, append_assoc, zero-add}
use Rattle.std.proofs.lemmas.List.Sums.{sum_by-append}
use Rattle.std.proofs.lemmas.Option.{slice_get_past, slice_get_within}
use Rattle.mely_history.specs.declared.shape.Shape.{Shape}
use Rattle.sws_link.specs.Contents.{IsPrefix}
use Rattle.sws_link.specs.Links.{LinkContents}
use Rattle.sws_link.specs.Worlds.{Coming, WorldContents, after_open, initial_contents}
use Rattle.sws_link.specs.declared.Link.{Ghosts as LinkWords}
use Rattle.sws_link.specs.declared.Opened.{Opened}
use Rattle.sws_link.specs.declared.Opened.TheVariants as opened
use Rattle.sws_link.specs.declared.world.World.{Ghosts as WorldWords}
use Rattle.sws_site.specs.Site.{SiteState}
use Rattle.sws_steps.specs.declared.End.{End}
use Rattle.sws_steps.specs.declared.End.TheVariants as ending
use Rattle.sws_steps.specs.declared.Next.{Next}
use Rattle.sws_steps.specs.declared.Next.TheVariants as next
use Rattle.sws_steps.specs.ConnCore.{end_at}
use Rattle.sws_steps.specs.Talks.{TalkView, ServesLink, ServesTold, reported_end}
use Rattle.sws_steps.specs.declared.talk.Talk.{Ghosts as TalkWords}
use Rattle.sws_weave.specs.ConnLeft.{LinkLeft}
use Rattle.sws_handlers.specs.Counting.{colours_over}
use Rattle.sws_handlers.specs.Loads.{IsComing}
use Rattle.sws_weave.specs.ServerLeaves.{ServerLeaves}
use Rattle.sws_handlers.specs.declared.ended.Ended.{Ended}
use Rattle.sws_handlers.specs.declared.ended.Served.{Served}
use Rattle.sws_lane.specs.Generations.{Generation, IsRunBy, RunsBy, AreGenerations, InTurn, IsServedInTurn, accepted_by, all_accepted, served_by, world_by}
use Rattle.sws_lane.specs.declared.lane.Terms.{Terms}

-- ---- lists

get_in : {A : Type 0} (xs : List A) (i : ℕ) → i < length xs → (x : A) × (slice_get xs i ≡ Some x)
get_in [] i within = absurd (omega arith)
get_in (x ∷ xs) zero within = (x, refl)
get_in (x ∷ xs) (suc i) within = get_in xs i (omega arith)

get_dropped : {A : Type 0} (xs : List A) (n i : ℕ) → slice_get (drop n xs) i ≡ slice_get xs (n + i)
get_dropped xs zero i = let e : i ≡ 0 + i = omega arith in ap (λ k. slice_get xs k) e
get_dropped [] (suc n) i = slice_get_past [] i (omega arith) ∙ sym (slice_get_past [] (suc n + i) (omega arith))
get_dropped (x ∷ xs) (suc n) i = let e : suc (n + i) ≡ suc n + i = omega arith in get_dropped xs n i ∙ ap (λ k. slice_get (x ∷ xs) k) e

length_mapped : {A B : Type 0} (f : A → B) (xs : List A) → length (map f xs) ≡ length xs
length_mapped f [] = refl
length_mapped f (x ∷ xs) = ap suc (length_mapped f xs)

prefix_of_whole : (front more whole : List ℕ) → IsPrefix front whole → IsPrefix front (whole ++ more)
prefix_of_whole front more whole (rest, is) = (rest ++ more, ap (λ w. w ++ more) is ∙ append_assoc front rest more)

prefix_through : (a b c : List ℕ) → IsPrefix a b → IsPrefix b c → IsPrefix a c
prefix_through a b c (r, e) (s, f) = (r ++ s, f ∙ (ap (λ w. w ++ s) e ∙ append_assoc a r s))

-- an end that is told is the end
end_told : (pending : Next) (end : Option End) (e : End) → end_at pending end ≡ Some e → end ≡ Some e
end_told next.Nothing end e is = is
end_told next.Open end e is = cc
end_told next.Read end e is = cc
end_told next.Parse end e is = cc
end_told next.Look end e is = cc
end_told next.Write end e is = cc
end_told next.Wait end e is = cc
end_told next.Close end e is = cc

no_get : {A : Type 0} (i : ℕ) (a : A) → slice_get {X = A} [] i ≡ Some a → ⊥
no_get i a e = cc

-- ---- the links to come

-- an opening keeps them
coming_opened : (answer : Opened) (before now : WorldContents) (port total : ℕ) → now ≡ after_open before port total answer → now.coming ≡ before.coming
coming_opened opened.Ready before now port total e = ap (λ (w : WorldContents). w.coming) e
coming_opened opened.Failed before now port total e = ap (λ (w : WorldContents). w.coming) e
coming_opened opened.Memory before now port total e = ap (λ (w : WorldContents). w.coming) e

module _ {W L T G : Type 0} (x : WorldWords W L) (l : LinkWords L) (t : TalkWords T L G SiteState) (shape : Shape) (log : Bool)
    (law : (site : SiteState) (front bytes : List ℕ) → IsPrefix front bytes → IsPrefix (t.responses site front) (t.responses site bytes)) where
  -- ---- a run

  module _ (site : SiteState) (first : W) (ended : Ended W L) (coming : List Coming) (told : (x.tells first).coming ≡ Some coming) where
    -- it takes off as many as it accepted
    left_run : ServerLeaves x l t shape site first log ended → (last : W) → ended.world ≡ Some last
        → (x.tells last).coming ≡ Some (drop ended.accepted coming)
    left_run (inl begun) last there =
        let same : first ≡ last = (let e = begun.back in cc) in
        subst (λ (n : ℕ). (x.tells last).coming ≡ Some (drop n coming)) (sym begun.none_accepted)
        (subst (λ (w : W). (x.tells w).coming ≡ Some coming) same told)
    left_run (inr run) last there = (run.stands last there).coming ∙ ap (option_map (λ c. drop ended.accepted c)) told

    of_served : (i : ℕ) (s : Served L) (link : L) (one : Coming) → slice_get coming i ≡ Some one → (now : LinkContents) → l.tells link ≡ Some now → (view : TalkView)
        → s.end ≡ reported_end view → ServesLink (t.responses site) (initial_contents one) now view → IsServedInTurn x l t site coming i s link
    of_served i s link one there now tells view end served = record {
      one = one;
      there = there;
      told = now;
      tells = tells;
      input = served.input;
      begins = prefix_through now.written (t.responses site now.taken) (t.responses site one.input) served.begins
          (law site now.taken one.input (now.left, sym served.input));
      whole = λ done. served.whole (end_told view.pending view.end ending.Done (sym end ∙ done));
    }

    -- a link of it is the one of its number, and was sent what its input says
    conn_run : ServerLeaves x l t shape site first log ended → (i : ℕ) (s : Served L) (link : L) → slice_get ended.served.items i ≡ Some s
        → s.link ≡ Some link → IsServedInTurn x l t site coming i s link
    conn_run (inl begun) i s link at linked =
        let none : slice_get {X = Served L} [] i ≡ Some s = subst (λ (all : List (Served L)). slice_get all i ≡ Some s) begun.none_served at in
        absurd (no_get i s none)
    conn_run (inr run) i s link at linked =
        let within = slice_get_within ended.served.items i s at in
        let trails = map (λ t. t.items) ended.trails.items in
        let long : length trails ≡ colours_over (x.tells first).total log = length_mapped (λ t. t.items) ended.trails.items ∙ run.many_trails in
        let few : i < (x.tells first).total = subst (λ (n : ℕ). i < n) run.many_served within in
        let trail = get_in trails (i + 2) (omega arith) in
        let left = run.conn i s trail.0 at trail.1 in
        let view = left.view in
        let of_link = subst (λ (o : Option L). LinkLeft x l t site first i o view) linked left.link in
        let stands = of_link.1 in
        let one = subst (λ (o : Option (List Coming)). IsComing o i (l.tells of_link.0)) told stands.coming in
        let served = subst (λ (o : Option LinkContents). ServesTold (t.responses site) o (l.tells link) view) one.2 of_link.2.told in
        of_served i s link one.0 one.1 served.0 served.1 view left.end served.2

module _ {W L T U G H : Type 0} (x : WorldWords W L) (l : LinkWords L) (y : TalkWords T L G SiteState) (z : TalkWords U L H SiteState) (terms : Terms)
    (law : (site : SiteState) (front bytes : List ℕ) → IsPrefix front bytes → IsPrefix (y.responses site front) (y.responses site bytes))
    (same : (site : SiteState) (bytes : List ℕ) → z.responses site bytes ≡ y.responses site bytes) where
  -- ---- a run of either kind

  law_of_bursts : (site : SiteState) (front bytes : List ℕ) → IsPrefix front bytes → IsPrefix (z.responses site front) (z.responses site bytes)
  law_of_bursts site front bytes begins =
      subst (λ r. IsPrefix r (z.responses site bytes)) (sym (same site front))
      (subst (λ r. IsPrefix (y.responses site front) r) (sym (same site bytes)) (law site front bytes begins))

  of_bursts : (site : SiteState) (coming : List Coming) (k : ℕ) (s : Served L) (link : L) → IsServedInTurn x l z site coming k s link → IsServedInTurn x l y site coming k s link
  of_bursts site coming k s link h = record {
    one = h.one;
    there = h.there;
    told = h.told;
    tells = h.tells;
    input = h.input;
    begins = subst (λ r. IsPrefix h.told.written r) (same site h.one.input) h.begins;
    whole = λ done. h.whole done ∙ same site h.one.input;
  }

  module _ (site : SiteState) (first : W) (ended : Ended W L) (coming : List Coming) (told : (x.tells first).coming ≡ Some coming) where
    left_as : (log : Bool) → IsRunBy x l y z terms log site first ended → (last : W) → ended.world ≡ Some last
        → (x.tells last).coming ≡ Some (drop ended.accepted coming)
    left_as true run = left_run x l y terms.shape false law site first ended coming told run.leaves
    left_as false run = left_run x l z terms.shape false law_of_bursts site first ended coming told run.leaves

    conn_as : (log : Bool) → IsRunBy x l y z terms log site first ended → (i : ℕ) (s : Served L) (link : L) → slice_get ended.served.items i ≡ Some s
        → s.link ≡ Some link → IsServedInTurn x l y site coming i s link
    conn_as true run i s link at linked = conn_run x l y terms.shape false law site first ended coming told run.leaves i s link at linked
    conn_as false run i s link at linked =
        of_bursts site coming i s link (conn_run x l z terms.shape false law_of_bursts site first ended coming told run.leaves i s link at linked)

  -- ---- a generation

  module _ (site : SiteState) (first : W) (coming : List Coming) (told : (x.tells first).coming ≡ Some coming) where
    left_unrun : (ended : Option (Ended W L)) → ended ≡ None → (last : W) → world_by first ended ≡ Some last
        → (x.tells last).coming ≡ Some (drop (accepted_by ended) coming)
    left_unrun ended none last there =
        subst (λ (e : Option (Ended W L)). world_by first e ≡ Some last → (x.tells last).coming ≡ Some (drop (accepted_by e) coming)) (sym none)
        (λ there. let same : first ≡ last = cc in subst (λ (w : W). (x.tells w).coming ≡ Some coming) same told) there

    left_by : (answer : Opened) (ended : Option (Ended W L)) → RunsBy x l y z terms answer site first ended → (last : W) → world_by first ended ≡ Some last
        → (x.tells last).coming ≡ Some (drop (accepted_by ended) coming)
    left_by opened.Ready ended (run, is, all) last there =
        subst (λ (e : Option (Ended W L)). world_by first e ≡ Some last → (x.tells last).coming ≡ Some (drop (accepted_by e) coming)) (sym is)
        (λ there. left_as site first run coming told terms.log all last there) there
    left_by opened.Failed ended none last there = left_unrun ended none last there
    left_by opened.Memory ended none last there = left_unrun ended none last there

    conn_by : (answer : Opened) (ended : Option (Ended W L)) → RunsBy x l y z terms answer site first ended → (i : ℕ) (s : Served L) (link : L)
        → slice_get (served_by ended) i ≡ Some s → s.link ≡ Some link → IsServedInTurn x l y site coming i s link
    conn_by opened.Ready ended (run, is, all) i s link at linked =
        conn_as site first run coming told terms.log all i s link (subst (λ (e : Option (Ended W L)). slice_get (served_by e) i ≡ Some s) is at) linked
    conn_by opened.Failed ended none i s link at linked =
        let no : slice_get {X = Served L} [] i ≡ Some s = subst (λ (e : Option (Ended W L)). slice_get (served_by e) i ≡ Some s) none at in absurd (no_get i s no)
    conn_by opened.Memory ended none i s link at linked =
        let no : slice_get {X = Served L} [] i ≡ Some s = subst (λ (e : Option (Ended W L)). slice_get (served_by e) i ≡ Some s) none at in absurd (no_get i s no)

  -- ---- all of them

  -- a connection of links that are left is one further on of all
  further : (site : SiteState) (coming : List Coming) (n k : ℕ) (s : Served L) (link : L) → IsServedInTurn x l y site (drop n coming) k s link
      → IsServedInTurn x l y site coming (n + k) s link
  further site coming n k s link h = record {
    one = h.one;
    there = sym (get_dropped coming n k) ∙ h.there;
    told = h.told;
    tells = h.tells;
    input = h.input;
    begins = h.begins;
    whole = h.whole;
  }

  accepted_more : (one : Generation W L) (before : List (Generation W L)) (i : ℕ)
      → all_accepted (one ∷ before) + i ≡ accepted_by one.ended + (all_accepted before + i)
  accepted_more one before i =
      let e = sum_by-append (λ (g : Generation W L). accepted_by g.ended) (one ∷ []) before in omega arith

  -- a world is left for those that come
  by_left : {P : Type 0} (left : Option W) (before : List (Generation W L)) (one : Generation W L) (after : List (Generation W L)) (last : Option W)
      → AreGenerations x l y z terms left (before ++ one ∷ after) last
      → ((w : W) → left ≡ Some w → AreGenerations x l y z terms (Some w) (before ++ one ∷ after) last → P) → P
  by_left None [] one after last rest f = absurd rest
  by_left None (g ∷ before) one after last rest f = absurd rest
  by_left (Some w) before one after last rest f = f w refl rest

  turn : (before : List (Generation W L)) (one : Generation W L) (after : List (Generation W L)) (last : Option W) (world : W) (coming : List Coming)
      → AreGenerations x l y z terms (Some world) (before ++ one ∷ after) last → (x.tells world).coming ≡ Some coming
      → (i : ℕ) (s : Served L) (link : L) → slice_get (served_by one.ended) i ≡ Some s → s.link ≡ Some link
      → IsServedInTurn x l y one.site coming (all_accepted before + i) s link
  turn [] one after last world coming each told i s link at linked =
      let opened = coming_opened one.answer (x.tells world) (x.tells one.first) terms.port terms.connections each.0.listens.becomes ∙ told in
      subst (λ (n : ℕ). IsServedInTurn x l y one.site coming n s link) (sym (zero-add i))
      (conn_by one.site one.first coming opened one.answer one.ended each.0.runs i s link at linked)
  turn (g ∷ before) one after last world coming each told i s link at linked =
      let opened = coming_opened g.answer (x.tells world) (x.tells g.first) terms.port terms.connections each.0.listens.becomes ∙ told in
      by_left (world_by g.first g.ended) before one after last each.1 (λ left is rest.
      subst (λ (n : ℕ). IsServedInTurn x l y one.site coming n s link) (sym (accepted_more g before i))
      (further one.site coming (accepted_by g.ended) (all_accepted before + i) s link
      (turn before one after last left (drop (accepted_by g.ended) coming) rest
      (left_by g.site g.first coming opened g.answer g.ended each.0.runs left is) i s link at linked)))

  pub in_turn : (generations : List (Generation W L)) (first last : Option W) → AreGenerations x l y z terms first generations last
      → InTurn x l y first generations
  in_turn generations first last all world coming before after one i s link there told parts at linked =
      turn before one after last world coming
      (subst (λ (w : Option W). AreGenerations x l y z terms w (before ++ one ∷ after) last) there
      (subst (λ (gs : List (Generation W L)). AreGenerations x l y z terms first gs last) parts all)) told i s link at linked
