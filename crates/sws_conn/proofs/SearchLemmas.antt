-- A search over bytes that grow.
use Rattle.std.proofs.Common.{◌≡◌, ◌≢◌, ◌⊎◌, inl, inr, ℕ, ◌<◌, ◌≤◌, List, [], ◌++◌, length, take, drop, refl, sym, ap, ◌∙◌, subst, arith, length-append, length-take, take_all, take-append-drop}
use Rattle.std.proofs.lemmas.List.{take-append-le, take-take, take_rest}
use Rattle.std.specs.List.{slice_range}
use Rattle.sws_request.specs.declared.cuts.Cut.{Cut}
use Rattle.sws_request.specs.declared.cuts.Cut.TheVariants.{Head, TooLong, NotYet}
use Rattle.sws_request.specs.declared.scans.Scan.{Scan}
use Rattle.sws_request.specs.Head.{head_limit}
use Rattle.sws_request.specs.Cuts.{lines_of, cut_of}
use Rattle.sws_request.specs.Scans.{StandsFor, whole_lines}
use Rattle.sws_request.proofs.CutLemmas.{cut_of-append}
use Rattle.sws_request.proofs.SearchLemmas.{StandsFor-short, StandsFor-front, StandsFor-quiet, cut_of-searched}
use Rattle.sws_conn.specs.declared.buffer.Buffer.TheInside.{Inside}
use Rattle.sws_conn.specs.Searches.{StopsIn, StopsAt, IsSearchedFor, IsSearched, IsQuiet, IsLookedAt}

-- what was found stays, and the search goes on where it stopped
pub searched-more : (cut : Cut) (scan : Scan) (seen : ℕ) (bytes more : List ℕ) → IsSearchedFor cut scan seen bytes → IsSearchedFor cut scan seen (bytes ++ more)
searched-more (Head len) scan seen bytes more is = cut_of-append bytes more (λ none. let f : Head len ≡ NotYet = sym is ∙ none in cc) ∙ is
searched-more TooLong scan seen bytes more is = cut_of-append bytes more (λ none. let f : TooLong ≡ NotYet = sym is ∙ none in cc) ∙ is
searched-more NotYet scan seen bytes more stops = record {
  within = let within = stops.within in omega (arith, length-append bytes more);
  stands = subst (λ b. StandsFor scan (whole_lines b)) (sym (take-append-le seen bytes more stops.within)) stops.stands;
}

-- what was found before
searched-cut : (cut : Cut) (scan : Scan) (seen : ℕ) (bytes : List ℕ) → IsSearchedFor cut scan seen bytes → cut ≢ NotYet → cut ≡ cut_of bytes
searched-cut (Head len) scan seen bytes is there = sym is
searched-cut TooLong scan seen bytes is there = sym is
searched-cut NotYet scan seen bytes is there = absurd (there refl)

-- it stopped at some byte that is there
stops-at : (scan : Scan) (seen : ℕ) (bytes : List ℕ) → StopsIn scan seen bytes → StopsAt scan bytes
stops-at scan seen bytes stops =
    let front = StandsFor-front scan (take seen bytes) stops.stands in
    let within = stops.within in
    let at : scan.at ≤ seen = (let fits = front.0 in omega (arith, length-take seen bytes)) in
    record { within = omega arith; stands = subst (StandsFor scan) (take-take scan.at seen bytes at) front.1 }

pub search-at : (scan : Scan) (seen : ℕ) (bytes lent : List ℕ) → lent ≡ bytes → (cut : Cut) → cut ≡ NotYet → IsSearchedFor cut scan seen bytes → StopsAt scan lent
search-at scan seen bytes lent same cut none searched =
    stops-at scan seen lent (subst (StopsIn scan seen) (sym same) (subst (λ cut. IsSearchedFor cut scan seen bytes) none searched))

pub search-short : (scan : Scan) (bytes : List ℕ) → StopsAt scan bytes → scan.at < head_limit
search-short scan bytes stops = StandsFor-short scan (take scan.at bytes) stops.stands

looked_at : (scan : Scan) (bytes : List ℕ) → StandsFor scan (whole_lines bytes) → StopsIn scan (length bytes) bytes
looked_at scan bytes stands = record {
  within = omega arith;
  stands = subst (λ b. StandsFor scan (whole_lines b)) (sym (take_all (length bytes) bytes (omega arith))) stands;
}

-- the bytes that came end no line
search-quiet : (scan : Scan) (seen : ℕ) (bytes : List ℕ) → StopsIn scan seen bytes → IsQuiet seen bytes
    → IsLookedAt NotYet scan bytes
search-quiet scan seen bytes stops quiet =
    let stands : StandsFor scan (whole_lines bytes) =
    subst (λ b. StandsFor scan (whole_lines b)) (take-append-drop seen bytes) (StandsFor-quiet scan (take seen bytes) (drop seen bytes) quiet.no_feed stops.stands) in
    (looked_at scan bytes stands, sym (cut_of-searched scan bytes stands quiet.few))

-- the search goes on behind the lines that were searched
pub search-on : (scan next : Scan) (bytes : List ℕ) (cut : Cut) → StopsAt scan bytes
    → ((front : List ℕ) → StandsFor scan front → cut ≡ cut_of (front ++ slice_range bytes scan.at (length bytes)))
    → ((front : List ℕ) → StandsFor scan front → cut ≡ NotYet → StandsFor next (whole_lines (front ++ slice_range bytes scan.at (length bytes))))
    → IsLookedAt cut next bytes
search-on scan next bytes cut stops found goes_on = (by_cut cut is (λ none. goes_on (take scan.at bytes) stops.stands none), is)
  where
    all : take scan.at bytes ++ slice_range bytes scan.at (length bytes) ≡ bytes
    all = ap (λ r. take scan.at bytes ++ r) (take_rest bytes scan.at) ∙ take-append-drop scan.at bytes

    is : cut ≡ cut_of bytes
    is = found (take scan.at bytes) stops.stands ∙ ap cut_of all

    by_cut : (cut : Cut) → cut ≡ cut_of bytes → (cut ≡ NotYet → StandsFor next (whole_lines (take scan.at bytes ++ slice_range bytes scan.at (length bytes))))
        → IsSearchedFor cut next (length bytes) bytes
    by_cut (Head len) is on = sym is
    by_cut TooLong is on = sym is
    by_cut NotYet is on = looked_at next bytes (subst (λ b. StandsFor next (whole_lines b)) all (on refl))

-- a search that begins
pub search-start : (scan : Scan) (bytes : List ℕ) → StandsFor scan [] → StopsIn scan 0 bytes
unfolding lines_of
search-start scan bytes stands = record { within = omega arith; stands = stands }

-- ---- a buffer whose cut was asked for

pub searched-on : (before after : Inside) (lent old : List ℕ) (cut : Cut) (scan : Scan) → lent ≡ before.window → before.window ≡ old → IsLookedAt cut scan lent
    → after ≡ record before { cut = cut; scan = scan; seen = length lent } → IsSearched after × (after.cut ≡ cut_of old)
searched-on before after lent old cut scan same view looked is =
    subst (λ (b : Inside). IsSearched b × (b.cut ≡ cut_of old)) (sym is) (
      subst (IsSearchedFor cut scan (length lent)) same looked.0,
      looked.1 ∙ ap cut_of (same ∙ view),
    )

-- the bytes that came end no line
pub searched-quiet : (before after : Inside) (lent old : List ℕ) → lent ≡ before.window → before.window ≡ old → IsSearched before → before.cut ≡ NotYet
    → IsQuiet before.seen lent → after ≡ record before { seen = length lent } → IsSearched after × (after.cut ≡ cut_of old)
searched-quiet before after lent old same view searched none quiet is =
    searched-on before after lent old NotYet before.scan same view
    (search-quiet before.scan before.seen lent
    (subst (λ cut. IsSearchedFor cut before.scan before.seen lent) none (subst (IsSearchedFor before.cut before.scan before.seen) (sym same) searched)) quiet)
    (is ∙ ap (λ cut. record before { cut = cut; seen = length lent }) none)

-- it was found before
pub searched-still : (before after : Inside) (old : List ℕ) → before.window ≡ old → IsSearched before → before.cut ≢ NotYet → after ≡ before
    → IsSearched after × (after.cut ≡ cut_of old)
searched-still before after old view searched there is =
    subst (λ (b : Inside). IsSearched b × (b.cut ≡ cut_of old)) (sym is)
    (searched, searched-cut before.cut before.scan before.seen before.window searched there ∙ ap cut_of view)

-- a head or too many bytes
pub found-there : (cut : Cut) → ((len : ℕ) × (cut ≡ Head len)) ⊎ (cut ≡ TooLong) → cut ≢ NotYet
found-there cut (inl head) none = let no : Head head.0 ≡ NotYet = sym head.1 ∙ none in cc
found-there cut (inr long) none = let no : TooLong ≡ NotYet = sym long ∙ none in cc
