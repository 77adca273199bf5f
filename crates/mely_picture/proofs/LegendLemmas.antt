-- The colours of a legend.
use Rattle.std.proofs.Common.{◌≡◌, ℕ, ◌+◌, ◌*◌, Bool, true, false, List, [], ◌∷◌, ◌++◌, drop, refl, sym, ap, ◌∙◌, add-one}
use Rattle.std.specs.Prelude.{if◌then◌else◌}
use Rattle.std.specs.List.{flat_map}
use Rattle.mely_history.specs.declared.entry.Entry.{Entry}
use Rattle.mely_history.specs.declared.setup.Setup.{Setup}
use Rattle.mely_picture.specs.declared.plot.Plot.{Plot}
use Rattle.mely_picture.specs.Marks.{taken_colour, with_new, has}
use Rattle.mely_picture.specs.Pictures.{if_there, own_colours}
use Rattle.mely_picture.specs.Shown.{plot_colours, plots_colours}

choose : (t : Bool) (b p q r s : List ℕ) → p ≡ with_new r b → q ≡ with_new s b → (if t then p else q) ≡ with_new (if t then r else s) b
choose true b p q r s one other = one
choose false b p q r s one other = other

-- numbers behind others are added after those
pub with_new-append : (seen a b : List ℕ) → with_new seen (a ++ b) ≡ with_new (with_new seen a) b
with_new-append seen [] b = refl
with_new-append seen (n ∷ a) b =
    choose (has n seen) b (with_new seen (a ++ b)) (with_new (seen ++ n ∷ []) (a ++ b)) (with_new seen a) (with_new (seen ++ n ∷ []) a) (with_new-append seen a b) (with_new-append (seen ++ n ∷ []) a b)

-- the colours of a history
abbrev pub taken : List Entry → List ℕ
taken history = flat_map taken_colour history

-- some colours were added
pub seen_more : (seen now here more rest whole : List ℕ) → here ≡ more ++ rest → now ≡ with_new seen more → with_new seen here ≡ whole → with_new now rest ≡ whole
seen_more seen now here more rest whole parts is all = ap (λ s. with_new s rest) is ∙ sym (with_new-append seen more rest) ∙ ap (with_new seen) (sym parts) ∙ all

-- the colours of a panel were added
pub plot_more : (setup : Setup) (xs : List Plot) (at : ℕ) (x : Plot) (seen now whole : List ℕ) → drop at xs ≡ x ∷ drop (at + 1) xs → now ≡ with_new seen (plot_colours setup at x)
    → with_new seen (plots_colours setup at (drop at xs)) ≡ whole → with_new now (plots_colours setup (at + 1) (drop (at + 1) xs)) ≡ whole
plot_more setup xs at x seen now whole parts is all =
    seen_more seen now (plots_colours setup at (drop at xs)) (plot_colours setup at x) (plots_colours setup (at + 1) (drop (at + 1) xs)) whole (ap (plots_colours setup at) parts) is all

-- a colour with a class of its own was added, if it is there
pub own_more : (shards count number place colour : ℕ) (old before now : List ℕ) → colour ≡ number + shards * place → before ≡ with_new old (own_colours shards count number place) → now ≡ with_new before (if_there count colour)
    → now ≡ with_new old (own_colours shards count number (place + 1))
own_more shards count number place colour old before now is was one =
    let next = if_there count (number + shards * place) in
    one ∙ ap (λ k. with_new before (if_there count k)) is ∙ ap (λ b. with_new b next) was ∙ sym (with_new-append old (own_colours shards count number place) next)
    ∙ ap (λ n. with_new old (own_colours shards count number n)) (sym (add-one place))
