-- The world of connections.
use Rattle.std.proofs.Common.{◌≡◌, ℕ, ◌<◌, ◌-◌, Bool, true, false, List, [], ◌∷◌, ◌++◌, length, map, zero, suc, Option, Some, None, refl, sym, ap, ◌∙◌, subst, arith}
use Rattle.std.specs.Prelude.{⊤}
use Rattle.std.specs.List.{flat_map, AllByRecursion}
use Rattle.sws_link.specs.Scripts.{Script, left_of_limit}
use Rattle.sws_link.specs.MemLinks.{script_by_step}
use Rattle.sws_link.specs.Worlds.{Coming, WorldContents, AreScripted}
use Rattle.sws_link.specs.MemWorlds.{IsInitialMemLink, mem_coming, mem_world_tells}
use Rattle.sws_script.specs.declared.input.Input.{Input}
use Rattle.sws_script.specs.declared.input.ScriptConn.{ScriptConn}
use Rattle.sws_script.specs.declared.line.Line.{Line}
use Rattle.sws_script.specs.declared.line.Line.TheVariants as line
use Rattle.sws_script.specs.Lines.{IsLine}
use Rattle.sws_script.specs.Inputs.{step_lines, cut_lines, conn_lines, schedule_lines, script_lines, IsInput}
use Rattle.sws_script.specs.Scripted.{link_of, coming_of, script_of, world_of, told_of}

-- nothing has happened on the links
pub links_initial : (conns : List ScriptConn) → AllByRecursion IsInitialMemLink (map link_of conns)
links_initial [] = tt
links_initial (conn ∷ conns) = (record { taken = refl; written = refl; failed = refl; waits = refl; not_shut = refl }, links_initial conns)

-- ---- the steps of an input aren't 0

abbrev AreLines : List Line → Type 0
AreLines lines = AllByRecursion IsLine lines

front : (a b : List Line) → AreLines (a ++ b) → AreLines a
front [] b all = tt
front (l ∷ a) b all = (all.0, front a b all.1)

back : (a b : List Line) → AreLines (a ++ b) → AreLines b
back [] b all = all
back (l ∷ a) b all = back a b all.1

-- one write takes some bytes
abbrev TakesSome : Option ℕ → Type 0
TakesSome None = ⊤
TakesSome (Some count) = 0 < count

step_some : (step : Option ℕ) → AreLines (step_lines step) → TakesSome step
step_some None all = tt
step_some (Some count) all = let some = all.0.0 in omega arith

conn_some : (conn : ScriptConn) → AreLines (conn_lines conn) → TakesSome conn.step
conn_some conn all =
    step_some conn.step (front (step_lines conn.step) (cut_lines conn.cut) (front (step_lines conn.step ++ cut_lines conn.cut) (map line.Item conn.items) all.1))

conns_some : (conns : List ScriptConn) → AreLines (flat_map conn_lines conns) → AllByRecursion (λ conn. TakesSome conn.step) conns
conns_some [] all = tt
conns_some (conn ∷ conns) all =
    (conn_some conn (front (conn_lines conn) (flat_map conn_lines conns) all), conns_some conns (back (conn_lines conn) (flat_map conn_lines conns) all))

input_some : (schedule : Bool) (cores : ℕ) (input : Input) → IsInput schedule cores input → AllByRecursion (λ conn. TakesSome conn.step) input.conns
input_some false cores input is = conns_some input.conns is.lines.1
input_some true cores input is = conns_some input.conns (back (schedule_lines input.steps) (script_lines input.conns) is.lines).1

-- ---- what is told

by_step : (step : Option ℕ) (script : Script) → TakesSome step → script_by_step step script ≡ Some script
by_step None script some = refl
by_step (Some zero) script some = absurd (omega arith)
by_step (Some (suc count)) script some = refl

not_lowered : (cut : Option ℕ) → left_of_limit cut 0 ≡ cut
not_lowered None = refl
not_lowered (Some count) = let same : count - 0 ≡ count = omega arith in ap (λ n. Some n) same

answers : ScriptConn → Option ℕ → Script
answers conn cut = record { items = (script_of conn).items; step = conn.step; cut = cut }

coming_with : ScriptConn → Option Script → Coming
coming_with conn told = record { input = (coming_of conn).input; answers = told; says_all = true }

coming_is : (conn : ScriptConn) → TakesSome conn.step → mem_coming (link_of conn) ≡ coming_of conn
unfolding answers coming_with
coming_is conn some =
    ap (λ cut. coming_with conn (script_by_step conn.step (answers conn cut))) (not_lowered conn.cut)
    ∙ ap (coming_with conn) (by_step conn.step (script_of conn) some)

comings_are : (conns : List ScriptConn) → AllByRecursion (λ conn. TakesSome conn.step) conns → map mem_coming (map link_of conns) ≡ map coming_of conns
comings_are [] all = refl
comings_are (conn ∷ conns) all = ap (λ c. c ∷ map mem_coming (map link_of conns)) (coming_is conn all.0) ∙ ap (λ cs. coming_of conn ∷ cs) (comings_are conns all.1)

as_many : (conns : List ScriptConn) → length (map link_of conns) ≡ length conns
as_many [] = refl
as_many (conn ∷ conns) = let more = as_many conns in omega arith

told_with : List Coming → ℕ → WorldContents
told_with coming total = record { coming = Some coming; total = total; accepted = 0; port = 0; scripted = true }

-- what the world of an input tells
pub world_told : (schedule : Bool) (cores : ℕ) (input : Input) → IsInput schedule cores input → mem_world_tells (world_of input.conns) ≡ told_of input.conns
unfolding told_with
world_told schedule cores input is =
    ap (λ coming. told_with coming (length (map link_of input.conns))) (comings_are input.conns (input_some schedule cores input is))
    ∙ ap (told_with (map coming_of input.conns)) (as_many input.conns)

answers_told : (conns : List ScriptConn) → AreScripted (Some (map coming_of conns))
answers_told [] = tt
answers_told (conn ∷ conns) = (refl, answers_told conns)

-- the world of an input tells the answers of each link
pub world_scripted : (schedule : Bool) (cores : ℕ) (input : Input) → IsInput schedule cores input → AreScripted (mem_world_tells (world_of input.conns)).coming
world_scripted schedule cores input is =
    subst AreScripted (sym (ap (λ (told : WorldContents). told.coming) (world_told schedule cores input is))) (answers_told input.conns)
