-- The world of connections tells their scripts.
use Rattle.std.proofs.Common.{◌≡◌, ℕ, zero, suc, List, [], ◌∷◌, Some, map, refl, sym, ap, ◌∙◌, subst}
use Rattle.std.specs.Prelude.{slice_get, IsTrue}
use Rattle.std.proofs.lemmas.List.{length-map}
use Rattle.std.proofs.lemmas.Option.{same_Some}
use Rattle.sws_weave.specs.Scripted.{TellsScripts}
use Rattle.sws_link.specs.Scripts.{Script}
use Rattle.sws_link.specs.Worlds.{Coming, WorldContents}
use Rattle.sws_link.specs.declared.world.World.{Ghosts as WorldWords}
use Rattle.sws_script.specs.Scripted.{coming_of, script_of, told_of}
use Rattle.sws_script.specs.declared.input.ScriptConn.{ScriptConn}

answers_are : (conns : List ScriptConn) (i : ℕ) (link : Coming) (script : Script) → slice_get (map coming_of conns) i ≡ Some link → slice_get (map script_of conns) i ≡ Some script → link.answers ≡ Some script
answers_are [] i link script there at = cc
answers_are (conn ∷ conns) zero link script there at = ap (λ (c : Coming). c.answers) (sym (same_Some (coming_of conn) link there)) ∙ at
answers_are (conn ∷ conns) (suc i) link script there at = answers_are conns i link script there at

-- a world that tells what the world of connections does tells the scripts of these
pub scripts_told : {W L : Type 0} (x : WorldWords W L) (first : W) (conns : List ScriptConn) → x.tells first ≡ told_of conns → TellsScripts x first (map script_of conns)
scripts_told x first conns told = record {
  scripted = subst (λ (t : WorldContents). IsTrue t.scripted) (sym told) refl;
  many = ap (λ (t : WorldContents). t.total) told ∙ sym (length-map conns script_of);
  coming = map coming_of conns;
  told = ap (λ (t : WorldContents). t.coming) told;
  each = answers_are conns;
}
