-- A colour of another shard, or beyond those of the setup, has nothing in a shard's history.
use Rattle.std.proofs.Common.{◌≡◌, ℕ, ◌%◌, ◌<◌, ◌≤◌, List, [], ◌∷◌, None, length, refl, sym, ◌∙◌, ap, arith, ⊎_elim}
use Rattle.std.specs.List.{AllByRecursion, filter_map, cons_option}
use Rattle.std.proofs.lemmas.Bool.{cases_lt, cases_eq, ne_eqb}
use Rattle.std.proofs.lemmas.List.{length-drop, nil_from_length}
use Rattle.mely_event.specs.declared.colour.Colour.{Colour}
use Rattle.mely_history.specs.Setup.{shape_of, colours_of}
use Rattle.mely_history.specs.declared.setup.Setup.{Setup}
use Rattle.mely_history.specs.declared.entry.Entry.{Entry}
use Rattle.mely_history.specs.declared.entry.Entry.TheVariants.{Reg, Take, Fin, Steal}
use Rattle.mely_history.specs.Entries.{colour_of, registration_on}
use Rattle.mely_history.specs.History.{registered_of, begun_of, queued_of}
use Rattle.mely_history.specs.Legal.{IsLegal, IsOfShard, IsDrained, IsDrainedOf}
use Rattle.mely_history.proofs.LegalAccountLemmas.{begun_within, ended_within}
use Rattle.mely_history.proofs.BeyondLemmas.{none_registered}

-- an entry of another colour registers nothing on this one
registers_other : (c : Colour) (entry : Entry) → ((colour_of entry).0 ≡ c.0 → ⊥) → registration_on c entry ≡ None
registers_other c (Reg colour event by) ne = rw (ne_eqb colour.0 c.0 ne) refl
registers_other c (Take colour core count) ne = refl
registers_other c (Fin colour core count) ne = refl
registers_other c (Steal colour from to) ne = refl

-- where no entry registers on a colour, nothing is registered on it
unregistered : (c : Colour) (history : List Entry) → AllByRecursion (λ entry. registration_on c entry ≡ None) history → registered_of history c ≡ []
unregistered c [] none = refl
unregistered c (entry ∷ history) (first, rest) =
    ap (λ o. cons_option o (filter_map (registration_on c) history)) first ∙ unregistered c history rest

-- each entry is of a colour of the shard, and this one is of another
registers_elsewhere : (setup : Setup) (shard : ℕ) (c : Colour) (history : List Entry) → (c.0 % (shape_of setup).shards ≡ shard → ⊥) → IsOfShard setup shard history → AllByRecursion (λ entry. registration_on c entry ≡ None) history
registers_elsewhere setup shard c [] ne all = tt
registers_elsewhere setup shard c (entry ∷ history) ne (first, rest) =
    (registers_other c entry (λ same. ne (ap (λ n. n % (shape_of setup).shards) (sym same) ∙ first)), registers_elsewhere setup shard c history ne rest)

-- a colour on which nothing is registered is drained
drained_unregistered : (setup : Setup) (history : List Entry) (c : Colour) → IsLegal setup history → registered_of history c ≡ [] → IsDrainedOf history c
drained_unregistered setup history c legal none =
    let begun = begun_within setup history c legal in
    let ended = ended_within setup history c legal in
    let nothing : length (registered_of history c) ≡ 0 = ap length none in
    record {
      at_rest = omega (arith, begun, ended, nothing);
      none_queued = nil_from_length (queued_of history c) (length-drop (begun_of history c) (registered_of history c) ∙ omega (arith, nothing));
    }

-- where each colour of the shard is drained, every colour is
pub drained_everywhere : (setup : Setup) (shard : ℕ) (history : List Entry) → IsLegal setup history → IsOfShard setup shard history
    → ((c : Colour) → c.0 < colours_of setup → c.0 % (shape_of setup).shards ≡ shard → IsDrainedOf history c) → IsDrained history
drained_everywhere setup shard history legal of_shard own c =
    ⊎_elim
    (λ (there : c.0 < colours_of setup). ⊎_elim
    (λ (here : c.0 % (shape_of setup).shards ≡ shard). own c there here)
    (λ (ne : c.0 % (shape_of setup).shards ≡ shard → ⊥). drained_unregistered setup history c legal (unregistered c history (registers_elsewhere setup shard c history ne of_shard)))
    (cases_eq (c.0 % (shape_of setup).shards) shard))
    (λ (beyond : colours_of setup ≤ c.0). drained_unregistered setup history c legal
    (none_registered setup history legal c beyond))
    (cases_lt c.0 (colours_of setup))
