-- What a legal history says of each colour.
use Rattle.std.proofs.Common.{◌≡◌, ℕ, ◌+◌, ◌-◌, ◌<◌, ◌≤◌, ◌%◌, ◌⊎◌, List, [], ◌∷◌, ◌++◌, Some, length, min, refl, sym, ap, subst, arith, inl, inr, ⊎_elim, length-append, length-drop}
use Rattle.std.proofs.lemmas.Bool.{cases_eq}
use Rattle.mely_event.specs.declared.colour.Colour.{Colour}
use Rattle.mely_history.specs.declared.setup.Setup.{Setup}
use Rattle.mely_history.specs.Setup.{shape_of}
use Rattle.mely_history.specs.declared.entry.Entry.{Entry}
use Rattle.mely_history.specs.declared.entry.Entry.TheVariants.{Reg, Take, Fin, Steal}
use Rattle.mely_history.specs.Entries.{colour_of}
use Rattle.mely_history.specs.History.{registered_of, begun_of, ended_of, queued_of, owner_of, IsRunning}
use Rattle.mely_history.specs.Legal.{IsAllowed, IsLegal}
use Rattle.mely_history.specs.ColourAccount.{ColourAccount, account_of, next_account}
use Rattle.mely_history.proofs.ColourAccountLemmas.{account-own, account-other}
use Rattle.mely_history.proofs.LegalLemmas.{over_legal}

-- the colour runs on its owner, on all that its last take took
pub record IsOnTurn (account : ColourAccount) : Type 0 where
  pub count : ℕ
  pub last : account.last ≡ Some (account.owner, count)
  pub some : 0 < count
  pub away : account.begun ≡ account.ended + count

-- what each legal history keeps of a colour: its owner is a core, only registered events were
-- begun, and it rests or runs on one turn of its owner
pub record IsSound (setup : Setup) (account : ColourAccount) : Type 0 where
  pub owner : account.owner < (shape_of setup).cores
  pub begun : account.begun ≤ length account.registered
  pub turn : (account.begun ≡ account.ended) ⊎ IsOnTurn account

-- two colours of one number are one
pub same_colour : (c d : Colour) → c.0 ≡ d.0 → c ≡ d
same_colour c d is = ap (λ k. record { 0 = k }) is

-- a take of a ready colour has some event, and none that isn't registered
pub taken_within : (setup : Setup) (history : List Entry) (c : Colour) (count : ℕ) → 0 < length (queued_of history c) → count ≡ min (shape_of setup).batch (length (queued_of history c)) → (0 < count) × (begun_of history c + count ≤ length (registered_of history c))
taken_within setup history c count some is =
    let waiting : length (queued_of history c) ≡ length (registered_of history c) - begun_of history c = length-drop (begun_of history c) (registered_of history c) in
    let batch : 1 ≤ (shape_of setup).batch = setup.batch_in.0 in
    (omega (arith, is, some, batch), omega (arith, is, some, waiting))

-- the account after an entry of its colour that may follow
sound_next : (setup : Setup) (history : List Entry) (entry : Entry) → IsAllowed setup history entry → IsSound setup (account_of setup history (colour_of entry)) → IsSound setup (next_account (account_of setup history (colour_of entry)) entry)
sound_next setup history (Reg c event by) may old = record {
  owner = old.owner;
  begun = let before = old.begun in rw length-append (omega arith);
  turn = ⊎_elim (λ (rest : begun_of history c ≡ ended_of history c). inl rest) (λ (on : IsOnTurn (account_of setup history c)). inr (record { count = on.count; last = on.last; some = on.some; away = on.away })) old.turn;
}
sound_next setup history (Take c core count) may old =
    let within = taken_within setup history c count may.ready.waiting may.whole_batch in
    let rest = may.ready.at_rest in
    record {
      owner = old.owner;
      begun = within.1;
      turn = inr (record { count = count; last = ap (λ k. Some (k, count)) may.by_owner; some = within.0; away = omega (arith, rest) });
    }
sound_next setup history (Fin c core count) may old = record { owner = old.owner; begun = old.begun; turn = inl may.whole }
sound_next setup history (Steal c from to) may old = record { owner = may.core; begun = old.begun; turn = inl may.ready.at_rest }

sound_more : (setup : Setup) (c : Colour) (history : List Entry) (entry : Entry) → IsAllowed setup history entry → ((d : Colour) → IsSound setup (account_of setup history d)) → IsSound setup (account_of setup (history ++ entry ∷ []) c)
sound_more setup c history entry may old = ⊎_elim
    (λ (own : (colour_of entry).0 ≡ c.0). subst (λ d. IsSound setup (account_of setup (history ++ entry ∷ []) d)) (same_colour (colour_of entry) c own)
    (subst (IsSound setup) (sym (account-own setup history entry (colour_of entry) refl)) (sound_next setup history entry may (old (colour_of entry)))))
    (λ (other : (colour_of entry).0 ≡ c.0 → ⊥). subst (IsSound setup) (sym (account-other setup history entry c other)) (old c))
    (cases_eq (colour_of entry).0 c.0)

-- what each legal history keeps of each colour
pub sound : (setup : Setup) (history : List Entry) → IsLegal setup history → (c : Colour) → IsSound setup (account_of setup history c)
sound setup = over_legal setup (λ history. (c : Colour) → IsSound setup (account_of setup history c))
    (λ c. record { owner = first_owner c; begun = omega arith; turn = inl refl })
    (λ history entry legal may old c. sound_more setup c history entry may old) where
      first_owner : (c : Colour) → c.0 % (shape_of setup).cores < (shape_of setup).cores
      first_owner c = let some : 1 ≤ (shape_of setup).cores = setup.cores_in.0 in omega (arith, some)

-- at most as many events were begun as were registered
pub begun_within : (setup : Setup) (history : List Entry) (c : Colour) → IsLegal setup history → begun_of history c ≤ length (registered_of history c)
begun_within setup history c legal = (sound setup history legal c).begun

-- at most as many were finished as were begun
pub ended_within : (setup : Setup) (history : List Entry) (c : Colour) → IsLegal setup history → ended_of history c ≤ begun_of history c
ended_within setup history c legal = ⊎_elim
    (λ (rest : begun_of history c ≡ ended_of history c). omega (arith, rest))
    (λ (on : IsOnTurn (account_of setup history c)). let away = on.away in omega (arith, away))
    (sound setup history legal c).turn

-- the owner is a core
pub owner_within : (setup : Setup) (history : List Entry) (c : Colour) → IsLegal setup history → owner_of setup history c < (shape_of setup).cores
owner_within setup history c legal = (sound setup history legal c).owner

-- a running colour runs on its owner, and all that was begun and not finished is its last batch
pub running_on_owner : (setup : Setup) (history : List Entry) (c : Colour) → IsLegal setup history → IsRunning history c → IsOnTurn (account_of setup history c)
running_on_owner setup history c legal runs = ⊎_elim
    (λ (rest : begun_of history c ≡ ended_of history c). absurd (omega (arith, rest, runs)))
    (λ (on : IsOnTurn (account_of setup history c)). on)
    (sound setup history legal c).turn
