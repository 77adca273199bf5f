-- What a message does to what a colour has, it does to the fold of what the colour has received.
use Rattle.std.proofs.Common.{◌≡◌, ◌+◌, ℕ, List, [], ◌∷◌, ◌++◌, Option, Some, length, map, sym, ◌∙◌, ap, fold, append_assoc}
use Rattle.std.proofs.lemmas.List.{append-nil, append_cancel_left, map-append}
use Rattle.std.proofs.lemmas.List.Elements.{filter_map-append}
use Rattle.std.proofs.lemmas.List.Sums.{fold-append}
use Rattle.std.specs.BTreeMap.{insert_entry}
use Rattle.std.specs.Global.{Global}
use Rattle.std.specs.List.{filter_map}
use Rattle.std.specs.Ordering.{nat_cmp}
use Rattle.std.specs.Prelude.{Result, Ok, Err, OnOk, String}
use Rattle.mely_event.specs.declared.colour.Colour.{Colour}
use Rattle.example_store.specs.declared.message.Message.{Message}
use Rattle.example_store.specs.declared.message.Message.TheVariants.{Put, Get, Answer}
use Rattle.example_store.specs.declared.store.TheConstants.{BUCKETS}
use Rattle.example_store.specs.Stores.{IsStored, Reply, after_one, answer_in, found_in, replies, reply_in, reply_to, text_of}

-- one message more replies by what the others made of the entries
replies_push : (entries : List (ℕ × String Global)) (received : List Message) (message : Message) → replies entries (received ++ message ∷ []) ≡ replies entries received ++ reply_to (fold after_one entries received) message
replies_push entries [] message = append-nil (reply_to entries message)
replies_push entries (one ∷ more) message =
    ap (λ l. reply_to entries one ++ l) (replies_push (after_one entries one) more message)
    ∙ sym (append_assoc (reply_to entries one) (replies (after_one entries one) more) (reply_to (fold after_one (after_one entries one) more) message))

-- what was sent, as replies
abbrev pub all_in : List (Colour × Message) → List (Option Reply)
all_in sent = map (λ (send : Colour × Message). reply_in send.0 send.1) sent

module _ (received : List Message) (sent new : List (Colour × Message)) (entries : List (ℕ × String Global)) (answers : List (ℕ × Option (String Global))) (message : Message) (stored : IsStored received sent entries answers) where
  -- one message more
  pub stored_more : (after : List (ℕ × String Global)) (told : List (ℕ × Option (String Global))) → after ≡ after_one entries message → told ≡ answers ++ filter_map answer_in (message ∷ []) → all_in new ≡ reply_to entries message → IsStored (received ++ message ∷ []) (sent ++ new) after told
  stored_more after told is tells replies_so = record {
    replied = map-append (λ (send : Colour × Message). reply_in send.0 send.1) sent new ∙ ap (λ l. l ++ all_in new) stored.replied ∙ ap (λ l. replies [] received ++ l) (replies_so ∙ ap (λ es. reply_to es message) stored.map_is) ∙ sym (replies_push [] received message);
    map_is = is ∙ sym (fold-append after_one [] received (message ∷ []) ∙ ap (λ es. after_one es message) (sym stored.map_is));
    answers_are = tells ∙ sym (filter_map-append answer_in received (message ∷ []) ∙ ap (λ l. l ++ filter_map answer_in (message ∷ [])) (sym stored.answers_are));
  }

  -- and what two facts say of it that come one after the other
  pub new_replies : (after : List (ℕ × String Global)) (told : List (ℕ × Option (String Global))) → IsStored (received ++ message ∷ []) (sent ++ new) after told → all_in new ≡ reply_to entries message
  new_replies after told is = append_cancel_left (all_in sent) (all_in new) (reply_to entries message)
      (sym (map-append (λ (send : Colour × Message). reply_in send.0 send.1) sent new) ∙ is.replied ∙ replies_push [] received message
      ∙ ap (λ l. l ++ reply_to (fold after_one [] received) message) (sym stored.replied) ∙ ap (λ es. all_in sent ++ reply_to es message) (sym stored.map_is))

-- the same on an answer, of a message that asks
pub get_done : {A E : Type 0} (entries : List (ℕ × String Global)) (answers : List (ℕ × Option (String Global))) (message : Message) (key client number : ℕ) (found : Option (String Global)) (new : List (Colour × Message)) (answer : Result A E) → message ≡ Get key client → new ≡ (record { 0 = BUCKETS + client }, Answer key found) ∷ [] → OnOk answer (text_of found ≡ found_in entries key)
    → OnOk answer ((received : List Message) (sent : List (Colour × Message)) → length received ≡ number → IsStored received sent entries answers → IsStored (received ++ message ∷ []) (sent ++ new) entries answers)
get_done entries answers message key client number found new (Err e) get sends finds = tt
get_done entries answers message key client number found new (Ok a) get sends finds = λ received sent many stored.
    stored_more received sent new entries answers message stored entries answers (ap (after_one entries) (sym get)) (sym (append-nil answers) ∙ ap (λ (m : Message). answers ++ filter_map answer_in (m ∷ [])) (sym get))
    (ap all_in sends ∙ ap (λ (text : Option (List ℕ)). Some (record { 0 = BUCKETS + client }, key, text) ∷ []) finds ∙ ap (reply_to entries) (sym get))

pub put_done : (received : List Message) (sent new : List (Colour × Message)) (entries after : List (ℕ × String Global)) (answers : List (ℕ × Option (String Global))) (message : Message) (key : ℕ) (value : String Global) → IsStored received sent entries answers → after ≡ insert_entry nat_cmp entries key value → new ≡ [] → message ≡ Put key value
    → IsStored (received ++ message ∷ []) (sent ++ new) after answers
put_done received sent new entries after answers message key value stored is none put =
    stored_more received sent new entries answers message stored after answers (is ∙ ap (after_one entries) (sym put)) (sym (append-nil answers) ∙ ap (λ (m : Message). answers ++ filter_map answer_in (m ∷ [])) (sym put)) (ap all_in none ∙ ap (reply_to entries) (sym put))

pub answer_done : (received : List Message) (sent new : List (Colour × Message)) (entries : List (ℕ × String Global)) (answers told : List (ℕ × Option (String Global))) (message : Message) (key : ℕ) (found : Option (String Global)) → IsStored received sent entries answers → told ≡ answers ++ (key, found) ∷ [] → new ≡ [] → message ≡ Answer key found
    → IsStored (received ++ message ∷ []) (sent ++ new) entries told
answer_done received sent new entries answers told message key found stored is none answer =
    stored_more received sent new entries answers message stored entries told (ap (after_one entries) (sym answer)) (is ∙ ap (λ (m : Message). answers ++ filter_map answer_in (m ∷ [])) (sym answer)) (ap all_in none ∙ ap (reply_to entries) (sym answer))
