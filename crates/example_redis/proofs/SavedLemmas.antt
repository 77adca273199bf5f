-- The words of a request that sets a key, one behind another.
use Rattle.std.proofs.Common.{◌≡◌, ℕ, List, [], ◌++◌, ◌∙◌, Some, None, ap, append-nil, append_assoc, sym}
use Rattle.std.specs.Prelude.{Result, Ok, Err, OnOk, codes}
use Rattle.std.specs.Fmt.{decimal}
use Rattle.example_redis.proofs.ReplyLemmas.{put_behind}
use Rattle.example_redis.specs.Replies.{bulk}
use Rattle.example_redis.specs.Saved.{begun, saved_until}

-- three words with others behind them
three : (front one two three more : List ℕ) → (((front ++ one) ++ two) ++ three) ++ more ≡ front ++ (one ++ (two ++ (three ++ more)))
three front one two last more = append_assoc ((front ++ one) ++ two) last more ∙ append_assoc (front ++ one) two (last ++ more) ∙ append_assoc front one (two ++ (last ++ more))

set_text : (key bytes : List ℕ) → ((begun 3 ++ bulk (codes "SET")) ++ bulk key) ++ bulk bytes ≡ saved_until key bytes None
set_text key bytes = sym (append-nil (((begun 3 ++ bulk (codes "SET")) ++ bulk key) ++ bulk bytes)) ∙ three (begun 3) (bulk (codes "SET")) (bulk key) (bulk bytes) []

time_text : (key bytes : List ℕ) (until : ℕ) → (((begun 5 ++ bulk (codes "SET")) ++ bulk key) ++ bulk bytes) ++ (bulk (codes "PXAT") ++ bulk (decimal until)) ≡ saved_until key bytes (Some until)
time_text key bytes until = three (begun 5) (bulk (codes "SET")) (bulk key) (bulk bytes) (bulk (codes "PXAT") ++ bulk (decimal until))
    ∙ ap (λ (l : List ℕ). begun 5 ++ (bulk (codes "SET") ++ (bulk key ++ (bulk bytes ++ (bulk (codes "PXAT") ++ l))))) (sym (append-nil (bulk (decimal until))))

pub whole_set : {A E : Type 0} (answer : Result A E) (old new key bytes : List ℕ) → OnOk answer (new ≡ old ++ (((begun 3 ++ bulk (codes "SET")) ++ bulk key) ++ bulk bytes)) → OnOk answer (new ≡ old ++ saved_until key bytes None)
whole_set (Ok one) old new key bytes is = is ∙ ap (λ (l : List ℕ). old ++ l) (set_text key bytes)
whole_set (Err error) old new key bytes is = tt

pub timed_set : {A E : Type 0} (answer : Result A E) (old mid new key bytes : List ℕ) (until : ℕ) → mid ≡ old ++ (((begun 5 ++ bulk (codes "SET")) ++ bulk key) ++ bulk bytes) → OnOk answer (new ≡ mid ++ (bulk (codes "PXAT") ++ bulk (decimal until))) → OnOk answer (new ≡ old ++ saved_until key bytes (Some until))
timed_set answer old mid new key bytes until first second = put_behind answer old mid new _ _ _ first second (time_text key bytes until)
