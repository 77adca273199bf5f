-- From what `clap` answers to the order of a command line.
use Rattle.std.proofs.Common.{◌≡◌, ◌∙◌, ◌≢◌, ◌&&◌, ℕ, Bool, true, false, List, [], ◌∷◌, Option, Some, None, refl, sym, ap, ap₂, codes, map, drop, take, length, ◌-◌, arith}
use Rattle.std.specs.Prelude.{if◌then◌else◌, is_some, option_and_then, option_map, Result, Ok, Err, IfErr}
use Rattle.std.specs.Str.{bytes_eq}
use Rattle.std.proofs.lemmas.List.{take_all}
use Rattle.clap.specs.Walk.{Row, Text, one_of}
use Rattle.clap.specs.Words.{first_value, rows_of, App}
use Rattle.clap.specs.Simple.{matches_of}
use Rattle.clap.specs.Matches.{one_text}
use Rattle.clap.specs.Kinds.{Kinds}
use Rattle.clap.specs.Faults.{fault_of}
use Rattle.clap.specs.declared.parser.matches.Found.{Found}
use Rattle.clap.proofs.WalkLemmas.{first_value-rows, one_text-rows}
use Rattle.sws_words.specs.Commands.{answer_app, replay_app, serve_app, bench_app, check_app, gopher_app}
use Rattle.sws_words.specs.Grammar.{given_of, has_bundle}
use Rattle.sws_words.specs.Orders.{Order, answer, replay, serve, bench, answer_by, answer_known, replay_by, replay_known, serve_by, serve_known, bench_by, bench_known, check, check_by, check_known, check_in, gopher, gopher_by, gopher_in, gopher_known, host_in, some_in, date_in, order_of, shape_in, within}
use Rattle.sws_words.specs.Orders as orders
use Rattle.sws_words.specs.declared.order.WordFault.{WordFault}
use Rattle.sws_words.specs.declared.order.WordFault.TheVariants.{Usage}
use Rattle.sws_words.proofs.Clap.ClapWalkLemmas.{unless}
use Rattle.sws_words.proofs.CommandRowsLemmas.{shape_at}
use Rattle.sws_words.proofs.FlagLemmas.{flag_got, flag_of, is_flag_text}
use Rattle.sws_words.proofs.SameLemmas.{ap₃, ap₅}
use Rattle.sws_words.proofs.EachCommand.AnswerLemmas.{answer_order, answer_at, answer_bundle}
use Rattle.sws_words.proofs.EachCommand.ReplayLemmas.{replay_order, replay_at, replay_bundle, journal_told, schedule_told, replay_log_told}
use Rattle.sws_words.proofs.EachCommand.ServeLemmas.{serve_order, serve_at, serve_bundle, serve_log_told}
use Rattle.sws_words.proofs.EachCommand.BenchLemmas.{bench_order, bench_at, bench_bundle}
use Rattle.sws_words.proofs.EachCommand.CheckLemmas.{check_order, check_at, check_bundle, check_log_told}
use Rattle.sws_words.proofs.EachCommand.GopherLemmas.{gopher_order, gopher_at, gopher_bundle, gopher_flag}

-- what is so whatever the fault is
pub of_any_fault : {T P : Type 0} (r : Result T WordFault) → P → IfErr r (λ fault. fault ≡ Usage → P)
of_any_fault (Ok x) p = tt
of_any_fault (Err y) p = λ _. p

-- where `clap` takes the words, the order is that of its rows
taken_order : {X : Type 0} {order : Option X} (at : List Row → Option X) (app target : App) (words : List Text) (f : Found) → app ≡ target
    → order ≡ option_and_then at (unless (fault_of target words) (Some (matches_of target words)))
    → fault_of app words ≡ [] → rows_of f ≡ matches_of app words → order ≡ at (rows_of f)
taken_order at app target words f is e taken rows =
    e ∙ ap (λ a. option_and_then at (unless (fault_of a words) (Some (matches_of a words)))) (sym is)
    ∙ ap (λ k. option_and_then at (unless k (Some (matches_of app words)))) taken
    ∙ ap at (sym rows)

fault_there : {X : Type 0} (k : Kinds) (x : Option X) → k ≢ [] → unless k x ≡ None
fault_there [] x n = absurd (n refl)
fault_there (k ∷ kinds) x n = refl

-- where it doesn't, there is none
refused_order : {X : Type 0} {order : Option X} (at : List Row → Option X) (app target : App) (words : List Text) → app ≡ target
    → order ≡ option_and_then at (unless (fault_of target words) (Some (matches_of target words)))
    → fault_of app words ≢ [] → order ≡ None
refused_order at app target words is e faults =
    e ∙ ap (λ a. option_and_then at (unless (fault_of a words) (Some (matches_of a words)))) (sym is)
    ∙ ap (option_and_then at) (fault_there (fault_of app words) (Some (matches_of app words)) faults)

none_after : {X Y : Type 0} (k : X → Option Y) (o : Option X) → ((x : X) → k x ≡ None) → option_and_then k o ≡ None
none_after k None all = refl
none_after k (Some x) all = all x

-- the shape, of what `clap` found
abbrev pub shape_told : Found → Option orders.Shape
shape_told f = shape_in (first_value f (codes "workers")) (first_value f (codes "shards")) (first_value f (codes "batch")) (first_value f (codes "group")) (first_value f (codes "cost"))

shape_rows : (f : Found) → shape_at (rows_of f) ≡ shape_told f
shape_rows f = ap₅ shape_in (sym (first_value-rows f (codes "workers"))) (sym (first_value-rows f (codes "shards"))) (sym (first_value-rows f (codes "batch"))) (sym (first_value-rows f (codes "group"))) (sym (first_value-rows f (codes "cost")))

-- what `get_flag` says is the flag's text, of what `clap` found
flag_is : (app target : App) (words : List Text) (f : Found) (name : Text) (r : Bool) → app ≡ target → fault_of app words ≡ [] → rows_of f ≡ matches_of app words
    → (fault_of target words ≡ [] → is_flag_text (one_of name (matches_of target words)) ≡ true)
    → (one_text f name ≡ Some (codes "true") → r ≡ true) → (one_text f name ≡ Some (codes "false") → r ≡ false) → flag_of (one_of name (rows_of f)) ≡ r
flag_is app target words f name r is taken rows told on off =
    flag_got r (one_of name (rows_of f)) (ap (λ found. is_flag_text (one_of name found)) (rows ∙ ap (λ a. matches_of a words) is) ∙ told (ap (λ a. fault_of a words) (sym is) ∙ taken))
    (λ e. on (one_text-rows f name ∙ e)) (λ e. off (one_text-rows f name ∙ e))

-- ---- an order of its parts

abbrev pub answer_parts : Option Text → Option (Option ℕ) → Option Order
answer_parts o d = option_and_then (λ f. option_map (λ x. answer f x) d) o

answer_no_date : (o : Option Text) (d : Option (Option ℕ)) → d ≡ None → answer_parts o d ≡ None
answer_no_date o d e = none_after (λ f. option_map (λ x. answer f x) d) o (λ f. ap (option_map (λ x. answer f x)) e)

answer_all : {f : Text} {x : Option ℕ} (o : Option Text) (d : Option (Option ℕ)) → o ≡ Some f → d ≡ Some x → answer_parts o d ≡ Some (answer f x)
answer_all o d e1 e2 = rw (e1, e2) refl

abbrev replay_parts : Option Text → Option orders.Shape → Option (Option ℕ) → Bool → Bool → Bool → Option Order
replay_parts o s d j t g = option_and_then (λ f. option_and_then (λ h. option_map (λ x. replay f h x j t g) d) s) o

replay_no_shape : (o : Option Text) (s : Option orders.Shape) (d : Option (Option ℕ)) (j t g : Bool) → s ≡ None → replay_parts o s d j t g ≡ None
replay_no_shape o s d j t g e = none_after _ o (λ f. ap (option_and_then (λ h. option_map (λ x. replay f h x j t g) d)) e)

replay_no_date : (o : Option Text) (s : Option orders.Shape) (d : Option (Option ℕ)) (j t g : Bool) → d ≡ None → replay_parts o s d j t g ≡ None
replay_no_date o s d j t g e = none_after _ o (λ f. none_after _ s (λ h. ap (option_map (λ x. replay f h x j t g)) e))

replay_all : {f : Text} {h : orders.Shape} {x : Option ℕ} (o : Option Text) (s : Option orders.Shape) (d : Option (Option ℕ)) (j t g : Bool)
    → o ≡ Some f → s ≡ Some h → d ≡ Some x → replay_parts o s d j t g ≡ Some (replay f h x j t g)
replay_all o s d j t g e1 e2 e3 = rw (e1, e2, e3) refl

abbrev pub serve_parts : Option Text → Option ℕ → Option ℕ → Option orders.Shape → Option (Option ℕ) → Bool → Option Order
serve_parts o p n s d g = option_and_then (λ f. option_and_then (λ q. option_and_then (λ c. option_and_then (λ h. option_map (λ x. serve f q c h x g) d) s) n) p) o

serve_no_port : (o : Option Text) (p n : Option ℕ) (s : Option orders.Shape) (d : Option (Option ℕ)) (g : Bool) → p ≡ None → serve_parts o p n s d g ≡ None
serve_no_port o p n s d g e = none_after _ o (λ f. ap (option_and_then (λ q. option_and_then (λ c. option_and_then (λ h. option_map (λ x. serve f q c h x g) d) s) n)) e)

serve_no_connections : (o : Option Text) (p n : Option ℕ) (s : Option orders.Shape) (d : Option (Option ℕ)) (g : Bool) → n ≡ None → serve_parts o p n s d g ≡ None
serve_no_connections o p n s d g e = none_after _ o (λ f. none_after _ p (λ q. ap (option_and_then (λ c. option_and_then (λ h. option_map (λ x. serve f q c h x g) d) s)) e))

serve_no_shape : (o : Option Text) (p n : Option ℕ) (s : Option orders.Shape) (d : Option (Option ℕ)) (g : Bool) → s ≡ None → serve_parts o p n s d g ≡ None
serve_no_shape o p n s d g e = none_after _ o (λ f. none_after _ p (λ q. none_after _ n (λ c. ap (option_and_then (λ h. option_map (λ x. serve f q c h x g) d)) e)))

serve_no_date : (o : Option Text) (p n : Option ℕ) (s : Option orders.Shape) (d : Option (Option ℕ)) (g : Bool) → d ≡ None → serve_parts o p n s d g ≡ None
serve_no_date o p n s d g e = none_after _ o (λ f. none_after _ p (λ q. none_after _ n (λ c. none_after _ s (λ h. ap (option_map (λ x. serve f q c h x g)) e))))

pub serve_all : {f : Text} {q c : ℕ} {h : orders.Shape} {x : Option ℕ} (o : Option Text) (p n : Option ℕ) (s : Option orders.Shape) (d : Option (Option ℕ)) (g : Bool)
    → o ≡ Some f → p ≡ Some q → n ≡ Some c → s ≡ Some h → d ≡ Some x → serve_parts o p n s d g ≡ Some (serve f q c h x g)
serve_all o p n s d g e1 e2 e3 e4 e5 = rw (e1, e2, e3, e4, e5) refl

abbrev bench_parts : Option ℕ → Option ℕ → Option orders.Shape → Option Order
bench_parts n m s = option_and_then (λ c. option_and_then (λ k. option_map (λ h. bench c k h) s) m) n

bench_no_number : (n m : Option ℕ) (s : Option orders.Shape) → m ≡ None → bench_parts n m s ≡ None
bench_no_number n m s e = none_after _ n (λ c. ap (option_and_then (λ k. option_map (λ h. bench c k h) s)) e)

bench_no_shape : (n m : Option ℕ) (s : Option orders.Shape) → s ≡ None → bench_parts n m s ≡ None
bench_no_shape n m s e = none_after _ n (λ c. none_after _ m (λ k. ap (option_map (λ h. bench c k h)) e))

bench_all : {c k : ℕ} {h : orders.Shape} (n m : Option ℕ) (s : Option orders.Shape) → n ≡ Some c → m ≡ Some k → s ≡ Some h → bench_parts n m s ≡ Some (bench c k h)
bench_all n m s e1 e2 e3 = rw (e1, e2, e3) refl

-- ---- `answer`

abbrev pub answer_of : Found → Option Order
answer_of f = answer_parts (first_value f (codes "folder")) (date_in (first_value f (codes "date")))

answer_found : (app : App) (words : List Text) (f : Found) → app ≡ answer_app → has_bundle words ≡ false → fault_of app words ≡ [] → rows_of f ≡ matches_of app words
    → option_and_then answer_by (given_of answer_known words) ≡ answer_of f
answer_found app words f is clear taken rows =
    taken_order answer_at app answer_app words f is (answer_order words clear) taken rows
    ∙ ap₂ answer_parts (sym (first_value-rows f (codes "folder"))) (ap date_in (sym (first_value-rows f (codes "date"))))

pub answer_refused : (app : App) (words : List Text) → app ≡ answer_app → has_bundle words ≡ false → fault_of app words ≢ []
    → option_and_then answer_by (given_of answer_known words) ≡ None
answer_refused app words is clear faults = refused_order answer_at app answer_app words is (answer_order words clear) faults

-- ---- `replay`

abbrev replay_of : Found → Bool → Bool → Bool → Option Order
replay_of f journal schedule log = replay_parts (first_value f (codes "folder")) (shape_told f) (date_in (first_value f (codes "date"))) journal schedule log

pub replay_refused : (app : App) (words : List Text) → app ≡ replay_app → has_bundle words ≡ false → fault_of app words ≢ []
    → option_and_then replay_by (given_of replay_known words) ≡ None
replay_refused app words is clear faults = refused_order replay_at app replay_app words is (replay_order words clear) faults

-- where the words are taken, with the flags as they are read of the rows
replay_found : (app : App) (words : List Text) (f : Found) → app ≡ replay_app → has_bundle words ≡ false → fault_of app words ≡ [] → rows_of f ≡ matches_of app words
    → option_and_then replay_by (given_of replay_known words)
    ≡ replay_of f (flag_of (one_of (codes "journal") (rows_of f))) (flag_of (one_of (codes "schedule") (rows_of f))) (flag_of (one_of (codes "log") (rows_of f)))
replay_found app words f is clear taken rows =
    taken_order replay_at app replay_app words f is (replay_order words clear) taken rows
    ∙ ap₃ (λ a b c. replay_parts a b c (flag_of (one_of (codes "journal") (rows_of f))) (flag_of (one_of (codes "schedule") (rows_of f))) (flag_of (one_of (codes "log") (rows_of f))))
    (sym (first_value-rows f (codes "folder"))) (shape_rows f) (ap date_in (sym (first_value-rows f (codes "date"))))

-- and a part is missing
replay_lacks : (app : App) (words : List Text) (f : Found) → app ≡ replay_app → has_bundle words ≡ false → fault_of app words ≡ [] → rows_of f ≡ matches_of app words
    → ((j t g : Bool) → replay_of f j t g ≡ None) → option_and_then replay_by (given_of replay_known words) ≡ None
replay_lacks app words f is clear taken rows lacks =
    replay_found app words f is clear taken rows
    ∙ lacks (flag_of (one_of (codes "journal") (rows_of f))) (flag_of (one_of (codes "schedule") (rows_of f))) (flag_of (one_of (codes "log") (rows_of f)))

-- ---- `serve`

abbrev serve_of : Found → Bool → Option Order
serve_of f log = serve_parts (first_value f (codes "folder")) (option_and_then (within 1 65535) (first_value f (codes "port"))) (option_and_then (within 1 1024) (first_value f (codes "connections"))) (shape_told f) (date_in (first_value f (codes "date"))) log

serve_found : (app : App) (words : List Text) (f : Found) → app ≡ serve_app → has_bundle words ≡ false → fault_of app words ≡ [] → rows_of f ≡ matches_of app words
    → option_and_then serve_by (given_of serve_known words) ≡ serve_of f (flag_of (one_of (codes "log") (rows_of f)))
serve_found app words f is clear taken rows =
    taken_order serve_at app serve_app words f is (serve_order words clear) taken rows
    ∙ ap₅ (λ o p n s d. serve_parts o p n s d (flag_of (one_of (codes "log") (rows_of f)))) (sym (first_value-rows f (codes "folder"))) (ap (option_and_then (within 1 65535)) (sym (first_value-rows f (codes "port")))) (ap (option_and_then (within 1 1024)) (sym (first_value-rows f (codes "connections")))) (shape_rows f) (ap date_in (sym (first_value-rows f (codes "date"))))

pub serve_refused : (app : App) (words : List Text) → app ≡ serve_app → has_bundle words ≡ false → fault_of app words ≢ []
    → option_and_then serve_by (given_of serve_known words) ≡ None
serve_refused app words is clear faults = refused_order serve_at app serve_app words is (serve_order words clear) faults

-- ---- `bench`

abbrev bench_of : Found → Option Order
bench_of f = bench_parts (option_and_then (within 1 1024) (first_value f (codes "connections"))) (option_and_then (within 0 4294967295) (first_value f (codes "number"))) (shape_told f)

bench_found : (app : App) (words : List Text) (f : Found) → app ≡ bench_app → has_bundle words ≡ false → fault_of app words ≡ [] → rows_of f ≡ matches_of app words
    → option_and_then bench_by (given_of bench_known words) ≡ bench_of f
bench_found app words f is clear taken rows =
    taken_order bench_at app bench_app words f is (bench_order words clear) taken rows
    ∙ ap₃ bench_parts (ap (option_and_then (within 1 1024)) (sym (first_value-rows f (codes "connections")))) (ap (option_and_then (within 0 4294967295)) (sym (first_value-rows f (codes "number")))) (shape_rows f)

pub bench_refused : (app : App) (words : List Text) → app ≡ bench_app → has_bundle words ≡ false → fault_of app words ≢ []
    → option_and_then bench_by (given_of bench_known words) ≡ None
bench_refused app words is clear faults = refused_order bench_at app bench_app words is (bench_order words clear) faults

-- ---- a part that is missing, and all parts

pub answer_lacks_folder : (app : App) (words : List Text) (f : Found) → app ≡ answer_app → has_bundle words ≡ false → fault_of app words ≡ [] → rows_of f ≡ matches_of app words
    → first_value f (codes "folder") ≡ None → option_and_then answer_by (given_of answer_known words) ≡ None
answer_lacks_folder app words f is clear taken rows e = answer_found app words f is clear taken rows ∙ ap (λ o. answer_parts o (date_in (first_value f (codes "date")))) e

pub answer_lacks_date : (app : App) (words : List Text) (f : Found) → app ≡ answer_app → has_bundle words ≡ false → fault_of app words ≡ [] → rows_of f ≡ matches_of app words
    → date_in (first_value f (codes "date")) ≡ None → option_and_then answer_by (given_of answer_known words) ≡ None
answer_lacks_date app words f is clear taken rows e = answer_found app words f is clear taken rows ∙ answer_no_date (first_value f (codes "folder")) (date_in (first_value f (codes "date"))) e

pub answer_complete : (app : App) (words : List Text) (f : Found) (v_folder : Text) (v_date : Option ℕ)
    → app ≡ answer_app → has_bundle words ≡ false → fault_of app words ≡ [] → rows_of f ≡ matches_of app words
    → first_value f (codes "folder") ≡ Some v_folder → date_in (first_value f (codes "date")) ≡ Some v_date
    → option_and_then answer_by (given_of answer_known words) ≡ Some (answer v_folder v_date)
answer_complete app words f v_folder v_date is clear taken rows e_folder e_date = answer_found app words f is clear taken rows ∙ answer_all (first_value f (codes "folder")) (date_in (first_value f (codes "date"))) e_folder e_date

pub replay_lacks_folder : (app : App) (words : List Text) (f : Found) → app ≡ replay_app → has_bundle words ≡ false → fault_of app words ≡ [] → rows_of f ≡ matches_of app words
    → first_value f (codes "folder") ≡ None → option_and_then replay_by (given_of replay_known words) ≡ None
replay_lacks_folder app words f is clear taken rows e = replay_lacks app words f is clear taken rows (λ j t g. ap (λ o. replay_parts o (shape_told f) (date_in (first_value f (codes "date"))) j t g) e)

pub replay_lacks_shape : (app : App) (words : List Text) (f : Found) → app ≡ replay_app → has_bundle words ≡ false → fault_of app words ≡ [] → rows_of f ≡ matches_of app words
    → shape_told f ≡ None → option_and_then replay_by (given_of replay_known words) ≡ None
replay_lacks_shape app words f is clear taken rows e = replay_lacks app words f is clear taken rows (λ j t g. replay_no_shape (first_value f (codes "folder")) (shape_told f) (date_in (first_value f (codes "date"))) j t g e)

pub replay_lacks_date : (app : App) (words : List Text) (f : Found) → app ≡ replay_app → has_bundle words ≡ false → fault_of app words ≡ [] → rows_of f ≡ matches_of app words
    → date_in (first_value f (codes "date")) ≡ None → option_and_then replay_by (given_of replay_known words) ≡ None
replay_lacks_date app words f is clear taken rows e = replay_lacks app words f is clear taken rows (λ j t g. replay_no_date (first_value f (codes "folder")) (shape_told f) (date_in (first_value f (codes "date"))) j t g e)

pub replay_complete : (app : App) (words : List Text) (f : Found) (journal schedule log : Bool) (v_folder : Text) (v_shape : orders.Shape) (v_date : Option ℕ)
    → app ≡ replay_app → has_bundle words ≡ false → fault_of app words ≡ [] → rows_of f ≡ matches_of app words
    → (one_text f (codes "journal") ≡ Some (codes "true") → journal ≡ true) → (one_text f (codes "journal") ≡ Some (codes "false") → journal ≡ false)
    → (one_text f (codes "schedule") ≡ Some (codes "true") → schedule ≡ true) → (one_text f (codes "schedule") ≡ Some (codes "false") → schedule ≡ false)
    → (one_text f (codes "log") ≡ Some (codes "true") → log ≡ true) → (one_text f (codes "log") ≡ Some (codes "false") → log ≡ false)
    → first_value f (codes "folder") ≡ Some v_folder → shape_told f ≡ Some v_shape → date_in (first_value f (codes "date")) ≡ Some v_date
    → option_and_then replay_by (given_of replay_known words) ≡ Some (replay v_folder v_shape v_date journal schedule log)
replay_complete app words f journal schedule log v_folder v_shape v_date is clear taken rows on off on_s off_s on_l off_l e_folder e_shape e_date =
    replay_found app words f is clear taken rows
    ∙ ap₃ (replay_of f) (flag_is app replay_app words f (codes "journal") journal is taken rows (journal_told words clear) on off)
    (flag_is app replay_app words f (codes "schedule") schedule is taken rows (schedule_told words clear) on_s off_s)
    (flag_is app replay_app words f (codes "log") log is taken rows (replay_log_told words clear) on_l off_l)
    ∙ replay_all (first_value f (codes "folder")) (shape_told f) (date_in (first_value f (codes "date"))) journal schedule log e_folder e_shape e_date

pub serve_lacks_folder : (app : App) (words : List Text) (f : Found) → app ≡ serve_app → has_bundle words ≡ false → fault_of app words ≡ [] → rows_of f ≡ matches_of app words
    → first_value f (codes "folder") ≡ None → option_and_then serve_by (given_of serve_known words) ≡ None
serve_lacks_folder app words f is clear taken rows e = serve_found app words f is clear taken rows ∙ ap (λ o. serve_parts o (option_and_then (within 1 65535) (first_value f (codes "port"))) (option_and_then (within 1 1024) (first_value f (codes "connections"))) (shape_told f) (date_in (first_value f (codes "date"))) (flag_of (one_of (codes "log") (rows_of f)))) e

pub serve_lacks_port : (app : App) (words : List Text) (f : Found) → app ≡ serve_app → has_bundle words ≡ false → fault_of app words ≡ [] → rows_of f ≡ matches_of app words
    → option_and_then (within 1 65535) (first_value f (codes "port")) ≡ None → option_and_then serve_by (given_of serve_known words) ≡ None
serve_lacks_port app words f is clear taken rows e = serve_found app words f is clear taken rows ∙ serve_no_port (first_value f (codes "folder")) (option_and_then (within 1 65535) (first_value f (codes "port"))) (option_and_then (within 1 1024) (first_value f (codes "connections"))) (shape_told f) (date_in (first_value f (codes "date"))) (flag_of (one_of (codes "log") (rows_of f))) e

pub serve_lacks_connections : (app : App) (words : List Text) (f : Found) → app ≡ serve_app → has_bundle words ≡ false → fault_of app words ≡ [] → rows_of f ≡ matches_of app words
    → option_and_then (within 1 1024) (first_value f (codes "connections")) ≡ None → option_and_then serve_by (given_of serve_known words) ≡ None
serve_lacks_connections app words f is clear taken rows e = serve_found app words f is clear taken rows ∙ serve_no_connections (first_value f (codes "folder")) (option_and_then (within 1 65535) (first_value f (codes "port"))) (option_and_then (within 1 1024) (first_value f (codes "connections"))) (shape_told f) (date_in (first_value f (codes "date"))) (flag_of (one_of (codes "log") (rows_of f))) e

pub serve_lacks_shape : (app : App) (words : List Text) (f : Found) → app ≡ serve_app → has_bundle words ≡ false → fault_of app words ≡ [] → rows_of f ≡ matches_of app words
    → shape_told f ≡ None → option_and_then serve_by (given_of serve_known words) ≡ None
serve_lacks_shape app words f is clear taken rows e = serve_found app words f is clear taken rows ∙ serve_no_shape (first_value f (codes "folder")) (option_and_then (within 1 65535) (first_value f (codes "port"))) (option_and_then (within 1 1024) (first_value f (codes "connections"))) (shape_told f) (date_in (first_value f (codes "date"))) (flag_of (one_of (codes "log") (rows_of f))) e

pub serve_lacks_date : (app : App) (words : List Text) (f : Found) → app ≡ serve_app → has_bundle words ≡ false → fault_of app words ≡ [] → rows_of f ≡ matches_of app words
    → date_in (first_value f (codes "date")) ≡ None → option_and_then serve_by (given_of serve_known words) ≡ None
serve_lacks_date app words f is clear taken rows e = serve_found app words f is clear taken rows ∙ serve_no_date (first_value f (codes "folder")) (option_and_then (within 1 65535) (first_value f (codes "port"))) (option_and_then (within 1 1024) (first_value f (codes "connections"))) (shape_told f) (date_in (first_value f (codes "date"))) (flag_of (one_of (codes "log") (rows_of f))) e

pub serve_complete : (app : App) (words : List Text) (f : Found) (log : Bool) (v_folder : Text) (v_port : ℕ) (v_connections : ℕ) (v_shape : orders.Shape) (v_date : Option ℕ)
    → app ≡ serve_app → has_bundle words ≡ false → fault_of app words ≡ [] → rows_of f ≡ matches_of app words
    → (one_text f (codes "log") ≡ Some (codes "true") → log ≡ true) → (one_text f (codes "log") ≡ Some (codes "false") → log ≡ false)
    → first_value f (codes "folder") ≡ Some v_folder → option_and_then (within 1 65535) (first_value f (codes "port")) ≡ Some v_port → option_and_then (within 1 1024) (first_value f (codes "connections")) ≡ Some v_connections → shape_told f ≡ Some v_shape → date_in (first_value f (codes "date")) ≡ Some v_date
    → option_and_then serve_by (given_of serve_known words) ≡ Some (serve v_folder v_port v_connections v_shape v_date log)
serve_complete app words f log v_folder v_port v_connections v_shape v_date is clear taken rows on off e_folder e_port e_connections e_shape e_date =
    serve_found app words f is clear taken rows ∙ ap (serve_of f) (flag_is app serve_app words f (codes "log") log is taken rows (serve_log_told words clear) on off)
    ∙ serve_all (first_value f (codes "folder")) (option_and_then (within 1 65535) (first_value f (codes "port"))) (option_and_then (within 1 1024) (first_value f (codes "connections"))) (shape_told f) (date_in (first_value f (codes "date"))) log e_folder e_port e_connections e_shape e_date

pub bench_lacks_connections : (app : App) (words : List Text) (f : Found) → app ≡ bench_app → has_bundle words ≡ false → fault_of app words ≡ [] → rows_of f ≡ matches_of app words
    → option_and_then (within 1 1024) (first_value f (codes "connections")) ≡ None → option_and_then bench_by (given_of bench_known words) ≡ None
bench_lacks_connections app words f is clear taken rows e = bench_found app words f is clear taken rows ∙ ap (λ o. bench_parts o (option_and_then (within 0 4294967295) (first_value f (codes "number"))) (shape_told f)) e

pub bench_lacks_number : (app : App) (words : List Text) (f : Found) → app ≡ bench_app → has_bundle words ≡ false → fault_of app words ≡ [] → rows_of f ≡ matches_of app words
    → option_and_then (within 0 4294967295) (first_value f (codes "number")) ≡ None → option_and_then bench_by (given_of bench_known words) ≡ None
bench_lacks_number app words f is clear taken rows e = bench_found app words f is clear taken rows ∙ bench_no_number (option_and_then (within 1 1024) (first_value f (codes "connections"))) (option_and_then (within 0 4294967295) (first_value f (codes "number"))) (shape_told f) e

pub bench_lacks_shape : (app : App) (words : List Text) (f : Found) → app ≡ bench_app → has_bundle words ≡ false → fault_of app words ≡ [] → rows_of f ≡ matches_of app words
    → shape_told f ≡ None → option_and_then bench_by (given_of bench_known words) ≡ None
bench_lacks_shape app words f is clear taken rows e = bench_found app words f is clear taken rows ∙ bench_no_shape (option_and_then (within 1 1024) (first_value f (codes "connections"))) (option_and_then (within 0 4294967295) (first_value f (codes "number"))) (shape_told f) e

pub bench_complete : (app : App) (words : List Text) (f : Found) (v_connections : ℕ) (v_number : ℕ) (v_shape : orders.Shape)
    → app ≡ bench_app → has_bundle words ≡ false → fault_of app words ≡ [] → rows_of f ≡ matches_of app words
    → option_and_then (within 1 1024) (first_value f (codes "connections")) ≡ Some v_connections → option_and_then (within 0 4294967295) (first_value f (codes "number")) ≡ Some v_number → shape_told f ≡ Some v_shape
    → option_and_then bench_by (given_of bench_known words) ≡ Some (bench v_connections v_number v_shape)
bench_complete app words f v_connections v_number v_shape is clear taken rows e_connections e_number e_shape = bench_found app words f is clear taken rows ∙ bench_all (option_and_then (within 1 1024) (first_value f (codes "connections"))) (option_and_then (within 0 4294967295) (first_value f (codes "number"))) (shape_told f) e_connections e_number e_shape

-- ---- `check`

check_found : (app : App) (words : List Text) (f : Found) → app ≡ check_app → has_bundle words ≡ false → fault_of app words ≡ [] → rows_of f ≡ matches_of app words
    → option_and_then check_by (given_of check_known words)
    ≡ check_in [] (option_and_then (within 0 1024) (first_value f (codes "connections"))) (shape_told f) (flag_of (one_of (codes "log") (rows_of f)))
check_found app words f is clear taken rows =
    taken_order check_at app check_app words f is (check_order words clear) taken rows
    ∙ ap₂ (λ o s. check_in [] (option_and_then (within 0 1024) o) s (flag_of (one_of (codes "log") (rows_of f)))) (sym (first_value-rows f (codes "connections"))) (shape_rows f)

pub check_refused : (app : App) (words : List Text) → app ≡ check_app → has_bundle words ≡ false → fault_of app words ≢ []
    → option_and_then check_by (given_of check_known words) ≡ None
check_refused app words is clear faults = refused_order check_at app check_app words is (check_order words clear) faults

pub check_lacks_connections : (app : App) (words : List Text) (f : Found) → app ≡ check_app → has_bundle words ≡ false → fault_of app words ≡ [] → rows_of f ≡ matches_of app words
    → option_and_then (within 0 1024) (first_value f (codes "connections")) ≡ None → option_and_then check_by (given_of check_known words) ≡ None
check_lacks_connections app words f is clear taken rows e = check_found app words f is clear taken rows ∙ ap (λ o. check_in [] o (shape_told f) (flag_of (one_of (codes "log") (rows_of f)))) e

pub check_lacks_shape : (app : App) (words : List Text) (f : Found) → app ≡ check_app → has_bundle words ≡ false → fault_of app words ≡ [] → rows_of f ≡ matches_of app words
    → shape_told f ≡ None → option_and_then check_by (given_of check_known words) ≡ None
check_lacks_shape app words f is clear taken rows e =
    check_found app words f is clear taken rows ∙ ap (λ s. check_in [] (option_and_then (within 0 1024) (first_value f (codes "connections"))) s (flag_of (one_of (codes "log") (rows_of f)))) e
    ∙ none_after _ (option_and_then (within 0 1024) (first_value f (codes "connections"))) (λ n. refl)

pub check_complete : (app : App) (words : List Text) (f : Found) (log : Bool) (connections : ℕ) (shape : orders.Shape) → app ≡ check_app → has_bundle words ≡ false → fault_of app words ≡ [] → rows_of f ≡ matches_of app words
    → (one_text f (codes "log") ≡ Some (codes "true") → log ≡ true) → (one_text f (codes "log") ≡ Some (codes "false") → log ≡ false)
    → option_and_then (within 0 1024) (first_value f (codes "connections")) ≡ Some connections → shape_told f ≡ Some shape
    → option_and_then check_by (given_of check_known words) ≡ Some (check connections shape log)
check_complete app words f log connections shape is clear taken rows on off e1 e2 =
    check_found app words f is clear taken rows
    ∙ ap₃ (check_in []) e1 e2 (flag_is app check_app words f (codes "log") log is taken rows (check_log_told words clear) on off)

-- ---- `gopher`

abbrev pub gopher_parts : Option Text → Option Text → Option ℕ → Option (Option ℕ) → Option orders.Shape → Bool → Option Order
gopher_parts o h p c s j = option_and_then (λ f. option_and_then (λ t. option_and_then (λ q. option_and_then (λ n. option_and_then (λ k. gopher_in f t q n k j) s) c) p) h) o

-- where a part is missing
gopher_no_host : (o h : Option Text) (p : Option ℕ) (c : Option (Option ℕ)) (s : Option orders.Shape) (j : Bool) → h ≡ None → gopher_parts o h p c s j ≡ None
gopher_no_host o h p c s j e = none_after _ o (λ f. ap (option_and_then (λ t. option_and_then (λ q. option_and_then (λ n. option_and_then (λ k. gopher_in f t q n k j) s) c) p)) e)

gopher_no_port : (o h : Option Text) (p : Option ℕ) (c : Option (Option ℕ)) (s : Option orders.Shape) (j : Bool) → p ≡ None → gopher_parts o h p c s j ≡ None
gopher_no_port o h p c s j e = none_after _ o (λ f. none_after _ h (λ t. ap (option_and_then (λ q. option_and_then (λ n. option_and_then (λ k. gopher_in f t q n k j) s) c)) e))

gopher_no_connections : (o h : Option Text) (p : Option ℕ) (c : Option (Option ℕ)) (s : Option orders.Shape) (j : Bool) → c ≡ None → gopher_parts o h p c s j ≡ None
gopher_no_connections o h p c s j e = none_after _ o (λ f. none_after _ h (λ t. none_after _ p (λ q. ap (option_and_then (λ n. option_and_then (λ k. gopher_in f t q n k j) s)) e)))

gopher_no_shape : (o h : Option Text) (p : Option ℕ) (c : Option (Option ℕ)) (s : Option orders.Shape) (j : Bool) → s ≡ None → gopher_parts o h p c s j ≡ None
gopher_no_shape o h p c s j e = none_after _ o (λ f. none_after _ h (λ t. none_after _ p (λ q. none_after _ c (λ n. ap (option_and_then (λ k. gopher_in f t q n k j)) e))))

abbrev gopher_of : Found → Bool → Option Order
gopher_of f journal = gopher_parts (first_value f (codes "folder")) (option_and_then host_in (first_value f (codes "host"))) (option_and_then (within 1 65535) (first_value f (codes "port")))
    (some_in (first_value f (codes "connections"))) (shape_told f) journal

module _ (app : App) (words : List Text) (f : Found) (is : app ≡ gopher_app) (clear : has_bundle words ≡ false) (taken : fault_of app words ≡ []) (rows : rows_of f ≡ matches_of app words) where
  gopher_found : option_and_then gopher_by (given_of gopher_known words) ≡ gopher_of f (flag_of (one_of (codes "journal") (rows_of f)))
  gopher_found =
      taken_order gopher_at app gopher_app words f is (gopher_order words clear) taken rows
      ∙ ap₅ (λ o h p c s. gopher_parts o h p c s (flag_of (one_of (codes "journal") (rows_of f)))) (sym (first_value-rows f (codes "folder")))
      (ap (option_and_then host_in) (sym (first_value-rows f (codes "host")))) (ap (option_and_then (within 1 65535)) (sym (first_value-rows f (codes "port"))))
      (ap some_in (sym (first_value-rows f (codes "connections")))) (shape_rows f)

  pub gopher_lacks_folder : first_value f (codes "folder") ≡ None → option_and_then gopher_by (given_of gopher_known words) ≡ None
  gopher_lacks_folder e = gopher_found ∙ ap (λ o. gopher_parts o (option_and_then host_in (first_value f (codes "host"))) (option_and_then (within 1 65535) (first_value f (codes "port")))
      (some_in (first_value f (codes "connections"))) (shape_told f) (flag_of (one_of (codes "journal") (rows_of f)))) e

  pub gopher_lacks_host : option_and_then host_in (first_value f (codes "host")) ≡ None → option_and_then gopher_by (given_of gopher_known words) ≡ None
  gopher_lacks_host e = gopher_found ∙ gopher_no_host (first_value f (codes "folder")) _ _ _ _ _ e

  pub gopher_lacks_port : option_and_then (within 1 65535) (first_value f (codes "port")) ≡ None → option_and_then gopher_by (given_of gopher_known words) ≡ None
  gopher_lacks_port e = gopher_found ∙ gopher_no_port (first_value f (codes "folder")) _ _ _ _ _ e

  pub gopher_lacks_connections : some_in (first_value f (codes "connections")) ≡ None → option_and_then gopher_by (given_of gopher_known words) ≡ None
  gopher_lacks_connections e = gopher_found ∙ gopher_no_connections (first_value f (codes "folder")) _ _ _ _ _ e

  pub gopher_lacks_shape : shape_told f ≡ None → option_and_then gopher_by (given_of gopher_known words) ≡ None
  gopher_lacks_shape e = gopher_found ∙ gopher_no_shape (first_value f (codes "folder")) _ _ _ _ _ e

  -- with all parts
  module _ (journal : Bool) (v_folder v_host : Text) (v_port : ℕ) (v_connections : Option ℕ) (v_shape : orders.Shape)
      (on : one_text f (codes "journal") ≡ Some (codes "true") → journal ≡ true) (off : one_text f (codes "journal") ≡ Some (codes "false") → journal ≡ false)
      (e_folder : first_value f (codes "folder") ≡ Some v_folder) (e_host : option_and_then host_in (first_value f (codes "host")) ≡ Some v_host)
      (e_port : option_and_then (within 1 65535) (first_value f (codes "port")) ≡ Some v_port) (e_connections : some_in (first_value f (codes "connections")) ≡ Some v_connections)
      (e_shape : shape_told f ≡ Some v_shape) where
    journal_is : flag_of (one_of (codes "journal") (rows_of f)) ≡ journal
    journal_is =
        flag_is app gopher_app words f (codes "journal") journal is taken rows (gopher_flag words clear) on off

    gopher_made : option_and_then gopher_by (given_of gopher_known words) ≡ gopher_in v_folder v_host v_port v_connections v_shape journal
    gopher_made = gopher_found ∙ ap (gopher_of f) journal_is ∙ ap₅ (λ o h p c s. gopher_parts o h p c s journal) e_folder e_host e_port e_connections e_shape

    -- a journal is asked for beside connections
    pub gopher_asks_both : (is_some v_connections && journal) ≡ true → option_and_then gopher_by (given_of gopher_known words) ≡ None
    gopher_asks_both both = gopher_made ∙ ap (λ b. if b then None else Some (gopher v_folder v_host v_port v_connections v_shape journal)) both

    pub gopher_complete : (is_some v_connections && journal) ≡ false → option_and_then gopher_by (given_of gopher_known words) ≡ Some (gopher v_folder v_host v_port v_connections v_shape journal)
    gopher_complete both = gopher_made ∙ ap (λ b. if b then None else Some (gopher v_folder v_host v_port v_connections v_shape journal)) both

pub gopher_refused : (app : App) (words : List Text) → app ≡ gopher_app → has_bundle words ≡ false → fault_of app words ≢ []
    → option_and_then gopher_by (given_of gopher_known words) ≡ None
gopher_refused app words is clear faults = refused_order gopher_at app gopher_app words is (gopher_order words clear) faults

-- ---- words with a bundle

no_order : (a b c d f g : Bool) {w x y z v u : Option Order} → w ≡ None → x ≡ None → y ≡ None → z ≡ None → v ≡ None → u ≡ None
    → (if a then w else if b then x else if c then y else if d then z else if f then v else if g then u else None) ≡ None
no_order true b c d f g p q r s t o = p
no_order false true c d f g p q r s t o = q
no_order false false true d f g p q r s t o = r
no_order false false false true f g p q r s t o = s
no_order false false false false true g p q r s t o = t
no_order false false false false false true p q r s t o = o
no_order false false false false false false p q r s t o = refl

-- the words behind the first one, as a slice of all
abbrev pub behind : {W : Type 0} → List W → List W
behind words = take (length words - 1) (drop 1 words)

all_behind : {W : Type 0} (word : W) (words : List W) → behind (word ∷ words) ≡ words
all_behind word words = take_all (length (word ∷ words) - 1) words (omega arith)

pub bundle_orders_none : {W : Type 0} (text : W → Text) (words : List W) → has_bundle (map text (behind words)) ≡ true → order_of (map text words) ≡ None
bundle_orders_none text [] e = refl
bundle_orders_none text (word ∷ words) e =
    let rest = map text words in
    let is : has_bundle rest ≡ true = ap (λ ws. has_bundle (map text ws)) (sym (all_behind word words)) ∙ e in
    no_order (bytes_eq (text word) (codes "answer")) (bytes_eq (text word) (codes "replay")) (bytes_eq (text word) (codes "serve")) (bytes_eq (text word) (codes "bench")) (bytes_eq (text word) (codes "check")) (bytes_eq (text word) (codes "gopher"))
    (answer_bundle rest is) (replay_bundle rest is) (serve_bundle rest is) (bench_bundle rest is) (check_bundle rest is) (gopher_bundle rest is)
