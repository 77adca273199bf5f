-- How much of a text was read.
use Rattle.std.proofs.Common.{◌≡◌, ◌≢◌, ℕ, ◌+◌, ◌<◌, ◌≤◌, List, [], ◌++◌, Option, None, Some, Result, Ok, Err, length, take, refl, sym, ap, ◌∙◌, subst, arith, append-nil, append_assoc}
use Rattle.sws_link.specs.Contents.{Takes}
use Rattle.sws_link.specs.declared.Got.TheVariants.{Took, End, Failed}
use Rattle.mely_history.specs.declared.setup.Setup.{Setup}
use Rattle.mely_check.specs.Extent.{IsUnended, StopsInLine, IsFrontRead, ReadsOf, ReadsTold, IsFrom, piece_limit}
use Rattle.mely_check.specs.Hearing.{Walk}
use Rattle.mely_check.specs.Readers.{HasRead, Knows, Refuses, Ends, Stands}
use Rattle.mely_check.specs.declared.fault.CheckFault.{CheckFault}
use Rattle.mely_check.specs.declared.fault.CheckFault.TheVariants.{Read, BadJournal, NotLegal, NotDrained, Memory}
use Rattle.mely_check.specs.declared.reader.Reader.{Reader}
use Rattle.mely_check.specs.declared.report.Report.{Report}

-- the line that comes next in a text that is read so far has not ended in it, nor has a later one
unended_from : (Heard : Walk → Type 0) (setup : Setup) (text : List ℕ) (reader : Reader) (number : ℕ) → Knows Heard setup text reader → reader.place.number ≤ number → IsUnended text number
unended_from Heard setup text reader number k from = record {
  lines = k.lines;
  behind = reader.line.items;
  is = k.is;
  are = k.heard.at.are;
  no_feed = k.unended;
  short = k.short;
  before = (let next = k.heard.at.number in omega (arith, next, from));
}

-- before the first read
pub reads_nothing : (told : Option (List ℕ)) → ReadsTold told told (Err Memory)
reads_nothing None = refl
reads_nothing (Some text) = record { read = []; rest = text; is = refl; left_is = refl }

-- the source has failed
pub reads_failed : (Heard : Walk → Type 0) (setup : Setup) (whole left now : Option (List ℕ)) (room : List ℕ) (reader : Reader) → HasRead Heard setup whole left reader → Takes left now Failed room → ReadsTold whole now (Err Read)
reads_failed Heard setup None None now room reader read takes = takes
reads_failed Heard setup None (Some left) now room reader read takes = cc
reads_failed Heard setup (Some whole) None now room reader read takes = absurd read
reads_failed Heard setup (Some whole) (Some left) now room reader read takes = record { read = read.0; rest = left; is = read.1; left_is = takes }

-- a piece was refused
pub reads_piece : (Heard : Walk → Type 0) (setup : Setup) (whole left now : Option (List ℕ)) (count : ℕ) (room : List ℕ) (reader : Reader) (fault : CheckFault) → HasRead Heard setup whole left reader → Takes left now (Took count) room
    → ((text : List ℕ) → Stands text reader → Refuses reader.place.shards (text ++ take count room) fault) → length (take count room) ≤ piece_limit → IsFrom reader.place.number fault → ReadsTold whole now (Err fault)
reads_piece Heard setup None None now count room reader fault read takes refuses few from = takes
reads_piece Heard setup None (Some left) now count room reader fault read takes refuses few from = cc
reads_piece Heard setup (Some whole) None now count room reader fault read takes refuses few from = absurd read
reads_piece Heard setup (Some whole) (Some left) now count room reader fault read takes refuses few from = by_fault fault (refuses read.0 (stands read.2)) from
  where
    stands : Knows Heard setup read.0 reader → Stands read.0 reader
    stands k = record { lines = k.lines; at = k.heard.at; is = k.is; unended = k.unended; short = k.short }

    by_fault : (fault : CheckFault) → Refuses reader.place.shards (read.0 ++ take count room) fault → IsFrom reader.place.number fault → ReadsOf whole now (Err fault)
    by_fault Read refuses from = absurd refuses
    by_fault (BadJournal number) refuses from = record {
      before = read.0;
      piece = take count room;
      rest = takes.0;
      is = read.1 ∙ ap (λ t. read.0 ++ t) takes.2;
      left_is = takes.1;
      unended = unended_from Heard setup read.0 reader number read.2 from;
      few = few;
    }
    by_fault (NotLegal number) refuses from = absurd refuses
    by_fault (NotDrained colour) refuses from = absurd refuses
    by_fault Memory refuses from = record {
      read = read.0 ++ take count room;
      rest = takes.0;
      is = read.1 ∙ ap (λ t. read.0 ++ t) takes.2 ∙ sym (append_assoc read.0 (take count room) takes.0);
      left_is = takes.1;
    }

-- the text has ended
pub reads_whole : (Heard : Walk → Type 0) (setup : Setup) (whole left now : Option (List ℕ)) (room : List ℕ) (reader : Reader) (result : Result Report CheckFault) → HasRead Heard setup whole left reader → Takes left now End room
    → ((fault : CheckFault) → result ≡ Err fault → (fault ≢ Read) × IsFrom reader.place.number fault) → ReadsTold whole now result
reads_whole Heard setup None None now room reader result read takes sound = takes
reads_whole Heard setup None (Some left) now room reader result read takes sound = cc
reads_whole Heard setup (Some whole) None now room reader result read takes sound = absurd read
reads_whole Heard setup (Some whole) (Some left) now room reader result read takes sound = by_result result sound
  where
    all : whole ≡ read.0
    all = read.1 ∙ ap (λ t. read.0 ++ t) takes.0 ∙ append-nil read.0

    by_result : (result : Result Report CheckFault) → ((fault : CheckFault) → result ≡ Err fault → (fault ≢ Read) × IsFrom reader.place.number fault) → ReadsOf whole now result
    by_result (Ok report) sound = takes.1
    by_result (Err Read) sound = absurd ((sound Read refl).0 refl)
    by_result (Err (BadJournal number)) sound = record {
      before = whole;
      piece = [];
      rest = [];
      is = sym (append-nil whole);
      left_is = takes.1;
      unended = subst (λ (t : List ℕ). IsUnended t number) (sym all) (unended_from Heard setup read.0 reader number read.2 (sound (BadJournal number) refl).1);
      few = omega arith;
    }
    by_result (Err (NotLegal line)) sound = takes.1
    by_result (Err (NotDrained colour)) sound = takes.1
    by_result (Err Memory) sound = record { read = whole; rest = []; is = sym (append-nil whole); left_is = takes.1 }
