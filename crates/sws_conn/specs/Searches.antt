-- How far the bytes of a connection were searched for a head.
use Rattle.std.specs.Prelude.{◌≡◌, ◌<◌, ◌≤◌, ◌==◌, ℕ, false, List, length, take, drop}
use Rattle.std.specs.List.{list_any}
use Rattle.sws_request.specs.declared.cuts.Cut.{Cut}
use Rattle.sws_request.specs.declared.cuts.Cut.TheVariants.{Head, TooLong, NotYet}
use Rattle.sws_request.specs.declared.scans.Scan.{Scan}
use Rattle.sws_request.specs.Head.{line_feed, head_limit}
use Rattle.sws_request.specs.Cuts.{cut_of}
use Rattle.sws_request.specs.Scans.{StandsFor, whole_lines}
use Rattle.sws_conn.specs.declared.buffer.Buffer.TheInside.{Inside}

-- so many bytes were looked at, and the search stopped behind their whole lines
pub record StopsIn (scan : Scan) (seen : ℕ) (bytes : List ℕ) : Type 0 where
  pub within : seen ≤ length bytes
  pub stands : StandsFor scan (whole_lines (take seen bytes))

-- the search stopped at this byte, behind whole lines
pub record StopsAt (scan : Scan) (bytes : List ℕ) : Type 0 where
  pub within : scan.at ≤ length bytes
  pub stands : StandsFor scan (take scan.at bytes)

-- the cut that was found is that of the bytes, or the search goes on where it stopped
abbrev pub IsSearchedFor : Cut → Scan → ℕ → List ℕ → Type 0
IsSearchedFor (Head len) scan seen bytes = cut_of bytes ≡ Head len
IsSearchedFor TooLong scan seen bytes = cut_of bytes ≡ TooLong
IsSearchedFor NotYet scan seen bytes = StopsIn scan seen bytes

-- few bytes, of which those behind the first so many end no line
pub record IsQuiet (seen : ℕ) (bytes : List ℕ) : Type 0 where
  pub few : length bytes < head_limit
  pub no_feed : list_any (λ byte. byte == line_feed) (drop seen bytes) ≡ false

-- what is known once all bytes were looked at
abbrev pub IsLookedAt : Cut → Scan → List ℕ → Type 0
IsLookedAt cut scan bytes = IsSearchedFor cut scan (length bytes) bytes × (cut ≡ cut_of bytes)

-- what a buffer keeps of its search
abbrev pub IsSearched : Inside → Type 0
IsSearched buffer = IsSearchedFor buffer.cut buffer.scan buffer.seen buffer.window
