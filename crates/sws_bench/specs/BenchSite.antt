-- The files that the connections of a bench ask for.
use Rattle.std.specs.Prelude.{ℕ, ◌+◌, ◌*◌, ◌%◌, List, ◌++◌, map, codes, None}
use Rattle.std.specs.List.{range_with_len}
use Rattle.std.specs.Fmt.{decimal}
use Rattle.sws_site.specs.Files.{File}
use Rattle.sws_site.specs.Options.{plain_options}
use Rattle.sws_site.specs.Site.{SiteState}

-- the letters from `a` to `z` over and over, 97 being `a`: a file of a greater number has more of
-- them, and begins with a later one
unfoldable pub contents : ℕ → List ℕ
contents number = map (λ place. 97 + (place + number) % 26) (range_with_len 0 (64 * (number + 1)))

-- `f0.txt` and so on
unfoldable pub file_name : ℕ → List ℕ
file_name number = codes "f" ++ decimal number ++ codes ".txt"

-- the file of this number
abbrev pub file : ℕ → File
file number = (file_name number, contents number)

-- sixteen files, without a date
unfoldable pub bench_files : List File
bench_files = map file (range_with_len 0 16)

-- the site of a bench, a plain one
abbrev pub bench_site : SiteState
bench_site = record { files = bench_files; date = None; options = plain_options }
