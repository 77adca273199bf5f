-- What a writer took and a reader gave, as far as these tell what they hold (`Write::contents`,
-- `Read::remaining`).
use Rattle.std.specs.Prelude.{ℕ, Bool, true, false, List, ◌++◌, take, Option}
use Rattle.std.specs.Io.KnownBytes.{Appends, Consumes, Keeps, IsAtEnd}
use Rattle.sws_link.specs.declared.Got.{Got}
use Rattle.sws_link.specs.declared.Got.TheVariants as got
use Rattle.sws_link.specs.Contents.{IsPrefix}

-- the writer took all the bytes, or a front of them where it failed
abbrev pub TookOf : Option (List ℕ) → Option (List ℕ) → Bool → List ℕ → Type 0
TookOf before now true bytes = Appends before now bytes
TookOf before now false bytes = (front : List ℕ) × IsPrefix front bytes × Appends before now front

-- the reader gave these bytes, had none left, or kept what it had where it failed
abbrev pub GaveOf : Option (List ℕ) → Option (List ℕ) → Got → List ℕ → Type 0
GaveOf before now (got.Took count) into = Consumes before now (take count into)
GaveOf before now got.End into = IsAtEnd now
GaveOf before now got.Failed into = Keeps before now
