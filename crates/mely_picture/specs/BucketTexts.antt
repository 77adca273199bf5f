-- The text of a panel in buckets: a row for each core, in it for each bucket a column, and in that
-- a part for each class of colours that has entries there, one upon another.
use Rattle.std.specs.Prelude.{◌==◌, ℕ, zero, suc, ◌+◌, ◌-◌, ◌*◌, min, List, [], ◌∷◌, ◌++◌, codes, nat_lt, if◌then◌else◌}
use Rattle.mely_picture.specs.declared.part.Scale.{Scale}
use Rattle.mely_picture.specs.declared.part.Part.{Part}
use Rattle.mely_picture.specs.Layout.{row_top, hue_of}
use Rattle.mely_picture.specs.Texts.{numbered, rows_text}

-- the colour of a class: the shard's colours are its number and every so many as there are shards
abbrev pub colour_at : Scale → ℕ → ℕ
colour_at scale class = scale.number + scale.shards * class

-- the hue of a class, and grey for the last
abbrev pub part_fill : Scale → ℕ → List ℕ
part_fill scale class =
    if nat_lt class 16
    then numbered (codes "hsl(") (hue_of (colour_at scale class)) ++ codes ",70%,65%)"
    else codes "#888"

-- what a class is called
abbrev pub part_name : Scale → ℕ → List ℕ
part_name scale class =
    if nat_lt class 16 then numbered (codes "colour ") (colour_at scale class)
    else codes "other colours"

-- a part is as high as it has entries, and stands upon those below it in a column that is as high
-- as a bucket has entries
abbrev pub part_shape : Scale → Part → List ℕ
part_shape scale part =
    numbered (codes "<rect x='") part.bucket
    ++ numbered (codes "' y='") (scale.width - (part.below + part.count))
    ++ numbered (codes "' width='1' height='") part.count
    ++ codes "' fill='" ++ part_fill scale part.class ++ codes "'>"

-- what it says under the pointer: which entries the bucket has, and how many of them are the core's
-- and of these colours
abbrev pub part_title : Scale → Part → List ℕ
part_title scale part =
    numbered (codes "<title>entries ") (scale.width * part.bucket)
    ++ numbered (codes " to ")
    (min (scale.width * part.bucket + scale.width) scale.entries - 1)
    ++ numbered (codes ", core ") part.core ++ codes ": " ++ part_name scale part.class
    ++ numbered (codes ", entries ") part.count ++ (codes "</title></rect>" ++ 10 ∷ [])

-- a part, if it has entries
abbrev pub part_text : Scale → Part → List ℕ
part_text scale part =
    if part.count == 0 then [] else part_shape scale part ++ part_title scale part

-- a column of a core's row, from this class on, of which so many entries stand below
abbrev pub column_from : Scale → ℕ → ℕ → ℕ → ℕ → List ℕ → List ℕ
column_from scale core bucket class below [] = []
column_from scale core bucket class below (count ∷ counts) =
    part_text scale (record {
      core = core;
      bucket = bucket;
      class = class;
      below = below;
      count = count;
    }) ++ column_from scale core bucket (class + 1) (below + count) counts

-- the first columns of a core's row, by the counts of each
abbrev pub columns_text : Scale → ℕ → (ℕ → List ℕ) → ℕ → List ℕ
columns_text scale core shares zero = []
columns_text scale core shares (suc bucket) =
    columns_text scale core shares bucket ++ column_from scale core bucket 0 0 (shares bucket)

-- the row of a core: 128 columns, each 7 pixels wide
abbrev pub core_text : ℕ → Scale → ℕ → (ℕ → List ℕ) → List ℕ
core_text top scale core shares =
    numbered (codes "<svg x='76' y='") (row_top top core)
    ++ numbered (codes "' width='896' height='32' viewBox='0 0 128 ") scale.width
    ++ (codes "' preserveAspectRatio='none' shape-rendering='crispEdges'>" ++ 10 ∷ [])
    ++ columns_text scale core shares 128 ++ (codes "</svg>" ++ 10 ∷ [])

-- the rows of the first cores
abbrev pub cores_text : ℕ → Scale → (ℕ → ℕ → List ℕ) → ℕ → List ℕ
cores_text top scale shares zero = []
cores_text top scale shares (suc core) =
    cores_text top scale shares core ++ core_text top scale core (shares core)

-- that the last class is grey, where there are colours in it
abbrev pub rest_note : Scale → ℕ → List ℕ
rest_note scale colours =
    if nat_lt (colour_at scale 16) colours
    then numbered (codes "; grey: the colours from ") (colour_at scale 16) ++ codes " on" else []

-- the heading of a panel in buckets
abbrev pub bucket_heading : ℕ → Scale → ℕ → List ℕ
bucket_heading top scale colours =
    numbered (codes "<text class='head' x='16' y='") (top + 20)
    ++ numbered (codes "'>shard ") scale.number ++ numbered (codes ", entries ") scale.entries
    ++ numbered (codes ", in buckets of ") scale.width ++ rest_note scale colours
    ++ (codes "</text>" ++ 10 ∷ [])

-- a panel in buckets, of so many cores and colours, by the counts of each core's buckets
abbrev pub bucket_panel : ℕ → ℕ → ℕ → Scale → (ℕ → ℕ → List ℕ) → List ℕ
bucket_panel cores colours top scale shares =
    bucket_heading top scale colours ++ rows_text top 32 cores
    ++ cores_text top scale shares cores
