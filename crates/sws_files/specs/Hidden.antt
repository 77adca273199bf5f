-- Which entries of a folder are hidden.
use Rattle.std.specs.Prelude.{ℕ, Bool, false, not, ◌&&◌, List, codes, nat_eq, slice_get}
use Rattle.std.specs.Option.{option_map_or}
use Rattle.std.specs.Str.{bytes_eq}

-- the name begins with a dot, of the code 46
abbrev pub begins_with_dot : List ℕ → Bool
begins_with_dot name = option_map_or (nat_eq 46) (slice_get name 0) false

-- the name begins with a dot, and at the top of a folder it isn't the one of well-known places (RFC
-- 8615, section 3)
abbrev pub is_hidden_name : List ℕ → Bool → Bool
is_hidden_name name is_top =
    begins_with_dot name && not (is_top && bytes_eq name (codes ".well-known"))
