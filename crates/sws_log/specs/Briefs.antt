-- How a brief keeps its bytes.
use Rattle.std.specs.Prelude.{◌≡◌, ℕ, ◌≤◌, ◌-◌, List, ◌++◌, length, take, drop, replicate}
use Rattle.std.proofs.Common.{sym, ap, ap₂, ◌∙◌, subst, length-take-le, take-append-drop}
use Rattle.sws_log.specs.declared.brief.Brief.TheInside.{Inside}

-- its bytes stand in front, and behind them nothing but zeros
pub record IsBrief (brief : Inside) : Type 0 where
  pub whole : length brief.bytes ≡ 64
  pub within : brief.len ≤ 64
  pub zeros : drop brief.len brief.bytes ≡ replicate (64 - brief.len) 0

-- the fields that keep these bytes
abbrev pub fields_of : List ℕ → Inside
fields_of bytes = record { bytes = bytes ++ replicate (64 - length bytes) 0; len = length bytes }

-- the bytes give the fields back
pub fields_are : (brief : Inside) → IsBrief brief → fields_of (take brief.len brief.bytes) ≡ brief
fields_are brief is =
    let many : length (take brief.len brief.bytes) ≡ brief.len =
    length-take-le brief.len brief.bytes (subst (λ n. brief.len ≤ n) (sym is.whole) is.within) in
    let bytes : take brief.len brief.bytes ++ replicate (64 - length (take brief.len brief.bytes)) 0
    ≡ brief.bytes =
    ap (λ n. take brief.len brief.bytes ++ replicate (64 - n) 0) many
    ∙ ap (λ rest. take brief.len brief.bytes ++ rest) (sym is.zeros)
    ∙ take-append-drop brief.len brief.bytes in
    ap₂ (λ b n. record { bytes = b; len = n }) bytes many
