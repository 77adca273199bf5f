-- What is left to send of a head, of the fields of `Parts`.
use Rattle.std.specs.Prelude.{◌≤◌, if◌then◌else◌, List, ℕ, length, drop}
use Rattle.sws_parts.specs.declared.Parts.TheInside.{Inside}
use Rattle.sws_parts.specs.Parts.{PartsState}

-- the bytes that are left of the head, its own or a lent one
abbrev pub head_left : Inside → List ℕ
head_left parts = if parts.is_own then drop parts.sent parts.own else parts.head.now

-- no more of the head of its own was sent than there is
abbrev pub IsSentWithin : Inside → Type 0
IsSentWithin parts = parts.sent ≤ length parts.own

-- what a response shows of its fields
abbrev pub state_of : Inside → PartsState
state_of parts = record { head = head_left parts; body = parts.body.now }
