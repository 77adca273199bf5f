-- A run of actors on threads as a run of one thread.
use Rattle.std.specs.Prelude.{◌≡◌, ◌==◌, List, [], ◌∷◌, ◌++◌, Option, Some, if◌then◌else◌, filter, flat_map, fold, length, map, slice_get}
use Rattle.mely_event.specs.declared.colour.Colour.{Colour}
use Rattle.mely_actor.specs.declared.actor.Actor.{Ghosts as ActorWords}

-- a colour receives a message: the value before it and after it, and what is sent meanwhile
pub record Receipt (M V : Type 0) : Type 0 where
  pub colour : Colour
  pub message : M
  pub value : V
  pub becomes : V
  pub sends : List (Colour × M)

module _ {M V : Type 0} where
  -- of receipts those of a colour
  abbrev pub receipts_on : Colour → List (Receipt M V) → List (Receipt M V)
  receipts_on c receipts = filter (λ receipt. receipt.colour.0 == c.0) receipts

  -- the messages that a colour received by them, in order
  abbrev pub received_in : Colour → List (Receipt M V) → List M
  received_in c receipts = map (λ receipt. receipt.message) (receipts_on c receipts)

  -- and those that it sent meanwhile, in order
  abbrev pub sent_in : Colour → List (Receipt M V) → List (Colour × M)
  sent_in c receipts = flat_map (λ receipt. receipt.sends) (receipts_on c receipts)

  -- the values of all colours after a receipt
  abbrev pub values_after : (Colour → Option V) → Receipt M V → Colour → Option V
  values_after values receipt c =
      if c.0 == receipt.colour.0 then Some receipt.becomes else values c

  -- and after several
  abbrev pub values_along : (Colour → Option V) → List (Receipt M V) → Colour → Option V
  values_along values receipts = fold values_after values receipts

  -- One thread received these, one after another. It has the values of all colours, and the
  -- messages that are under way, each with the colour that it is for. Each receipt is of one that
  -- is under way, at the value of its colour, which becomes what the receipt leaves; what it sends
  -- is under way from then on. In the end nothing is under way, and the values are those that are
  -- left.
  abbrev pub ReceivedByOne : (Colour → Option V) → List (Colour × M) → List (Receipt M V)
      → (Colour → Option V) → Type 0
  ReceivedByOne values under_way [] left =
      (under_way ≡ []) × ((c : Colour) → left c ≡ values c)
  ReceivedByOne values under_way (receipt ∷ later) left = (front back : List (Colour × M))
      × (under_way ≡ front ++ (receipt.colour, receipt.message) ∷ back)
      × (values receipt.colour ≡ Some receipt.value)
      × ReceivedByOne (values_after values receipt) (front ++ back ++ receipt.sends) later left

-- There is one order of all receipts, in which those of each colour stand in their own, and by
-- which one thread might have received all messages, from the posts and the values with which the
-- colours begin. At each moment of it the value of each colour keeps the author's fact over what
-- the colour has received and sent by then.
pub record ReceivedAsByOne {A V M : Type 0} (a : ActorWords A V M) (actor : A)
    (posts : List (Colour × M)) (values : List V) (received : Colour → List M)
    (sent : Colour → List (Colour × M)) : Type 0 where
  pub first : List V
  pub many : length first ≡ length values
  pub all : List (Receipt M V)
  pub each_received : (c : Colour) → received_in c all ≡ received c
  pub each_sent : (c : Colour) → sent_in c all ≡ sent c
  pub made : ReceivedByOne (λ c. slice_get first c.0) posts all (λ c. slice_get values c.0)
  pub kept : (before later : List (Receipt M V)) → all ≡ before ++ later → (c : Colour) (value : V)
      → values_along (λ d. slice_get first d.0) before c ≡ Some value
      → a.kept actor c (received_in c before) (sent_in c before) value
