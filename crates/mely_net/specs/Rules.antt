-- What a service is, for contracts.
use Rattle.std.specs.Prelude.{ℕ, List}
use Rattle.mely_net.specs.declared.cut.Cut.{Cut}
use Rattle.mely_net.specs.declared.asked.Asked.{Asked}

-- what a service goes by
pub record Rules (Request Reply Cell : Type 0) : Type 1 where
  -- how many cells there are, and how many bytes a frame has at most
  pub cells : ℕ
  pub longest : ℕ
  -- where the first frame of some bytes ends
  pub cut : List ℕ → Cut
  -- what a frame may ask
  pub Asks : List ℕ → Asked Request Reply → Type 0
  -- what may be answered to bytes that begin with no frame
  pub Refuses : Reply → Type 0
  -- what the cell of a number may begin with
  pub Begins : ℕ → Cell → Type 0
  -- a step: the cell of a number has a value, is asked this, and has another then and replies this
  pub Serves : ℕ → Cell → Request → Cell → Reply → Type 0
  -- the bytes of a reply, with what cells replied in turn to a request that asked several; where it
  -- didn't, there is nothing of that
  pub shown : Reply → List Reply → List ℕ
