-- A call: a pass goes in, something is done with the value, and the pass is outside again.
use Rattle.std.specs.Prelude.{◌≡◌, ℕ, List}
use Rattle.std.specs.Borrow.{MutBor}
use Rattle.std.specs.Fn.{Once}
use Rattle.mely_lock.specs.Seen.{OthersSince, GrewByAtMostOne}

module _ {V N F C A T : Type 0} (history_of : V → List N) (pass_of : N → ℕ) (frame_of : V → F)
    (does : Once C (MutBor V × (A × (ℕ × Unit {0}))) (T × (MutBor V × Unit {0}))) where
  -- what the pass n does with what is given may be done with each value that it may find, whose
  -- history begins with what it has seen and goes on by notes of others alone; it leaves the frame
  -- as it is, and the history too but for at most one further note, of the pass's number
  pub record MayCall (f : C) (given : A) (frame : F) (n : ℕ) (front : List N) : Type 0 where
    pub takes : (x : MutBor V) → frame_of x.now ≡ frame
        → OthersSince pass_of n front (history_of x.now) → does.pre f (x, (given, (n, tt)))
    pub framed : (x y : MutBor V) (answer : T) → frame_of x.now ≡ frame
        → OthersSince pass_of n front (history_of x.now)
        → does.post f (x, (given, (n, tt))) (answer, (y, tt)) → frame_of y.now ≡ frame
    pub grown : (x y : MutBor V) (answer : T) → frame_of x.now ≡ frame
        → OthersSince pass_of n front (history_of x.now)
        → does.post f (x, (given, (n, tt))) (answer, (y, tt))
        → GrewByAtMostOne pass_of n (history_of x.now) (history_of y.now)

  -- a call by the pass n: what it found, whose history begins with what the pass had seen and goes
  -- on by notes of others alone, and what was done with it, after which the pass has seen the whole
  pub record HasCalled (f : C) (given : A) (frame : F) (n : ℕ) (before after : List N) (answer : T)
      : Type 0 where
    pub found : MutBor V
    pub framed : frame_of found.now ≡ frame
    pub others : OthersSince pass_of n before (history_of found.now)
    pub left : MutBor V
    pub did : does.post f (found, (given, (n, tt))) (answer, (left, tt))
    pub seen : history_of left.now ≡ after
