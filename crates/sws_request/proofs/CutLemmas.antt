-- Laws of cuts: there is one, and once it is a head or too long, more bytes do not change it.
use Rattle.std.specs.Prelude.{◌≡◌, ◌≢◌, ℕ, ◌≤◌, Bool, true, false, if◌then◌else◌, nat_le, List, ◌++◌, length, take, Option, Some, None}
use Rattle.std.proofs.Common.{refl, sym, ap, subst, arith, length-append, length-take, take_all, leb-true, leb-false}
use Rattle.std.proofs.lemmas.List.{take-append-le, take-take}
use Rattle.sws_request.specs.declared.cuts.Cut.{Cut}
use Rattle.sws_request.specs.declared.cuts.Cut.TheVariants.{Head, TooLong, NotYet}
use Rattle.sws_request.specs.Head.{IsHead, BeginsWithHead, IsCutOf}
use Rattle.sws_request.specs.Cuts.{head_len, cut_without, cut_by, cut_of}
use Rattle.sws_request.specs.Head.{HasNoHeadWithin, head_limit}
use Rattle.sws_request.proofs.HeadLemmas.{IsCutOf-ends, HasNoHeadWithin-past}
use Rattle.sws_request.proofs.LineLemmas.{IsEnding, ending-is}

-- there is no other cut
IsCutOf-unique : (bytes : List ℕ) (a b : Cut) → IsCutOf bytes a → IsCutOf bytes b → a ≡ b
IsCutOf-unique bytes (Head m) (Head n) x y = ap Head (by_order (nat_le m n) refl (nat_le n m) refl)
  where
    by_order : (a : Bool) → a ≡ nat_le m n → (b : Bool) → b ≡ nat_le n m → m ≡ n
    by_order false e b f = let less = leb-false m n (sym e) in absurd (x.0.shortest n less y.0.head)
    by_order true e false f = let less = leb-false n m (sym f) in absurd (y.0.shortest m less x.0.head)
    by_order true e true f = let low = leb-true m n (sym e) in let high = leb-true n m (sym f) in omega arith
IsCutOf-unique bytes (Head m) TooLong x y = absurd (y.0 m x.1 x.0.head)
IsCutOf-unique bytes (Head m) NotYet x y = absurd (y.0 m x.1 x.0.head)
IsCutOf-unique bytes TooLong (Head n) x y = absurd (x.0 n y.1 y.0.head)
IsCutOf-unique bytes TooLong TooLong x y = refl
IsCutOf-unique bytes TooLong NotYet x y = let long = x.1 in let short = y.1 in absurd (omega arith)
IsCutOf-unique bytes NotYet (Head n) x y = absurd (x.0 n y.1 y.0.head)
IsCutOf-unique bytes NotYet TooLong x y = let long = y.1 in let short = x.1 in absurd (omega arith)
IsCutOf-unique bytes NotYet NotYet x y = refl

-- the cut by lines is one
cut_of-cut : (bytes : List ℕ) → IsCutOf bytes (cut_of bytes)
unfolding cut_of
cut_of-cut bytes = by_end (head_len bytes) (ending-is false bytes)
  where
    without : HasNoHeadWithin head_limit bytes → (long : Bool) → long ≡ nat_le head_limit (length bytes) → IsCutOf bytes (if long then TooLong else NotYet)
    without none true e = (none, leb-true head_limit (length bytes) (sym e))
    without none false e = (none, leb-false head_limit (length bytes) (sym e))

    by_end : (found : Option ℕ) → IsEnding false bytes found → IsCutOf bytes (cut_by found (length bytes))
    by_end None never = without (λ n le h. never n h) (nat_le head_limit (length bytes)) refl
    by_end (Some len) at = within (nat_le len head_limit) refl
      where
        within : (short : Bool) → short ≡ nat_le len head_limit → IsCutOf bytes (if short then Head len else cut_without (length bytes))
        within true e = IsCutOf-ends bytes len at (leb-true len head_limit (sym e))
        within false e = without (HasNoHeadWithin-past bytes len at (leb-false len head_limit (sym e))) (nat_le head_limit (length bytes)) refl

-- so it is the cut of the bytes
pub cut_of-is : (bytes : List ℕ) (cut : Cut) → IsCutOf bytes cut → cut_of bytes ≡ cut
cut_of-is bytes cut is = IsCutOf-unique bytes (cut_of bytes) cut (cut_of-cut bytes) is

pub IsCutOf-cut_of : (bytes : List ℕ) (cut : Cut) → cut_of bytes ≡ cut → IsCutOf bytes cut
IsCutOf-cut_of bytes cut e = subst (IsCutOf bytes) e (cut_of-cut bytes)

same_front : (n : ℕ) (bytes more : List ℕ) → n ≤ length bytes → IsHead (take n (bytes ++ more)) → IsHead (take n bytes)
same_front n bytes more le h = subst IsHead (take-append-le n bytes more le) h

IsCutOf-append : (bytes more : List ℕ) (cut : Cut) → cut ≢ NotYet → IsCutOf bytes cut → IsCutOf (bytes ++ more) cut
IsCutOf-append bytes more (Head len) there is = (
  record {
    fits = let fits = is.0.fits in omega (arith, length-append bytes more);
    head = subst IsHead (sym (take-append-le len bytes more is.0.fits)) is.0.head;
    shortest = λ n lt h. is.0.shortest n lt (same_front n bytes more (let fits = is.0.fits in omega arith) h);
  },
  is.1,
)
IsCutOf-append bytes more TooLong there is = (
  λ n le h. is.0 n le (same_front n bytes more (let long = is.1 in omega arith) h),
  let long = is.1 in omega (arith, length-append bytes more),
)
IsCutOf-append bytes more NotYet there is = absurd (there refl)

-- more bytes don't change it, once it is there
pub cut_of-append : (bytes more : List ℕ) → cut_of bytes ≢ NotYet → cut_of (bytes ++ more) ≡ cut_of bytes
cut_of-append bytes more there = cut_of-is (bytes ++ more) (cut_of bytes) (IsCutOf-append bytes more (cut_of bytes) there (cut_of-cut bytes))

-- the head by itself is cut off at its end
pub cut_of-take : (bytes : List ℕ) (len : ℕ) → cut_of bytes ≡ Head len → cut_of (take len bytes) ≡ Head len
cut_of-take bytes len e = cut_of-is (take len bytes) (Head len) (head, is.1)
  where
    is : IsCutOf bytes (Head len)
    is = IsCutOf-cut_of bytes (Head len) e

    head : BeginsWithHead (take len bytes) len
    head = record {
      fits = let fits = is.0.fits in omega (arith, length-take len bytes);
      head = subst IsHead (sym (take_all len (take len bytes) (omega (arith, length-take len bytes)))) is.0.head;
      shortest = λ n lt h. is.0.shortest n lt (subst IsHead (take-take n len bytes (omega arith)) h);
    }
