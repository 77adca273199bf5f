-- The fields of a brief that was made.
use Rattle.std.proofs.Common.{◌≡◌, ℕ, ◌+◌, ◌-◌, ◌≤◌, min, List, [], ◌∷◌, ◌++◌, length, take, drop, replicate, refl, sym, ap, ◌∙◌, subst, arith, length-take-le, length-append}
use Rattle.std.proofs.lemmas.List.{drop-replicate, take_min, length-replicate}
use Rattle.std.proofs.Math.Seq.{drop-append_seam, take-append_seam}
use Rattle.sws_log.specs.Briefs.{IsBrief}

-- the bytes stand in front of zeros
pub record Made (bytes kept : List ℕ) (n : ℕ) : Type 0 where
  pub many : length (take n bytes) ≡ n
  pub within : n ≤ 64
  pub is : kept ≡ take n bytes ++ replicate (64 - n) 0

pub made : (bytes kept : List ℕ) (n : ℕ) → n ≡ min (length bytes) 64 → kept ≡ take n bytes ++ drop (length (take n bytes)) (replicate 64 0) → Made bytes kept n
made bytes kept n few is =
    let many = length-take-le n bytes (omega arith) in
    record {
      many = many;
      within = omega arith;
      is = is ∙ ap (λ l. take n bytes ++ l) (ap (λ m. drop m (replicate 64 0)) many ∙ drop-replicate n 64 0);
    }

pub is_brief : (bytes kept : List ℕ) (n : ℕ) → Made bytes kept n → IsBrief record { bytes = kept; len = n }
is_brief bytes kept n m = record {
  whole = ap length m.is ∙ length-append (take n bytes) (replicate (64 - n) 0) ∙ whole;
  within = m.within;
  zeros = ap (λ l. drop n l) m.is ∙ subst (λ k. drop k (take n bytes ++ replicate (64 - n) 0) ≡ replicate (64 - n) 0) m.many (drop-append_seam (take n bytes) (replicate (64 - n) 0));
}
  where
    whole : length (take n bytes) + length {A = ℕ} (replicate (64 - n) 0) ≡ 64
    whole = let all = length-replicate {A = ℕ} (64 - n) 0 in let many = m.many in let within = m.within in omega arith

pub shows_front : (bytes kept : List ℕ) (n : ℕ) → n ≡ min (length bytes) 64 → Made bytes kept n → take n kept ≡ take 64 bytes
shows_front bytes kept n few m =
    ap (λ l. take n l) m.is
    ∙ subst (λ k. take k (take n bytes ++ replicate (64 - n) 0) ≡ take n bytes) m.many (take-append_seam (take n bytes) (replicate (64 - n) 0))
    ∙ ap (λ k. take k bytes) same ∙ take_min 64 bytes
  where
    same : n ≡ min 64 (length bytes)
    same = omega arith
