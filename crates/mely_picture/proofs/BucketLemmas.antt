-- One column of a row more.
use Rattle.std.proofs.Common.{◌≡◌, ℕ, ◌+◌, List, ◌++◌, sym, ap, ◌∙◌, add-one}
use Rattle.mely_picture.specs.declared.part.Scale.{Scale}
use Rattle.mely_picture.specs.BucketTexts.{column_from, columns_text}
use Rattle.mely_picture.proofs.ListLemmas.{join}

pub column_more : (scale : Scale) (core : ℕ) (shares : ℕ → List ℕ) (bucket : ℕ) (old text new counts : List ℕ) → text ≡ old ++ columns_text scale core shares bucket → counts ≡ shares bucket
    → new ≡ text ++ column_from scale core bucket 0 0 counts → new ≡ old ++ columns_text scale core shares (bucket + 1)
column_more scale core shares bucket old text new counts before is one =
    join old text new (columns_text scale core shares bucket) (column_from scale core bucket 0 0 (shares bucket)) before (one ∙ ap (λ k. text ++ column_from scale core bucket 0 0 k) is)
    ∙ ap (λ n. old ++ columns_text scale core shares n) (sym (add-one bucket))
