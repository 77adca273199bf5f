use Rattle.std.proofs.Common.{ap, ◌∙◌, inl, inr}
use Rattle.sws_bench.proofs.FileLemmas.{meets_none}
use Rattle.sws_bench.proofs.site.bench_site.Goals as goal

pub unreachable-requires-in-Err-TooManyFiles : goal.unreachable-requires-in-Err-TooManyFiles
unreachable-requires-in-Err-TooManyFiles c =
    elim (meets_none _ c.in-Err-TooManyFiles.field-0 (ap (λ folder. folder.tells.files) c.new.ensures ∙ c.in_ok-files.ensures) c.in-Err-TooManyFiles.ensures.loads) [ inl is ↦ cc | inr is ↦ cc ]

pub unreachable-requires-in-Err-LongName : goal.unreachable-requires-in-Err-LongName
unreachable-requires-in-Err-LongName c =
    elim (meets_none _ c.in-Err-LongName.field-0 (ap (λ folder. folder.tells.files) c.new.ensures ∙ c.in_ok-files.ensures) c.in-Err-LongName.ensures.loads) [ inl is ↦ cc | inr is ↦ cc ]

pub unreachable-requires-in-Err-TooManyBytes : goal.unreachable-requires-in-Err-TooManyBytes
unreachable-requires-in-Err-TooManyBytes c =
    elim (meets_none _ c.in-Err-TooManyBytes.field-0 (ap (λ folder. folder.tells.files) c.new.ensures ∙ c.in_ok-files.ensures) c.in-Err-TooManyBytes.ensures.loads) [ inl is ↦ cc | inr is ↦ cc ]
