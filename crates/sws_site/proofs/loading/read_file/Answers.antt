use Rattle.std.proofs.Common.{◌≡◌, ℕ, Result, Ok, Err, Vec, Global, refl, ◌∙◌}
use Rattle.std.specs.declared.alloc.AllocError.{AllocError}
use Rattle.sws_link.specs.declared.Got.{Got}
use Rattle.sws_link.specs.declared.Got.TheVariants.{Failed, End}
use Rattle.sws_site.specs.declared.site_faults.SiteFault.TheVariants.{Fault}
use Rattle.sws_link.proofs.CountLemmas.{HasCause-none}
use Rattle.sws_site.proofs.LoadLemmas.{HasRead-nil}
use Rattle.sws_site.proofs.loading.read_file.Goals as goal

pub pieces-init : goal.pieces-init
pieces-init g c = record {
  read = HasRead-nil (g.F.Folder.tells c.args.folder.now) c.new-bytes.result.items c.new-bytes.ensures.items;
  at = c.requires.file;
  same_faults = refl;
}

-- neither want of memory nor the end of the file is a fault
memory_is_no_fault : (answer : Result Got AllocError) (error : AllocError) → answer ≡ Err error → answer ≡ Ok Failed → ⊥
memory_is_no_fault answer error is fails = cc

end_is_no_fault : (answer : Result Got AllocError) (got : Got) → answer ≡ Ok got → got ≡ End → answer ≡ Ok Failed → ⊥
end_is_no_fault answer got is end fails = cc

no_limit_is_a_fault : (contents : Vec ℕ Global) → Ok contents ≡ Err Fault → ⊥
no_limit_is_a_fault contents is = cc

pub returns-in_err-read_more-clause-cause : goal.returns-in_err-read_more-clause-cause
returns-in_err-read_more-clause-cause g c = HasCause-none _ _ _
    (c.read_more.ensures.cause.stays (memory_is_no_fault c.read_more.result c.in_err-read_more.field-0.0 c.in_err-read_more.was) ∙ c.pieces.invariant.same_faults)
    (λ fails. (let other = rw fails at c.from_residual.ensures.1 in cc))

pub returns-in-End-clause-cause : goal.returns-in-End-clause-cause
returns-in-End-clause-cause g c = HasCause-none _ _ _
    (c.read_more.ensures.cause.stays (end_is_no_fault c.read_more.result c.in_ok-read_more.field-0 c.in_ok-read_more.was c.in-End.is) ∙ c.pieces.invariant.same_faults)
    (no_limit_is_a_fault c.shrink_to_fit.new.self)

pub returns-clause-cause : goal.returns-clause-cause
returns-clause-cause g c = HasCause-none _ _ _ c.pieces.invariant.same_faults (λ fails. (cc))
