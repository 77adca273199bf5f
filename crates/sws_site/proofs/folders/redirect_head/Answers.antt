use Rattle.std.proofs.Common.{◌++◌, ◌≤◌, List, ℕ, length, take, drop, ap, sym, subst, ◌∙◌, lit≤, lit<, arith}
use Rattle.std.specs.Prelude.{codes, ◌-◌}
use Rattle.std.proofs.lemmas.List.{take_all, length-take-le, length-drop}
use Rattle.sws_site.specs.ResponseHeads.{line_end}
use Rattle.sws_site.specs.Options.{no_age}
use Rattle.sws_site.proofs.HeadLengthsLemmas.{head_text-short}
use Rattle.sws_site.proofs.FolderLemmas.{unplaced, unplaced-long, redirect_head-is}
use Rattle.sws_site.proofs.folders.redirect_head.Goals as goal

pub write_head-own-requires : goal.write_head-own-requires
write_head-own-requires c = head_text-short (unplaced c.args.options.now c.args.closes) (lit≤ tt) (lit< tt) tt no_age c.args.options.now.added.short_headers

pub slice_bounds-extend_from_slice-end : goal.slice_bounds-extend_from_slice-end
slice_bounds-extend_from_slice-end c =
    sym (length-take-le 45 c.bytes-lines.result.now (subst (λ (x : List ℕ). 45 ≤ length x) (sym (c.bytes-lines.ensures.bytes ∙ c.write_head-own.ensures)) (unplaced-long c.args.options.now c.args.closes)))

pub slice_bounds-extend_from_slice-count : goal.slice_bounds-extend_from_slice-count
slice_bounds-extend_from_slice-count c = subst (λ (x : List ℕ). 45 ≤ length x) (sym (c.bytes-lines.ensures.bytes ∙ c.write_head-own.ensures)) (unplaced-long c.args.options.now c.args.closes)

pub slice_bounds-extend_from_slice-start : goal.slice_bounds-extend_from_slice-start
slice_bounds-extend_from_slice-start c = subst (λ (x : List ℕ). 45 ≤ length x) (sym (c.bytes-lines.ensures.bytes ∙ c.write_head-own.ensures)) (unplaced-long c.args.options.now c.args.closes)

pub returns : goal.returns
returns c = redirect_head-is c.args.options.now c.args.closes c.args.path.now c.bytes-lines.result.now _ (c.bytes-lines.ensures.bytes ∙ c.write_head-own.ensures)
    (c.shrink_to_fit.ensures.items
    ∙ c.in_ok-extend_from_slice-5.ensures.items
    ∙ ap (λ (x : List ℕ). c.extend_from_slice-4.new.self.items ++ x) (take_all (length c.bytes-lines.result.now - 45) (drop 45 c.bytes-lines.result.now) (omega (arith, length-drop 45 c.bytes-lines.result.now)))
    ∙ ap (λ (x : List ℕ). x ++ drop 45 c.bytes-lines.result.now) (
    c.in_ok-extend_from_slice-4.ensures.items
    ∙ ap (λ (x : List ℕ). x ++ line_end) (
    c.in_ok-extend_from_slice-3.ensures.items
    ∙ ap (λ (x : List ℕ). x ++ c.args.path.now) (
    c.in_ok-extend_from_slice-2.ensures.items
    ∙ ap (λ (x : List ℕ). x ++ codes "Location: ") (
    c.in_ok-extend_from_slice.ensures.items ∙ ap (λ (x : List ℕ). x ++ take 45 c.bytes-lines.result.now) c.new-head.ensures.items)))))
