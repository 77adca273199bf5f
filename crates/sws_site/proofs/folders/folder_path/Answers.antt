use Rattle.std.proofs.Common.{◌∷◌, [], ◌++◌, List, ℕ, ap, ◌∙◌}
use Rattle.sws_site.proofs.FolderLemmas.{folder_path-is}
use Rattle.sws_site.proofs.folders.folder_path.Goals as goal

pub returns : goal.returns
returns c = folder_path-is c.args.index.now _ _ _ (c.in_ok-push_str.ensures.bytes ∙ ap (λ (x : List ℕ). x ++ 47 ∷ []) c.new-path.ensures.bytes)
    c.in_ok-append_to.ensures.ok c.percent_encode.ensures.text
