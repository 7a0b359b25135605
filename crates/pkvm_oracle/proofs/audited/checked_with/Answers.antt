use Rattle.std.proofs.Common.{◌≡◌, ◌∙◌, ℕ, map, get_or, None, ap, subst}
use Rattle.std.specs.Prelude.{◌↔◌, IfSome}
use Rattle.page_state.specs.LayoutView.{layout_of}
use Rattle.page_state.specs.Trees.{no_tree, Tree}
use Rattle.ghost_trees.specs.Trees.{tree_in_lists}
use Rattle.ghost_spec.specs.declared.lists.GhostLists.{GhostLists}
use Rattle.ghost_spec.specs.States.{contents_in}
use Rattle.c_trees.specs.Entries.{kept_map}
use Rattle.c_trees.specs.Given.{AreTrees}
use Rattle.table_audit.specs.Audited.{IsFirstFinding, IsWell}
use Rattle.table_audit.specs.Found.{found, trees_in}
use Rattle.pkvm_oracle.specs.Audited.{trees_from_c}
use Rattle.pkvm_oracle.proofs.CheckedStates.{same_trees}
use Rattle.pkvm_oracle.proofs.audited.checked_with.Goals as goal

pub returns-in-Ok-found-clause-checked : goal.returns-in-Ok-found-clause-checked
returns-in-Ok-found-clause-checked c =
    let are : AreTrees c.args.kept.now.layout.geometry c.args.pages.now c.args.roots.now (kept_map (contents_in c.args.kept.now)) (λ k. get_or (map tree_in_lists c.in-Ok.trees.items) k no_tree) =
    subst
    (λ (k : GhostLists). AreTrees k.layout.geometry c.args.pages.now c.args.roots.now
    (kept_map (contents_in c.args.kept.now))
    (λ k. get_or (map tree_in_lists c.in-Ok.trees.items) k no_tree)) c.lists.ensures.value
    (subst
    (λ (k : GhostLists). AreTrees c.lists.result.now.layout.geometry c.args.pages.now c.args.roots.now
    (kept_map (contents_in k))
    (λ k. get_or (map tree_in_lists c.in-Ok.trees.items) k no_tree)) c.lists-2.ensures.value
    c.in-Ok.ensures.trees) in
    let same : trees_in c.as_slice.result.now ≡ trees_from_c c.args.kept.now.layout.geometry c.args.pages.now c.args.roots.now (kept_map (contents_in c.args.kept.now)) =
    ap trees_in c.as_slice.ensures.value
    ∙ same_trees c.args.kept.now.layout.geometry c.args.pages.now c.args.roots.now
    (kept_map (contents_in c.args.kept.now)) c.in-Ok.trees.items
    c.in-Ok.ensures.count are in
    record {
      given = are.given;
      once = are.once;
      none =
          subst
          (λ (t : ℕ → Tree). (c.in-Ok-found.found ≡ None)
          ↔ IsWell (layout_of c.args.kept.now.layout) (contents_in c.args.kept.now)
          (found (layout_of c.args.kept.now.layout)
          (contents_in c.args.kept.now) t)) same c.in-Ok-found.ensures.none;
      first =
          subst
          (λ (t : ℕ → Tree). IfSome c.in-Ok-found.found
          (IsFirstFinding (layout_of c.args.kept.now.layout) (contents_in c.args.kept.now)
          (found (layout_of c.args.kept.now.layout)
          (contents_in c.args.kept.now) t))) same c.in-Ok-found.ensures.first;
    }
