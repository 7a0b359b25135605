use Rattle.std.proofs.Common.{◌≡◌, drop, sym, ap, subst, ◌∙◌}
use Rattle.page_state.specs.Tables.{edited, need, returned, all_given}
use Rattle.page_state.specs.Trees.{Tree, Pool}
use Rattle.page_state.proofs.Common.{same2}
use Rattle.reference_model.specs.model.Changes.{edit_of}
use Rattle.ghost_spec.specs.Kept.{AreLowFrames}
use Rattle.ghost_trees.specs.Trees.{tree_in_lists}
use Rattle.ghost_spec.proofs.Guests.{low-all_given, low-drop, low-edited, low-returned}
use Rattle.ghost_spec.proofs.guest.change_map.Goals as goal

pub returns-clause-kept : goal.returns-clause-kept
returns-clause-kept c =
    let d = c.args.depth in
    let t = tree_in_lists c.args.guest.now.tree in
    let e = edit_of c.args.change in
    let fs = c.args.guest.now.free.items in
    let tree : tree_in_lists c.edit.new.tree ≡ edited d t e fs =
    rw c.as_slice-free.ensures.value at c.in_ok-edited.ensures.tree in
    let back : c.as_slice.result.now ≡ returned d t e = c.as_slice.ensures.value ∙ c.in_ok-edited.ensures.returned in
    let left : c.in_ok-left.left.items ≡ drop (need d t e) fs =
    c.in_ok-left.ensures.items ∙ c.behind.ensures
    ∙ same2 drop c.in_ok-edited.ensures.need c.as_slice-free.ensures.value in
    let free : c.give_all.new.free.items ≡ all_given (returned d t e) (drop (need d t e) fs) =
    c.in_ok-give_all.ensures ∙ same2 all_given back left in
    record {
      tree = c.edit.ensures.kept;
      tables =
          λ b f h. low-edited d t e fs c.requires.kept.free c.requires.kept.tables b f
          (sym (ap (λ (u : Tree). u.table b) tree) ∙ h);
      free =
          subst (λ (p : Pool). AreLowFrames p) (sym free)
          (low-all_given (returned d t e) (drop (need d t e) fs) (low-returned d t e c.requires.kept.tables)
          (low-drop (need d t e) fs c.requires.kept.free));
    }
