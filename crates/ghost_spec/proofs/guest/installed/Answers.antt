use Rattle.std.proofs.Common.{ℕ, List, sym, ap, subst, ◌∙◌, drop, arith}
use Rattle.page_state.specs.Trees.{Tree, frames_from}
use Rattle.ghost_spec.specs.Kept.{AreLowFrames}
use Rattle.ghost_spec.proofs.Guests.{low-drop, low-frames_from, low-root}
use Rattle.ghost_spec.proofs.guest.installed.Goals as goal

pub returns-clause-kept : goal.returns-clause-kept
returns-clause-kept c = record {
  tree = c.in_ok-root_tree.ensures.kept;
  tables =
      λ b f e. low-root c.args.depth c.args.hand.first.0 (omega (arith, c.requires.hand)) b f
      (sym (ap (λ (t : Tree). t.table b) c.in_ok-root_tree.ensures.tree) ∙ e);
  free =
      subst (λ (fs : List ℕ). AreLowFrames fs)
      (sym
      (c.in_ok-from_slice.ensures.items ∙ c.behind.ensures
      ∙ ap (drop 1) (c.as_slice.ensures.value ∙ c.in_ok-frames.ensures)))
      (low-drop 1 (frames_from c.args.hand.first.0 c.args.hand.count)
      (low-frames_from c.args.hand.first.0 c.args.hand.count c.requires.hand));
}
