use Rattle.std.proofs.Common.{ℕ, List, sym, ap, subst, ◌∙◌}
use Rattle.page_state.specs.Trees.{Tree}
use Rattle.ghost_spec.specs.Kept.{AreLowFrames}
use Rattle.ghost_spec.proofs.parts.GhostGuest.copied.Goals as goal

pub returns-clause-kept : goal.returns-clause-kept
returns-clause-kept c = record {
  tree = c.in_ok-copied.ensures.kept;
  tables = λ b f e. c.requires.tables b f (sym (ap (λ (t : Tree). t.table b) c.in_ok-copied.ensures.tree) ∙ e);
  free =
      subst (λ (fs : List ℕ). AreLowFrames fs)
      (sym (c.in_ok-from_slice.ensures.items ∙ c.as_slice.ensures.value)) c.requires.free;
}
