use Rattle.std.proofs.Common.{◌≡◌, Some, None, sym, ap, ◌∙◌}
use Rattle.page_state.specs.Trees.{Tree}
use Rattle.ghost_spec.proofs.parts.GhostGuest.none.Goals as goal

pub returns-clause-kept : goal.returns-clause-kept
returns-clause-kept c = record {
  tree = c.none.ensures.kept;
  tables = λ b f e. let w : None ≡ Some f = sym (ap (λ (t : Tree). t.table b) c.none.ensures.none) ∙ e in cc;
  free = rw c.new.ensures.items tt;
}
