use Rattle.std.proofs.Common.{◌≡◌, ℕ, ◌+◌, ◌<◌, ◌&&◌, true}
use Rattle.page_state.specs.EntryTests.{is_free_page, is_unmapped}
use Rattle.page_state.specs.Layouts.{hyp_page}
use Rattle.table_tree.specs.View.{meaning}
use Rattle.decisions.proofs.calls.donate.may_donate.Given as goal

abbrev pub invariant-loop-i : goal.invariant-loop-i
invariant-loop-i g l =
    (j : ℕ)
    → j < l.i
    → (is_free_page (meaning l.shared.host.tree (l.pfn + j))
    && is_unmapped (meaning l.shared.hyp.tree (hyp_page (l.pfn + j))))
    ≡ true
