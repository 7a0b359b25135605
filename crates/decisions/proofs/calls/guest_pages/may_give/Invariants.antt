use Rattle.std.proofs.Common.{◌≡◌, ℕ, ◌+◌, ◌<◌, ◌&&◌, true}
use Rattle.guest_component.specs.View.{guest_of}
use Rattle.page_state.specs.EntryTests.{is_free_page, is_unmapped}
use Rattle.table_tree.specs.View.{meaning}
use Rattle.decisions.proofs.calls.guest_pages.may_give.Given as goal

abbrev pub invariant-loop-i : goal.invariant-loop-i
invariant-loop-i g l =
    (j : ℕ)
    → j < l.i
    → (is_free_page (meaning l.shared.host.tree (l.pfn + j)) && is_unmapped ((guest_of l.guest).tree.map (l.gfn + j)))
    ≡ true
