use Rattle.std.proofs.Common.{◌≡◌, ℕ, ◌+◌, ◌<◌, ◌&&◌, true}
use Rattle.page_state.specs.EntryTests.{is_free_page, is_unmapped}
use Rattle.page_state.specs.Layouts.{hyp_page}
use Rattle.page_state.specs.Runs.{map_of}
use Rattle.ghost_spec.proofs.rules.may_donate.Given as goal

abbrev pub invariant-loop-i : goal.invariant-loop-i
invariant-loop-i l =
    (j : ℕ)
    → j < l.i
    → (is_free_page (map_of l.shared.host.runs.items (l.pfn + j))
    && is_unmapped (map_of l.shared.hyp.runs.items (hyp_page (l.pfn + j))))
    ≡ true
