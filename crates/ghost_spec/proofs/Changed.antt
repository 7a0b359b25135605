-- Lists that stand for the Shared part after changes.
use Rattle.std.proofs.Common.{◌≡◌, ℕ, ◌+◌, ◌++◌, drop, refl}
use Rattle.page_state.specs.Tables.{edited, need, returned, all_given}
use Rattle.reference_model.specs.declared.changes.Changes.{Changes}
use Rattle.reference_model.specs.model.Changes.{edit_of}
use Rattle.reference_model.specs.model.Step.{shared_after}
use Rattle.ghost_spec.specs.declared.shared.Shared.{Shared as SharedOfLists}
use Rattle.ghost_trees.specs.Trees.{tree_in_lists}
use Rattle.ghost_spec.specs.Views.{shared_in_lists}

-- lists of which each part is that after the changes
pub all_changed : (d : ℕ) (h : Changes) (s t : SharedOfLists)
    → tree_in_lists t.host ≡ edited d (tree_in_lists s.host) (edit_of h.host) s.free.items
    → tree_in_lists t.hyp
    ≡ edited d (tree_in_lists s.hyp) (edit_of h.hyp)
    (drop (need d (tree_in_lists s.host) (edit_of h.host)) s.free.items)
    → t.free.items
    ≡ all_given
    (returned d (tree_in_lists s.host) (edit_of h.host) ++ returned d (tree_in_lists s.hyp) (edit_of h.hyp))
    (drop
    (need d (tree_in_lists s.host) (edit_of h.host) + need d (tree_in_lists s.hyp)
    (edit_of h.hyp)) s.free.items)
    → t.rows ≡ s.rows → shared_in_lists t ≡ shared_after d h (shared_in_lists s)
unfolding shared_after
all_changed d h s t host hyp free rows = rw (host, hyp, free, rows) refl
