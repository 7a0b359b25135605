use Rattle.std.proofs.Common.{◌≡◌, ◌+◌, drop, ◌∙◌, sym, refl}
use Rattle.std.proofs.lemmas.List.{drop-drop}
use Rattle.std.proofs.lemmas.Result.{IfOk-from_err}
use Rattle.page_state.specs.Tables.{edited, need, returned}
use Rattle.reference_model.specs.model.Changes.{edit_of}
use Rattle.ghost_trees.specs.Trees.{tree_in_lists}
use Rattle.ghost_spec.proofs.Changed.{all_changed}
use Rattle.ghost_trees.proofs.TreeLists.{all_given-append}
use Rattle.ghost_spec.proofs.shared.change.Goals as goal

pub returns-clause-after : goal.returns-clause-after
returns-clause-after c =
    let d = c.args.depth in
    let s = c.args.shared.now in
    let h = c.args.changes.now in
    let host : tree_in_lists c.edit.new.tree ≡ edited d (tree_in_lists s.host) (edit_of h.host) s.free.items =
    rw c.as_slice-free.ensures.value at c.in_ok-host.ensures.tree in
    let hyp : tree_in_lists c.edit-2.new.tree ≡ edited d (tree_in_lists s.hyp) (edit_of h.hyp) (drop (need d (tree_in_lists s.host) (edit_of h.host)) s.free.items) =
    rw
    (c.behind-rest.ensures, c.as_slice-free.ensures.value, c.in_ok-host.ensures.need) at
    c.in_ok-hyp.ensures.tree in
    let back = rw (c.as_slice-2.ensures.value, c.in_ok-host.ensures.returned) at c.in_ok-give_all-2.ensures in
    let given =
    rw (
      c.as_slice.ensures.value,
      c.in_ok-hyp.ensures.returned,
      c.in_ok-left.ensures.items,
      c.behind.ensures,
      c.behind-rest.ensures,
      c.as_slice-free.ensures.value,
      c.in_ok-host.ensures.need,
      c.in_ok-hyp.ensures.need,
      drop-drop,
    ) at c.in_ok-give_all.ensures in
    all_changed d h s
    (record { host = c.edit.new.tree; hyp = c.edit-2.new.tree; free = c.give_all-2.new.free; rows = s.rows }) host
    hyp
    (back
    ∙ rw given
    (sym
    (all_given-append (returned d (tree_in_lists s.host) (edit_of h.host))
    (returned d (tree_in_lists s.hyp) (edit_of h.hyp))
    (drop
    (need d (tree_in_lists s.host) (edit_of h.host) + need d (tree_in_lists s.hyp)
    (edit_of h.hyp)) s.free.items)))) refl

pub returns-clause-kept : goal.returns-clause-kept
returns-clause-kept c = record { host = c.edit.ensures.kept; hyp = c.edit-2.ensures.kept; rows = c.requires.kept.rows }

pub returns-in_err-host-clause-kept : goal.returns-in_err-host-clause-kept
returns-in_err-host-clause-kept c =
    record { host = c.edit.ensures.kept; hyp = c.requires.kept.hyp; rows = c.requires.kept.rows }

pub returns-in_err-hyp-clause-kept : goal.returns-in_err-hyp-clause-kept
returns-in_err-hyp-clause-kept c =
    record { host = c.edit.ensures.kept; hyp = c.edit-2.ensures.kept; rows = c.requires.kept.rows }

pub returns-in_err-left-clause-kept : goal.returns-in_err-left-clause-kept
returns-in_err-left-clause-kept c =
    record { host = c.edit.ensures.kept; hyp = c.edit-2.ensures.kept; rows = c.requires.kept.rows }

pub returns-in_err-give_all-clause-kept : goal.returns-in_err-give_all-clause-kept
returns-in_err-give_all-clause-kept c =
    record { host = c.edit.ensures.kept; hyp = c.edit-2.ensures.kept; rows = c.requires.kept.rows }

pub returns-in_err-give_all-2-clause-kept : goal.returns-in_err-give_all-2-clause-kept
returns-in_err-give_all-2-clause-kept c =
    record { host = c.edit.ensures.kept; hyp = c.edit-2.ensures.kept; rows = c.requires.kept.rows }

pub returns-in_err-host-clause-after : goal.returns-in_err-host-clause-after
returns-in_err-host-clause-after c = IfOk-from_err _ _ c.from_residual.ensures.0

pub returns-in_err-host-clause-rows : goal.returns-in_err-host-clause-rows
returns-in_err-host-clause-rows c = refl

pub returns-in_err-hyp-clause-after : goal.returns-in_err-hyp-clause-after
returns-in_err-hyp-clause-after c = IfOk-from_err _ _ c.from_residual-in_err-hyp.ensures.0

pub returns-in_err-hyp-clause-rows : goal.returns-in_err-hyp-clause-rows
returns-in_err-hyp-clause-rows c = refl

pub returns-in_err-left-clause-after : goal.returns-in_err-left-clause-after
returns-in_err-left-clause-after c = IfOk-from_err _ _ c.from_residual-in_err-left.ensures.0

pub returns-in_err-left-clause-rows : goal.returns-in_err-left-clause-rows
returns-in_err-left-clause-rows c = refl

pub returns-in_err-give_all-clause-after : goal.returns-in_err-give_all-clause-after
returns-in_err-give_all-clause-after c = IfOk-from_err _ _ c.from_residual-in_err-give_all.ensures.0

pub returns-in_err-give_all-clause-rows : goal.returns-in_err-give_all-clause-rows
returns-in_err-give_all-clause-rows c = refl

pub returns-in_err-give_all-2-clause-after : goal.returns-in_err-give_all-2-clause-after
returns-in_err-give_all-2-clause-after c = IfOk-from_err _ _ c.from_residual-in_err-give_all-2.ensures.0

pub returns-in_err-give_all-2-clause-rows : goal.returns-in_err-give_all-2-clause-rows
returns-in_err-give_all-2-clause-rows c = refl

pub returns-clause-rows : goal.returns-clause-rows
returns-clause-rows c = refl
