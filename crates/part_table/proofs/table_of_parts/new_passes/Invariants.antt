use Rattle.std.proofs.Common.{◌≡◌, ◌≤◌, ℕ, [], Some, slice_get, ◌+◌}
use Rattle.std.specs.Vec.{vec_capacity, vec_len}
use Rattle.part_table.specs.declared.rule.Opening.{Opening}
use Rattle.part_types.specs.declared.parts.CpuState.{CpuState}
use Rattle.part_table.specs.Passes.{AreFirst, opened_as}
use Rattle.part_table.specs.Beginnings.{begun_in, own_in}
use Rattle.part_table.specs.Rule.{rooted}
use Rattle.part_table.proofs.table_of_parts.new_passes.Given as goal

abbrev pub invariant-loop-made : goal.invariant-loop-made
invariant-loop-made g l =
    let key : Opening _ = l.table.shared.key in
    (l.root.table_id ≡ l.initial.root.table_id)
    × (l.root.id ≡ 0)
    × (l.root.me ≡ (record (rooted key) { made = l._made }, []))
    × (vec_len l.owns + l._made ≡ l.count)
    × ((i : ℕ) (k : CpuState) → slice_get l.owns.items i ≡ Some k → k ≡ own_in (begun_in key) (i + l._made))
    × (vec_len l.passes ≡ l._made)
    × (l.count ≤ vec_capacity l.passes)
    × AreFirst (opened_as l.initial.root.table_id key.layout (begun_in key)) l._made l.passes.items
