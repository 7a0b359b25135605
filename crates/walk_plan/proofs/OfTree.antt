-- A change of a range of a tree, and the blocks on its range.
use Rattle.std.proofs.Common.{◌≡◌, ℕ, suc, ◌+◌, ◌<◌, ◌≤◌, arith, inl, inr}
use Rattle.page_state.specs.declared.entry.Entry.{Entry}
use Rattle.page_state.specs.declared.layout.Geometry.{Geometry}
use Rattle.page_state.specs.Map.{update}
use Rattle.page_state.specs.Blocks.{blocks_on}
use Rattle.page_state.specs.Geometries.{levels_below, input_pages}
use Rattle.page_state.proofs.Geometries.{levels_most}
use Rattle.page_state.proofs.Updates.{update_inside, update_outside}
use Rattle.table_tree.specs.declared.tree.Tree.{Tree}
use Rattle.table_tree.specs.View.{meaning}
use Rattle.walk_plan.specs.declared.change.Change.{Change}
use Rattle.walk_plan.specs.Changes.{part}
use Rattle.walk_plan.proofs.Numbers.{part_all}
use Rattle.walk_plan.proofs.Walked.{below}
use Rattle.walk_plan.proofs.Ordered.{blocks_below}
use Rattle.walk_plan.proofs.OneWord.{IsMade}
use Rattle.walk_plan.proofs.Matched.{all_pages}

pub low_depth : (g : Geometry) → levels_below g < 4
low_depth g = let most = levels_most g in omega arith

module _ {A : Type 0} (t : Tree A) (first count : ℕ) (e : Entry) (c : Change) (some : 0 < count)
    (within : first + count ≤ input_pages t.geometry) (from : c.first ≡ first) (to : c.end ≡ first + count)
    (gives : c.entry ≡ e) where
  pub made_tree : IsMade c (meaning t) (update (meaning t) first count e)
  made_tree = record {
    inside = λ q p r. rw (from, gives) (update_inside (meaning t) first count e q (omega arith) (omega arith));
    outside =
        λ q h. update_outside (meaning t) first count e q
        (elim h [ inl p ↦ inl (omega arith) | inr p ↦ inr (omega arith) ]);
  }

  pub blocks_tree : blocks_on (levels_below t.geometry) first count ≡ below c (levels_below t.geometry) 0
  blocks_tree = blocks_below c (levels_below t.geometry) first count some (let p = all_pages t in omega arith) from to

  pub whole_part : part (suc (levels_below t.geometry)) 0 c ≡ c
  whole_part = part_all (suc (levels_below t.geometry)) c (let p = all_pages t in omega arith)
