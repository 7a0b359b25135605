use Rattle.std.proofs.Common.{◌≡◌, arith}
use Rattle.std.proofs.Math.ListN.{length-replicate, replicate}
use Rattle.std.proofs.lemmas.Grind.{common_steps}
use Rattle.std.proofs.lemmas.List.{get_or-replicate}
use Rattle.table_tree.specs.declared.table.Slot.{Slot}
use Rattle.table_tree.specs.declared.table.Slot.TheVariants.{Word}
use Rattle.table_tree.proofs.Tight.{new_table}
use Rattle.table_tree.proofs.table.Table.new.Goals as goal

made : (g : _) (c : goal.After-loop g) → c.loop.slots.items ≡ replicate 512 (Word 0)
made g c = let e : c.loop.counter ≡ 512 = omega (arith, c.loop-test.false, c.loop.auto.counter-end) in
    rw e at c.loop.invariant

pub returns-clause-wide : goal.returns-clause-wide
returns-clause-wide g c = rw (made g c) (length-replicate {A = Slot g.row.A.Denot} 512 (Word 0))

pub returns-clause-blank : goal.returns-clause-blank
returns-clause-blank g c i p = rw (made g c) (get_or-replicate 512 i (Word 0) _ p)

pub returns-clause-tree : goal.returns-clause-tree
returns-clause-tree g c = new_table _ (returns-clause-wide g c) (returns-clause-blank g c)

pub loop-preserved : goal.loop-preserved
loop-preserved g c = grind (arith, common_steps)
