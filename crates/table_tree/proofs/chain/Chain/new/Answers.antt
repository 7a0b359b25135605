use Rattle.std.proofs.Common.{refl, []}
use Rattle.table_tree.specs.declared.table.Slot.TheVariants.{Word}
use Rattle.table_tree.proofs.Chains.{chain_nil, frames_is}
use Rattle.table_tree.proofs.chain.Chain.new.Goals as goal

pub invariant_of-result : goal.invariant_of-result
invariant_of-result g c = record { chained = ([], chain_nil (Word 0) refl) }

pub returns : goal.returns
returns g c = frames_is _ [] (chain_nil (Word 0) refl)
