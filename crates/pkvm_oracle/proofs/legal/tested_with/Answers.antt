use Rattle.std.proofs.Common.{subst, sym}
use Rattle.ghost_spec.specs.declared.lists.GhostLists.{GhostLists}
use Rattle.ghost_spec.specs.States.{IsKept}
use Rattle.ghost_legal.specs.Blocks.{TreesHaveFirstBlocks}
use Rattle.ghost_legal.proofs.ApartTables.{first-blocks}
use Rattle.pkvm_oracle.specs.Legal.{IsTestedFrom}
use Rattle.pkvm_oracle.proofs.TestedStates.{tested_lists}
use Rattle.pkvm_oracle.proofs.legal.tested_with.Goals as goal

pub illegal_by-requires-clause-blocks : goal.illegal_by-requires-clause-blocks
illegal_by-requires-clause-blocks c =
    subst (λ (g : GhostLists). TreesHaveFirstBlocks g) (sym c.lists.ensures.value)
    (first-blocks c.args.state.now c.requires)

pub returns-in-Ok-clause-tested : goal.returns-in-Ok-clause-tested
returns-in-Ok-clause-tested c =
    let g = c.lists.result.now in
    subst (λ (g : GhostLists). IsTestedFrom c.args.trees g c.in-Ok.found) c.lists.ensures.value
    (tested_lists c.args.trees g c.in-Ok.found
    (subst (λ (g : GhostLists). IsKept g) (sym c.lists.ensures.value) c.lists.ensures.kept)
    (subst (λ (g : GhostLists). TreesHaveFirstBlocks g) (sym c.lists.ensures.value)
    (first-blocks c.args.state.now c.requires))
    c.in-Ok.ensures.legal c.in-Ok.ensures.told)
