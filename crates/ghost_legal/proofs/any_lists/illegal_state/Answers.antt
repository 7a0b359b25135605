use Rattle.std.proofs.Common.{sym, subst}
use Rattle.std.specs.Prelude.{IfOk, IfSome}
use Rattle.ghost_spec.specs.declared.lists.GhostLists.{GhostLists}
use Rattle.ghost_legal.specs.Blocks.{TreesHaveFirstBlocks}
use Rattle.ghost_legal.specs.Illegals.{IsIllegal}
use Rattle.ghost_legal.proofs.ApartTables.{first-blocks}
use Rattle.ghost_legal.proofs.WhyIllegal.{why_illegal}
use Rattle.ghost_legal.proofs.any_lists.illegal_state.Goals as goal

pub illegal-requires-clause-tables : goal.illegal-requires-clause-tables
illegal-requires-clause-tables c =
    subst TreesHaveFirstBlocks (sym c.lists.ensures.value) (first-blocks c.args.state.now c.requires)

pub returns-clause-told : goal.returns-clause-told
returns-clause-told c =
    why_illegal c.args.state.now c.lists.ensures.kept (first-blocks c.args.state.now c.requires) c.illegal.result
    (subst (λ (g : GhostLists). IfOk c.illegal.result (λ o. IfSome o (IsIllegal g))) c.lists.ensures.value
    c.illegal.ensures.told)
