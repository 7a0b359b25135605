use Rattle.std.proofs.Common.{sym, ap, ◌∙◌, arith}
use Rattle.ghost_sound.proofs.TreeRuns.{runs-at}
use Rattle.ghost_sound.proofs.leaves.runs_of.Goals as goal

pub returns-clause-value : goal.returns-clause-value
returns-clause-value c =
    c.as_slice-2.ensures.value ∙ ap (λ g. g.tree.runs.items) c.index.ensures
    ∙ sym
    (runs-at c.args.state.now c.args.tree c.index.result.now c.if-tree-eq0.false c.if-tree-eq1.false
    (omega (arith, c.requires.tree, c.requires.kept.count)))
