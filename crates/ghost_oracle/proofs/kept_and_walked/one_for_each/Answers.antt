use Rattle.std.proofs.Common.{Some, subst, sym}
use Rattle.ghost_oracle.specs.Compared.{IsCompared}
use Rattle.ghost_oracle.proofs.LowKept.{trees_of}
use Rattle.ghost_oracle.proofs.kept_and_walked.one_for_each.Goals as goal

pub with_scratch-requires-clause-trees : goal.with_scratch-requires-clause-trees
with_scratch-requires-clause-trees g c = trees_of c.requires.kept

pub of_kept-requires-2 : goal.of_kept-requires-2
of_kept-requires-2 g c = c.in-Ok-with_scratch.ensures.kept c.requires.kept

pub returns : goal.returns
returns g c =
    subst (λ w. IsCompared c.args.parts.now (record { kept = c.of_kept.result; other = Some w }))
    (sym c.of_kept-2.ensures)
    (subst (λ k. IsCompared c.args.parts.now (record { kept = k; other = Some c.in-Ok-with_scratch.walked }))
    (sym c.of_kept.ensures) (record {
      state = c.in-Ok.ensures.state;
      layout = c.in-Ok.ensures.layout;
      maplets = c.in-Ok.ensures.maplets;
      rows = c.in-Ok.ensures.rows;
      frames = c.in-Ok.ensures.frames;
      walked = c.in-Ok-with_scratch.ensures.state;
      walked_layout = c.in-Ok-with_scratch.ensures.layout;
      walked_frames = c.in-Ok-with_scratch.ensures.frames;
    }))
