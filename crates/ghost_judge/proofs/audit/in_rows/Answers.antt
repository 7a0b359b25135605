use Rattle.ghost_spec.specs.Views.{row_in}
use Rattle.ghost_judge.proofs.Audited.{row_told}
use Rattle.ghost_judge.proofs.Marked.{found_marked}
use Rattle.ghost_judge.proofs.audit.in_rows.Goals as goal

pub first_row_apart-requires-clause-a : goal.first_row_apart-requires-clause-a
first_row_apart-requires-clause-a c =
    record {
      coarsest = rw c.runs.ensures.runs c.runs.ensures.coarsest;
      in_reach = rw c.runs.ensures.runs c.requires.kept;
    }

pub first_row_apart-requires-clause-b : goal.first_row_apart-requires-clause-b
first_row_apart-requires-clause-b c =
    record {
      coarsest = rw c.runs-2.ensures.runs c.runs-2.ensures.coarsest;
      in_reach = rw c.runs-2.ensures.runs c.requires.walked;
    }

pub returns-in-Some : goal.returns-in-Some
returns-in-Some c =
    let found =
    rw c.in-Some.is at
    (found_marked c.args.kept.now.runs c.args.walked.now.runs c.first_row_apart.result c.runs.ensures.coarsest
    c.runs-2.ensures.coarsest
    (rw (c.runs.ensures.runs, c.runs-2.ensures.runs) at c.first_row_apart.ensures)) in
    row_told (row_in c.args.kept.now.runs)
    (row_in c.args.walked.now.runs) c.in-Some.frame c.row_of.result c.row_of-in-Some.result c.row_of.ensures
    c.row_of-in-Some.ensures found

pub returns-in-None : goal.returns-in-None
returns-in-None c =
    rw c.in-None.is at
    (found_marked c.args.kept.now.runs c.args.walked.now.runs c.first_row_apart.result c.runs.ensures.coarsest
    c.runs-2.ensures.coarsest
    (rw (c.runs.ensures.runs, c.runs-2.ensures.runs) at c.first_row_apart.ensures))
