use Rattle.std.proofs.Common.{ap, ◌∙◌}
use Rattle.page_state.specs.Runs.{map_of}
use Rattle.ghost_judge.proofs.Audited.{told_kept, found_map, map_told}
use Rattle.ghost_judge.proofs.audit.in_trees.Goals as goal

pub first_apart-requires-clause-a : goal.first_apart-requires-clause-a
first_apart-requires-clause-a c =
    rw c.as_slice.ensures.value (told_kept c.args.kept.now.runs.items c.requires.kept.small c.requires.kept.coarsest)

pub first_apart-requires-clause-b : goal.first_apart-requires-clause-b
first_apart-requires-clause-b c =
    rw c.as_slice-2.ensures.value
    (told_kept c.args.walked.now.runs.items c.requires.walked.small c.requires.walked.coarsest)

pub returns-in-Some : goal.returns-in-Some
returns-in-Some c =
    let found =
    rw c.in-Some.is at
    (found_map c.args.kept.now.runs.items c.args.walked.now.runs.items c.first_apart.result
    (rw (c.as_slice.ensures.value, c.as_slice-2.ensures.value) at c.first_apart.ensures)) in
    map_told c.args.tree (map_of c.args.kept.now.runs.items)
    (map_of c.args.walked.now.runs.items) c.in-Some.page c.at.result c.at-in-Some.result
    (c.at.ensures.value ∙ ap (λ rs. map_of rs c.in-Some.page) c.as_slice-in-Some.ensures.value)
    (c.at-in-Some.ensures.value ∙ ap (λ rs. map_of rs c.in-Some.page) c.as_slice-in-Some-2.ensures.value) found

pub returns-in-None : goal.returns-in-None
returns-in-None c =
    rw c.in-None.is at
    (found_map c.args.kept.now.runs.items c.args.walked.now.runs.items c.first_apart.result
    (rw (c.as_slice.ensures.value, c.as_slice-2.ensures.value) at c.first_apart.ensures))
