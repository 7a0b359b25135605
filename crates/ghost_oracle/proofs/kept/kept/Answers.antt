use Rattle.ghost_oracle.proofs.kept.kept.Goals as goal

pub with_kept-requires-clause-kept : goal.with_kept-requires-clause-kept
with_kept-requires-clause-kept g c = c.in_ok-found.ensures.kept c.requires.history

pub returns-clause-state : goal.returns-clause-state
returns-clause-state g c = rw c.of_kept.ensures c.in_ok-kept.ensures.state

pub returns-clause-layout : goal.returns-clause-layout
returns-clause-layout g c = rw c.of_kept.ensures c.in_ok-kept.ensures.layout

pub returns-clause-maplets : goal.returns-clause-maplets
returns-clause-maplets g c = rw c.of_kept.ensures c.in_ok-kept.ensures.maplets

pub returns-clause-rows : goal.returns-clause-rows
returns-clause-rows g c = rw c.of_kept.ensures c.in_ok-kept.ensures.rows

pub returns-clause-frames : goal.returns-clause-frames
returns-clause-frames g c = rw c.of_kept.ensures c.in_ok-kept.ensures.frames
