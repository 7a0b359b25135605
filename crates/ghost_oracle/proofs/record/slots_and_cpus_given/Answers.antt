use Rattle.ghost_oracle.proofs.record.slots_and_cpus_given.Goals as goal

pub returns-clause-layout : goal.returns-clause-layout
returns-clause-layout c = c.in_ok-copied_layout.ensures

pub returns-clause-slots : goal.returns-clause-slots
returns-clause-slots c = c.in_ok-slots_given.ensures.slots

pub returns-clause-slots_count : goal.returns-clause-slots_count
returns-clause-slots_count c = c.in_ok-slots_given.ensures.count

pub returns-clause-cpus : goal.returns-clause-cpus
returns-clause-cpus c = c.in_ok-cpus_with.ensures.cpus

pub returns-clause-cpus_count : goal.returns-clause-cpus_count
returns-clause-cpus_count c = c.in_ok-cpus_with.ensures.count

pub returns-clause-kept : goal.returns-clause-kept
returns-clause-kept c = c.in_ok-cpus_with.ensures.kept

pub cpus_with-requires : goal.cpus_with-requires
cpus_with-requires c = c.requires
