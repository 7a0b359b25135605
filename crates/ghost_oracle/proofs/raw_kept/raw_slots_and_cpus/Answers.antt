use Rattle.std.proofs.Common.{◌∙◌, ap, map}
use Rattle.part_types.specs.View.{cpu_of}
use Rattle.ghost_oracle.proofs.raw_kept.raw_slots_and_cpus.Goals as goal

pub returns-clause-layout : goal.returns-clause-layout
returns-clause-layout g c = c.in_ok-copied_layout.ensures

pub returns-clause-slots : goal.returns-clause-slots
returns-clause-slots g c = c.in_ok-slots_from.ensures.slots

pub returns-clause-cpus : goal.returns-clause-cpus
returns-clause-cpus g c = c.in_ok-cpus_from.ensures ∙ ap (map cpu_of) c.as_slice.ensures.value
