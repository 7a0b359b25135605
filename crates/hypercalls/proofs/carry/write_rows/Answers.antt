use Rattle.std.proofs.Common.{refl}
use Rattle.hypercalls.proofs.carry.write_rows.Goals as goal

pub first_row-requires : goal.first_row-requires
first_row-requires g c = c.requires.slot

pub returns-then-is_memory-clause-log : goal.returns-then-is_memory-clause-log
returns-then-is_memory-clause-log g c = c.give_rows.ensures.log

pub returns-else-is_memory-clause-suits : goal.returns-else-is_memory-clause-suits
returns-else-is_memory-clause-suits g c = c.requires.suits

pub returns-else-is_memory-clause-log : goal.returns-else-is_memory-clause-log
returns-else-is_memory-clause-log g c = refl

pub returns-in_default-clause-suits : goal.returns-in_default-clause-suits
returns-in_default-clause-suits g c = c.requires.suits

pub returns-in_default-clause-log : goal.returns-in_default-clause-log
returns-in_default-clause-log g c = refl
