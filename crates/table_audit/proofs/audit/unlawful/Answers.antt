use Rattle.ghost_legal.proofs.ApartTables.{first-blocks}
use Rattle.table_audit.proofs.audit.unlawful.Goals as goal

pub illegal-requires-clause-tables : goal.illegal-requires-clause-tables
illegal-requires-clause-tables c = first-blocks c.args.state.now c.requires.apart

pub by_maps_first-requires-clause-blocks : goal.by_maps_first-requires-clause-blocks
by_maps_first-requires-clause-blocks c = first-blocks c.args.state.now c.requires.apart
