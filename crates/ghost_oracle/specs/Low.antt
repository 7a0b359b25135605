-- Numbers so small that their sums are numbers of 64 bits.
use Rattle.reference_model.specs.model.State.{Guest, Cpu}
use Rattle.ghost_spec.specs.Kept.{AreLowFrames, HasLowTables, IsSmallRange, HasLowLoad, HasLowTicket}

-- the frames of a guest's pool and of its tables are small
pub record IsLowGuest (g : Guest) : Type 0 where
  pub tables : HasLowTables g.tree.table
  pub free : AreLowFrames g.free

-- a CPU's hand is a small range, and its loaded vCPU and its ticket name slots
pub record IsLowCpu (k : Cpu) : Type 0 where
  pub hand : IsSmallRange k.hand
  pub loaded : HasLowLoad k.loaded
  pub ticket : HasLowTicket k.ticket
