-- The CPUs' own states by number.
use Rattle.std.specs.Prelude.{◌≡◌, ℕ, List, Some, slice_get}
use Rattle.part_types.specs.declared.parts.CpuState.{CpuState}

-- each is at the place of its number
abbrev pub AreNumbered : List CpuState → Type 0
AreNumbered ks = (c : ℕ) (k : CpuState) → slice_get ks c ≡ Some k → k.id ≡ c
