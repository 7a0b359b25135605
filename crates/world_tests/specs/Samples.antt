-- What tests begin with.
use Rattle.std.specs.Prelude.{ℕ, List, [], ◌∷◌}
use Rattle.page_state.specs.declared.layout.Config.{Config}
use Rattle.page_state.specs.declared.layout.Region.{Region}
use Rattle.page_state.specs.declared.layout.RegionKind.{RegionKind}
use Rattle.page_state.specs.declared.layout.RegionKind.TheVariants.{Device, Memory}

-- a region of `count` pages
abbrev pub region : RegionKind → ℕ → ℕ → Region
region kind first count =
    record { kind = kind; pages = record { first = record { 0 = first }; count = count } }

-- 16 pages of a device, and 2,048 of memory
abbrev pub sample_regions : List Region
sample_regions = region Device 0x9000 16 ∷ region Memory 0x40000 0x800 ∷ []

-- a configuration of 39 bits
abbrev pub config_39 : ℕ → ℕ → Config
config_39 cpus log = record { cpus = cpus; log = log; geometry = 39 }
