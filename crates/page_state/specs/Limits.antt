-- Worked rows of the limits: the largest layout is accepted, and one that goes past a limit isn't.
use Rattle.std.specs.Prelude.{ℕ, [], ◌∷◌}
use Rattle.page_state.specs.declared.layout.Config.{Config}
use Rattle.page_state.specs.declared.layout.RegionKind.TheVariants.{Memory as memory_kind}
use Rattle.page_state.specs.Accepted.{IsAcceptedConfig, IsAcceptedLayout}
use Rattle.page_state.specs.LayoutFaults.{IsInLimits}
use Rattle.page_state.specs.Layouts.{Layout}
use Rattle.page_state.specs.Regions.{Memory}

-- memory of `count` pages from 0x40000 on, with a carve-out of its first 64
abbrev pub memory : ℕ → Memory
memory count = record {
  regions =
      record {
        kind = memory_kind;
        pages = record { first = record { 0 = 0x40000 }; count = count };
      }
      ∷ [];
  carve = record { first = record { 0 = 0x40000 }; count = 64 };
}

-- the numbers of CPUs, of calls in a log, and of bits of input addresses
abbrev pub config : ℕ → ℕ → ℕ → Config
config cpus log bits = record { cpus = cpus; log = log; geometry = bits }

-- the most pages, CPUs and calls
abbrev pub largest : Layout
largest = record { memory = memory 0x80000; config = config 64 0x100000 39; depth = 2 }

-- the largest layout is accepted, with either width of input addresses, and so are one CPU and logs
-- of one call
abbrev pub LargestRow : Type 0
LargestRow =
    IsAcceptedLayout largest
    × IsAcceptedLayout (record largest { config = config 64 0x100000 48; depth = 3 })
    × IsAcceptedConfig (config 1 1 39)

-- one page, CPU or stored call more is refused, and so is none of them, or another width of input
-- addresses
abbrev pub PastLimitsRow : Type 0
PastLimitsRow =
    ¬ IsInLimits (memory 0x80001)
    × ¬ IsAcceptedConfig (config 65 1 39)
    × ¬ IsAcceptedConfig (config 0 1 39)
    × ¬ IsAcceptedConfig (config 1 0x100001 39)
    × ¬ IsAcceptedConfig (config 1 0 39)
    × ¬ IsAcceptedConfig (config 1 1 38) × ¬ IsAcceptedLayout (record largest { depth = 3 })
