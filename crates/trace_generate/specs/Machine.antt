-- The machine of a generated trace, by its options, and the faults of these (profile).
use Rattle.std.specs.Prelude.{◌≡◌, ℕ, ◌+◌, ◌-◌, ◌/◌, ◌<◌, ◌≤◌, ◌⊎◌, min, max, [], ◌∷◌}
use Rattle.page_state.specs.declared.entry.PageRange.{PageRange}
use Rattle.page_state.specs.declared.layout.Config.{Config}
use Rattle.page_state.specs.declared.layout.RegionKind.TheVariants as kinds
use Rattle.page_state.specs.LayoutFaults.{IsAccepted}
use Rattle.page_state.specs.Layouts.{HasItsDepth, Layout}
use Rattle.page_state.specs.Regions.{Memory}
use Rattle.reference_model.specs.model.Boot.{IsCarveEnough}
use Rattle.trace_generate.specs.declared.line.SettingLines.{SettingLines}
use Rattle.trace_generate.specs.declared.options.GenerateFault.{GenerateFault}
use Rattle.trace_generate.specs.declared.options.GenerateFault.TheVariants.{Steps, Cpus, Geometry, Hostile, Pages, NoBoot, NoMemory}
use Rattle.trace_generate.specs.declared.options.Options.{Options}

-- all pages of memory
abbrev pub memory_range : Options → PageRange
memory_range o = record { first = record { 0 = 0x40000 }; count = o.pages }

-- the frames of the carve-out: one in 32, but at least 16 and at most 1,024
abbrev pub carve_count : Options → ℕ
carve_count o = min (max (o.pages / 32) 16) 1024

-- the carve-out: the last pages of memory
abbrev pub carve_range : Options → PageRange
carve_range o =
    record { first = record { 0 = 0x40000 + (o.pages - carve_count o) }; count = carve_count o }

-- the memory: one region
abbrev pub asked_memory : Options → Memory
asked_memory o =
    record {
      regions = record { kind = kinds.Memory; pages = memory_range o }
          ∷ [];
      carve = carve_range o;
    }

-- the configuration: logs with room for every step
abbrev pub asked_config : ℕ → Options → Config
asked_config steps o = record { cpus = o.cpus; log = max steps 1; geometry = o.geometry }

-- the settings that a trace begins with
abbrev pub settings_of : ℕ → Options → SettingLines
settings_of steps o =
    record {
      geometry = o.geometry;
      cpus = o.cpus;
      log = max steps 1;
      memory = memory_range o;
      carve = carve_range o;
    }

-- the layout of the machine that these settings boot
pub record IsLayoutOf (steps : ℕ) (o : Options) (l : Layout) : Type 0 where
  pub memory : l.memory ≡ asked_memory o
  pub config : l.config ≡ asked_config steps o
  pub depth : HasItsDepth l

-- no more steps than a trace has lines
abbrev pub HasFewSteps : ℕ → Type 0
HasFewSteps steps = steps ≤ 1000000

-- 1 to 64 CPUs
abbrev pub HasCpus : Options → Type 0
HasCpus o = (1 ≤ o.cpus) × (o.cpus ≤ 64)

-- 39 or 48 bits
abbrev pub HasGeometry : Options → Type 0
HasGeometry o = (o.geometry ≡ 39) ⊎ (o.geometry ≡ 48)

-- the tests before a machine is booted, in order
pub record IsInRange (steps : ℕ) (o : Options) : Type 0 where
  pub few : HasFewSteps steps
  pub cpus : HasCpus o
  pub geometry : HasGeometry o
  pub hostile : o.hostile ≤ 100
  pub pages : o.pages ≤ 524288

-- no machine boots on these settings: the memory isn't accepted, or the carve-out has too few
-- frames
abbrev pub CannotBoot : ℕ → Options → Type 0
CannotBoot steps o =
    ¬ IsAccepted (asked_memory o) ⊎ ((l : Layout) × IsLayoutOf steps o l × ¬ IsCarveEnough l)

-- what each fault says
abbrev pub IsFault : GenerateFault → ℕ → Options → Type 0
IsFault Steps steps o = ¬ HasFewSteps steps
IsFault Cpus steps o = HasFewSteps steps × ¬ HasCpus o
IsFault Geometry steps o = HasFewSteps steps × HasCpus o × ¬ HasGeometry o
IsFault Hostile steps o = HasFewSteps steps × HasCpus o × HasGeometry o × (100 < o.hostile)
IsFault Pages steps o =
    HasFewSteps steps × HasCpus o × HasGeometry o × (o.hostile ≤ 100) × (524288 < o.pages)
IsFault NoBoot steps o = IsInRange steps o × CannotBoot steps o
IsFault NoMemory steps o = IsInRange steps o
