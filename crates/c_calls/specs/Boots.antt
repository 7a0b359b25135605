-- Boots of plain layouts: the lists of the state at boot, and why there is none.
use Rattle.std.specs.Prelude.{◌≡◌, ◌≤◌, List}
use Rattle.reference_model.specs.model.Boot.{boot, IsCarveEnough}
use Rattle.c_states.specs.declared.layout.PlainLayout.{PlainLayout}
use Rattle.c_states.specs.declared.layout.PlainRegion.{PlainRegion}
use Rattle.c_states.specs.Layouts.{layout_from_c, IsLayoutFault, IsTakenLayout}
use Rattle.c_states.specs.States.{Lists}
use Rattle.c_states.specs.Told.{in_pool_order, AreWellFormed}
use Rattle.c_calls.specs.declared.boot_state.Unbooted.{Unbooted}
use Rattle.c_calls.specs.declared.boot_state.Unbooted.TheVariants as unbooted
use Rattle.c_states.specs.States.{contents_from_c}

-- 1 to 64 CPUs
abbrev pub HasCpus : PlainLayout → Type 0
HasCpus l = (1 ≤ l.cpus) × (l.cpus ≤ 64)

-- the layout boots: it is one, of 1 to 64 CPUs, and the carve-out has a frame for each table
pub record CanBootPlain (l : PlainLayout) (regions : List PlainRegion) : Type 0 where
  pub taken : IsTakenLayout l regions
  pub cpus : HasCpus l
  pub enough : IsCarveEnough (layout_from_c l regions)

-- the lists say what there is at boot, with each pool in order, by members of known numbers
pub record IsBootState (l : PlainLayout) (regions : List PlainRegion) (p : Lists) : Type 0 where
  pub can : CanBootPlain l regions
  pub contents : contents_from_c p ≡ in_pool_order (boot (layout_from_c l regions)).contents
  pub told : AreWellFormed l.cpus p

-- why the layout doesn't boot: the first that is true
abbrev pub IsUnbooted : PlainLayout → List PlainRegion → Unbooted → Type 0
IsUnbooted l regions (unbooted.Layout fault) = IsLayoutFault l regions fault
IsUnbooted l regions unbooted.Cpus = IsTakenLayout l regions × ¬ HasCpus l
IsUnbooted l regions unbooted.CarveSmall =
    IsTakenLayout l regions × HasCpus l × ¬ IsCarveEnough (layout_from_c l regions)
IsUnbooted l regions unbooted.NoMemory = Unit {0}
