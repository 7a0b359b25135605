-- The lines that a recorded trace begins with are read as the settings of its layout.
use Rattle.std.specs.Prelude.{◌≡◌, ℕ, List, [], ◌∷◌, Some, Ok, codes, map}
use Rattle.c_states.specs.declared.layout.PlainLayout.{PlainLayout}
use Rattle.c_states.specs.declared.layout.PlainRegion.{PlainRegion}
use Rattle.c_states.specs.Layouts.{region_from_c}
use Rattle.c_states.specs.Lists.{range_from_c}
use Rattle.trace_generate.specs.Reading.{Fits}
use Rattle.trace_lines.specs.declared.line.Line.TheVariants as lines
use Rattle.trace_lines.specs.declared.line.Setting.{Setting}
use Rattle.trace_lines.specs.Places.{before_boot}
use Rattle.trace_lines.specs.Said.{said}
use Rattle.trace_lines.specs.Settings.{Told, no_settings, told_after}
use Rattle.c_calls.specs.Lines.{setting_lines}

-- the numbers of regions are of 64 bits
abbrev pub FitRegions : List PlainRegion → Type 0
FitRegions [] = Unit {0}
FitRegions (r ∷ rs) = Fits r.first × Fits r.count × FitRegions rs

-- and those of a layout, as all numbers of code are
pub record AreIn64Bits (l : PlainLayout) (regions : List PlainRegion) : Type 0 where
  pub bits : Fits l.address_bits
  pub cpus : Fits l.cpus
  pub first : Fits l.carve_first
  pub count : Fits l.carve_count
  pub regions_are : FitRegions regions

-- lines lead from settings to others, each by a setting that the line says at its place
abbrev pub SaySettings : List (List ℕ) → Told → Told → Type 0
SaySettings [] told end = told ≡ end
SaySettings (line ∷ more) told end =
    (s : Setting)
    × (said before_boot told line ≡ Ok (Some (lines.Setting s)))
    × SaySettings more (told_after s told) end

-- the settings of a layout, with the largest logs
abbrev pub settings_from_c : PlainLayout → List PlainRegion → Told
settings_from_c l regions = record {
  geometry = Some l.address_bits;
  cpus = Some l.cpus;
  log = Some 1048576;
  regions = map region_from_c regions;
  carve = Some (range_from_c l.carve_first l.carve_count);
}

-- the lines of a layout's settings say just these, and then `boot` says the boot
abbrev pub StartsAreRead : Type 0
StartsAreRead = (l : PlainLayout) (regions : List PlainRegion) → AreIn64Bits l regions
    → SaySettings (setting_lines l regions) no_settings (settings_from_c l regions)
    × (said before_boot (settings_from_c l regions) (codes "boot") ≡ Ok (Some lines.Boot))
