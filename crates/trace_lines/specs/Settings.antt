-- What a trace says before its boot (profile).
use Rattle.std.specs.Prelude.{ℕ, List, [], ◌∷◌, ◌++◌, Option, Some, None, unwrap_or}
use Rattle.page_state.specs.declared.entry.PageRange.{PageRange}
use Rattle.page_state.specs.declared.layout.Config.{Config}
use Rattle.page_state.specs.declared.layout.Region.{Region}
use Rattle.page_state.specs.declared.layout.RegionKind.{RegionKind}
use Rattle.page_state.specs.declared.layout.RegionKind.TheVariants as kinds
use Rattle.trace_lines.specs.declared.line.Setting.{Setting}
use Rattle.trace_lines.specs.declared.line.Setting.TheVariants as settings
use Rattle.trace_lines.specs.declared.settings.Settings.{Settings}

-- the settings: the width of input addresses, the CPUs, the calls of a log, the regions in order,
-- and the carve-out
pub record Told : Type 0 where
  pub geometry : Option ℕ
  pub cpus : Option ℕ
  pub log : Option ℕ
  pub regions : List Region
  pub carve : Option PageRange

-- what settings hold
abbrev pub told_of : Settings → Told
told_of s =
    record {
      geometry = s.geometry;
      cpus = s.cpus;
      log = s.log;
      regions = s.regions.items;
      carve = s.carve;
    }

-- no settings
abbrev pub no_settings : Told
no_settings = record { geometry = None; cpus = None; log = None; regions = []; carve = None }

-- the settings with one more region, after the others
abbrev pub with_region : RegionKind → PageRange → Told → Told
with_region kind pages told =
    record told { regions = told.regions ++ record { kind = kind; pages = pages } ∷ [] }

-- the settings after one more
abbrev pub told_after : Setting → Told → Told
told_after (settings.Geometry bits) told = record told { geometry = Some bits }
told_after (settings.Cpus cpus) told = record told { cpus = Some cpus }
told_after (settings.Log calls) told = record told { log = Some calls }
told_after (settings.Memory pages) told = with_region kinds.Memory pages told
told_after (settings.Device pages) told = with_region kinds.Device pages told
told_after (settings.Carve pages) told = record told { carve = Some pages }

-- the given configuration: by default one CPU, logs of 1,024 calls, and 39 bits
abbrev pub config_of : Told → Config
config_of told =
    record {
      cpus = unwrap_or told.cpus 1;
      log = unwrap_or told.log 1024;
      geometry = unwrap_or told.geometry 39;
    }
