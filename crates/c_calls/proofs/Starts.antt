-- The lines that a recorded trace begins with are read as the settings of its layout.
use Rattle.std.proofs.Common.{◌≡◌, ℕ, ◌==◌, Bool, true, false, List, [], ◌∷◌, ◌++◌, refl, arith, sym, ap, ◌∙◌, subst, Some, None, Ok, map}
use Rattle.std.specs.Prelude.{codes, is_some, if◌then◌else◌}
use Rattle.std.specs.Fmt.{decimal, digits}
use Rattle.std.proofs.lemmas.List.{append-nil, append_assoc}
use Rattle.page_state.specs.declared.layout.RegionKind.TheVariants as kinds
use Rattle.page_state.specs.Texts.{text_of_page}
use Rattle.c_states.specs.declared.layout.PlainRegion.{PlainRegion}
use Rattle.c_states.specs.Layouts.{region_from_c}
use Rattle.c_states.specs.Lists.{range_from_c}
use Rattle.trace_generate.specs.Reading.{Fits}
use Rattle.trace_generate.proofs.Spaces.{said-words, spaced}
use Rattle.trace_generate.proofs.Words.{number_of-decimal, number_of-page, word_of-decimal, word_of-page}
use Rattle.trace_lines.specs.declared.line.Line.TheVariants as lines
use Rattle.trace_lines.specs.declared.line.Setting.{Setting}
use Rattle.trace_lines.specs.declared.line.Setting.TheVariants as settings
use Rattle.trace_lines.specs.Asked.{asked}
use Rattle.trace_lines.specs.Places.{before_boot}
use Rattle.trace_lines.specs.Said.{said}
use Rattle.trace_lines.specs.Settings.{Told, no_settings, told_after}
use Rattle.c_calls.specs.Laws.{FitRegions, SaySettings, StartsAreRead, settings_from_c}
use Rattle.c_calls.specs.Lines.{number_line, range_line, region_line}

geometry_read : (told : Told) (n : ℕ)
    → Fits n
    → told.geometry ≡ None
    → said before_boot told (number_line (codes "geometry") n) ≡ Ok (Some (lines.Setting (settings.Geometry n)))
unfolding asked
geometry_read told n h e =
    said-words before_boot told (codes "geometry") (decimal n ∷ []) refl
    (record { some = omega arith; short = omega arith; plain = refl }) (word_of-decimal n h, tt) (omega arith)
    ∙ rw (e, number_of-decimal n h) refl

cpus_read : (told : Told) (n : ℕ)
    → Fits n
    → told.cpus ≡ None
    → said before_boot told (number_line (codes "cpus") n) ≡ Ok (Some (lines.Setting (settings.Cpus n)))
unfolding asked
cpus_read told n h e =
    said-words before_boot told (codes "cpus") (decimal n ∷ []) refl
    (record { some = omega arith; short = omega arith; plain = refl }) (word_of-decimal n h, tt) (omega arith)
    ∙ rw (e, number_of-decimal n h) refl

log_line : codes "log 1048576" ≡ number_line (codes "log") 1048576
unfolding digits
log_line = refl

log_read : (told : Told)
    → told.log ≡ None
    → said before_boot told (codes "log 1048576") ≡ Ok (Some (lines.Setting (settings.Log 1048576)))
unfolding asked
log_read told e =
    ap (said before_boot told) log_line
    ∙ said-words before_boot told (codes "log") (decimal 1048576 ∷ []) refl
    (record { some = omega arith; short = omega arith; plain = refl }) (word_of-decimal 1048576 (omega arith), tt)
    (omega arith)
    ∙ rw (e, number_of-decimal 1048576 (omega arith)) refl

range_spaced : (w : List ℕ) (first count : ℕ)
    → range_line w first count ≡ spaced w (text_of_page first ∷ decimal count ∷ [])
range_spaced w first count =
    append_assoc ((w ++ codes " ") ++ text_of_page first) (codes " ") (decimal count)
    ∙ append_assoc (w ++ codes " ") (text_of_page first) (codes " " ++ decimal count)
    ∙ append_assoc w (codes " ") (text_of_page first ++ (codes " " ++ decimal count))

carve_read : (told : Told) (first count : ℕ) → Fits first → Fits count → told.carve ≡ None
    → said before_boot told (range_line (codes "carve") first count)
    ≡ Ok (Some (lines.Setting (settings.Carve (range_from_c first count))))
unfolding asked
carve_read told first count f c e =
    ap (said before_boot told) (range_spaced (codes "carve") first count)
    ∙ said-words before_boot told (codes "carve") (text_of_page first ∷ decimal count ∷ []) refl
    (record { some = omega arith; short = omega arith; plain = refl })
    (word_of-page first f, (word_of-decimal count c, tt)) (omega arith)
    ∙ rw (e, number_of-page first f, number_of-decimal count c) refl

memory_read : (told : Told) (first count : ℕ)
    → Fits first
    → Fits count
    → said before_boot told (range_line (codes "memory") first count)
    ≡ Ok (Some (lines.Setting (settings.Memory (range_from_c first count))))
unfolding asked
memory_read told first count f c =
    ap (said before_boot told) (range_spaced (codes "memory") first count)
    ∙ said-words before_boot told (codes "memory") (text_of_page first ∷ decimal count ∷ []) refl
    (record { some = omega arith; short = omega arith; plain = refl })
    (word_of-page first f, (word_of-decimal count c, tt)) (omega arith)
    ∙ rw (number_of-page first f, number_of-decimal count c) refl

device_read : (told : Told) (first count : ℕ)
    → Fits first
    → Fits count
    → said before_boot told (range_line (codes "device") first count)
    ≡ Ok (Some (lines.Setting (settings.Device (range_from_c first count))))
unfolding asked
device_read told first count f c =
    ap (said before_boot told) (range_spaced (codes "device") first count)
    ∙ said-words before_boot told (codes "device") (text_of_page first ∷ decimal count ∷ []) refl
    (record { some = omega arith; short = omega arith; plain = refl })
    (word_of-page first f, (word_of-decimal count c, tt)) (omega arith)
    ∙ rw (number_of-page first f, number_of-decimal count c) refl

boot_read : (told : Told) → is_some told.carve ≡ true → said before_boot told (codes "boot") ≡ Ok (Some lines.Boot)
unfolding asked
boot_read told e =
    said-words before_boot told (codes "boot") [] refl
    (record { some = omega arith; short = omega arith; plain = refl }) tt (omega arith)
    ∙ rw e refl

region_setting : Bool → PlainRegion → Setting
region_setting true r = settings.Memory (range_from_c r.first r.count)
region_setting false r = settings.Device (range_from_c r.first r.count)

region_read : (memory : Bool) (told : Told) (r : PlainRegion) → Fits r.first → Fits r.count
    → said before_boot told (range_line (if memory then codes "memory" else codes "device") r.first r.count)
    ≡ Ok (Some (lines.Setting (region_setting memory r)))
unfolding region_setting
region_read true told r f c = memory_read told r.first r.count f c
region_read false told r f c = device_read told r.first r.count f c

region_after : (memory : Bool) (told : Told) (r : PlainRegion)
    → told_after (region_setting memory r) told
    ≡ record told {
      regions = told.regions
          ++ (record { kind = if memory then kinds.Memory else kinds.Device; pages = range_from_c r.first r.count }
          ∷ []);
    }
unfolding region_setting
region_after true told r = refl
region_after false told r = refl

regions_read : (rs : List PlainRegion) (told : Told) (rest : List (List ℕ)) (end : Told)
    → FitRegions rs
    → SaySettings rest (record told { regions = told.regions ++ map region_from_c rs }) end
    → SaySettings (map region_line rs ++ rest) told end
regions_read [] told rest end h k =
    subst (λ x. SaySettings rest (record told { regions = x }) end) (append-nil told.regions) k
regions_read (r ∷ rs) told rest end h k =
    let memory = r.kind == 0 in
    let with : Told = record told { regions = told.regions ++ (region_from_c r ∷ []) } in
    let more : SaySettings (map region_line rs ++ rest) with end =
    regions_read rs with rest end h.2
    (subst (λ x. SaySettings rest (record told { regions = x }) end)
    (sym (append_assoc told.regions (region_from_c r ∷ []) (map region_from_c rs))) k) in (
      region_setting memory r,
      region_read memory told r h.0 h.1,
      subst (λ t. SaySettings (map region_line rs ++ rest) t end) (sym (region_after memory told r)) more,
    )

pub starts_are_read : StartsAreRead
starts_are_read l regions h =
    let first : Told = record no_settings { geometry = Some l.address_bits } in
    let second : Told = record first { cpus = Some l.cpus } in
    let third : Told = record second { log = Some 1048576 } in
    let fourth : Told = record third { regions = map region_from_c regions } in
    let carve : SaySettings (range_line (codes "carve") l.carve_first l.carve_count ∷ []) fourth (settings_from_c l regions) = (
      settings.Carve (range_from_c l.carve_first l.carve_count),
      carve_read fourth l.carve_first l.carve_count h.first h.count refl,
      refl,
    ) in (
      (
        settings.Geometry l.address_bits,
        geometry_read no_settings l.address_bits h.bits refl,
        (
          settings.Cpus l.cpus,
          cpus_read first l.cpus h.cpus refl,
          (
            settings.Log 1048576,
            log_read second refl,
            regions_read regions third (range_line (codes "carve") l.carve_first l.carve_count ∷ [])
                (settings_from_c l regions) h.regions_are carve,
          ),
        ),
      ),
      boot_read (settings_from_c l regions) refl,
    )
