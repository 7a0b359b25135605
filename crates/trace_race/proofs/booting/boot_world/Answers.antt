use Rattle.std.proofs.Common.{◌∙◌, List, ap, subst}
use Rattle.page_state.specs.declared.layout.Region.{Region}
use Rattle.page_state.specs.Regions.{memory_of}
use Rattle.trace_lines.specs.Settings.{config_of, told_of}
use Rattle.trace_text.specs.Session.{IsNoWorld}
use Rattle.trace_race.specs.declared.booting.Booted.{Booted}
use Rattle.trace_race.proofs.Boots.{booted_of, stops_boot}
use Rattle.trace_race.proofs.booting.boot_world.Goals as goal

pub returns-in-Err : goal.returns-in-Err
returns-in-Err c =
    let config = config_of (told_of c.args.settings.now) in
    stops_boot (memory_of c.args.settings.now.regions.items c.args.carve) config c.in-Err.stop
    (subst (λ rs. IsNoWorld c.in-Err.stop (memory_of rs c.args.carve) config) c.as_slice.ensures.value
    (c.in-Err.ensures config))

pub returns : goal.returns
returns c =
    let config = config_of (told_of c.args.settings.now) in
    let booted : Booted =
    record { world = c.in-Ok-boot.world; line = c.boot_line-line.result; state = c.in-Ok-to_ghost.state } in
    booted_of (memory_of c.args.settings.now.regions.items c.args.carve) c.in-Ok.map config c.config.result booted
    (c.in-Ok.ensures.0
    ∙ ap (λ (rs : List Region). memory_of rs c.args.carve) c.as_slice.ensures.value) c.config.ensures
    c.in-Ok-boot.ensures
    c.boot_line-line.ensures c.in-Ok-to_ghost.ensures.layout c.in-Ok-to_ghost.ensures.state
