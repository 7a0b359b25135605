use Rattle.std.proofs.Common.{subst}
use Rattle.page_state.specs.Regions.{memory_of}
use Rattle.trace_lines.specs.Settings.{config_of, told_of}
use Rattle.trace_text.specs.Session.{IsNoWorld}
use Rattle.trace_race.proofs.Boots.{stops_boot}
use Rattle.trace_outcomes.proofs.booting.boot_state.Goals as goal

pub returns-in-Err : goal.returns-in-Err
returns-in-Err c =
    let config = config_of (told_of c.args.settings.now) in
    stops_boot (memory_of c.args.settings.now.regions.items c.args.carve) config c.in-Err.stop
    (subst (λ rs. IsNoWorld c.in-Err.stop (memory_of rs c.args.carve) config) c.as_slice.ensures.value
    (c.in-Err.ensures config))
