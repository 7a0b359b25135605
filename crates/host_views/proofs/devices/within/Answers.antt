use Rattle.std.proofs.Common.{◌+◌, ◌-◌, ◌^◌, ap, ◌∙◌}
use Rattle.page_state.specs.declared.entry.Entry.TheVariants.{Unmapped}
use Rattle.page_state.specs.Map.{Map, update}
use Rattle.page_state.specs.Runs.{map_of}
use Rattle.host_views.proofs.Maps.{parted, nothing-past}
use Rattle.host_views.proofs.devices.within.Goals as goal

pub returns-clause-map : goal.returns-clause-map
returns-clause-map c =
    let r = c.args.pages in
    let m : Map = map_of c.args.runs.now in
    let e = rw c.as_slice.ensures.value at c.in_ok-part.ensures.map in
    e
    ∙ ap
    (λ (n : Map). update n (r.first.0 + r.count)
    (2 ^ 63 - (r.first.0 + r.count)) Unmapped) c.in_ok-rest.ensures.map
    ∙ parted m r (2 ^ 63) c.requires.pages (nothing-past c.args.runs.now c.requires.runs)
