use Rattle.std.proofs.Common.{ℕ, ap, sym, ◌∙◌}
use Rattle.page_state.specs.declared.layout.RegionKind.{RegionKind}
use Rattle.page_state.specs.Map.{Map}
use Rattle.page_state.specs.Runs.{map_of}
use Rattle.host_views.specs.Seen.{as_device, of_kind, within_range}
use Rattle.host_views.proofs.Maps.{as-region}
use Rattle.host_views.proofs.devices.of_region.Goals as goal

pub returns-in-Memory-clause-map : goal.returns-in-Memory-clause-map
returns-in-Memory-clause-map c =
    let m : Map = map_of c.args.runs.now in
    c.in_ok-part.ensures.map
    ∙ ap (λ (k : RegionKind). within_range c.args.region.pages (λ p. of_kind k (m p))) (sym c.in-Memory.is)

pub returns-in_ok-out-in-Device-clause-map : goal.returns-in_ok-out-in-Device-clause-map
returns-in_ok-out-in-Device-clause-map c =
    let m : Map = map_of c.args.runs.now in
    let e = rw c.as_slice.ensures.value at c.in_ok-out-in-Device.ensures.map in
    e ∙ ap (λ (n : Map). λ (p : ℕ). as_device (n p)) c.in_ok-part.ensures.map ∙ sym (as-region c.args.region.pages m)
    ∙ ap (λ (k : RegionKind). within_range c.args.region.pages (λ p. of_kind k (m p))) (sym c.in-Device.is)
