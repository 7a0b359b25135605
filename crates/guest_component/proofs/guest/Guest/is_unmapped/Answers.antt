use Rattle.std.proofs.Common.{rules, ap}
use Rattle.page_state.specs.Geometries.{pages_below}
use Rattle.guest_component.specs.View.{guest_depth, guest_in, guest_of}
use Rattle.guest_component.proofs.Pages.{none_mapped}
use Rattle.guest_component.proofs.guest.Guest.is_unmapped.Goals as goal

pub returns-in-None : goal.returns-in-None
returns-in-None g c =
    let s = c.args.self.now in
    none_mapped (pages_below (guest_depth s)) (guest_of s).tree.map
    (λ p. ap (λ o. (guest_in o).tree.map p) c.in-None.is)

pub returns-in-Some : goal.returns-in-Some
returns-in-Some g c = search rules
