use Rattle.std.proofs.Common.{◌≡◌, sym, ap, subst, ◌∙◌, Some, option_map}
use Rattle.page_state.specs.Geometries.{levels_below}
use Rattle.guest_component.specs.Bodies.{IsOfGeometry, phase_of}
use Rattle.guest_component.specs.Changing.{PartFits}
use Rattle.guest_component.specs.InHand.{pool_with}
use Rattle.guest_component.specs.Plans.{map_with}
use Rattle.guest_component.specs.View.{guest_depth}
use Rattle.guest_component.proofs.Guests.{can_take, none_planned}
use Rattle.guest_component.proofs.guest.Guest.change_body.Goals as goal

pub change-requires-clause-part : goal.change-requires-clause-part
change-requires-clause-part g c =
    let s = c.args.self.now in
    let b = c.unwrap.result.now in
    let part = c.args.changes.now.part in
    let there : s.body ≡ Some b = sym c.as_mut.ensures.value ∙ ap (option_map (λ x. x.now)) c.unwrap.ensures in
    let alike : b.map.tree.geometry ≡ s.geometry = subst (IsOfGeometry s.geometry) there s.alike in
    let fits : PartFits (guest_depth s) (map_with (Some c.in-Some.plan) (Some b)) part =
    subst (λ o. PartFits (guest_depth s) (map_with (Some c.in-Some.plan) o) part) there
    (subst (λ p. PartFits (guest_depth s) (map_with p s.body) part) c.in-Some.is c.requires.fits.part) in
    can_take b.map.tree (pool_with c.in-Some.plan b) (phase_of b.phase) b.generation b.kind (guest_depth s) part
    (sym (ap levels_below alike)) fits

pub returns-in_default-clause-made : goal.returns-in_default-clause-made
returns-in_default-clause-made g c =
    let s = c.args.self.now in
    none_planned
    (guest_depth s) c.args.changes.now s.body c.args.plan c.in_default.is c.requires.in_hand c.requires.stays
    c.requires.fits
