use Rattle.std.proofs.Common.{◌≡◌, ℕ, refl, ap, ◌∙◌, subst, inl, inr, Option}
use Rattle.page_state.specs.Geometries.{levels_below}
use Rattle.reference_model.specs.declared.changes.GuestChange.TheVariants.{Keep, Gain, LoseLowest, Die}
use Rattle.guest_component.specs.Bodies.{body_of}
use Rattle.reference_model.specs.declared.changes.MapChange.{MapChange}
use Rattle.reference_model.specs.model.State.{Guest}
use Rattle.guest_component.specs.Changing.{StaysMade, map_changed}
use Rattle.guest_component.specs.InHand.{body_with}
use Rattle.guest_component.proofs.Guests.{after_both}
use Rattle.guest_component.proofs.body.Body.change.Goals as goal

-- the change that is in hand is the one of the map
made_by : (d : ℕ) (a b : Option MapChange) (x y : Guest) → y ≡ map_changed d a x → a ≡ b → y ≡ map_changed d b x
made_by d a b x y made e = made ∙ ap (λ k. map_changed d k x) e

pub returns-in-Keep-clause-made : goal.returns-in-Keep-clause-made
returns-in-Keep-clause-made g c =
    let b = c.args.self.now in
    elim (c.in-Keep.is) [
      | inl e ↦ after_both (levels_below b.map.tree.geometry) c.args.changes.now (body_with c.args.plan b)
          (body_of c.set.new.self) (body_of c.set.new.self) Keep e
          (made_by _ _ _ _ _ c.set.ensures.made c.requires.in_hand.change) refl
      | inr (inl h) ↦ absurd (subst StaysMade h.3 c.requires.stays)
      | inr (inr e) ↦ absurd (subst StaysMade e c.requires.stays)
    ]

pub returns-in-Gain-clause-made : goal.returns-in-Gain-clause-made
returns-in-Gain-clause-made g c =
    let b = c.args.self.now in
    let d = levels_below b.map.tree.geometry in
    after_both d c.args.changes.now (body_with c.args.plan b) (body_of c.set.new.self) (body_of c.gain.new.self)
    (Gain c.in-Gain.frames) c.in-Gain.is (made_by _ _ _ _ _ c.set.ensures.made c.requires.in_hand.change)
    (c.gain.ensures.made d)

pub returns-in-LoseLowest-clause-made : goal.returns-in-LoseLowest-clause-made
returns-in-LoseLowest-clause-made g c =
    let b = c.args.self.now in
    let d = levels_below b.map.tree.geometry in
    after_both d c.args.changes.now (body_with c.args.plan b) (body_of c.set.new.self)
    (body_of c.lose_lowest.new.self) LoseLowest c.in-LoseLowest.is
    (made_by _ _ _ _ _ c.set.ensures.made c.requires.in_hand.change) (c.lose_lowest.ensures.made d)

pub returns-in-Die-clause-made : goal.returns-in-Die-clause-made
returns-in-Die-clause-made g c =
    let b = c.args.self.now in
    let d = levels_below b.map.tree.geometry in
    after_both d c.args.changes.now (body_with c.args.plan b) (body_of c.set.new.self)
    (body_of c.die.new.self) Die c.in-Die.is (made_by _ _ _ _ _ c.set.ensures.made c.requires.in_hand.change)
    (c.die.ensures.made d)
