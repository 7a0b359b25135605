use Rattle.std.proofs.Common.{refl, sym, ap, subst, ◌∙◌, ◌≡◌, arith, true, false}
use Rattle.reference_model.specs.model.State.{Slot, opened}
use Rattle.reference_model.specs.claims.Sound.{HasLoaded}
use Rattle.ghost_spec.specs.States.{contents_in}
use Rattle.ghost_slots.proofs.Past.{no-load}
use Rattle.ghost_slots.proofs.slots.is_vcpu_on.Goals as goal

pub returns-then-vcpu-ge8 : goal.returns-then-vcpu-ge8
returns-then-vcpu-ge8 c =
    (λ t. absurd (cc), λ h. let x = (h c.args.cpu refl).0 in absurd (omega (arith, x, c.if-vcpu-ge8.true)))

pub returns-then-not-is_opened : goal.returns-then-not-is_opened
returns-then-not-is_opened c = (
  λ t. absurd (cc),
  λ h.
      let x = (h c.args.cpu refl).1 in
      let bad : true ≡ false =
      sym (c.is_opened.ensures.1 (ap (λ (s : Slot). s.stand) c.slot_at.ensures ∙ x)) ∙ c.if-not-is_opened.true in
      cc,
)

pub returns-then-cpu-state : goal.returns-then-cpu-state
returns-then-cpu-state c = (
  λ t. absurd (cc),
  λ h. absurd
      (no-load c.args.state.now c.requires.kept c.args.cpu c.args.slot c.args.vcpu c.if-cpu-state.true
      (h c.args.cpu refl).2),
)

pub returns : goal.returns
returns c = (
  λ t. λ k e.
      let same : c.args.cpu ≡ k = cc in
      let is : ((contents_in c.args.state.now).vms.slot c.args.slot).stand ≡ opened =
      sym (ap (λ (s : Slot). s.stand) c.slot_at.ensures) ∙ c.is_opened.ensures.0 c.if-not-is_opened.false in (
        omega (arith, c.if-vcpu-ge8.false),
        is,
        subst (HasLoaded (contents_in c.args.state.now) c.args.slot c.args.vcpu) same (c.loads.ensures.0 t),
      ),
  λ h. c.loads.ensures.1 (h c.args.cpu refl).2,
)
