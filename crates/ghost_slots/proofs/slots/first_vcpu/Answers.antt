use Rattle.std.proofs.Common.{sym, ap, subst, ◌∙◌, ◌≡◌, arith, true, false, get_or, List, Option, None, ℕ}
use Rattle.page_state.proofs.Cases.{by_lt}
use Rattle.ghost_spec.specs.States.{contents_in}
use Rattle.ghost_slots.specs.Faults.{VcpuOn}
use Rattle.ghost_slots.proofs.Past.{vcpu-at, vcpu-of, vcpu-past}
use Rattle.ghost_slots.proofs.slots.first_vcpu.Goals as goal

pub returns-then-not-is_vcpu : goal.returns-then-not-is_vcpu
returns-then-not-is_vcpu c =
    let g = c.args.state.now in
    let same = λ (i : ℕ). ap (λ (xs : List (Option ℕ)). get_or xs i None) (sym c.as_slice-loaded.ensures.value) in (
      λ j l. vcpu-at g c.args.slot j c.as_slice-loaded.result.now _ c.slot_at.ensures (same j) (c.loop-i.invariant j l),
      λ h. let bad : true ≡ false =
          sym
          (c.is_vcpu.ensures.1
          (vcpu-of g c.args.slot c.loop-i.i c.as_slice-loaded.result.now _ c.slot_at.ensures
          (same c.loop-i.i) h))
          ∙ c.if-not-is_vcpu.true in
          cc,
    )

pub loop-i-preserved : goal.loop-i-preserved
loop-i-preserved c = λ j l. by_lt j c.loop-i.i (λ x. c.loop-i.invariant j x) (λ x.
    let e : c.loop-i.i ≡ j = omega (arith, l, x) in
    subst
    (λ (k : ℕ). VcpuOn (contents_in c.args.state.now) c.args.slot k (get_or c.as_slice-loaded.result.now k None)) e
    (c.is_vcpu.ensures.0 c.if-not-is_vcpu.false))

pub returns : goal.returns
returns c = λ j.
    let g = c.args.state.now in
    let same = ap (λ (xs : List (Option ℕ)). get_or xs j None) (sym c.as_slice-loaded.ensures.value) in
    vcpu-at g c.args.slot j c.as_slice-loaded.result.now _ c.slot_at.ensures same
    (by_lt j c.loop-i.i (λ l. c.loop-i.invariant j l)
    (λ l. vcpu-past g c.args.slot j c.as_slice-loaded.result.now (omega (arith, l, c.loop-i-test.false))))
