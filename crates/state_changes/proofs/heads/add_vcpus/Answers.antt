use Rattle.std.proofs.Common.{◌≡◌, ℕ, Option, subst, arith}
use Rattle.ghost_spec.specs.States.{slot_in}
use Rattle.state_changes.specs.Texts.{text_of_holder}
use Rattle.state_changes.specs.Changed.{ReportsValue, ReportsVcpu, vcpu_name}
use Rattle.state_changes.specs.Together.{Adds, Each}
use Rattle.state_changes.proofs.Together.{adds_more}
use Rattle.state_changes.proofs.heads.add_vcpus.Goals as goal

pub loop-vcpu-preserved : goal.loop-vcpu-preserved
loop-vcpu-preserved c =
    let old = c.loop-vcpu.text.items in
    let new = c.add_holder.new.text.items in
    let next =
    subst
    (λ (x : Option ℕ). Adds
    (ReportsValue (vcpu_name c.args.slot c.loop-vcpu.vcpu) text_of_holder x
    ((slot_in c.args.after.now).loaded c.loop-vcpu.vcpu)) old new) c.holder_of-was.ensures
    (subst
    (λ (y : Option ℕ). Adds
    (ReportsValue (vcpu_name c.args.slot c.loop-vcpu.vcpu) text_of_holder c.holder_of-was.result y) old
    new) c.holder_of-is.ensures c.in_ok-add_holder.ensures) in
    record {
      within = omega (arith, c.loop-vcpu-test.true);
      told =
          adds_more
          (ReportsVcpu (slot_in c.args.before.now) (slot_in c.args.after.now) c.args.slot) c.loop-vcpu.vcpu
          c.args.text.now.items c.loop-vcpu.text.items c.add_holder.new.text.items
          c.loop-vcpu.invariant.told next;
    }

pub returns : goal.returns
returns c =
    let end : c.loop-vcpu.vcpu ≡ 8 = omega (arith, c.loop-vcpu.invariant.within, c.loop-vcpu-test.false) in
    subst
    (λ n. Adds
    (Each n
    (ReportsVcpu (slot_in c.args.before.now) (slot_in c.args.after.now) c.args.slot)) c.args.text.now.items
    c.loop-vcpu.text.items) end c.loop-vcpu.invariant.told
