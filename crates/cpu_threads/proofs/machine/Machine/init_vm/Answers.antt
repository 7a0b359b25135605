use Rattle.std.proofs.Common.{subst}
use Rattle.call_table.specs.declared.reply.Reply.TheVariants.{Done}
use Rattle.call_table.specs.declared.reply.Value.{Value}
use Rattle.call_table.specs.declared.step.Step.TheVariants.{VmOpen}
use Rattle.part_table.specs.Known.{Known}
use Rattle.cpu_threads.specs.Inits.{IsCallOf}
use Rattle.cpu_threads.proofs.Opens.{open_answers}
use Rattle.cpu_threads.proofs.machine.Machine.init_vm.Goals as goal

pub returns-in-Err-make-2-clause-inits : goal.returns-in-Err-make-2-clause-inits
returns-in-Err-make-2-clause-inits g c = (
  c.make.new.pass.knows,
  c.make-2.new.pass.knows,
  (c.in_default.field-0, c.in_default.ensures.made),
  (c.in_default-make.field-0, c.in_default-make.ensures.made),
  c.in-Err-make-2.ensures.made,
)

pub vm_in-requires : goal.vm_in-requires
vm_in-requires g c =
    record {
      vm = open_answers c.in-Ok.value c.make-3.new.pass.knows c.make-4.new.pass.knows
          (c.in-Ok.ensures.made.stored tt);
    }

pub returns-in-Ok-clause-inits : goal.returns-in-Ok-clause-inits
returns-in-Ok-clause-inits g c =
    let u : Known = c.make-3.new.pass.knows in
    let w : Known = c.make-4.new.pass.knows in (
      c.make.new.pass.knows,
      c.make-2.new.pass.knows,
      u,
      (c.in_default.field-0, c.in_default.ensures.made),
      (c.in_default-make.field-0, c.in_default-make.ensures.made),
      (c.in_default-make-2.field-0, c.in_default-make-2.ensures.made),
      subst (λ (v : Value). IsCallOf VmOpen (Done v) u w) c.vm_in.ensures c.in-Ok.ensures.made,
    )

pub returns-in-Err-make-3-clause-inits : goal.returns-in-Err-make-3-clause-inits
returns-in-Err-make-3-clause-inits g c = (
  c.make.new.pass.knows,
  c.make-2.new.pass.knows,
  c.make-3.new.pass.knows,
  (c.in_default.field-0, c.in_default.ensures.made),
  (c.in_default-make.field-0, c.in_default-make.ensures.made),
  (c.in_default-make-2.field-0, c.in_default-make-2.ensures.made),
  c.in-Err-make-3.ensures.made,
)
