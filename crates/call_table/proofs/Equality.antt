-- A derived `==` tells whether two VMs, steps, replies or calls are the same.
use Rattle.std.proofs.lemmas.Bool.Decides.{Decides-like}
use denote.Builtin.{u64}
use Rattle.std.specs.contracts.prelude.U64PartialEq.TheImpl as numbers
use Rattle.page_state.specs.contracts.entry.EntryPartialEq.TheImpl as entries
use Rattle.page_state.specs.contracts.row.RowPartialEq.TheImpl as rows
use Rattle.page_state.proofs.Equality.{Tells, enum_tells, bare_tells, both_tell, none, one, more, options_tell, numbers_tell, frames_tell, prots_tell, entries_tell, rows_tell}
use Rattle.call_table.specs.contracts.reply.CallPartialEq.TheImpl as calls
use Rattle.call_table.specs.contracts.reply.Refusal as refusal_type
use Rattle.call_table.specs.contracts.reply.RefusalPartialEq.TheImpl as refusals
use Rattle.call_table.specs.contracts.reply.Reply as reply_type
use Rattle.call_table.specs.contracts.reply.ReplyPartialEq.TheImpl as replies
use Rattle.call_table.specs.contracts.reply.Value as value_type
use Rattle.call_table.specs.contracts.reply.ValuePartialEq.TheImpl as values
use Rattle.call_table.specs.contracts.step.Step as step_type
use Rattle.call_table.specs.contracts.step.StepPartialEq.TheImpl as steps
use Rattle.call_table.specs.contracts.step.VmIdPartialEq.TheImpl as vms
use Rattle.call_table.specs.contracts.step.VmKind as kind_type
use Rattle.call_table.specs.contracts.step.VmKindPartialEq.TheImpl as kinds

pub vms_tell : Tells vms.ghosts.eq
vms_tell x y =
    Decides-like (vms.ghosts.eq x y) (λ p i. record { slot = p.0 i; generation = p.1 i })
    (λ e. ((λ i. (e i).slot), (λ i. (e i).generation)))
    (both_tell numbers.ghosts.eq numbers.ghosts.eq numbers_tell numbers_tell x.slot y.slot x.generation y.generation)

pub kinds_tell : Tells kinds.ghosts.eq
kinds_tell = bare_tells kind_type.the_type tt

pub steps_tell : Tells steps.ghosts.eq
steps_tell =
    let n1 = one numbers.ghosts.eq numbers_tell in
    let n2 = more numbers.ghosts.eq numbers_tell _ n1 in
    let n3 = more numbers.ghosts.eq numbers_tell _ n2 in
    let vm1 = one vms.ghosts.eq vms_tell in
    let vm2 = more vms.ghosts.eq vms_tell _ n1 in
    let right = more numbers.ghosts.eq numbers_tell _ (one _ prots_tell) in
    let lend = more numbers.ghosts.eq numbers_tell _ (more numbers.ghosts.eq numbers_tell _ (more _ prots_tell _ n1)) in
    let kind = more kinds.ghosts.eq kinds_tell _ n1 in
    enum_tells step_type.enum _ (
      n1,
      (
        n1,
        (
          n2,
          (
            n2,
            (
              n1,
              (
                n1,
                (
                  n1,
                  (
                    n1,
                    (
                      n2,
                      (
                        none,
                        (
                          lend,
                          (
                            vm2,
                            (
                              n3,
                              (
                                n1,
                                (
                                  n1,
                                  (
                                    none,
                                    (
                                      vm1,
                                      (
                                        vm2,
                                        (
                                          vm1,
                                          (
                                            none,
                                            (
                                              right,
                                              (
                                                vm2,
                                                (
                                                  none,
                                                  (
                                                    kind,
                                                    (
                                                      none,
                                                      (
                                                        vm2,
                                                        (
                                                          none,
                                                          (
                                                            vm1,
                                                            (
                                                              none,
                                                              tt,
                                                            ),
                                                          ),
                                                        ),
                                                      ),
                                                    ),
                                                  ),
                                                ),
                                              ),
                                            ),
                                          ),
                                        ),
                                      ),
                                    ),
                                  ),
                                ),
                              ),
                            ),
                          ),
                        ),
                      ),
                    ),
                  ),
                ),
              ),
            ),
          ),
        ),
      ),
    )

pub values_tell : Tells values.ghosts.eq
values_tell =
    enum_tells value_type.enum _ (
      none,
      (
        one vms.ghosts.eq vms_tell,
        (one _ frames_tell, (one entries.ghosts.eq entries_tell, (one rows.ghosts.eq rows_tell, tt))),
      ),
    )

pub refusals_tell : Tells refusals.ghosts.eq
refusals_tell = bare_tells refusal_type.the_type tt

pub replies_tell : Tells replies.ghosts.eq
replies_tell =
    enum_tells reply_type.enum _ (one values.ghosts.eq values_tell, (one refusals.ghosts.eq refusals_tell, tt))

pub calls_tell : Tells calls.ghosts.eq
calls_tell x y =
    let slot = options_tell u64 numbers.ghosts numbers.dict numbers_tell in
    let rest =
    more numbers.ghosts.eq numbers_tell _
    (more steps.ghosts.eq steps_tell _ (more replies.ghosts.eq replies_tell _ slot)) in
    Decides-like (calls.ghosts.eq x y)
    (λ p i. record { cpu = p.0 i; number = (p.1 i).0; step = (p.1 i).1.0; reply = (p.1 i).1.1.0; slot = (p.1 i).1.1.1 })
    (λ e. ((λ i. (e i).cpu), (λ i. ((e i).number, ((e i).step, ((e i).reply, (e i).slot))))))
    (both_tell numbers.ghosts.eq _ numbers_tell rest x.cpu y.cpu (x.number, (x.step, (x.reply, x.slot)))
    (y.number, (y.step, (y.reply, y.slot))))
