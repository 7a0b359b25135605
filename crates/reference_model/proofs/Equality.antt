-- A derived `==` tells whether two stages, tickets or loaded vCPUs are the same.
use Rattle.std.proofs.Common.{◌≡◌, refl}
use Rattle.std.proofs.lemmas.Bool.Decides.{Decides-like}
use Rattle.std.specs.contracts.prelude.U64PartialEq.TheImpl as numbers
use Rattle.page_state.proofs.Equality.{Tells, bare_tells, both_tell, one, more, numbers_tell}
use Rattle.call_table.specs.contracts.step.VmIdPartialEq.TheImpl as vms
use Rattle.call_table.specs.contracts.step.VmKindPartialEq.TheImpl as kinds
use Rattle.call_table.proofs.Equality.{vms_tell, kinds_tell}
use Rattle.reference_model.specs.contracts.changes.LoadedPartialEq.TheImpl as loads
use Rattle.reference_model.specs.contracts.changes.Stage as stage_type
use Rattle.reference_model.specs.contracts.changes.StagePartialEq.TheImpl as stages
use Rattle.reference_model.specs.contracts.changes.TicketPartialEq.TheImpl as tickets
use Rattle.reference_model.specs.declared.changes.Stage.{Stage}
use Rattle.reference_model.specs.declared.changes.Stage.TheVariants.{Booked as booked, Installed as installed, Closing as closing_vm, Dying as dying_vm, Finished as finished}
use Rattle.reference_model.specs.model.Parts.{stage_eq}

pub stages_tell : Tells stages.ghosts.eq
stages_tell = bare_tells stage_type.the_type tt

-- the test of stages that rules write
pub stages_test : (a b : Stage) → stages.ghosts.eq a b ≡ stage_eq a b
stages_test booked booked = refl
stages_test installed installed = refl
stages_test closing_vm closing_vm = refl
stages_test dying_vm dying_vm = refl
stages_test finished finished = refl
stages_test a b = refl

pub loads_tell : Tells loads.ghosts.eq
loads_tell x y =
    Decides-like (loads.ghosts.eq x y) (λ p i. record { vm = p.0 i; vcpu = p.1 i })
    (λ e. ((λ i. (e i).vm), (λ i. (e i).vcpu)))
    (both_tell vms.ghosts.eq numbers.ghosts.eq vms_tell numbers_tell x.vm y.vm x.vcpu y.vcpu)

pub tickets_tell : Tells tickets.ghosts.eq
tickets_tell x y =
    let rest = more kinds.ghosts.eq kinds_tell _ (one stages.ghosts.eq stages_tell) in
    Decides-like (tickets.ghosts.eq x y) (λ p i. record { vm = p.0 i; kind = (p.1 i).0; stage = (p.1 i).1.0 })
    (λ e. ((λ i. (e i).vm), (λ i. ((e i).kind, ((e i).stage, tt)))))
    (both_tell vms.ghosts.eq _ vms_tell rest x.vm y.vm (x.kind, (x.stage, tt)) (y.kind, (y.stage, tt)))
