use Rattle.std.proofs.Common.{◌<◌, ◌+◌, Some, None, length}
use Rattle.std.proofs.lemmas.Result.{IfOk-weaker}
use Rattle.reference_model.specs.model.State.{Slot, closing, no_slot, opened, put_at, reserved}
use Rattle.ghost_spec.proofs.Slots.{slot-by, slot-changed}
use Rattle.ghost_spec.proofs.vms.change.Goals as goal

pub returns-in-Reserve-clause-after : goal.returns-in-Reserve-clause-after
returns-in-Reserve-clause-after c =
    let less : c.in-Reserve.slot < length c.args.vms.now.items = rw c.in-Reserve.is at c.requires in
    rw c.in-Reserve.is
    (slot-by c.args.vms.now.items c.in-Reserve.slot c.index_mut.result.now c.reserve.new.slot
    (λ (y : Slot). record y { stand = reserved; kind = c.in-Reserve.kind; vcpus = c.in-Reserve.vcpus }) less
    c.index_mut.ensures.value c.reserve.ensures)

pub returns-in-Open-clause-after : goal.returns-in-Open-clause-after
returns-in-Open-clause-after c =
    let less : c.in-Open.slot < length c.args.vms.now.items = rw c.in-Open.is at c.requires in
    rw c.in-Open.is
    (slot-by c.args.vms.now.items c.in-Open.slot c.index_mut-in-Open.result.now c.open.new.slot
    (λ (y : Slot). record y { stand = opened }) less c.index_mut-in-Open.ensures.value c.open.ensures)

pub returns-in-Close-clause-after : goal.returns-in-Close-clause-after
returns-in-Close-clause-after c =
    let less : c.in-Close.slot < length c.args.vms.now.items = rw c.in-Close.is at c.requires in
    rw c.in-Close.is
    (slot-by c.args.vms.now.items c.in-Close.slot c.index_mut-in-Close.result.now c.close.new.slot
    (λ (y : Slot). record y { stand = closing }) less c.index_mut-in-Close.ensures.value c.close.ensures)

pub returns-in-Release-clause-after : goal.returns-in-Release-clause-after
returns-in-Release-clause-after c =
    let fits = rw c.in-Release.is at c.requires in
    rw c.in-Release.is
    (slot-changed c.args.vms.now.items c.in-Release.vm.slot c.release.new.slot
    (λ (y : Slot). no_slot (c.in-Release.vm.generation + 1)) fits.0 c.release.ensures)

pub returns-in-Load-clause-after : goal.returns-in-Load-clause-after
returns-in-Load-clause-after c =
    let less : c.in-Load.slot < length c.args.vms.now.items = rw c.in-Load.is at c.requires in
    rw c.in-Load.is
    (IfOk-weaker _ _ _
    (λ _ h. slot-by c.args.vms.now.items c.in-Load.slot c.index_mut-in-Load.result.now c.set_loaded.new.slot
    (λ (y : Slot). record y { loaded = put_at y.loaded c.in-Load.vcpu (Some c.in-Load.cpu) }) less
    c.index_mut-in-Load.ensures.value h) c.set_loaded.ensures)

pub returns-in-Unload-clause-after : goal.returns-in-Unload-clause-after
returns-in-Unload-clause-after c =
    let less : c.in-Unload.slot < length c.args.vms.now.items = rw c.in-Unload.is at c.requires in
    rw c.in-Unload.is
    (IfOk-weaker _ _ _
    (λ _ h. slot-by c.args.vms.now.items c.in-Unload.slot c.index_mut-in-Unload.result.now
    c.set_loaded-in-Unload.new.slot
    (λ (y : Slot). record y { loaded = put_at y.loaded c.in-Unload.vcpu None }) less
    c.index_mut-in-Unload.ensures.value h) c.set_loaded-in-Unload.ensures)
