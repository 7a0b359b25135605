-- A slot that is read and written again.
use Rattle.std.proofs.Common.{◌≡◌, ◌∙◌, ℕ, replicate, ap, arith}
use Rattle.std.proofs.lemmas.List.{get_or-replicate, get_or_past, length-replicate}
use mathlib.Core.Path.{fun_ext}
use Rattle.page_state.proofs.Cases.{by_lt}
use Rattle.reference_model.specs.model.Changes.{with_slot}
use Rattle.reference_model.specs.model.State.{Slot, Vms, put_at, no_slot, no_vms}
use Rattle.vm_table.specs.declared.Slot.{Slot as TableSlot}
use Rattle.vm_table.specs.View.{slot_of, vms_of, no_entry}

abbrev vms_told : (ℕ → Slot) → Vms
vms_told f = record { slot = f }

-- where the changed slot that was read is written, the slot is changed
pub changed_at : (v : ℕ) (x y : Vms) (old : Slot) (f : Slot → Slot)
    → y ≡ record x { slot = put_at x.slot v (f old) }
    → old ≡ x.slot v
    → y ≡ with_slot v f x
changed_at v x y old f e read = e ∙ ap (λ s. record x { slot = put_at x.slot v (f s) }) read

-- slots that are all Empty stand for the VM part at boot
pub all_vacant : (n : ℕ) (s : TableSlot) → slot_of s ≡ no_slot 1 → vms_of (replicate n s) ≡ no_vms
all_vacant n s e = ap vms_told (fun_ext (λ v. by_lt v n
    (λ less. ap slot_of (get_or-replicate n v s no_entry less) ∙ e)
    (λ past. ap slot_of (get_or_past (replicate n s) v no_entry (let l = length-replicate n s in omega (arith, l))))))
