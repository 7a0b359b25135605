use Rattle.std.proofs.Common.{arith, ◌≡◌, ◌∙◌, ◌<◌, ℕ, Bool, true, false, Option, Some, None, get_or, length, refl, slice_get, sym, ap, subst, Global}
use Rattle.call_table.specs.declared.step.Step.{Step}
use Rattle.reference_model.specs.model.Rules.{guest_slot, names}
use Rattle.reference_model.specs.model.Reached.{IsReached}
use Rattle.part_types.specs.declared.parts.GuestPart.{GuestPart}
use Rattle.part_types.specs.declared.parts.CpuState.{CpuState}
use Rattle.part_types.specs.Lent.{Lent, lent_alone, lent_both, lent_guest, lent_shared, lent_vms, used_in}
use Rattle.part_types.specs.Logs.{IsOfSize}
use Rattle.part_types.specs.View.{cpu_of}
use Rattle.hypercalls.specs.declared.parts.Parts.{Parts}
use Rattle.hypercalls.specs.Stands.{HasHistory, parts_layout}
use Rattle.hypercalls.proofs.Lends.{all_get, guest_at, guest_suits, known_here, lends, own_at, slot_inside, stands}
use Rattle.hypercalls.proofs.Using.{IsKind, nothing, vms, shared, guest, both}
use Rattle.world.specs.LentParts.{parts_used}
use Rattle.world_tests.proofs.worlds.lent.step_of_lent.Goals as goal

module _ (p : Parts Global) (cpu : ℕ) (step : Step) (k : CpuState) (known : cpu < p.layout.config.cpus)
    (is : k ≡ get_or p.cpus.items cpu k) where
  at : slice_get p.cpus.items cpu ≡ Some k
  at = own_at p cpu k known is

  own_sized : IsOfSize p.layout.config.log k.log
  own_sized = all_get (λ (j : CpuState). IsOfSize p.layout.config.log j.log) p.cpus.items cpu k p.own_logs at

  id_known : k.id < p.layout.config.cpus
  id_known = known_here p cpu k at known

  module _ (past : ∥ HasHistory p ∥₁) (v s : Bool) (o : Option ℕ) (kind : IsKind (cpu_of k) step v s o) where
    reached : (y : Lent Global)
        → lends p cpu step k at known past v s o kind ≡ y
        → ∥ IsReached (parts_layout p) (names step) (guest_slot (cpu_of k) step) k.id (used_in y) ∥₁
    reached y e =
        subst (λ i. ∥ IsReached (parts_layout p) (names step) i k.id (used_in y) ∥₁) (sym kind.slot)
        (stands p cpu step k at known past v s o kind y e)

    inside : (u : ℕ) → o ≡ Some u → u < length p.guests.items
    inside = slot_inside p cpu step k at known past v s o kind

pub step_on-reply-requires-clause-reached : goal.step_on-reply-requires-clause-reached
step_on-reply-requires-clause-reached c =
    reached c.args.parts c.args.cpu c.args.step c.index_mut-own.result.now c.requires.known
    c.index_mut-own.ensures.value c.requires.history false false None
    (nothing (cpu_of c.index_mut-own.result.now) c.args.step (sym c.uses.ensures ∙ c.in-Nothing.is))
    (lent_alone c.index_mut-own.result.now) refl

pub step_on-reply-requires-in-Vms-clause-known : goal.step_on-reply-requires-in-Vms-clause-known
step_on-reply-requires-in-Vms-clause-known c =
    id_known c.args.parts c.args.cpu c.args.step c.index_mut-own.result.now c.requires.known
    c.index_mut-own.ensures.value

pub step_on-reply-requires-in-Vms-clause-reached : goal.step_on-reply-requires-in-Vms-clause-reached
step_on-reply-requires-in-Vms-clause-reached c =
    reached c.args.parts c.args.cpu c.args.step c.index_mut-own.result.now c.requires.known
    c.index_mut-own.ensures.value c.requires.history true false None
    (vms (cpu_of c.index_mut-own.result.now) c.args.step (sym c.uses.ensures ∙ c.in-Vms.is))
    (lent_vms c.args.parts.vms c.index_mut-own.result.now) refl

pub step_on-reply-requires-in-Shared-clause-known : goal.step_on-reply-requires-in-Shared-clause-known
step_on-reply-requires-in-Shared-clause-known c =
    id_known c.args.parts c.args.cpu c.args.step c.index_mut-own.result.now c.requires.known
    c.index_mut-own.ensures.value

pub step_on-reply-requires-in-Shared-clause-reached : goal.step_on-reply-requires-in-Shared-clause-reached
step_on-reply-requires-in-Shared-clause-reached c =
    reached c.args.parts c.args.cpu c.args.step c.index_mut-own.result.now c.requires.known
    c.index_mut-own.ensures.value c.requires.history false true None
    (shared (cpu_of c.index_mut-own.result.now) c.args.step (sym c.uses.ensures ∙ c.in-Shared.is))
    (lent_shared c.args.parts.shared c.index_mut-own.result.now) refl

pub index_mut-guest-requires : goal.index_mut-guest-requires
index_mut-guest-requires c =
    let p = c.args.parts in
    let within =
    inside c.args.parts c.args.cpu c.args.step c.index_mut-own.result.now c.requires.known
    c.index_mut-own.ensures.value c.requires.history false false
    (Some c.in-Guest.v)
    (guest (cpu_of c.index_mut-own.result.now) c.args.step c.in-Guest.v
    (sym c.uses.ensures ∙ c.in-Guest.is)) c.in-Guest.v refl in
    omega (arith, within, p.guests.ok.0)

pub step_on-reply-requires-in-Guest-clause-known : goal.step_on-reply-requires-in-Guest-clause-known
step_on-reply-requires-in-Guest-clause-known c =
    id_known c.args.parts c.args.cpu c.args.step c.index_mut-own.result.now c.requires.known
    c.index_mut-own.ensures.value

pub step_on-reply-requires-in-Guest-clause-suits : goal.step_on-reply-requires-in-Guest-clause-suits
step_on-reply-requires-in-Guest-clause-suits c =
    record {
      vms = tt;
      shared = tt;
      guest =
          guest_suits c.args.parts c.in-Guest.v c.index_mut-guest.result.now
          (guest_at c.args.parts c.in-Guest.v c.index_mut-guest.result.now
          (inside c.args.parts c.args.cpu c.args.step c.index_mut-own.result.now c.requires.known
          c.index_mut-own.ensures.value c.requires.history false false
          (Some c.in-Guest.v)
          (guest (cpu_of c.index_mut-own.result.now) c.args.step c.in-Guest.v
          (sym c.uses.ensures ∙ c.in-Guest.is)) c.in-Guest.v
          refl) c.index_mut-guest.ensures.value);
      cpu =
          own_sized c.args.parts c.args.cpu c.args.step c.index_mut-own.result.now c.requires.known
          c.index_mut-own.ensures.value;
    }

pub step_on-reply-requires-in-Guest-clause-reached : goal.step_on-reply-requires-in-Guest-clause-reached
step_on-reply-requires-in-Guest-clause-reached c =
    reached c.args.parts c.args.cpu c.args.step c.index_mut-own.result.now c.requires.known
    c.index_mut-own.ensures.value c.requires.history false false
    (Some c.in-Guest.v)
    (guest (cpu_of c.index_mut-own.result.now) c.args.step c.in-Guest.v (sym c.uses.ensures ∙ c.in-Guest.is))
    (lent_guest c.index_mut-guest.result.now c.index_mut-own.result.now)
    (ap
    (λ
    (o : Option (GuestPart Global)). record {
      vms = None;
      shared = None;
      guest = o;
      cpu = c.index_mut-own.result.now;
    })
    (guest_at c.args.parts c.in-Guest.v c.index_mut-guest.result.now
    (inside c.args.parts c.args.cpu c.args.step c.index_mut-own.result.now c.requires.known
    c.index_mut-own.ensures.value c.requires.history false false
    (Some c.in-Guest.v)
    (guest (cpu_of c.index_mut-own.result.now) c.args.step c.in-Guest.v
    (sym c.uses.ensures ∙ c.in-Guest.is)) c.in-Guest.v
    refl) c.index_mut-guest.ensures.value))

pub index_mut-guest-requires-in-Both : goal.index_mut-guest-requires-in-Both
index_mut-guest-requires-in-Both c =
    let p = c.args.parts in
    let within =
    inside c.args.parts c.args.cpu c.args.step c.index_mut-own.result.now c.requires.known
    c.index_mut-own.ensures.value c.requires.history false true
    (Some c.in-Both.v)
    (both (cpu_of c.index_mut-own.result.now) c.args.step c.in-Both.v
    (sym c.uses.ensures ∙ c.in-Both.is)) c.in-Both.v refl in
    omega (arith, within, p.guests.ok.0)

pub step_on-reply-requires-in-Both-clause-known : goal.step_on-reply-requires-in-Both-clause-known
step_on-reply-requires-in-Both-clause-known c =
    id_known c.args.parts c.args.cpu c.args.step c.index_mut-own.result.now c.requires.known
    c.index_mut-own.ensures.value

pub step_on-reply-requires-in-Both-clause-suits : goal.step_on-reply-requires-in-Both-clause-suits
step_on-reply-requires-in-Both-clause-suits c =
    record {
      vms = tt;
      shared =
          record { depth = c.args.parts.depth; rows = c.args.parts.rows; log = c.args.parts.shared_log };
      guest =
          guest_suits c.args.parts c.in-Both.v c.index_mut-guest-in-Both.result.now
          (guest_at c.args.parts c.in-Both.v c.index_mut-guest-in-Both.result.now
          (inside c.args.parts c.args.cpu c.args.step c.index_mut-own.result.now c.requires.known
          c.index_mut-own.ensures.value c.requires.history false true
          (Some c.in-Both.v)
          (both (cpu_of c.index_mut-own.result.now) c.args.step c.in-Both.v
          (sym c.uses.ensures ∙ c.in-Both.is)) c.in-Both.v
          refl) c.index_mut-guest-in-Both.ensures.value);
      cpu =
          own_sized c.args.parts c.args.cpu c.args.step c.index_mut-own.result.now c.requires.known
          c.index_mut-own.ensures.value;
    }

pub step_on-reply-requires-in-Both-clause-reached : goal.step_on-reply-requires-in-Both-clause-reached
step_on-reply-requires-in-Both-clause-reached c =
    reached c.args.parts c.args.cpu c.args.step c.index_mut-own.result.now c.requires.known
    c.index_mut-own.ensures.value c.requires.history false true
    (Some c.in-Both.v)
    (both (cpu_of c.index_mut-own.result.now) c.args.step c.in-Both.v (sym c.uses.ensures ∙ c.in-Both.is))
    (lent_both c.args.parts.shared c.index_mut-guest-in-Both.result.now c.index_mut-own.result.now)
    (ap
    (λ
    (o : Option (GuestPart Global)). record {
      vms = None;
      shared = Some c.args.parts.shared;
      guest = o;
      cpu = c.index_mut-own.result.now;
    })
    (guest_at c.args.parts c.in-Both.v c.index_mut-guest-in-Both.result.now
    (inside c.args.parts c.args.cpu c.args.step c.index_mut-own.result.now c.requires.known
    c.index_mut-own.ensures.value c.requires.history false true
    (Some c.in-Both.v)
    (both (cpu_of c.index_mut-own.result.now) c.args.step c.in-Both.v
    (sym c.uses.ensures ∙ c.in-Both.is)) c.in-Both.v
    refl) c.index_mut-guest-in-Both.ensures.value))

pub step_on-reply-requires-clause-known : goal.step_on-reply-requires-clause-known
step_on-reply-requires-clause-known c =
    id_known c.args.parts c.args.cpu c.args.step c.index_mut-own.result.now c.requires.known
    c.index_mut-own.ensures.value

pub step_on-reply-requires-clause-lent : goal.step_on-reply-requires-clause-lent
step_on-reply-requires-clause-lent c = ap parts_used (sym c.in-Nothing.is ∙ c.uses.ensures)

pub step_on-reply-requires-clause-suits : goal.step_on-reply-requires-clause-suits
step_on-reply-requires-clause-suits c =
    record {
      vms = tt;
      shared = tt;
      guest = tt;
      cpu =
          own_sized c.args.parts c.args.cpu c.args.step c.index_mut-own.result.now c.requires.known
          c.index_mut-own.ensures.value;
    }

pub step_on-reply-requires-in-Vms-clause-lent : goal.step_on-reply-requires-in-Vms-clause-lent
step_on-reply-requires-in-Vms-clause-lent c = ap parts_used (sym c.in-Vms.is ∙ c.uses.ensures)

pub step_on-reply-requires-in-Vms-clause-suits : goal.step_on-reply-requires-in-Vms-clause-suits
step_on-reply-requires-in-Vms-clause-suits c =
    record {
      vms = c.args.parts.vm_log;
      shared = tt;
      guest = tt;
      cpu =
          own_sized c.args.parts c.args.cpu c.args.step c.index_mut-own.result.now c.requires.known
          c.index_mut-own.ensures.value;
    }

pub step_on-reply-requires-in-Shared-clause-lent : goal.step_on-reply-requires-in-Shared-clause-lent
step_on-reply-requires-in-Shared-clause-lent c = ap parts_used (sym c.in-Shared.is ∙ c.uses.ensures)

pub step_on-reply-requires-in-Shared-clause-suits : goal.step_on-reply-requires-in-Shared-clause-suits
step_on-reply-requires-in-Shared-clause-suits c =
    record {
      vms = tt;
      shared =
          record { depth = c.args.parts.depth; rows = c.args.parts.rows; log = c.args.parts.shared_log };
      guest =
          tt;
      cpu =
          own_sized c.args.parts c.args.cpu c.args.step c.index_mut-own.result.now c.requires.known
          c.index_mut-own.ensures.value;
    }

pub step_on-reply-requires-in-Guest-clause-lent : goal.step_on-reply-requires-in-Guest-clause-lent
step_on-reply-requires-in-Guest-clause-lent c = ap parts_used (sym c.in-Guest.is ∙ c.uses.ensures)

pub step_on-reply-requires-in-Both-clause-lent : goal.step_on-reply-requires-in-Both-clause-lent
step_on-reply-requires-in-Both-clause-lent c = ap parts_used (sym c.in-Both.is ∙ c.uses.ensures)
