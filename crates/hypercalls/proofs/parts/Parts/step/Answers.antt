use Rattle.std.proofs.Common.{arith, rules, ◌≡◌, ◌∙◌, refl, sym, ap, true, false, Option, Some, None}
use Rattle.std.proofs.lemmas.List.Elements.{All-set}
use Rattle.page_state.specs.Geometries.{levels_below}
use Rattle.part_types.specs.declared.parts.GuestPart.{GuestPart}
use Rattle.part_types.specs.declared.parts.CpuState.{CpuState}
use Rattle.part_types.specs.Lent.{lent_alone, lent_both, lent_guest, lent_shared, lent_vms}
use Rattle.part_types.specs.Logs.{IsOfSize}
use Rattle.part_types.specs.View.{cpu_of}
use Rattle.hypercalls.specs.Stands.{HasHistory}
use Rattle.hypercalls.specs.Whole.{IsStep}
use Rattle.hypercalls.proofs.Lends.{alone_anywhere, vms_anywhere, guest_at, guest_suits, handed, known_here, own_at, slot_inside, stands, steps}
use Rattle.hypercalls.proofs.Numbered.{numbered}
use Rattle.hypercalls.proofs.Using.{nothing, vms, shared, guest, both}
use Rattle.hypercalls.proofs.parts.Parts.step.Goals.{After-reply_of, in-Nothing, in-Vms, in-Shared, in-Guest, in-Both}
use Rattle.hypercalls.proofs.parts.Parts.step.Goals as goal

pub step_on_vms-made-requires-clause-known : goal.step_on_vms-made-requires-clause-known
step_on_vms-made-requires-clause-known g c =
    known_here c.args.self.now c.args.cpu c.index_mut-own.result.now
    (own_at c.args.self.now c.args.cpu c.index_mut-own.result.now c.requires.known
    c.index_mut-own.ensures.value) c.requires.known

pub step_on_shared-made-requires-clause-known : goal.step_on_shared-made-requires-clause-known
step_on_shared-made-requires-clause-known g c =
    known_here c.args.self.now c.args.cpu c.index_mut-own.result.now
    (own_at c.args.self.now c.args.cpu c.index_mut-own.result.now c.requires.known
    c.index_mut-own.ensures.value) c.requires.known

pub step_on_guest-made-requires-clause-known : goal.step_on_guest-made-requires-clause-known
step_on_guest-made-requires-clause-known g c =
    known_here c.args.self.now c.args.cpu c.index_mut-own.result.now
    (own_at c.args.self.now c.args.cpu c.index_mut-own.result.now c.requires.known
    c.index_mut-own.ensures.value) c.requires.known

pub step_on_both-made-requires-clause-known : goal.step_on_both-made-requires-clause-known
step_on_both-made-requires-clause-known g c =
    known_here c.args.self.now c.args.cpu c.index_mut-own.result.now
    (own_at c.args.self.now c.args.cpu c.index_mut-own.result.now c.requires.known
    c.index_mut-own.ensures.value) c.requires.known

pub step_on_vms-made-requires-clause-reached : goal.step_on_vms-made-requires-clause-reached
step_on_vms-made-requires-clause-reached g c =
    stands c.args.self.now c.args.cpu c.args.step c.index_mut-own.result.now
    (own_at c.args.self.now c.args.cpu c.index_mut-own.result.now c.requires.known
    c.index_mut-own.ensures.value) c.requires.known c.requires.history true false None
    (vms (cpu_of c.index_mut-own.result.now) c.args.step (sym c.uses.ensures ∙ c.in-Vms.is))
    (lent_vms c.args.self.now.vms c.index_mut-own.result.now) refl

pub step_on_shared-made-requires-clause-reached : goal.step_on_shared-made-requires-clause-reached
step_on_shared-made-requires-clause-reached g c =
    stands c.args.self.now c.args.cpu c.args.step c.index_mut-own.result.now
    (own_at c.args.self.now c.args.cpu c.index_mut-own.result.now c.requires.known
    c.index_mut-own.ensures.value) c.requires.known c.requires.history false true None
    (shared (cpu_of c.index_mut-own.result.now) c.args.step (sym c.uses.ensures ∙ c.in-Shared.is))
    (lent_shared c.args.self.now.shared c.index_mut-own.result.now) refl

pub step_on_guest-made-requires-clause-reached : goal.step_on_guest-made-requires-clause-reached
step_on_guest-made-requires-clause-reached g c =
    stands c.args.self.now c.args.cpu c.args.step c.index_mut-own.result.now
    (own_at c.args.self.now c.args.cpu c.index_mut-own.result.now c.requires.known
    c.index_mut-own.ensures.value) c.requires.known c.requires.history false false
    (Some c.in-Guest.v)
    (guest (cpu_of c.index_mut-own.result.now) c.args.step c.in-Guest.v
    (sym c.uses.ensures ∙ c.in-Guest.is))
    (lent_guest c.index_mut.result.now c.index_mut-own.result.now)
    (ap
    (λ
    (o : Option (GuestPart _)). record {
      vms = None;
      shared = None;
      guest = o;
      cpu = c.index_mut-own.result.now;
    })
    (guest_at c.args.self.now c.in-Guest.v c.index_mut.result.now
    (slot_inside c.args.self.now c.args.cpu c.args.step c.index_mut-own.result.now
    (own_at c.args.self.now c.args.cpu c.index_mut-own.result.now c.requires.known
    c.index_mut-own.ensures.value) c.requires.known c.requires.history false
    false
    (Some c.in-Guest.v)
    (guest (cpu_of c.index_mut-own.result.now) c.args.step c.in-Guest.v
    (sym c.uses.ensures ∙ c.in-Guest.is)) c.in-Guest.v
    refl) c.index_mut.ensures.value))

pub index_mut-requires : goal.index_mut-requires
index_mut-requires g c = let p = c.args.self.now in
    let within =
    (slot_inside c.args.self.now c.args.cpu c.args.step c.index_mut-own.result.now
    (own_at c.args.self.now c.args.cpu c.index_mut-own.result.now c.requires.known
    c.index_mut-own.ensures.value) c.requires.known c.requires.history false false
    (Some c.in-Guest.v)
    (guest (cpu_of c.index_mut-own.result.now) c.args.step c.in-Guest.v
    (sym c.uses.ensures ∙ c.in-Guest.is)) c.in-Guest.v refl) in
    omega (arith, within, p.guests.ok.0)

pub step_on_guest-made-requires-clause-suits : goal.step_on_guest-made-requires-clause-suits
step_on_guest-made-requires-clause-suits g c =
    guest_suits c.args.self.now c.in-Guest.v c.index_mut.result.now
    (guest_at c.args.self.now c.in-Guest.v c.index_mut.result.now
    (slot_inside c.args.self.now c.args.cpu c.args.step c.index_mut-own.result.now
    (own_at c.args.self.now c.args.cpu c.index_mut-own.result.now c.requires.known
    c.index_mut-own.ensures.value) c.requires.known c.requires.history false false
    (Some c.in-Guest.v)
    (guest (cpu_of c.index_mut-own.result.now) c.args.step c.in-Guest.v
    (sym c.uses.ensures ∙ c.in-Guest.is)) c.in-Guest.v refl) c.index_mut.ensures.value)

pub step_on_both-made-requires-clause-reached : goal.step_on_both-made-requires-clause-reached
step_on_both-made-requires-clause-reached g c =
    stands c.args.self.now c.args.cpu c.args.step c.index_mut-own.result.now
    (own_at c.args.self.now c.args.cpu c.index_mut-own.result.now c.requires.known
    c.index_mut-own.ensures.value) c.requires.known c.requires.history false true
    (Some c.in-Both.v)
    (both (cpu_of c.index_mut-own.result.now) c.args.step c.in-Both.v (sym c.uses.ensures ∙ c.in-Both.is))
    (lent_both c.args.self.now.shared c.index_mut-in-Both.result.now c.index_mut-own.result.now)
    (ap
    (λ
    (o : Option (GuestPart _)). record {
      vms = None;
      shared = Some c.args.self.now.shared;
      guest = o;
      cpu = c.index_mut-own.result.now;
    })
    (guest_at c.args.self.now c.in-Both.v c.index_mut-in-Both.result.now
    (slot_inside c.args.self.now c.args.cpu c.args.step c.index_mut-own.result.now
    (own_at c.args.self.now c.args.cpu c.index_mut-own.result.now c.requires.known
    c.index_mut-own.ensures.value) c.requires.known c.requires.history false
    true
    (Some c.in-Both.v)
    (both (cpu_of c.index_mut-own.result.now) c.args.step c.in-Both.v
    (sym c.uses.ensures ∙ c.in-Both.is)) c.in-Both.v
    refl) c.index_mut-in-Both.ensures.value))

pub index_mut-requires-in-Both : goal.index_mut-requires-in-Both
index_mut-requires-in-Both g c = let p = c.args.self.now in
    let within =
    (slot_inside c.args.self.now c.args.cpu c.args.step c.index_mut-own.result.now
    (own_at c.args.self.now c.args.cpu c.index_mut-own.result.now c.requires.known
    c.index_mut-own.ensures.value) c.requires.known c.requires.history false true
    (Some c.in-Both.v)
    (both (cpu_of c.index_mut-own.result.now) c.args.step c.in-Both.v
    (sym c.uses.ensures ∙ c.in-Both.is)) c.in-Both.v refl) in
    omega (arith, within, p.guests.ok.0)

pub step_on_both-made-requires-clause-suits : goal.step_on_both-made-requires-clause-suits
step_on_both-made-requires-clause-suits g c =
    let p = c.args.self.now in
    record {
      vms = tt;
      shared = record { depth = p.depth; rows = p.rows; log = p.shared_log };
      guest =
          guest_suits c.args.self.now c.in-Both.v c.index_mut-in-Both.result.now
          (guest_at c.args.self.now c.in-Both.v c.index_mut-in-Both.result.now
          (slot_inside c.args.self.now c.args.cpu c.args.step c.index_mut-own.result.now
          (own_at c.args.self.now c.args.cpu c.index_mut-own.result.now c.requires.known
          c.index_mut-own.ensures.value) c.requires.known c.requires.history false true
          (Some c.in-Both.v)
          (both (cpu_of c.index_mut-own.result.now) c.args.step c.in-Both.v
          (sym c.uses.ensures ∙ c.in-Both.is)) c.in-Both.v
          refl) c.index_mut-in-Both.ensures.value);
      cpu = search rules;
    }

pub invariant_of-self : goal.invariant_of-self
invariant_of-self g c =
    let p = c.args.self.now in
    record {
      slots = p.slots;
      counted = p.counted;
      vm_log = p.vm_log;
      shared_log = p.shared_log;
      depth = p.depth;
      rows = p.rows;
      guest_depth = p.guest_depth;
      guest_logs = p.guest_logs;
      numbers =
          numbered p.cpus.items c.args.cpu c.index_mut-own.result.now c.step_alone-made.new.cpu p.numbers
          (own_at c.args.self.now c.args.cpu c.index_mut-own.result.now c.requires.known
          c.index_mut-own.ensures.value) c.step_alone-made.ensures.step.id;
      own_logs =
          All-set
          (λ (j : CpuState). IsOfSize p.layout.config.log j.log) p.cpus.items c.args.cpu c.step_alone-made.new.cpu
          c.step_alone-made.ensures.own p.own_logs;
    }

pub invariant_of-self-in-Shared : goal.invariant_of-self-in-Shared
invariant_of-self-in-Shared g c =
    let p = c.args.self.now in
    record {
      slots = p.slots;
      counted = p.counted;
      vm_log = p.vm_log;
      shared_log = c.step_on_shared-made.ensures.suits.log;
      depth = c.step_on_shared-made.ensures.suits.depth;
      rows = c.step_on_shared-made.ensures.suits.rows;
      guest_depth = p.guest_depth;
      guest_logs = p.guest_logs;
      numbers =
          numbered p.cpus.items c.args.cpu c.index_mut-own.result.now c.step_on_shared-made.new.cpu p.numbers
          (own_at c.args.self.now c.args.cpu c.index_mut-own.result.now c.requires.known
          c.index_mut-own.ensures.value) c.step_on_shared-made.ensures.step.id;
      own_logs =
          All-set
          (λ (j : CpuState). IsOfSize p.layout.config.log j.log) p.cpus.items c.args.cpu
          c.step_on_shared-made.new.cpu c.step_on_shared-made.ensures.own p.own_logs;
    }

pub invariant_of-self-in-Vms : goal.invariant_of-self-in-Vms
invariant_of-self-in-Vms g c =
    let p = c.args.self.now in
    record {
      slots = p.slots;
      counted = p.counted;
      vm_log = c.step_on_vms-made.ensures.suits;
      shared_log = p.shared_log;
      depth = p.depth;
      rows = p.rows;
      guest_depth = p.guest_depth;
      guest_logs = p.guest_logs;
      numbers =
          numbered c.args.self.now.cpus.items c.args.cpu c.index_mut-own.result.now c.step_on_vms-made.new.cpu
          c.args.self.now.numbers
          (own_at c.args.self.now c.args.cpu c.index_mut-own.result.now c.requires.known
          c.index_mut-own.ensures.value) c.step_on_vms-made.ensures.step.id;
      own_logs =
          All-set
          (λ (j : CpuState). IsOfSize p.layout.config.log j.log) p.cpus.items c.args.cpu c.step_on_vms-made.new.cpu
          c.step_on_vms-made.ensures.own p.own_logs;
    }

pub invariant_of-self-in-Guest : goal.invariant_of-self-in-Guest
invariant_of-self-in-Guest g c =
    let p = c.args.self.now in
    record {
      slots = p.slots;
      counted = p.counted;
      vm_log = p.vm_log;
      shared_log = p.shared_log;
      depth = p.depth;
      rows = p.rows;
      guest_depth =
          All-set
          (λ (v : GuestPart _). levels_below v.guest.geometry ≡ levels_below p.layout.geometry) p.guests.items
          c.in-Guest.v c.step_on_guest-made.new.part c.step_on_guest-made.ensures.suits.depth p.guest_depth;
      guest_logs =
          All-set
          (λ (v : GuestPart _). IsOfSize p.layout.config.log v.log) p.guests.items c.in-Guest.v
          c.step_on_guest-made.new.part c.step_on_guest-made.ensures.suits.log p.guest_logs;
      numbers =
          numbered c.args.self.now.cpus.items c.args.cpu c.index_mut-own.result.now c.step_on_guest-made.new.cpu
          c.args.self.now.numbers
          (own_at c.args.self.now c.args.cpu c.index_mut-own.result.now c.requires.known
          c.index_mut-own.ensures.value) c.step_on_guest-made.ensures.step.id;
      own_logs =
          All-set
          (λ (j : CpuState). IsOfSize p.layout.config.log j.log) p.cpus.items c.args.cpu
          c.step_on_guest-made.new.cpu c.step_on_guest-made.ensures.own p.own_logs;
    }

pub invariant_of-self-in-Both : goal.invariant_of-self-in-Both
invariant_of-self-in-Both g c =
    let p = c.args.self.now in
    record {
      slots = p.slots;
      counted = p.counted;
      vm_log = p.vm_log;
      shared_log = c.step_on_both-made.ensures.suits.shared.log;
      depth = c.step_on_both-made.ensures.suits.shared.depth;
      rows = c.step_on_both-made.ensures.suits.shared.rows;
      guest_depth =
          All-set
          (λ (v : GuestPart _). levels_below v.guest.geometry ≡ levels_below p.layout.geometry) p.guests.items
          c.in-Both.v c.step_on_both-made.new.part c.step_on_both-made.ensures.suits.guest.depth p.guest_depth;
      guest_logs =
          All-set
          (λ (v : GuestPart _). IsOfSize p.layout.config.log v.log) p.guests.items c.in-Both.v
          c.step_on_both-made.new.part c.step_on_both-made.ensures.suits.guest.log p.guest_logs;
      numbers =
          numbered c.args.self.now.cpus.items c.args.cpu c.index_mut-own.result.now c.step_on_both-made.new.cpu
          c.args.self.now.numbers
          (own_at c.args.self.now c.args.cpu c.index_mut-own.result.now c.requires.known
          c.index_mut-own.ensures.value) c.step_on_both-made.ensures.step.id;
      own_logs =
          All-set
          (λ (j : CpuState). IsOfSize p.layout.config.log j.log) p.cpus.items c.args.cpu
          c.step_on_both-made.new.cpu c.step_on_both-made.ensures.suits.cpu p.own_logs;
    }

-- both at once
ends : (g : _) (c : After-reply_of g)
    → IsStep c.args.self.now c.args.cpu c.args.step c.reply_of.result c.match-uses.self
    × ∥ HasHistory c.match-uses.self ∥₁
ends g c =
    elim c.match-uses.branch [
      | in-Nothing w ↦ handed c.args.self.now c.args.cpu c.args.step w.self-is c.reply_of.ensures w.made-is
          (steps c.args.self.now c.args.cpu c.args.step c.index_mut-own.result.now
          (own_at c.args.self.now c.args.cpu c.index_mut-own.result.now c.requires.known
          c.index_mut-own.ensures.value) c.requires.known c.requires.history false false None
          (nothing (cpu_of c.index_mut-own.result.now) c.args.step (sym c.uses.ensures ∙ w.in-Nothing.is))
          (lent_alone c.index_mut-own.result.now) refl w.step_alone-made.result
          (lent_alone w.step_alone-made.new.cpu)
          (alone_anywhere _ c.args.step c.index_mut-own.result.now w.step_alone-made.new.cpu
          w.step_alone-made.result w.step_alone-made.ensures.step) _ refl refl refl refl refl)
      | in-Vms w ↦ handed c.args.self.now c.args.cpu c.args.step w.self-is c.reply_of.ensures w.made-is
          (steps c.args.self.now c.args.cpu c.args.step c.index_mut-own.result.now
          (own_at c.args.self.now c.args.cpu c.index_mut-own.result.now c.requires.known
          c.index_mut-own.ensures.value) c.requires.known c.requires.history true false None
          (vms (cpu_of c.index_mut-own.result.now) c.args.step (sym c.uses.ensures ∙ w.in-Vms.is))
          (lent_vms c.args.self.now.vms c.index_mut-own.result.now) refl w.step_on_vms-made.result
          (lent_vms w.step_on_vms-made.new.vms w.step_on_vms-made.new.cpu)
          (vms_anywhere _ c.args.step c.args.self.now.vms w.step_on_vms-made.new.vms
          c.index_mut-own.result.now w.step_on_vms-made.new.cpu w.step_on_vms-made.result
          w.step_on_vms-made.ensures.step) _ refl refl refl refl refl)
      | in-Shared w ↦ handed c.args.self.now c.args.cpu c.args.step w.self-is c.reply_of.ensures w.made-is
          (steps c.args.self.now c.args.cpu c.args.step c.index_mut-own.result.now
          (own_at c.args.self.now c.args.cpu c.index_mut-own.result.now c.requires.known
          c.index_mut-own.ensures.value) c.requires.known c.requires.history false true None
          (shared (cpu_of c.index_mut-own.result.now) c.args.step (sym c.uses.ensures ∙ w.in-Shared.is))
          (lent_shared c.args.self.now.shared c.index_mut-own.result.now) refl w.step_on_shared-made.result
          (lent_shared w.step_on_shared-made.new.shared
          w.step_on_shared-made.new.cpu) w.step_on_shared-made.ensures.step _ refl refl refl refl
          refl)
      | in-Guest w ↦ handed c.args.self.now c.args.cpu c.args.step w.self-is c.reply_of.ensures w.made-is
          (steps c.args.self.now c.args.cpu c.args.step c.index_mut-own.result.now
          (own_at c.args.self.now c.args.cpu c.index_mut-own.result.now c.requires.known
          c.index_mut-own.ensures.value) c.requires.known c.requires.history false false
          (Some w.in-Guest.v)
          (guest (cpu_of c.index_mut-own.result.now) c.args.step w.in-Guest.v
          (sym c.uses.ensures ∙ w.in-Guest.is))
          (lent_guest w.index_mut.result.now c.index_mut-own.result.now)
          (ap
          (λ
          (o : Option (GuestPart _)). record {
            vms = None;
            shared = None;
            guest = o;
            cpu = c.index_mut-own.result.now;
          })
          (guest_at c.args.self.now w.in-Guest.v w.index_mut.result.now
          (slot_inside c.args.self.now c.args.cpu c.args.step c.index_mut-own.result.now
          (own_at c.args.self.now c.args.cpu c.index_mut-own.result.now
          c.requires.known c.index_mut-own.ensures.value) c.requires.known
          c.requires.history false false
          (Some w.in-Guest.v)
          (guest
          (cpu_of c.index_mut-own.result.now) c.args.step w.in-Guest.v
          (sym c.uses.ensures ∙ w.in-Guest.is)) w.in-Guest.v
          refl) w.index_mut.ensures.value)) w.step_on_guest-made.result
          (lent_guest w.step_on_guest-made.new.part
          w.step_on_guest-made.new.cpu) w.step_on_guest-made.ensures.step _ refl refl refl
          refl refl)
      | in-Both w ↦ handed c.args.self.now c.args.cpu c.args.step w.self-is c.reply_of.ensures w.made-is
          (steps c.args.self.now c.args.cpu c.args.step c.index_mut-own.result.now
          (own_at c.args.self.now c.args.cpu c.index_mut-own.result.now c.requires.known
          c.index_mut-own.ensures.value) c.requires.known c.requires.history false true
          (Some w.in-Both.v)
          (both (cpu_of c.index_mut-own.result.now) c.args.step w.in-Both.v
          (sym c.uses.ensures ∙ w.in-Both.is))
          (lent_both c.args.self.now.shared w.index_mut-in-Both.result.now c.index_mut-own.result.now)
          (ap
          (λ
          (o : Option (GuestPart _)). record {
            vms = None;
            shared =
                Some c.args.self.now.shared;
            guest =
                o;
            cpu = c.index_mut-own.result.now;
          })
          (guest_at c.args.self.now w.in-Both.v w.index_mut-in-Both.result.now
          (slot_inside c.args.self.now c.args.cpu c.args.step c.index_mut-own.result.now
          (own_at c.args.self.now c.args.cpu c.index_mut-own.result.now
          c.requires.known c.index_mut-own.ensures.value) c.requires.known
          c.requires.history false true
          (Some w.in-Both.v)
          (both (cpu_of c.index_mut-own.result.now) c.args.step w.in-Both.v
          (sym c.uses.ensures ∙ w.in-Both.is)) w.in-Both.v
          refl) w.index_mut-in-Both.ensures.value)) w.step_on_both-made.result
          (lent_both w.step_on_both-made.new.shared w.step_on_both-made.new.part
          w.step_on_both-made.new.cpu) w.step_on_both-made.ensures.step _ refl refl refl
          refl refl)
    ]

pub returns-clause-step : goal.returns-clause-step
returns-clause-step g c = (ends g c).0

pub returns-clause-history : goal.returns-clause-history
returns-clause-history g c = (ends g c).1
