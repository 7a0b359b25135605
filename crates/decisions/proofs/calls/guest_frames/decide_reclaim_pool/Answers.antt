use Rattle.std.proofs.Common.{sym, ◌∙◌}
use Rattle.guest_component.specs.View.{guest_of}
use Rattle.part_types.specs.View.{cpu_of, shared_of}
use Rattle.decisions.proofs.GuestDecided.{least_low}
use Rattle.decisions.proofs.calls.guest_frames.decide_reclaim_pool.Goals as goal

pub to_host-requires : goal.to_host-requires
to_host-requires g c =
    least_low c.args.layout.now c.args.cpu.now.id c.args.slot (shared_of c.args.shared.now) (guest_of c.args.guest.now)
    (cpu_of c.args.cpu.now) c.args.vm c.least-frame.result c.least-frame.ensures c.if-vm-ge-SLOTS.false
    (sym c.is_dying.ensures ∙ c.if-not-is_dying.false)
    (λ e. c.if-free-eq0.false (c.free.ensures ∙ e)) c.requires.rely
