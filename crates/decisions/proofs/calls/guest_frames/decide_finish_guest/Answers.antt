use Rattle.std.proofs.Common.{◌∙◌, length, sym}
use Rattle.guest_component.specs.View.{guest_depth, guest_of}
use Rattle.part_types.specs.View.{cpu_of, shared_of}
use Rattle.decisions.proofs.GuestDecided.{holds_none, root_low}
use Rattle.decisions.proofs.calls.guest_frames.decide_finish_guest.Goals as goal

pub to_host-requires : goal.to_host-requires
to_host-requires g c =
    let none =
    holds_none _ (length (guest_of c.args.guest.now).free) (sym c.holds_any.ensures ∙ c.if-holds_any.false) in
    root_low c.args.layout.now c.args.cpu.now.id c.args.slot (shared_of c.args.shared.now) (guest_of c.args.guest.now)
    (cpu_of c.args.cpu.now)
    (guest_depth c.args.guest.now) c.root.result c.requires.depth c.root.ensures none.0 none.1 c.requires.rely
