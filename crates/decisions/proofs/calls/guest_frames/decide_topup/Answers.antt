use Rattle.std.proofs.Common.{◌+◌, ◌<◌, ◌≤◌, length, sym, arith, ◌∙◌}
use Rattle.page_state.specs.LayoutView.{layout_of}
use Rattle.guest_component.specs.View.{guest_of}
use Rattle.part_types.specs.View.{cpu_of}
use Rattle.reference_model.specs.model.GuestRules.{guest_table_count}
use Rattle.decisions.proofs.GuestDecided.{tops_over, tops_up}
use Rattle.decisions.proofs.calls.guest_frames.decide_topup.Goals as goal

pub returns-then-hand-held : goal.returns-then-hand-held
returns-then-hand-held g c =
    let l = layout_of c.args.layout.now in
    let tables = c.tables.ensures.value l (sym c.requires.depth) in
    let over : 512 < guest_table_count l (guest_of c.args.guest.now).tree + length (guest_of c.args.guest.now).free + c.in-Some.hand.count =
    omega (arith, tables, c.tables.ensures.few, c.free.ensures, c.if-hand-held.true) in
    record {
      decided = λ id slot s. tops_over l id slot s (guest_of c.args.guest.now)
          (cpu_of c.args.cpu.now) c.args.vm c.in-Some.hand c.if-vm-ge-SLOTS.false
          (sym c.is_live_or_dying.ensures ∙ c.if-not-is_live_or_dying.false) c.in-Some.is over;
    }

pub returns : goal.returns
returns g c =
    let l = layout_of c.args.layout.now in
    let tables = c.tables.ensures.value l (sym c.requires.depth) in
    let few : guest_table_count l (guest_of c.args.guest.now).tree + length (guest_of c.args.guest.now).free + c.in-Some.hand.count ≤ 512 =
    omega (arith, tables, c.tables.ensures.few, c.free.ensures, c.if-hand-held.false) in
    record {
      decided = λ id slot s. tops_up l id slot s (guest_of c.args.guest.now)
          (cpu_of c.args.cpu.now) c.args.vm c.in-Some.hand c.if-vm-ge-SLOTS.false
          (sym c.is_live_or_dying.ensures ∙ c.if-not-is_live_or_dying.false) c.in-Some.is c.hand_becomes.result
          c.hand_becomes.ensures few;
    }
