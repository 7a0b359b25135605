use Rattle.std.proofs.Common.{◌-◌, ◌∙◌, Some, ap, subst, sym}
use Rattle.page_state.specs.LayoutView.{layout_of}
use Rattle.part_table.specs.Does.{only_at}
use Rattle.part_table.proofs.Holding.{only_here}
use Rattle.cpu_threads.specs.Judged.{IsRecordOf, lent_guest, lent_shared, lent_vms}
use Rattle.cpu_threads.proofs.Judging.{given_one, if_some, record_of}
use Rattle.cpu_threads.proofs.judged.record_part.Goals as goal

pub of_kept-requires : goal.of_kept-requires
of_kept-requires g c =
    c.in_ok-lists.ensures.kept
    (if_some c.guest_lent-guest.result
    (λ x e. c.requires.low.guests c.args.k x.1.now
    (only_here c.args.k c.args.slot.now
    ∙ ap Some e)) c.guest_lent-guest.ensures.part) c.requires.low.own_low

pub returns : goal.returns
returns g c =
    let k = c.args.k in
    let z = c.args.slot.now in
    subst (IsRecordOf (layout_of c.args.layout.now) (only_at k z) c.args.cpu.now) (sym c.of_kept.ensures)
    (record_of (layout_of c.args.layout.now) (only_at k z) c.args.cpu.now (lent_vms z) (lent_shared z)
    (lent_guest (k - 2) z) c.vms_lent-vms.ensures c.shared_lent-shared.ensures
    (c.guest_lent-guest.ensures.given ∙ ap (λ n. lent_guest n z) c.saturating_sub.ensures)
    (given_one k z c.args.cpu.now (c.requires.low.kinds k z (only_here k z))) c.in_ok-lists.lists
    c.in_ok-lists.ensures.state c.in_ok-lists.ensures.layout)
