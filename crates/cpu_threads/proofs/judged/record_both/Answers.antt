use Rattle.std.proofs.Common.{◌≡◌, ◌≢◌, ◌+◌, ◌∙◌, None, Some, ap, arith, refl, suc, subst, sym}
use Rattle.page_state.specs.LayoutView.{layout_of}
use Rattle.part_table.specs.Does.{both_at}
use Rattle.part_table.specs.Parts.{HoldsGuest}
use Rattle.part_table.proofs.Holding.{at_first, at_second}
use Rattle.cpu_threads.specs.Judged.{IsOfKind, IsRecordOf, lent_guest, lent_shared}
use Rattle.cpu_threads.proofs.Judging.{given_two, if_some, record_of}
use Rattle.cpu_threads.proofs.judged.record_both.Goals as goal

pub of_kept-requires : goal.of_kept-requires
of_kept-requires g c =
    let k = c.args.v + 2 in
    c.in_ok-lists.ensures.kept
    (if_some c.guest_lent.result
    (λ x e. c.requires.low.guests k x.1.now
    (at_first k 1 c.args.guest.now c.args.shared.now
    ∙ ap Some e)) c.guest_lent.ensures.part) c.requires.low.own_low

pub returns : goal.returns
returns g c =
    let k = c.args.v + 2 in
    let x = c.args.shared.now in
    let y = c.args.guest.now in
    let apart : 1 ≢ k = (λ e. omega (arith, e)) in
    let two : k ≡ suc (suc c.args.v) = omega arith in
    let here : HoldsGuest y = subst (λ n. IsOfKind n y) two (c.requires.low.kinds k y (at_first k 1 y x)) in
    subst (IsRecordOf (layout_of c.args.layout.now) (both_at k y 1 x) c.args.cpu.now) (sym c.of_kept.ensures)
    (record_of (layout_of c.args.layout.now) (both_at k y 1 x) c.args.cpu.now None (lent_shared x)
    (lent_guest c.args.v y) refl c.shared_lent.ensures
    c.guest_lent.ensures.given
    (given_two c.args.v x y c.args.cpu.now
    (c.requires.low.kinds 1 x (at_second k 1 y x apart)) here) c.in_ok-lists.lists c.in_ok-lists.ensures.state
    c.in_ok-lists.ensures.layout)
