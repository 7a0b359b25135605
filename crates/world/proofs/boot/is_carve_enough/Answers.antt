use Rattle.std.proofs.Common.{◌≡◌, ◌+◌, Some, ap, ◌∙◌, arith}
use Rattle.page_state.specs.declared.entry.PageRange.{PageRange}
use Rattle.descriptor.specs.declared.Prot.TheVariants.{RW}
use Rattle.descriptor.specs.declared.State.TheVariants.{Owned}
use Rattle.reference_model.specs.model.Boot.{host_need, hyp_need, host_root, hyp_root}
use Rattle.page_state.specs.EntryTests.{annotation, leaf}
use Rattle.page_state.specs.Layouts.{Layout, hyp_page}
use Rattle.page_state.specs.Tables.{need, put}
use Rattle.reference_model.specs.declared.changes.MapChange.{MapChange}
use Rattle.hypercalls.specs.Booted.{layout_for}
use Rattle.reference_model.specs.model.Changes.{edit_of}
use Rattle.world.proofs.boot.is_carve_enough.Goals as goal

pub returns : goal.returns
returns c config =
    let l : Layout = layout_for c.args.map.now config c.args.geometry in
    let host : c.need_of_new-host_need.result ≡ host_need l =
    c.need_of_new-host_need.ensures l.memory.carve.first.0
    ∙ ap (λ (e : MapChange). need l.depth (host_root l) (edit_of (Some e))) c.host_change-host.ensures.value
    ∙ ap
    (λ (r : PageRange). need l.depth (host_root l)
    (put r.first.0 r.count (annotation 1))) c.carve-carve.ensures.value in
    let hyp : c.need_of_new-hyp_need.result ≡ hyp_need l =
    c.need_of_new-hyp_need.ensures (l.memory.carve.first.0 + 1)
    ∙ ap (λ (e : MapChange). need l.depth (hyp_root l) (edit_of (Some e))) c.hyp_change-hyp.ensures.value
    ∙ ap
    (λ (r : PageRange). need l.depth (hyp_root l)
    (put (hyp_page r.first.0) r.count (leaf RW r.first.0 Owned))) c.carve-carve.ensures.value in
    let count = ap (λ (r : PageRange). r.count) c.carve-carve.ensures.value in (
      λ h. omega (arith, host, hyp, count, c.is_enough.ensures.0 h),
      λ h. c.is_enough.ensures.1 (omega (arith, host, hyp, count, h)),
    )
