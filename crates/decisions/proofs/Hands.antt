-- A hand that a run leaves is of frames.
use Rattle.std.proofs.Common.{◌≡◌, ℕ, ◌<◌, ◌^◌, Option, None, Some, refl, subst, arith}
use Rattle.page_state.specs.declared.entry.PageRange.{PageRange}
use Rattle.page_state.specs.declared.layout.Layout.{Layout as TheLayout}
use Rattle.call_table.specs.declared.step.Step.TheVariants.{Unfund}
use Rattle.page_state.specs.LayoutView.{layout_of}
use Rattle.page_state.proofs.Geometries.{pages_most}
use Rattle.reference_model.specs.help.Rely.{CanRely}
use Rattle.reference_model.specs.model.Rule.{reads}
use Rattle.reference_model.specs.model.Rules.{rule}
use Rattle.reference_model.specs.model.SharedRules.{unfund}
use Rattle.reference_model.specs.model.State.{Shared, Cpu}
use Rattle.reference_model.specs.model.Used.{used_alone}

-- what goes back to the host can be written, so the hypervisor's pages of the hand are input pages
pub hand_low : (l : TheLayout) (id : ℕ) (s : Shared) (k : Cpu) (r : PageRange)
    → k.hand ≡ Some r
    → CanRely (layout_of l) id None Unfund (used_alone s k)
    → r.first.0 < 2 ^ 36
unfolding rule
hand_low l id s k r e rely =
    let full =
    subst
    (λ (h : Option PageRange). CanRely (layout_of l) id None Unfund (used_alone s (record k { hand = h }))) e
    rely in
    let fit =
    (full.fit
    (unfund (reads (layout_of l) id None (used_alone s (record k { hand = Some r })))).changes refl).hyp in
    let most = pages_most l.geometry in
    let some = fit.some in
    let within = fit.within in
    omega (arith, some, within, most)
