use Rattle.std.proofs.Common.{◌≡◌, Some, None, slice_get, refl, sym}
use Rattle.std.specs.Prelude.{true, false}
use Rattle.free_judge.proofs.PoolStates.{run-page, no-page}
use Rattle.free_judge.proofs.asked.has_page.Goals as goal

pub returns-in-Some : goal.returns-in-Some
returns-in-Some c =
    let first : slice_get c.args.guest.now.tree.runs.items 0 ≡ Some c.in-Some.field-0.now =
    sym (rw (c.in-Some.is, c.deref.ensures.value) at c.first.ensures.value) in
    (λ t. run-page c.args.guest.now.tree.runs.items c.in-Some.field-0.now c.requires.tree.coarsest first, λ h. refl)

pub returns-in-None : goal.returns-in-None
returns-in-None c =
    let none : slice_get c.args.guest.now.tree.runs.items 0 ≡ None =
    sym (rw (c.in-None.is, c.deref.ensures.value) at c.first.ensures.value) in
    (λ t. let bad : false ≡ true = t in cc, λ h. absurd (no-page c.args.guest.now.tree.runs.items none h))
