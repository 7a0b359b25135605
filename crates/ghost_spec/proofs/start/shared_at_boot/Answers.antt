use Rattle.std.proofs.Common.{◌≡◌}
use Rattle.std.proofs.lemmas.Result.{IfOk-from_err, IfOk-at_ok}
use Rattle.page_state.specs.LayoutView.{layout_of}
use Rattle.reference_model.specs.model.Boot.{boot_shared}
use Rattle.ghost_spec.specs.Views.{shared_in_lists}
use Rattle.ghost_spec.proofs.Starts.{shared-booted}
use Rattle.ghost_spec.proofs.start.shared_at_boot.Goals as goal

pub returns-clause-shared : goal.returns-clause-shared
returns-clause-shared c =
    let e : shared_in_lists c.in-Some.shared ≡ boot_shared (layout_of c.args.layout.now) =
    rw (c.in-Some.is, c.depth.ensures.value) at c.in_ok-shared.ensures.shared in
    shared-booted
    (layout_of c.args.layout.now) c.requires c.in-Some.shared c.find_all.new.shared e c.find_all.ensures.host
    c.find_all.ensures.hyp c.find_all.ensures.free
    (IfOk-at_ok _ c.in-Ok.is c.find_all.ensures.rows)

pub returns-in_default-clause-shared : goal.returns-in_default-clause-shared
returns-in_default-clause-shared c = tt

pub returns-in_default-clause-kept : goal.returns-in_default-clause-kept
returns-in_default-clause-kept c = tt

pub returns-in_err-shared-clause-enough : goal.returns-in_err-shared-clause-enough
returns-in_err-shared-clause-enough c = IfOk-from_err _ _ c.from_residual.ensures.0

pub returns-in_err-shared-clause-shared : goal.returns-in_err-shared-clause-shared
returns-in_err-shared-clause-shared c = IfOk-from_err _ _ c.from_residual.ensures.0

pub returns-in_err-shared-clause-kept : goal.returns-in_err-shared-clause-kept
returns-in_err-shared-clause-kept c = IfOk-from_err _ _ c.from_residual.ensures.0

pub returns-clause-enough : goal.returns-clause-enough
returns-clause-enough c = rw (c.in-Some.is, c.depth.ensures.value) at c.in_ok-shared.ensures.enough

pub returns-clause-kept : goal.returns-clause-kept
returns-clause-kept c = c.find_all.ensures.kept
