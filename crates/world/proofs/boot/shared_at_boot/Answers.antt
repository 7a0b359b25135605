use Rattle.std.proofs.Common.{◌≡◌, ◌≤◌, ◌^◌, ◌↔◌, Bool, true, false, Err, Ok, Some, refl, ap, sym, subst, ◌∙◌, arith}
use Rattle.std.specs.Prelude.{Result, IsErrAnd, OnErr, is_some}
use Rattle.page_state.specs.declared.entry.PageRange.{PageRange}
use Rattle.page_state.specs.Geometries.{levels_below}
use Rattle.page_state.specs.Regions.{end_of}
use Rattle.page_state.specs.Rows.{HasPageBelow}
use Rattle.page_state.specs.declared.row.Row.{Row}
use Rattle.owner_table.specs.Rows.{row_at}
use Rattle.reference_model.specs.help.ChangeLaws.{Fits}
use Rattle.part_types.specs.Logs.{IsNewLog}
use Rattle.world.specs.declared.boot.BootFault.{BootFault}
use Rattle.world.specs.declared.boot.BootFault.TheVariants.{NoMemory}
use Rattle.reference_model.specs.declared.changes.Changes.{Changes}
use Rattle.reference_model.specs.model.Boot.{boot_shared, pool_row}
use Rattle.reference_model.specs.model.Changes.{no_changes}
use Rattle.reference_model.specs.model.Step.{shared_after}
use Rattle.part_types.specs.View.{shared_of, depth_of, rows_given}
use Rattle.hypercalls.specs.Booted.{layout_for}
use Rattle.world.proofs.Boots.{enough_at, after_is, rows_are, told, known_rows, host_edit_is, hyp_edit_is}
use Rattle.world.proofs.Merging.{if_not_ok}
use Rattle.world.proofs.boot.shared_at_boot.Goals as goal

pub returns-in_err-change-clause-err : goal.returns-in_err-change-clause-err
returns-in_err-change-clause-err g c =
    let m = c.args.map.now in
    let g0 = c.args.geometry in
    let s = c.in_ok-shared.shared in
    let h : Changes = record no_changes { host = Some c.host_change.result; hyp = Some c.hyp_change.result } in
    let host_is =
    host_edit_is m c.args.config g0 c.carve-carve.result c.host_change.result c.carve-carve.ensures.value
    c.host_change.ensures.value in
    let hyp_is =
    hyp_edit_is m c.args.config g0 c.carve-carve.result c.hyp_change.result c.carve-carve.ensures.value
    c.hyp_change.ensures.value in
    let room =
    enough_at c.blocks_on_range.ensures.meet m c.args.config g0 h host_is hyp_is (depth_of s)
    (shared_of s) c.in_ok-shared.ensures.depth c.in_ok-shared.ensures.shared c.requires.enough in
    told c.from_residual-in_err-change.result c.in_err-change.field-0.0
    (λ e. let less = c.change.ensures.no_pool.0 (c.in_err-change.was ∙ ap Err e) in
    absurd (omega (arith, less, room))) c.from_residual-in_err-change.ensures.1

pub give_rows-requires-clause-known : goal.give_rows-requires-clause-known
give_rows-requires-clause-known g c =
    known_rows c.args.map.now c.args.config c.args.geometry c.carve-carve.result c.change.new.self.owners
    c.carve-carve.ensures.value c.requires.usable
    (λ f. rw c.change.ensures.rest.rows (c.in_ok-shared.ensures.rows f))

pub returns-clause-shared : goal.returns-clause-shared
returns-clause-shared g c =
    let m = c.args.map.now in
    let g0 = c.args.geometry in
    let s = c.in_ok-shared.shared in
    let h : Changes = record no_changes { host = Some c.host_change.result; hyp = Some c.hyp_change.result } in
    let host_is =
    host_edit_is m c.args.config g0 c.carve-carve.result c.host_change.result c.carve-carve.ensures.value
    c.host_change.ensures.value in
    let hyp_is =
    hyp_edit_is m c.args.config g0 c.carve-carve.result c.hyp_change.result c.carve-carve.ensures.value
    c.hyp_change.ensures.value in
    let l = layout_for m c.args.config g0 in
    let some = ap (λ (r : PageRange). r.count) c.carve-carve.ensures.value in
    let after : shared_of c.change.new.self ≡ boot_shared l =
    c.in_ok-change.ensures.made.made ∙ ap (λ d. shared_after d h (shared_of s)) c.in_ok-shared.ensures.depth
    ∙ ap (shared_after (levels_below g0) h) c.in_ok-shared.ensures.shared
    ∙ after_is c.blocks_on_range.ensures.meet m c.args.config g0 h host_is hyp_is
    (omega (arith, some, c.carve-carve.ensures.some)) in
    c.give_rows.ensures.made
    ∙ ap
    (λ (r : PageRange). rows_given r c.pool_row.result
    (shared_of c.change.new.self)) c.carve-carve.ensures.value
    ∙ ap (λ r. rows_given m.carve r (shared_of c.change.new.self)) c.pool_row.ensures
    ∙ ap (rows_given m.carve pool_row) after
    ∙ rows_are c.boot_legal.ensures.rows l c.requires.enough c.requires.usable

-- a refused growth
wanting : {T : Type 0} (r : Result T BootFault) → IsErrAnd r (λ b. b ≡ NoMemory) → OnErr r (r ≡ Err NoMemory)
wanting (Ok x) e = _
wanting (Err b) e = ap Err e

both_same : (a b : Bool) → (a ≡ true ↔ b ≡ true) → a ≡ b
both_same true b h = sym (h.0 refl)
both_same false true h = h.1 refl
both_same false false h = refl

pub host_change-requires-clause-low : goal.host_change-requires-clause-low
host_change-requires-clause-low g c =
    subst (λ (r : PageRange). end_of r ≤ 2 ^ 26) (sym c.carve-carve.ensures.value) c.carve-carve.ensures.low

pub host_change-requires-clause-some : goal.host_change-requires-clause-some
host_change-requires-clause-some g c =
    subst (λ (r : PageRange). 1 ≤ r.count) (sym c.carve-carve.ensures.value) c.carve-carve.ensures.some

pub hyp_change-requires-clause-low : goal.hyp_change-requires-clause-low
hyp_change-requires-clause-low g c =
    subst (λ (r : PageRange). end_of r ≤ 2 ^ 26) (sym c.carve-carve.ensures.value) c.carve-carve.ensures.low

pub hyp_change-requires-clause-some : goal.hyp_change-requires-clause-some
hyp_change-requires-clause-some g c =
    subst (λ (r : PageRange). 1 ≤ r.count) (sym c.carve-carve.ensures.value) c.carve-carve.ensures.some

pub new_shared-requires : goal.new_shared-requires
new_shared-requires g c = omega (arith, c.requires.enough)

pub returns-in_err-shared-clause-shared : goal.returns-in_err-shared-clause-shared
returns-in_err-shared-clause-shared g c = if_not_ok _ _ c.from_residual.result c.from_residual.ensures.1

pub returns-in_err-shared-clause-depth : goal.returns-in_err-shared-clause-depth
returns-in_err-shared-clause-depth g c = if_not_ok _ _ c.from_residual.result c.from_residual.ensures.1

pub returns-in_err-shared-clause-rows : goal.returns-in_err-shared-clause-rows
returns-in_err-shared-clause-rows g c = if_not_ok _ _ c.from_residual.result c.from_residual.ensures.1

pub returns-in_err-shared-clause-log : goal.returns-in_err-shared-clause-log
returns-in_err-shared-clause-log g c = if_not_ok _ _ c.from_residual.result c.from_residual.ensures.1

pub returns-in_err-shared-clause-err : goal.returns-in_err-shared-clause-err
returns-in_err-shared-clause-err g c = wanting c.from_residual.result c.from_residual.ensures.1

pub change-requires-clause-host_change : goal.change-requires-clause-host_change
change-requires-clause-host_change g c =
    subst (λ d. Fits d c.host_change.result) (sym c.in_ok-shared.ensures.depth)
    (c.host_change.ensures.fits c.args.geometry)

pub change-requires-clause-hyp_change : goal.change-requires-clause-hyp_change
change-requires-clause-hyp_change g c =
    subst (λ d. Fits d c.hyp_change.result) (sym c.in_ok-shared.ensures.depth)
    (c.hyp_change.ensures.fits c.args.geometry)

pub returns-in_err-change-clause-shared : goal.returns-in_err-change-clause-shared
returns-in_err-change-clause-shared g c =
    if_not_ok _ _ c.from_residual-in_err-change.result c.from_residual-in_err-change.ensures.1

pub returns-in_err-change-clause-depth : goal.returns-in_err-change-clause-depth
returns-in_err-change-clause-depth g c =
    if_not_ok _ _ c.from_residual-in_err-change.result c.from_residual-in_err-change.ensures.1

pub returns-in_err-change-clause-rows : goal.returns-in_err-change-clause-rows
returns-in_err-change-clause-rows g c =
    if_not_ok _ _ c.from_residual-in_err-change.result c.from_residual-in_err-change.ensures.1

pub returns-in_err-change-clause-log : goal.returns-in_err-change-clause-log
returns-in_err-change-clause-log g c =
    if_not_ok _ _ c.from_residual-in_err-change.result c.from_residual-in_err-change.ensures.1

pub give_rows-requires-clause-frames : goal.give_rows-requires-clause-frames
give_rows-requires-clause-frames g c = let low : end_of c.carve-carve.result ≤ 2 ^ 26 =
    subst (λ (r : PageRange). end_of r ≤ 2 ^ 26) (sym c.carve-carve.ensures.value) c.carve-carve.ensures.low in
    omega (arith, low)

pub give_rows-requires-clause-row : goal.give_rows-requires-clause-row
give_rows-requires-clause-row g c =
    subst (λ (r : Row). HasPageBelow r c.carve-carve.result.count) (sym c.pool_row.ensures) tt

pub returns-clause-depth : goal.returns-clause-depth
returns-clause-depth g c = c.give_rows.ensures.depth ∙ c.change.ensures.rest.depth ∙ c.in_ok-shared.ensures.depth

pub returns-clause-rows : goal.returns-clause-rows
returns-clause-rows g c f =
    both_same (is_some (row_at c.give_rows.new.self.owners f)) (is_some (row_at c.change.new.self.owners f))
    (c.give_rows.ensures.known f)
    ∙ ap (λ rows. is_some (row_at rows f)) c.change.ensures.rest.rows ∙ c.in_ok-shared.ensures.rows f

pub returns-clause-log : goal.returns-clause-log
returns-clause-log g c =
    subst (IsNewLog c.args.config.log)
    (sym (c.give_rows.ensures.log ∙ c.change.ensures.rest.log)) c.in_ok-shared.ensures.log

pub returns-clause-err : goal.returns-clause-err
returns-clause-err g c = tt
