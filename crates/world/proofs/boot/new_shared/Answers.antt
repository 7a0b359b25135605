use Rattle.std.proofs.Common.{◌≡◌, Bool, true, false, Option, Some, None, ap, sym, ◌∙◌}
use Rattle.std.specs.Prelude.{is_some, unwrap_or, if◌then◌else◌}
use mathlib.Core.Path.{fun_ext}
use Rattle.page_state.specs.Geometries.{levels_below}
use Rattle.page_state.specs.Regions.{has_memory}
use Rattle.page_state.specs.declared.row.Row.{Row}
use Rattle.owner_table.specs.Rows.{row_at}
use Rattle.reference_model.specs.model.State.{plain_row}
use Rattle.world.proofs.Merging.{if_not_ok}
use Rattle.world.proofs.boot.new_shared.Goals as goal

-- a row there or none, by a test
there : (o : Option Row) (b : Bool) (r : Row) → o ≡ (if b then Some r else None) → is_some o ≡ b
there o true r e = ap is_some e
there o false r e = ap is_some e

plain : (o : Option Row) (b : Bool) (r : Row) → o ≡ (if b then Some r else None) → unwrap_or o r ≡ r
plain o true r e = ap (λ (x : Option Row). unwrap_or x r) e
plain o false r e = ap (λ (x : Option Row). unwrap_or x r) e

pub roots-requires : goal.roots-requires
roots-requires g c = c.requires

pub returns-in_err-host-clause-shared : goal.returns-in_err-host-clause-shared
returns-in_err-host-clause-shared g c = if_not_ok _ _ c.from_residual.result c.from_residual.ensures.1

pub returns-in_err-host-clause-depth : goal.returns-in_err-host-clause-depth
returns-in_err-host-clause-depth g c = if_not_ok _ _ c.from_residual.result c.from_residual.ensures.1

pub returns-in_err-host-clause-rows : goal.returns-in_err-host-clause-rows
returns-in_err-host-clause-rows g c = if_not_ok _ _ c.from_residual.result c.from_residual.ensures.1

pub returns-in_err-host-clause-log : goal.returns-in_err-host-clause-log
returns-in_err-host-clause-log g c = if_not_ok _ _ c.from_residual.result c.from_residual.ensures.1

pub invariant_of-result : goal.invariant_of-result
invariant_of-result g c = record {
  apart = c.in_ok-host.ensures.apart;
  alike = ap levels_below (c.in_ok-host.ensures.hyp_geometry ∙ sym c.in_ok-host.ensures.host_geometry);
}

pub returns-clause-shared : goal.returns-clause-shared
returns-clause-shared g c = λ i. record {
  host = c.in_ok-host.ensures.host i;
  hyp = c.in_ok-host.ensures.hyp i;
  free = c.in_ok-host.ensures.pool i;
  row =
      fun_ext (λ f. plain (row_at c.in-Ok.rows f) (has_memory c.args.map.now f) plain_row (c.in-Ok.ensures.frames f)) i;
}

pub returns-clause-depth : goal.returns-clause-depth
returns-clause-depth g c = ap levels_below c.in_ok-host.ensures.host_geometry

pub returns-clause-rows : goal.returns-clause-rows
returns-clause-rows g c f =
    there (row_at c.in-Ok.rows f) (has_memory c.args.map.now f) plain_row (c.in-Ok.ensures.frames f)

pub returns-clause-log : goal.returns-clause-log
returns-clause-log g c = c.in-Ok-new.ensures
