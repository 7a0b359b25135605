use Rattle.std.proofs.Common.{◌≡◌, ◌+◌, ◌^◌, ◌≤◌, ◌∙◌, ℕ, [], drop, get_or, ap, arith}
use Rattle.std.proofs.lemmas.List.{get_or_default}
use Rattle.page_state.specs.declared.layout.Region.{Region}
use Rattle.page_state.specs.declared.layout.RegionKind.TheVariants.{Memory}
use Rattle.page_state.specs.Regions.{end_of}
use Rattle.owner_table.specs.Filling.{filled_all}
use Rattle.owner_table.specs.Room.{frame_limit}
use Rattle.owner_table.specs.Rows.{row_at}
use Rattle.owner_table.proofs.Filled.{few_filling, filling-first, filling-next, filled-next}
use Rattle.owner_table.proofs.rows_of.Goals as goal

pub loop-region-init : goal.loop-region-init
loop-region-init c =
    let empty : c.reserve.new.self.runs ≡ [] = c.in_ok-reserve.ensures.runs ∙ c.new-rows.ensures in
    record {
      filling =
          filling-first c.reserve.new.self.runs c.reserve.new.self.room frame_limit c.args.regions.now empty
          (omega (arith, c.in_ok-reserve.ensures.ok, c.memory_frames.ensures));
      map = ap (λ rs. filled_all c.args.regions.now (row_at rs)) empty;
    }

pub fill-requires-clause-room : goal.fill-requires-clause-room
fill-requires-clause-room c =
    few_filling c.loop-region.rows.runs c.loop-region.rows.room frame_limit
    (drop c.loop-region.region-index c.args.regions.now) c.loop-region.invariant.filling

abbrev none : Region
none = record { kind = Memory; pages = record { first = record { 0 = 0 }; count = 0 } }

below : (n : ℕ) → n ≤ 2 ^ 26 → n ≤ frame_limit
unfolding frame_limit
below n h = h

pub loop-region-preserved : goal.loop-region-preserved
loop-region-preserved c =
    let i : ℕ = c.loop-region.region-index in
    let x : Region = get_or c.args.regions.now i none in
    let read : x ≡ get_or c.args.regions.now i x = get_or_default c.args.regions.now i none x c.loop-region-test.true in
    let ends : end_of x.pages ≤ frame_limit =
    below (end_of x.pages) (c.requires.limit i none c.loop-region-test.true) in
    record {
      filling =
          filling-next c.loop-region.rows.runs c.fill.new.rows.runs c.loop-region.rows.room c.fill.new.rows.room
          frame_limit i c.args.regions.now x c.loop-region-test.true read ends c.loop-region.invariant.filling
          c.fill.ensures.map c.fill.ensures.coarsest c.fill.ensures.room;
      map =
          ap (filled_all (drop (i + 1) c.args.regions.now)) c.fill.ensures.map
          ∙ filled-next (row_at c.loop-region.rows.runs) i c.args.regions.now x c.loop-region-test.true read
          ∙ c.loop-region.invariant.map;
    }
