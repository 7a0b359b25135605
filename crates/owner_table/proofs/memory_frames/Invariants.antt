use Rattle.std.proofs.Common.{◌≡◌, take}
use Rattle.page_state.specs.Regions.{memory_pages}
use Rattle.owner_table.proofs.memory_frames.Given as goal

abbrev pub invariant-loop-region : goal.invariant-loop-region
invariant-loop-region l = l.count ≡ memory_pages (take l.region-index l.regions)
