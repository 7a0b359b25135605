use Rattle.std.proofs.Common.{◌∙◌, ap, None}
use Rattle.owner_table.specs.Filling.{filled_all}
use Rattle.owner_table.proofs.Memory.{filled-memory}
use Rattle.owner_table.proofs.OwnerTable.of.Goals as goal

pub returns-clause-frames : goal.returns-clause-frames
returns-clause-frames c f =
    let all = ap (λ m. m f) c.in_ok-rows.ensures.map in
    let here = ap (λ rs. filled_all rs (λ _. None) f) c.regions.ensures.value in
    all ∙ here ∙ filled-memory c.args.map.now c.regions.ensures.accepted f
