use Rattle.std.proofs.Common.{◌∙◌, ap, ap₂, [], ◌∷◌}
use Rattle.std.proofs.lemmas.Result.{IfOk-weaker}
use Rattle.page_state.specs.declared.layout.MemoryMap.{MemoryMap}
use Rattle.page_state.specs.declared.layout.Region.{Region}
use Rattle.world_tests.proofs.sample.memory.Goals as goal

pub returns-clause-regions : goal.returns-clause-regions
returns-clause-regions c =
    IfOk-weaker c.new.result _ _
    (λ m e. ap (λ (x : MemoryMap). x.regions) e ∙ c.as_slice.ensures
    ∙ ap₂ (λ (a b : Region). a ∷ b ∷ []) c.region.ensures c.region-2.ensures) c.new.ensures.ok

pub returns-clause-carve : goal.returns-clause-carve
returns-clause-carve c = IfOk-weaker c.new.result _ _ (λ m e. ap (λ (x : MemoryMap). x.carve) e) c.new.ensures.ok
