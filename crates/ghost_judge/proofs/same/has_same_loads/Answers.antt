use Rattle.std.proofs.Common.{ap}
use mathlib.Core.Path.{fun_ext}
use Rattle.ghost_judge.proofs.same.has_same_loads.Goals as goal

pub returns : goal.returns
returns c = let told = rw (c.as_slice.ensures.value, c.as_slice-2.ensures.value) at c.is_same_load.ensures in
    (λ t. fun_ext (told.0 t), λ e. told.1 (λ i. ap (λ f. f i) e))
