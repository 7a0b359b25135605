-- What no change does to a tree.
use Rattle.std.proofs.Common.{◌≡◌, ℕ, List, [], refl}
use Rattle.page_state.specs.Trees.{Tree}
use Rattle.page_state.specs.Tables.{keep, need, needs, edited, freed, returned}

-- no change needs no table
pub need_keep : (top : ℕ) (t : Tree) → need top t keep ≡ 0
unfolding needs
need_keep top t = refl

-- no change leaves a tree
pub edited_keep : (top : ℕ) (t : Tree) (fs : List ℕ) → edited top t keep fs ≡ t
unfolding edited freed needs
edited_keep top t fs = refl

-- and gives back no frame
pub returned_keep : (top : ℕ) (t : Tree) → returned top t keep ≡ []
unfolding returned freed
returned_keep top t = refl
