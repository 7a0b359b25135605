-- What runs that end before a page leave of a map.
use Rattle.std.proofs.Common.{◌≡◌, ℕ, zero, suc, ◌≤◌, List, [], ◌∷◌, drop, take, refl, sym, ◌∙◌, arith}
use Rattle.page_state.specs.declared.entry.Run.{Run}
use Rattle.page_state.specs.Runs.{map_of, IsCoarsest}
use Rattle.page_state.proofs.Runs.{map_of-behind}
use Rattle.ghost_trees.specs.Parts.{EndBefore}

pub left-behind : (page i : ℕ) (rs : List Run) (p : ℕ)
    → EndBefore page (take i rs)
    → page ≤ p
    → map_of (drop i rs) p ≡ map_of rs p
left-behind page zero rs p e h = refl
left-behind page (suc i) [] p e h = refl
left-behind page (suc i) (r ∷ rs) p e h =
    left-behind page i rs p e.1 h ∙ sym (map_of-behind r rs p (omega (arith, e.0, h)))

pub coarsest-left : (i : ℕ) (rs : List Run) → IsCoarsest rs → IsCoarsest (drop i rs)
coarsest-left zero rs c = c
coarsest-left (suc i) [] c = c
coarsest-left (suc i) (r ∷ rs) c = coarsest-left i rs c.2
