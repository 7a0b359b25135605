-- Lines by their bytes: those before a place, and one of them.
use Rattle.std.proofs.Common.{◌≡◌, ℕ, zero, suc, refl, ap, List, [], ◌∷◌, map, take, Bor}

pub lines_before : (lines : List (Bor (List ℕ))) (place : ℕ)
    → map (λ line. line.now) (take place lines) ≡ take place (map (λ line. line.now) lines)
lines_before lines zero = refl
lines_before [] (suc place) = refl
lines_before (line ∷ lines) (suc place) = ap (λ rest. line.now ∷ rest) (lines_before lines place)
