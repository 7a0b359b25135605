-- An element of a list that is read, as what it stands for.
use Rattle.std.proofs.Common.{◌≡◌, ℕ, ◌<◌, List, get_or, map, length, sym, ap, ◌∙◌}
use Rattle.std.proofs.lemmas.List.{get_or-map}

pub read_view : {X Y : Type 0} (f : X → Y) (xs : List X) (v : ℕ) (x : X) (e : Y)
    → x ≡ get_or xs v x
    → v < length xs
    → f x ≡ get_or (map f xs) v e
read_view f xs v x e is l = ap f is ∙ sym (get_or-map f xs v x e l)
