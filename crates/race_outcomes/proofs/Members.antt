-- Members of mapped lists.
use Rattle.std.proofs.Common.{◌≡◌, ℕ, zero, suc, ◌<◌, refl, ap, arith, List, [], ◌∷◌, length, map, get_or}
use Rattle.std.specs.Prelude.{Contains}

from_at : {X Y : Type 0} (f : X → Y) (xs : List X) (y : Y) (k : ℕ)
    → k < length (map f xs)
    → get_or (map f xs) k y ≡ y
    → (x : X) × Contains xs x × (f x ≡ y)
from_at f [] y k less e = absurd (omega arith)
from_at f (x ∷ xs) y zero less e = (x, (0, omega arith, refl), e)
from_at f (x ∷ xs) y (suc k) less e =
    let rest = from_at f xs y k (omega arith) e in
    (rest.0, (suc rest.1.0, (let n = rest.1.1 in omega arith), rest.1.2), rest.2)

pub from_map : {X Y : Type 0} (f : X → Y) (xs : List X) (y : Y)
    → Contains (map f xs) y
    → (x : X) × Contains xs x × (f x ≡ y)
from_map f xs y h = from_at f xs y h.0 h.1 h.2

to_at : {X Y : Type 0} (f : X → Y) (xs : List X) (x : X) (k : ℕ)
    → k < length xs
    → get_or xs k x ≡ x
    → Contains (map f xs) (f x)
to_at f [] x k less e = absurd (omega arith)
to_at f (y ∷ xs) x zero less e = (0, omega arith, ap f e)
to_at f (y ∷ xs) x (suc k) less e = let rest = to_at f xs x k (omega arith) e in
    (suc rest.0, (let n = rest.1 in omega arith), rest.2)

pub to_map : {X Y : Type 0} (f : X → Y) (xs : List X) (x : X) → Contains xs x → Contains (map f xs) (f x)
to_map f xs x h = to_at f xs x h.0 h.1 h.2
