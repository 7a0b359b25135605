-- The statements of a body after the first ones.
use Rattle.std.proofs.Common.{ℕ, zero, suc}
use mir.Syntax.{Body, seq}

abbrev rest : Body → Body
rest (seq first more) = more
rest other = other

abbrev pub after : ℕ → Body → Body
after zero b = b
after (suc n) b = after n (rest b)
