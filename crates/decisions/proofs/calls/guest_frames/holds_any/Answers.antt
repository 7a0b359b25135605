use Rattle.std.proofs.Common.{arith, ◌≡◌, ◌==◌, ◌∙◌, ℕ, zero, suc, refl, sym}
use Rattle.std.specs.Prelude.{nat_lt, not}
use Rattle.decisions.proofs.calls.guest_frames.holds_any.Goals as goal

-- more than none
some_free : (n : ℕ) → nat_lt 0 n ≡ not (n == 0)
some_free zero = refl
some_free (suc n) = grind (arith)

pub returns-then-not-is_unmapped : goal.returns-then-not-is_unmapped
returns-then-not-is_unmapped g c = rw (sym c.is_unmapped.ensures, c.if-not-is_unmapped.true) refl

pub returns-else-not-is_unmapped : goal.returns-else-not-is_unmapped
returns-else-not-is_unmapped g c =
    rw (sym c.is_unmapped.ensures ∙ c.if-not-is_unmapped.false, sym c.free.ensures) (some_free c.free.result)
