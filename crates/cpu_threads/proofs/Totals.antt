-- Totals over lists of passes.
use Rattle.std.proofs.Common.{◌≡◌, ℕ, zero, suc, ◌+◌, List, [], ◌∷◌, ◌++◌, Bool, ap, arith}
use Rattle.std.specs.Prelude.{Option, Some, None, slice_get, slice_set}
use Rattle.call_table.specs.declared.reply.Call.{Call}
use Rattle.part_table.specs.Passes.{Pass}
use Rattle.part_table.proofs.Lists.{from}
use Rattle.cpu_threads.specs.Rooms.{of_pass, total, total_given}

module _ (f : Call → Bool) where
  pub total_end : (ps : List (Option Pass)) (o : Option Pass) → total f (ps ++ o ∷ []) ≡ total f ps + of_pass f o
  total_end [] o = omega arith
  total_end (p ∷ ps) o = let h = total_end ps o in omega (arith, h)

  pub given_end : (ps : List Pass) (p : Pass) → total_given f (ps ++ p ∷ []) ≡ total_given f ps + of_pass f (Some p)
  given_end [] p = omega arith
  given_end (q ∷ ps) p = let h = given_end ps p in omega (arith, h)

  -- a pass comes to a place that is free
  pub total_set : (ps : List (Option Pass)) (n : ℕ) (p : Pass)
      → slice_get ps n ≡ Some None
      → total f (slice_set ps n (Some p)) ≡ total f ps + of_pass f (Some p)
  total_set [] n p e = absurd cc
  total_set (o ∷ os) zero p e = let z : of_pass f o ≡ 0 = ap (of_pass f) (ap (from o) e) in omega (arith, z)
  total_set (o ∷ os) (suc n) p e = let h = total_set os n p e in omega (arith, h)
