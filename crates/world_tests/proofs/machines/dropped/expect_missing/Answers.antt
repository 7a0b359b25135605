use Rattle.std.proofs.Common.{◌≡◌, ℕ, ◌∷◌, [], ap, sym, subst, ◌∙◌, slice_get, ⊎_elim}
use Rattle.std.specs.Prelude.{List, Some}
use Rattle.part_table.specs.Passes.{IsPassOf, Opened, Pass}
use Rattle.cpu_threads.specs.Ends.{AreOf}
use Rattle.cpu_threads.proofs.Ends.{get_end}
use Rattle.world_tests.proofs.machines.dropped.expect_missing.Goals as goal

-- one pass of a table is all of a list of it
all_of : (t : Opened) (p : Pass) (ps : List Pass) → ps ≡ p ∷ [] → IsPassOf t p → AreOf t ps
all_of t p ps is of j q e = ⊎_elim
    (λ was. absurd cc)
    (λ (n : (j ≡ 0) × (p ≡ q)). subst (IsPassOf t) n.1 of)
    (get_end [] p q j (ap (λ l. slice_get l j) (sym is) ∙ e))

pub shutdown-ended-requires : goal.shutdown-ended-requires
shutdown-ended-requires g c =
    record {
      pass = all_of c.args.machine.table c.args.one c.list_of-given.result.items c.list_of-given.ensures
          c.requires;
    }
