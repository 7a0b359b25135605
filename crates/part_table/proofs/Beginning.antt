-- What a table begins with, and a history that goes on from it.
use Rattle.std.proofs.Common.{◌≡◌, ℕ, zero, suc, List, [], ◌∷◌, ◌++◌, append_assoc, map, refl, ap, ◌∙◌}
use Rattle.std.specs.Prelude.{Option, Some, None, slice_get, slice_index_or}
use Rattle.call_table.specs.declared.reply.Call.{Call}
use Rattle.part_table.specs.declared.rule.Begun.{Begun}
use Rattle.part_table.specs.declared.slot.Slot.{Slot}
use Rattle.part_table.specs.Parts.{log_of}
use Rattle.part_table.specs.Beginnings.{GoesOn, logs_in}

-- one call more
pub goes_longer : (b : Begun) (log : List Call) (c : Call) → GoesOn b log → GoesOn b (log ++ c ∷ [])
goes_longer b log c g = record {
  first = g.first;
  after = g.after ++ c ∷ [];
  log_is = ap (λ l. l ++ c ∷ []) g.log_is ∙ append_assoc g.first g.after (c ∷ []);
  on = g.on;
  by = g.by;
}

module _ {A : Type 0} where
  some_part : (x y : Slot A)
      → ◌≡◌ {A = Option (Slot A)} (Some x) (Some y)
      → ◌≡◌ {A = Option (Option (Slot A))} (Some (Some x)) (Some (Some y))
  some_part x y e = ap (λ o. Some o) e

  -- parts in their slots
  pub get_mapped : (xs : List (Slot A)) (k : ℕ) (x : Slot A)
      → slice_get xs k ≡ Some x
      → slice_get (map (λ (y : Slot A). Some y) xs) k ≡ Some (Some x)
  get_mapped [] k x e = absurd cc
  get_mapped (y ∷ xs) zero x e = some_part y x e
  get_mapped (y ∷ xs) (suc k) x e = get_mapped xs k x e

  abbrev log_from : Slot A → Option (Slot A) → Slot A
  log_from d o = elim o [ Some x ↦ x | None ↦ d ]

  pub logs_at : (xs : List (Slot A)) (k : ℕ) (x : Slot A)
      → slice_get xs k ≡ Some x
      → slice_index_or (logs_in (map (λ (y : Slot A). Some y) xs)) k [] ≡ (log_of x).calls
  logs_at [] k x e = absurd cc
  logs_at (y ∷ xs) zero x e = ap (λ (o : Option (Slot A)). (log_of (log_from y o)).calls) e
  logs_at (y ∷ xs) (suc k) x e = logs_at xs k x e

-- the logs of parts that lie in their slots
pub logs_laid : {A : Type 0} (xs : List (Slot A))
    → logs_in (map (λ (y : Slot A). Some y) xs) ≡ map (λ (y : Slot A). (log_of y).calls) xs
logs_laid [] = refl
logs_laid (x ∷ xs) = ap (λ l. (log_of x).calls ∷ l) (logs_laid xs)
