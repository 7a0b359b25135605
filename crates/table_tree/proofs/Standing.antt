use Rattle.std.proofs.Common.{◌≡◌, ℕ, zero, suc, ◌<◌, refl, ap, arith, ◌∙◌, cond, Some, None, ◌==◌, ltb}
use Rattle.std.proofs.lemmas.Bool.Decides.{nat_tests}
use Rattle.std.specs.declared.boxed.Box.{Box}
use Rattle.page_state.proofs.Cases.{by_test}
use Rattle.page_state.proofs.Common.{eq-made, eq-other}
use Rattle.table_tree.specs.declared.table.Table.{Table}
use Rattle.table_tree.specs.declared.table.Slot.{Slot}
use Rattle.table_tree.specs.declared.table.Slot.TheVariants.{Word, Child}
use Rattle.table_tree.specs.Meaning.{index_at, slot_at, frame_of}
use Rattle.table_tree.specs.Shape.{HoldsWord}
use Rattle.table_tree.specs.Tables.{table_in}
use Rattle.table_tree.specs.Slots.{slot_table}
use Rattle.table_tree.proofs.Slots.{case_word, case_child}
use Rattle.table_tree.proofs.Digits.{index_small}

module _ {A : Type 0} where
  -- where tables stand
  pub table_step : (n : ℕ) (t : Table A) (low q : ℕ)
      → table_in n t low q ≡ cond (low == n) (Some (frame_of t)) (slot_table n (slot_at t (index_at n q)) low q)
  unfolding table_in slot_table
  table_step zero t low q = refl
  table_step (suc n) t low q = refl

  pub table_top : (n low : ℕ) (t : Table A) (q : ℕ) → low ≡ n → table_in n t low q ≡ Some (frame_of t)
  table_top n low t q e =
      table_step n t low q
      ∙ ap (λ b. cond b (Some (frame_of t)) (slot_table n (slot_at t (index_at n q)) low q)) (eq-made low n e)

  pub table_below : (n low : ℕ) (t : Table A) (q : ℕ)
      → (low ≡ n → ⊥)
      → table_in n t low q ≡ slot_table n (slot_at t (index_at n q)) low q
  table_below n low t q e =
      table_step n t low q
      ∙ ap (λ b. cond b (Some (frame_of t)) (slot_table n (slot_at t (index_at n q)) low q)) (eq-other low n e)

  pub stand_word : (n w low q : ℕ) (s : Slot A) → s ≡ Word w → slot_table n s low q ≡ None
  unfolding slot_table
  stand_word zero w low q s e = refl
  stand_word (suc n) w low q s e = rw e (case_word _ _ w)

  pub stand_child : (n m low q : ℕ) (b : Box (Table A) A) (s : Slot A)
      → n ≡ suc m
      → s ≡ Child b
      → slot_table n s low q ≡ table_in m b.value low q
  unfolding slot_table
  stand_child n m low q b s k e = rw (k, e) (case_child _ _ b)

  pub words_standing : (n : ℕ) (t : Table A) (low q : ℕ)
      → ((i : ℕ) → i < 512 → HoldsWord (slot_at t i))
      → table_in n t low q ≡ cond (low == n) (Some (frame_of t)) None
  words_standing n t low q h = let x = h (index_at n q) (index_small n q) in
      table_step n t low q
      ∙ ap (λ o. cond (low == n) (Some (frame_of t)) o) (stand_word n x.0 low q (slot_at t (index_at n q)) x.1)

pub by_lt : {P : Type 0} (a b : ℕ) → (a < b → P) → ((a < b → ⊥) → P) → P
by_lt a b f g = by_test (ltb a b) (λ e. f (grind (arith, nat_tests))) (λ e. g (λ h. grind (arith, nat_tests)))
