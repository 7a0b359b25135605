-- Owner rows go on along a run: a lent page grows with the frame, and all else stays.
use Rattle.std.specs.Prelude.{◌≡◌, ℕ, ◌+◌, ◌≤◌, Bool, Option, Some, None, refl}
use Rattle.std.proofs.Common.{ap, add_assoc, add-zero, arith}
use Rattle.page_state.specs.declared.row.Row.{Row}
use Rattle.page_state.specs.declared.row.Lent.{Lent}
use Rattle.page_state.specs.Rows.{advance_lent, advance_row, HasLentBelow, HasPageBelow}
use Rattle.page_state.proofs.Equality.{rows_tell}
use Rattle.page_state.specs.contracts.row.RowPartialEq.TheImpl as rows
use Rattle.run_list.specs.Advance.{AdvanceLaws}

-- equality of rows, as the code tests it
abbrev pub row_eq : Row → Row → Bool
row_eq = rows.ghosts.eq

lent_none : (l : Option Lent) → advance_lent l 0 ≡ l
lent_none None = refl
lent_none (Some l) = ap (λ n. Some (record { owner = l.owner; page = n })) (add-zero l.page)

lent_more : (l : Option Lent) (a b : ℕ) → advance_lent (advance_lent l a) b ≡ advance_lent l (a + b)
lent_more None a b = refl
lent_more (Some l) a b =
    ap (λ n. Some (record { owner = l.owner; page = n })) (add_assoc l.page a b)

lent_shorter : (l : Option Lent) (a b : ℕ) → a ≤ b → HasLentBelow l b → HasLentBelow l a
lent_shorter None a b h k = tt
lent_shorter (Some l) a b h k = omega arith

lent_rest : (l : Option Lent) (a b : ℕ) → HasLentBelow l (a + b) → HasLentBelow (advance_lent l a) b
lent_rest None a b h = tt
lent_rest (Some l) a b h = omega arith

lent_joint : (l : Option Lent) (a b : ℕ)
    → HasLentBelow l a
    → HasLentBelow (advance_lent l a) b
    → HasLentBelow l (a + b)
lent_joint None a b h k = tt
lent_joint (Some l) a b h k = omega arith

pub row_laws : AdvanceLaws advance_row HasPageBelow row_eq
row_laws = record {
  none = λ r. ap (λ l. record { owner = r.owner; lent = l; usage = r.usage }) (lent_none r.lent);
  more =
      λ r a b. ap (λ l. record { owner = r.owner; lent = l; usage = r.usage })
      (lent_more r.lent a b);
  shorter = λ r. lent_shorter r.lent;
  rest = λ r. lent_rest r.lent;
  joint = λ r. lent_joint r.lent;
  is_equal = λ r s. (rows_tell r s).0;
  is_own = λ r. (rows_tell r r).1 refl;
}
