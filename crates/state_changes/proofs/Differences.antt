-- What changed of entries and of owner rows, by what changed between lists of runs.
use Rattle.std.proofs.Common.{◌≡◌, ℕ, ◌+◌, true, false, List, Option, Some, None, refl, sym, ap, subst, ◌∙◌, arith}
use Rattle.std.specs.Prelude.{is_some, unwrap_or}
use Rattle.page_state.specs.declared.entry.Entry.{Entry}
use Rattle.page_state.specs.declared.entry.Run.{Run as PageRun}
use Rattle.page_state.specs.declared.entry.Target.{Target}
use Rattle.page_state.specs.declared.entry.Target.TheVariants.{Malformed, Annotated, Leaf}
use Rattle.page_state.specs.declared.row.Lent.{Lent}
use Rattle.page_state.specs.declared.row.Row.{Row}
use Rattle.page_state.specs.Entries.{advance_target, entry_of}
use Rattle.page_state.specs.Rows.{advance_lent, advance_row, plain_row}
use Rattle.page_state.specs.Runs.{map_of}
use Rattle.page_state.proofs.Entries.{target-same}
use Rattle.run_list.specs.declared.run.Run.{Run}
use Rattle.run_list.specs.Runs.{run_map}
use Rattle.run_changes.specs.declared.change.Change.{Change}
use Rattle.run_changes.specs.Changes.{AdvancesApart, IsDifference}
use Rattle.state_changes.specs.Changed.{IsChange, IsEntry, IsRow}
use Rattle.state_changes.specs.Lists.{list_runs}
use Rattle.state_changes.proofs.Lists.{map_listed}

none_apart : (t : Target) → entry_of None ≡ entry_of (Some t) → ⊥
none_apart Malformed e = cc
none_apart (Annotated owner) e = cc
none_apart (Leaf frame prot kind state) e = cc

pub options_same : (x y : Option Target) → entry_of x ≡ entry_of y → x ≡ y
options_same None None e = refl
options_same None (Some t) e = absurd (none_apart t e)
options_same (Some t) None e = absurd (none_apart t (sym e))
options_same (Some s) (Some t) e = ap Some (target-same s t e)

of_entries : (x y : Option Target) (d : Option (Change Target))
    → IsDifference x y d
    → IsChange IsEntry (entry_of x) (entry_of y) d
of_entries x y None h = ap entry_of h
of_entries x y (Some c) h = (ap entry_of h.0, ap entry_of h.1, λ e. h.2 (options_same x y e))

pub entry_changes : (b a : List PageRun) (old new : List (Run Target)) (d : Option (Change Target)) (p : ℕ)
    → old ≡ list_runs b
    → new ≡ list_runs a
    → IsDifference (run_map advance_target old p) (run_map advance_target new p) d
    → IsChange IsEntry (map_of b p) (map_of a p) d
entry_changes b a old new d p e f h =
    let was : entry_of (run_map advance_target old p) ≡ map_of b p =
    ap (λ (rs : List (Run Target)). entry_of (run_map advance_target rs p)) e ∙ map_listed b p in
    let is : entry_of (run_map advance_target new p) ≡ map_of a p =
    ap (λ (rs : List (Run Target)). entry_of (run_map advance_target rs p)) f ∙ map_listed a p in
    subst (λ (x : Entry). IsChange IsEntry x (map_of a p) d) was
    (subst (λ (y : Entry). IsChange IsEntry (entry_of (run_map advance_target old p)) y d) is
    (of_entries (run_map advance_target old p) (run_map advance_target new p) d h))

pub row_changes : (x y : Option Row) (d : Option (Change Row))
    → is_some x ≡ is_some y
    → IsDifference x y d
    → IsChange IsRow (unwrap_or x plain_row) (unwrap_or y plain_row) d
row_changes x y None s h = ap (λ (o : Option Row). unwrap_or o plain_row) h
row_changes None None (Some c) s h = absurd (h.2 refl)
row_changes None (Some r) (Some c) s h = absurd (let f : false ≡ true = s in cc)
row_changes (Some r) None (Some c) s h = absurd (let f : true ≡ false = s in cc)
row_changes (Some q) (Some r) (Some c) s h = (h.0, h.1, λ e. h.2 (ap Some e))

same_lent : (x y : Lent) → x.owner ≡ y.owner → x.page ≡ y.page → x ≡ y
same_lent x y e f = λ i. record { owner = e i; page = f i }

some_lent : (x y : Lent) → ◌≡◌ {A = Option Lent} (Some x) (Some y) → x ≡ y
some_lent x y e = cc

lents_apart : (a b : Option Lent) (n : ℕ) → advance_lent a n ≡ advance_lent b n → a ≡ b
lents_apart None None n e = refl
lents_apart None (Some y) n e = absurd (let f : ◌≡◌ {A = Option Lent} None (advance_lent (Some y) n) = e in cc)
lents_apart (Some x) None n e = absurd (let f : ◌≡◌ {A = Option Lent} (advance_lent (Some x) n) None = e in cc)
lents_apart (Some x) (Some y) n e =
    let f =
    some_lent (record { owner = x.owner; page = x.page + n }) (record { owner = y.owner; page = y.page + n }) e in
    let g : x.page + n ≡ y.page + n = ap (λ (l : Lent). l.page) f in
    ap Some (same_lent x y (ap (λ (l : Lent). l.owner) f) (omega (arith, g)))

pub rows_apart : AdvancesApart advance_row
rows_apart v w n e =
    λ i. record {
      owner = ap (λ (r : Row). r.owner) e i;
      lent = lents_apart v.lent w.lent n (ap (λ (r : Row). r.lent) e) i;
      usage = ap (λ (r : Row). r.usage) e i;
    }
