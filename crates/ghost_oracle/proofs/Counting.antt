-- Counts of reads, added up.
use Rattle.std.proofs.Common.{◌≡◌, ℕ, ◌+◌, ◌*◌, ◌<◌, ◌≤◌, List, take, get_or, length, refl, sym, ap, ◌∙◌, arith}
use Rattle.std.specs.Prelude.{Result, Ok, Err, OnOk, sum_by}
use Rattle.std.proofs.lemmas.List.{take_more}
use Rattle.std.proofs.lemmas.List.Sums.{sum_by_push}
use Rattle.page_state.proofs.Cases.{by_lt}
use Rattle.page_state.specs.Geometries.{levels_below}
use Rattle.table_tree.specs.declared.tree.Tree.{Tree}
use Rattle.table_tree.specs.Tables.{tables_in}
use Rattle.table_tree.specs.View.{tables_of}
use Rattle.part_types.specs.declared.parts.SharedPart.{SharedPart}
use Rattle.ghost_oracle.specs.Counted.{HasRead, shared_tables}
use Rattle.ghost_oracle.specs.inner.Eights.{HasLooked}

pub tables_under : {A : Type 0} (t : Tree A) → tables_in (levels_below t.geometry) t.table ≡ tables_of t
unfolding tables_of
tables_under t = refl

pub on_ok : {X E : Type 0} (P : Type 0) (r : Result X E) → P → OnOk r P
on_ok P (Ok x) h = h
on_ok P (Err e) h = tt

pub on_ok_map : {X E : Type 0} (P Q : Type 0) (r : Result X E) → (P → Q) → OnOk r P → OnOk r Q
on_ok_map P Q (Ok x) go h = go h
on_ok_map P Q (Err e) go h = tt

-- looks at no slot, at all slots of some tables, and one after the other
pub looked_none : (old : ℕ) → HasLooked old (512 * 0) old
looked_none old = record { count = omega arith; fits = λ l. absurd (omega (arith, l)); kept = λ l. l }

pub looked_read : (old tables new : ℕ) → HasRead old tables new → HasLooked old (512 * tables) new
looked_read old tables new h =
    record { count = omega (arith, h); fits = λ l. omega (arith, h); kept = λ l. omega (arith, h) }

pub looked_both : (old mid new m n more : ℕ)
    → HasLooked old m mid
    → HasLooked mid n new
    → m + n ≡ more
    → HasLooked old more new
looked_both old mid new m n more x y e =
    let a = x.count in
    let b = y.count in
    record {
      count = omega (arith, a, b, e);
      fits = λ l. by_lt 0 n (λ some. y.fits some) (λ none. y.kept (x.fits (omega (arith, e, l, none))));
      kept = λ l. y.kept (x.kept l);
    }

-- a count that is a u64
pub read_looked : (old tables new : ℕ)
    → old ≤ 18446744073709551615
    → HasLooked old (512 * tables) new
    → HasRead old tables new
read_looked old tables new l h = let a = h.count in let b = h.kept l in omega (arith, a, b)

pub read_after : (old mid new m n : ℕ) → HasLooked old (512 * m) mid → HasRead mid n new → HasRead old (n + m) new
read_after old mid new m n x y = let a = x.count in omega (arith, a, y)

-- the guest that is given, and then the Shared part
pub read_given : (old mid new guest shared : ℕ)
    → old ≤ 18446744073709551615
    → HasLooked old (512 * guest) mid
    → HasLooked mid (512 * shared) new
    → HasRead old (shared + guest) new
read_given old mid new guest shared l x y =
    read_looked old (shared + guest) new l
    (looked_both old mid new (512 * guest) (512 * shared) (512 * (shared + guest)) x y (omega arith))

-- the guests of parts, and then their Shared part
pub read_parts : {A : Type 0} (s : SharedPart A) (old mid new guests : ℕ)
    → HasLooked old (512 * guests) mid
    → HasRead mid (shared_tables s) new
    → HasRead old (shared_tables s + guests) new
read_parts s old mid new guests x y = read_after old mid new guests (shared_tables s) x y

-- a list of parts, one part further
pub sum_next : {X : Type 0} (f : X → ℕ) (xs : List X) (i : ℕ) (x : X)
    → i < length xs
    → x ≡ get_or xs i x
    → 512 * sum_by f (take i xs) + 512 * f x ≡ 512 * sum_by f (take (i + 1) xs)
sum_next f xs i x l at =
    let more : sum_by f (take (i + 1) xs) ≡ sum_by f (take i xs) + f x =
    ap (sum_by f) (take_more xs i x l) ∙ sum_by_push f (take i xs) (get_or xs i x)
    ∙ ap (λ y. sum_by f (take i xs) + f y) (sym at) in
    omega (arith, more)
