-- Tables at blocks that no earlier table has, one after another.
use Rattle.std.proofs.Common.{◌≡◌, ℕ, suc, ◌+◌, ◌<◌, ◌≤◌, true, false, List, ◌∷◌, drop, length, get_or, Option, Some, None, refl, sym, ap, subst, ◌∙◌, arith}
use Rattle.std.specs.Prelude.{◌↔◌, is_some}
use Rattle.std.proofs.Math.Seq.{drop-cons}
use Rattle.std.proofs.lemmas.List.{drop_all}
use Rattle.ghost_trees.specs.declared.tree.Table.{Table}
use Rattle.ghost_trees.specs.Trees.{table_of}
use Rattle.ghost_legal.specs.Blocks.{HasFirstBlocks}

split : (ts : List Table) (i : ℕ) (d : Table)
    → i < length ts
    → HasFirstBlocks (drop i ts)
    → (table_of (drop (i + 1) ts) (get_or ts i d).block ≡ None) × HasFirstBlocks (drop (i + 1) ts)
split ts i d less h =
    let n : suc i ≡ i + 1 = omega arith in
    let k : HasFirstBlocks (get_or ts i d ∷ drop (suc i) ts) = subst HasFirstBlocks (drop-cons ts i d less) h in
    subst (λ (m : ℕ). (table_of (drop m ts) (get_or ts i d).block ≡ None) × HasFirstBlocks (drop m ts)) n (k.0, k.1)

join : (ts : List Table) (i : ℕ) (d : Table)
    → i < length ts
    → table_of (drop (i + 1) ts) (get_or ts i d).block ≡ None
    → HasFirstBlocks (drop (i + 1) ts)
    → HasFirstBlocks (drop i ts)
join ts i d less e h =
    let n : i + 1 ≡ suc i = omega arith in
    let k =
    subst (λ (m : ℕ). (table_of (drop m ts) (get_or ts i d).block ≡ None) × HasFirstBlocks (drop m ts)) n (e, h) in
    subst HasFirstBlocks (sym (drop-cons ts i d less)) (k.0, k.1)

none-there : (o : Option ℕ) → is_some o ≡ false → o ≡ None
none-there None e = refl
none-there (Some f) e = cc

pub one-more : (ts later : List Table) (i : ℕ) (d : Table) (o : Option ℕ)
    → i < length ts
    → later ≡ drop (i + 1) ts
    → o ≡ table_of later (get_or ts i d).block
    → is_some o ≡ false
    → HasFirstBlocks ts ↔ HasFirstBlocks (drop i ts)
    → HasFirstBlocks ts ↔ HasFirstBlocks (drop (i + 1) ts)
one-more ts later i d o less e a n h =
    let none : table_of (drop (i + 1) ts) (get_or ts i d).block ≡ None =
    ap (λ (xs : List Table). table_of xs (get_or ts i d).block) (sym e) ∙ sym a ∙ none-there o n in
    (λ x. (split ts i d less (h.0 x)).1, λ x. h.1 (join ts i d less none x))

pub not-first : (ts later : List Table) (i : ℕ) (d : Table) (o : Option ℕ)
    → i < length ts
    → later ≡ drop (i + 1) ts
    → o ≡ table_of later (get_or ts i d).block
    → is_some o ≡ true
    → HasFirstBlocks ts ↔ HasFirstBlocks (drop i ts)
    → HasFirstBlocks ts
    → ⊥
not-first ts later i d o less e a n h x =
    let none : o ≡ None =
    a ∙ ap (λ (xs : List Table). table_of xs (get_or ts i d).block) e ∙ (split ts i d less (h.0 x)).0 in
    let bad : true ≡ false = sym n ∙ ap is_some none in cc

pub all-first : (ts : List Table) (i : ℕ)
    → length ts ≤ i
    → HasFirstBlocks ts ↔ HasFirstBlocks (drop i ts)
    → HasFirstBlocks ts
all-first ts i far h = h.1 (subst HasFirstBlocks (sym (drop_all i ts far)) tt)
