-- Lines, each with its end, one behind the other.
use Rattle.std.proofs.Common.{◌≡◌, ℕ, zero, suc, ◌+◌, ◌<◌, List, [], ◌∷◌, ◌++◌, length, take, get_or, map, refl, arith, sym, ap, ◌∙◌, add-one, append_assoc}
use Rattle.std.specs.Prelude.{codes}
use Rattle.c_states.specs.declared.layout.PlainLayout.{PlainLayout}
use Rattle.c_states.specs.declared.layout.PlainRegion.{PlainRegion}
use Rattle.c_calls.specs.Lines.{config_lines, end_lines, range_line, region_line, text_of_lines, text_of_start}

lines_append : (xs ys : List (List ℕ)) → text_of_lines (xs ++ ys) ≡ text_of_lines xs ++ text_of_lines ys
lines_append [] ys = refl
lines_append (x ∷ xs) ys =
    ap (λ t. x ++ (10 ∷ t)) (lines_append xs ys) ∙ sym (append_assoc x (10 ∷ text_of_lines xs) (text_of_lines ys))

-- one more region
one_more : (rs : List PlainRegion) (i : ℕ) (d : PlainRegion) → i < length rs
    → text_of_lines (map region_line (take i rs)) ++ (region_line (get_or rs i d) ++ codes "\n")
    ≡ text_of_lines (map region_line (take (suc i) rs))
one_more [] i d less = absurd (omega (arith, less))
one_more (r ∷ rs) zero d less = refl
one_more (r ∷ rs) (suc i) d less =
    append_assoc (region_line r) (10 ∷ text_of_lines (map region_line (take i rs)))
    (region_line (get_or rs i d) ++ codes "\n")
    ∙ ap (λ t. region_line r ++ (10 ∷ t)) (one_more rs i d (omega (arith, less)))

-- the bytes behind one more
pub one_added : (rs : List PlainRegion) (i : ℕ) (d : PlainRegion) (start before new : List ℕ)
    → i < length rs
    → before ≡ start ++ text_of_lines (map region_line (take i rs))
    → new ≡ before ++ (region_line (get_or rs i d) ++ codes "\n")
    → new ≡ start ++ text_of_lines (map region_line (take (i + 1) rs))
one_added rs i d start before new less e f =
    let lines = text_of_lines (map region_line (take i rs)) in
    let line = region_line (get_or rs i d) ++ codes "\n" in
    f
    ∙ ap (λ t. t ++ line) e
    ∙ append_assoc start lines line
    ∙ ap (λ t. start ++ t)
    (one_more rs i d less ∙ ap (λ n. text_of_lines (map region_line (take n rs))) (sym (add-one i)))

-- the lines before those of regions, these, and those behind them
pub start_joined : (l : PlainLayout) (rs : List PlainRegion)
    → (text_of_lines (config_lines l.address_bits l.cpus) ++ text_of_lines (map region_line rs))
    ++ text_of_lines (end_lines l.carve_first l.carve_count)
    ≡ text_of_start l rs
start_joined l rs =
    let first = config_lines l.address_bits l.cpus in
    let carve = range_line (codes "carve") l.carve_first l.carve_count in
    let behind = end_lines l.carve_first l.carve_count in
    ap (λ t. t ++ text_of_lines behind) (sym (lines_append first (map region_line rs)))
    ∙ sym (lines_append (first ++ map region_line rs) behind)
    ∙ ap (λ t. text_of_lines (first ++ t)) (sym (append_assoc (map region_line rs) (carve ∷ []) (codes "boot" ∷ [])))
