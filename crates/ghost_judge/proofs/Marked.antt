-- Rows but for the plain ones tell what all rows tell.
use Rattle.std.proofs.Common.{◌≡◌, ℕ, ◌+◌, ◌-◌, ◌<◌, ◌≤◌, true, false, Bool, not, cond, List, [], ◌∷◌, Option, Some, None, drop, get_or, is_some, length, refl, sym, ap, subst, ◌∙◌, arith}
use Rattle.std.proofs.lemmas.List.{drop_all, drop_more, get_or_default}
use Rattle.std.specs.Prelude.{MatchOption, unwrap_or}
use Rattle.page_state.specs.declared.row.Lent.{Lent}
use Rattle.page_state.specs.declared.row.Row.{Row}
use Rattle.page_state.specs.Regions.{is_in_range}
use Rattle.page_state.specs.Rows.{advance_lent, advance_row, plain_row, HasPageBelow}
use Rattle.page_state.proofs.Cases.{by_test}
use Rattle.run_list.specs.declared.run.Run.{Run}
use Rattle.run_list.specs.OwnerRows.{row_eq, row_laws}
use Rattle.run_list.specs.Runs.{run_end, run_map, value_on, Precedes, PrecedesFirst, IsCoarsest, AreInReach}
use Rattle.run_list.specs.View.{IsKept}
use Rattle.run_list.proofs.Maps.{none_low, starts_behind}
use Rattle.ghost_spec.specs.Views.{row_in}
use Rattle.ghost_trees.proofs.Overlaid.{within_means}
use Rattle.ghost_judge.specs.Apart.{IsFirstApart}
use Rattle.ghost_judge.specs.inner.Parted.{parted_at, IsFoundApart}
use Rattle.ghost_judge.specs.inner.Same.{is_marked, marked, IsBegin}
use Rattle.ghost_judge.proofs.Apart.{IsLeft, left_more, left_none, left_one, left_parted, left_two}
use Rattle.ghost_judge.proofs.Audited.{found_other}

-- an earlier run stands left of what stands behind the next
over : (r n : Run Row) (rs : List (Run Row))
    → Precedes advance_row r n
    → 0 < n.pages.count
    → PrecedesFirst advance_row n rs
    → PrecedesFirst advance_row r rs
over r n [] p l q = tt
over r n (m ∷ rs) p l q =
    record {
      before = omega (arith, p.before, q.before);
      apart = λ e f. absurd (omega (arith, p.before, q.before, l, e));
    }

first_marked : (r : Run Row) (rs : List (Run Row))
    → PrecedesFirst advance_row r rs
    → IsCoarsest advance_row rs
    → PrecedesFirst advance_row r (marked rs)
first_marked r [] p c = tt
first_marked r (n ∷ rs) p c =
    by_test (is_marked n) (λ t. rw t p) (λ t. rw t (first_marked r rs (over r n rs p c.0 c.1) c.2))

marked_coarsest : (rs : List (Run Row)) → IsCoarsest advance_row rs → IsCoarsest advance_row (marked rs)
marked_coarsest [] c = tt
marked_coarsest (r ∷ rs) c =
    by_test (is_marked r) (λ t. rw t (c.0, first_marked r rs c.1 c.2, marked_coarsest rs c.2))
    (λ t. rw t (marked_coarsest rs c.2))

marked_reach : (rs : List (Run Row)) → AreInReach HasPageBelow rs → AreInReach HasPageBelow (marked rs)
marked_reach [] h = tt
marked_reach (r ∷ rs) h = by_test (is_marked r) (λ t. rw t (h.0, marked_reach rs h.1)) (λ t. rw t (marked_reach rs h.1))

pub marked_kept : (rs : List (Run Row))
    → IsKept advance_row HasPageBelow rs
    → IsKept advance_row HasPageBelow (marked rs)
marked_kept rs k = record { coarsest = marked_coarsest rs k.coarsest; in_reach = marked_reach rs k.in_reach }

-- a row but the plain one
abbrev other_row : Option Row → Option Row
other_row None = None
other_row (Some r) = cond (not (row_eq r plain_row)) (Some r) None

marked_with : (l : Option Lent) (r : Row) (n : ℕ)
    → row_eq (record r { lent = advance_lent l n }) plain_row ≡ row_eq (record r { lent = l }) plain_row
marked_with None r n = refl
marked_with (Some l) r n = refl

marked_on : (r : Row) (n : ℕ) → row_eq (advance_row r n) plain_row ≡ row_eq r plain_row
marked_on r n = marked_with r.lent r n

hit : (r : Run Row) (rs : List (Run Row)) (f : ℕ)
    → is_in_range r.pages f ≡ true
    → run_map advance_row (r ∷ rs) f ≡ Some (value_on advance_row r f)
hit r rs f t = rw t refl

miss : (r : Run Row) (rs : List (Run Row)) (f : ℕ)
    → is_in_range r.pages f ≡ false
    → run_map advance_row (r ∷ rs) f ≡ run_map advance_row rs f
miss r rs f t = rw t refl

stays : (r : Run Row) (rs : List (Run Row)) → is_marked r ≡ true → marked (r ∷ rs) ≡ r ∷ marked rs
stays r rs m = rw m refl

goes : (r : Run Row) (rs : List (Run Row)) → is_marked r ≡ false → marked (r ∷ rs) ≡ marked rs
goes r rs m = rw m refl

other_on : (r : Run Row) (f : ℕ) (b : Bool)
    → is_marked r ≡ b
    → other_row (Some (value_on advance_row r f)) ≡ cond b (Some (value_on advance_row r f)) None
other_on r f b m =
    ap (λ t. cond t (Some (value_on advance_row r f)) None) (ap not (marked_on r.value (f - r.pages.first.0)) ∙ m)

marked_map : (rs : List (Run Row)) (f : ℕ)
    → IsCoarsest advance_row rs
    → run_map advance_row (marked rs) f ≡ other_row (run_map advance_row rs f)
marked_map [] f c = refl
marked_map (r ∷ rs) f c =
    let at : List (Run Row) → Option Row = λ xs. run_map advance_row xs f in
    by_test (is_in_range r.pages f)
    (λ t. by_test (is_marked r)
    (λ m. ap at (stays r rs m) ∙ hit r (marked rs) f t ∙ sym (ap other_row (hit r rs f t) ∙ other_on r f true m))
    (λ m. let low = within_means r.pages.first.0 r.pages.count f t in
    let none = none_low advance_row (run_end r) f rs c.2 (starts_behind advance_row r rs c.1) low.1 in
    ap at (goes r rs m) ∙ marked_map rs f c.2 ∙ ap other_row none
    ∙ sym (ap other_row (hit r rs f t) ∙ other_on r f false m)))
    (λ t. by_test (is_marked r)
    (λ m. ap at (stays r rs m) ∙ miss r (marked rs) f t ∙ marked_map rs f c.2 ∙ sym (ap other_row (miss r rs f t)))
    (λ m. ap at (goes r rs m) ∙ marked_map rs f c.2 ∙ sym (ap other_row (miss r rs f t))))

plain_of : (o : Option Row) → unwrap_or (other_row o) plain_row ≡ unwrap_or o plain_row
plain_of None = refl
plain_of (Some r) = by_test (row_eq r plain_row) (λ t. rw t (sym (row_laws.is_equal r plain_row t))) (λ t. rw t refl)

other_of : (o : Option Row) → other_row (Some (unwrap_or o plain_row)) ≡ other_row o
other_of None = refl
other_of (Some r) = refl

pub found_marked : (rs ss : List (Run Row)) (o : Option ℕ)
    → IsCoarsest advance_row rs
    → IsCoarsest advance_row ss
    → IsFoundApart (run_map advance_row (marked rs)) (run_map advance_row (marked ss)) o
    → MatchOption o (row_in rs ≡ row_in ss) (IsFirstApart (row_in rs) (row_in ss))
found_marked rs ss o c d x =
    found_other (run_map advance_row (marked rs)) (run_map advance_row (marked ss)) (row_in rs) (row_in ss)
    (λ n e. sym (plain_of (run_map advance_row rs n))
    ∙ ap (λ v. unwrap_or v plain_row) (sym (marked_map rs n c) ∙ e ∙ marked_map ss n d)
    ∙ plain_of (run_map advance_row ss n))
    (λ n e. marked_map rs n c ∙ sym (other_of (run_map advance_row rs n)) ∙ ap (λ r. other_row (Some r)) e
    ∙ other_of (run_map advance_row ss n) ∙ sym (marked_map ss n d)) o x

-- the rest of a list from a run on, whose row is the plain one or isn't

pub marked_here : (rs : List (Run Row)) (k : ℕ) (x : Run Row)
    → k < length rs
    → x ≡ get_or rs k x
    → is_marked x ≡ true
    → (d : Run Row)
    → marked (drop k rs) ≡ get_or rs k d ∷ marked (drop (k + 1) rs)
marked_here rs k x less is m d =
    let front : drop k rs ≡ x ∷ drop (k + 1) rs = drop_more rs k x less ∙ ap (λ y. y ∷ drop (k + 1) rs) (sym is) in
    let same : x ≡ get_or rs k d = is ∙ get_or_default rs k x d less in
    ap marked front ∙ stays x (drop (k + 1) rs) m ∙ ap (λ y. y ∷ marked (drop (k + 1) rs)) same

pub marked_over : (rs : List (Run Row)) (k : ℕ) (x : Run Row)
    → k < length rs
    → x ≡ get_or rs k x
    → is_marked x ≡ false
    → marked (drop (k + 1) rs) ≡ marked (drop k rs)
marked_over rs k x less is m =
    let front : drop k rs ≡ x ∷ drop (k + 1) rs = drop_more rs k x less ∙ ap (λ y. y ∷ drop (k + 1) rs) (sym is) in
    sym (ap marked front ∙ goes x (drop (k + 1) rs) m)

pub marked_end : (rs : List (Run Row)) (k : ℕ) → length rs ≤ k → marked (drop k rs) ≡ []
marked_end rs k h = ap marked (drop_all k rs h)

-- what is left of two lists of such runs

module _ (us vs : List (Run Row)) where
  abbrev Left : List (Run Row) → List (Run Row) → Type 0
  Left xs ys = IsLeft advance_row HasPageBelow us vs xs ys

  both_left : (xs ys zs ws : List (Run Row)) → xs ≡ zs → ys ≡ ws → Left xs ys → Left zs ws
  both_left xs ys zs ws e f l = subst (λ z. Left z ws) e (subst (λ w. Left xs w) f l)

  -- two runs that are one, and two that part
  pub left_next : (xs ys zs ws : List (Run Row)) (r s : Run Row) (o : Option ℕ)
      → xs ≡ r ∷ zs
      → ys ≡ s ∷ ws
      → o ≡ parted_at row_eq r s
      → is_some o ≡ false
      → Left xs ys
      → Left zs ws
  left_next xs ys zs ws r s None e f p n l =
      left_more advance_row HasPageBelow row_eq row_laws us vs zs ws r s (sym p)
      (both_left xs ys (r ∷ zs) (s ∷ ws) e f l)
  left_next xs ys zs ws r s (Some q) e f p n l = absurd (cc)

  pub left_apart : (xs ys zs ws : List (Run Row)) (r s : Run Row) (o : Option ℕ)
      → xs ≡ r ∷ zs
      → ys ≡ s ∷ ws
      → o ≡ parted_at row_eq r s
      → is_some o ≡ true
      → Left xs ys
      → IsFoundApart (run_map advance_row us) (run_map advance_row vs) o
  left_apart xs ys zs ws r s None e f p n l = absurd (cc)
  left_apart xs ys zs ws r s (Some q) e f p n l =
      left_parted advance_row HasPageBelow row_eq row_laws us vs zs ws r s (Some q) q p refl
      (both_left xs ys (r ∷ zs) (s ∷ ws) e f l)

  -- one run and none
  pub left_alone : (xs ys zs : List (Run Row)) (r : Run Row)
      → xs ≡ r ∷ zs
      → ys ≡ []
      → Left xs ys
      → IsFirstApart (run_map advance_row us) (run_map advance_row vs) r.pages.first.0
  left_alone xs ys zs r e f l =
      left_one advance_row HasPageBelow row_eq row_laws us vs zs r (both_left xs ys (r ∷ zs) [] e f l)

  -- none, and what begins the other list
  pub left_begin : (xs ys : List (Run Row)) (o : Option ℕ)
      → xs ≡ []
      → IsBegin ys o
      → Left xs ys
      → IsFoundApart (run_map advance_row us) (run_map advance_row vs) o
  left_begin xs [] o e b l =
      subst (IsFoundApart (run_map advance_row us) (run_map advance_row vs)) (sym b)
      (left_none advance_row HasPageBelow row_eq row_laws us vs (both_left xs [] [] [] e refl l))
  left_begin xs (s ∷ ws) o e b l =
      subst (IsFoundApart (run_map advance_row us) (run_map advance_row vs)) (sym b)
      (left_two advance_row HasPageBelow row_eq row_laws us vs ws s (both_left xs (s ∷ ws) [] (s ∷ ws) e refl l))
