-- How often the pieces of a state have a frame: as often as a part holds it.
use Rattle.std.proofs.Common.{◌≡◌, ℕ, ◌+◌, ◌-◌, Bool, true, false, ◌==◌, List, [], ◌∷◌, ◌++◌, Some, None, refl, sym, ap, ◌∙◌, arith}
use Rattle.std.specs.Prelude.{◌&&◌, sum_by}
use Rattle.std.proofs.lemmas.Bool.Decides.{nat_tests}
use Rattle.std.proofs.lemmas.List.Sums.{sum_by-append, sum_by-cons}
use Rattle.descriptor.specs.declared.State.{State}
use Rattle.page_state.specs.declared.entry.PageRange.{PageRange}
use Rattle.page_state.specs.declared.entry.Run.{Run}
use Rattle.page_state.specs.declared.entry.Target.{Target}
use Rattle.page_state.specs.declared.entry.Target.TheVariants.{Malformed, Annotated, Leaf}
use Rattle.page_state.specs.Counts.{frame_count, is_one}
use Rattle.page_state.specs.Map.{is_within}
use Rattle.page_state.specs.Regions.{is_in_range}
use Rattle.page_state.specs.Trees.{Block}
use Rattle.page_state.proofs.Cases.{by_eq}
use Rattle.page_state.proofs.Common.{eq-other}
use Rattle.reference_model.specs.help.Conditions.{Condition, hyps, guest_condition, one, table_uses}
use Rattle.reference_model.specs.model.Owner.{is_frame}
use Rattle.reference_model.proofs.Frames.{count_blocks-none}
use Rattle.reference_model.proofs.conditions.Tables.{block-other, block-self, uses-put, uses_of}
use Rattle.ghost_trees.specs.declared.tree.Table.{Table as TableOf}
use Rattle.ghost_trees.specs.declared.tree.Tree.{Tree}
use Rattle.ghost_trees.specs.Trees.{table_of, tree_in_lists}
use Rattle.ghost_legal.specs.declared.finding.Holder.{Holder}
use Rattle.ghost_legal.specs.declared.finding.Holder.TheVariants.{Table, Guest}
use Rattle.ghost_legal.specs.declared.held.Held.{Held}
use Rattle.ghost_legal.specs.AllHeld.{held_count}
use Rattle.ghost_legal.specs.Blocks.{HasOwnBlocks}
use Rattle.ghost_legal.specs.Facts.{held_in, table_use, later}
use Rattle.ghost_legal.specs.Frames.{holder_on}
use Rattle.ghost_legal.specs.Listed.{free_held, piece, runs_held, mapped_of, option_list, tables_held, target_held}

-- tables

none-uses : (depth f : ℕ) → uses_of depth (λ b. None) f ≡ 0
unfolding uses_of
none-uses depth f = count_blocks-none (depth + 1) (depth + 1) (λ b. is_frame f None) (λ b. refl)

same-uses : (depth f : ℕ) (t : Tree) → table_uses depth (tree_in_lists t) f ≡ uses_of depth (table_of t.tables.items) f
unfolding uses_of table_uses
same-uses depth f t = refl

first-other : (t : TableOf) (ts : List TableOf) (b : Block) → (b ≡ t.block → ⊥) → table_of (t ∷ ts) b ≡ table_of ts b
first-other t ts b apart = rw (block-other t.block b apart) refl

first-self : (t : TableOf) (ts : List TableOf) → table_of (t ∷ ts) t.block ≡ Some t.frame
first-self t ts = rw (block-self t.block) refl

sum-up : (x y a b c d : ℕ) → x + a ≡ y + b → a ≡ 0 → b ≡ c → y ≡ d → x ≡ c + d
sum-up x y a b c d p q r s = omega (arith, p, q, r, s)

table-sum : (depth f : ℕ) (ts : List TableOf)
    → HasOwnBlocks depth ts
    → uses_of depth (table_of ts) f ≡ sum_by (λ t. one (t.frame == f)) ts
table-sum depth f [] h = none-uses depth f
table-sum depth f (t ∷ ts) h =
    let put = uses-put depth f t.block (table_of (t ∷ ts)) (table_of ts) h.0 (λ b apart. first-other t ts b apart) in
    sum-up _ _ _ _ (one (t.frame == f)) (sum_by (λ t. one (t.frame == f)) ts) put (ap (λ o. one (is_frame f o)) h.1)
    (ap (λ o. one (is_frame f o)) (first-self t ts)) (table-sum depth f ts h.2)
    ∙ sym (sum_by-cons (λ t. one (t.frame == f)) t ts)

-- pieces of one frame

within-one : (a f : ℕ) → is_within a 1 f ≡ (a == f)
within-one a f = by_eq a f
    (λ e. let t : is_within a 1 f ≡ true = grind (arith, nat_tests) in
    let u : (a == f) ≡ true = grind (arith, nat_tests) in
    t ∙ sym u)
    (λ e. let t : is_within a 1 f ≡ false = outside a f e in t ∙ sym (eq-other a f e))
  where
    outside : (a f : ℕ) → (a ≡ f → ⊥) → is_within a 1 f ≡ false
    outside a f e = grind (arith, nat_tests, e)

and-true : (b c : Bool) → c ≡ true → b && c ≡ b
and-true true c h = h
and-true false c h = refl

and-false : (b c : Bool) → c ≡ false → b && c ≡ false
and-false true c h = h
and-false false c h = refl

module _ (T : Condition → Bool) (f : ℕ) where
  abbrev count : List Held → ℕ
  count hs = held_count (λ h. T (held_in h)) f hs

  count-cons : (h : Held) (hs : List Held)
      → held_count (λ h. T (held_in h)) f (h ∷ hs)
      ≡ one (is_in_range h.frames f && T (held_in (holder_on h f))) + held_count (λ h. T (held_in h)) f hs
  count-cons h hs = sum_by-cons (λ h. one (is_in_range h.frames f && T (held_in (holder_on h f)))) h hs

  pub count-append : (xs ys : List Held)
      → held_count (λ h. T (held_in h)) f (xs ++ ys)
      ≡ held_count (λ h. T (held_in h)) f xs + held_count (λ h. T (held_in h)) f ys
  count-append xs ys = sum_by-append (λ h. one (is_in_range h.frames f && T (held_in (holder_on h f)))) xs ys

  one-piece : (frame : ℕ) (h : Holder)
      → later h (f - frame) ≡ h
      → T (held_in h) ≡ true
      → one (is_in_range (piece frame h).frames f && T (held_in (holder_on (piece frame h) f))) ≡ one (frame == f)
  one-piece frame h e t = ap one (and-true (is_within frame 1 f) _ (ap (λ k. T (held_in k)) e ∙ t) ∙ within-one frame f)

  no-piece : (p : Held)
      → T (held_in (holder_on p f)) ≡ false
      → one (is_in_range p.frames f && T (held_in (holder_on p f))) ≡ 0
  no-piece p t = ap one (and-false (is_in_range p.frames f) _ t)

  -- free frames
  pub free-count : (h : Holder) (fs : List ℕ)
      → ((n : ℕ) → later h n ≡ h)
      → T (held_in h) ≡ true
      → held_count (λ h. T (held_in h)) f (free_held h fs) ≡ frame_count f fs
  free-count h [] e t = refl
  free-count h (x ∷ fs) e t =
      let all = count-cons (piece x h) (free_held h fs) in
      let first = one-piece x h (e (f - x)) t in
      let more = free-count h fs e t in
      let is = sum_by-cons (λ g. is_one g f) x fs in
      omega (arith, all, first, more, is)

  pub free-none : (h : Holder) (fs : List ℕ)
      → ((n : ℕ) → later h n ≡ h)
      → T (held_in h) ≡ false
      → held_count (λ h. T (held_in h)) f (free_held h fs) ≡ 0
  free-none h [] e t = refl
  free-none h (x ∷ fs) e t =
      let all = count-cons (piece x h) (free_held h fs) in
      let first = no-piece (piece x h) (ap (λ k. T (held_in k)) (e (f - x)) ∙ t) in
      let more = free-none h fs e t in
      omega (arith, all, first, more)

  -- tables
  tables-sum : (tree : ℕ) (ts : List TableOf)
      → T (hyps (table_use tree)) ≡ true
      → held_count (λ h. T (held_in h)) f (tables_held tree ts) ≡ sum_by (λ t. one (t.frame == f)) ts
  tables-sum tree [] t = refl
  tables-sum tree (x ∷ ts) t =
      let h : Holder = Table (record { tree = tree; block = x.block }) in
      let all = count-cons (piece x.frame h) (tables_held tree ts) in
      let first = one-piece x.frame h refl t in
      let more = tables-sum tree ts t in
      let is = sum_by-cons (λ t. one (t.frame == f)) x ts in
      omega (arith, all, first, more, is)

  pub tables-count : (depth tree : ℕ) (t : Tree)
      → HasOwnBlocks depth t.tables.items
      → T (hyps (table_use tree)) ≡ true
      → held_count (λ h. T (held_in h)) f (tables_held tree t.tables.items) ≡ table_uses depth (tree_in_lists t) f
  tables-count depth tree t own h =
      tables-sum tree t.tables.items h ∙ sym (table-sum depth f t.tables.items own) ∙ sym (same-uses depth f t)

  pub tables-none : (tree : ℕ) (ts : List TableOf)
      → T (hyps (table_use tree)) ≡ false
      → held_count (λ h. T (held_in h)) f (tables_held tree ts) ≡ 0
  tables-none tree [] t = refl
  tables-none tree (x ∷ ts) t =
      let h : Holder = Table (record { tree = tree; block = x.block }) in
      let all = count-cons (piece x.frame h) (tables_held tree ts) in
      let first = no-piece (piece x.frame h) t in
      let more = tables-none tree ts t in
      omega (arith, all, first, more)

  -- guests' pages
  guest-none : ((v p : ℕ) (s : State) → T (guest_condition s v p) ≡ false)
      → (slot : ℕ) (pages : PageRange) (t : Target)
      → held_count (λ h. T (held_in h)) f (option_list (target_held slot pages t)) ≡ 0
  guest-none n slot pages Malformed = refl
  guest-none n slot pages (Annotated owner) = refl
  guest-none n slot pages (Leaf frame prot kind state) =
      let p : Held =
      record {
        frames = record { first = record { 0 = frame.0 }; count = pages.count };
        holder = Guest slot pages.first.0 state;
      } in
      let all = count-cons p [] in
      let first = no-piece p (n slot (pages.first.0 + (f - frame.0)) state) in
      let nil : held_count (λ h. T (held_in h)) f [] ≡ 0 = refl in
      omega (arith, all, first, nil)

  pub runs-none : ((v p : ℕ) (s : State) → T (guest_condition s v p) ≡ false)
      → (slot : ℕ) (rs : List Run)
      → held_count (λ h. T (held_in h)) f (runs_held slot rs) ≡ 0
  runs-none n slot [] = refl
  runs-none n slot (r ∷ rs) =
      let all = count-append (option_list (mapped_of slot r)) (runs_held slot rs) in
      let first = guest-none n slot r.pages r.target in
      let more = runs-none n slot rs in
      omega (arith, all, first, more)
