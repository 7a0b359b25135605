-- The frames of a guest's pool, from the coarsest runs of rows.
use Rattle.std.proofs.Common.{◌≡◌, ℕ, zero, suc, ◌+◌, ◌-◌, ◌<◌, ◌≤◌, List, [], ◌∷◌, ◌++◌, filter, refl, ap, sym, ◌∙◌, subst, arith, append-nil, min, length, get_or, take}
use Rattle.std.specs.Prelude.{Bool, true, false, ◌&&◌, flat_map, if◌then◌else◌, nat_le, nat_lt, cond}
use Rattle.std.proofs.lemmas.Bool.Decides.{nat_tests}
use Rattle.std.proofs.lemmas.List.{take_more}
use Rattle.std.proofs.lemmas.List.Concat.{flat_map-append}
use Rattle.std.proofs.lemmas.List.Elements.{filter-append}
use Rattle.page_state.proofs.Cases.{by_lt}
use Rattle.page_state.proofs.Common.{both, if-true, if-false, same2}
use Rattle.page_state.specs.Map.{is_within}
use Rattle.page_state.specs.Rows.{advance_row}
use Rattle.page_state.specs.Trees.{frames_from}
use Rattle.page_state.specs.declared.row.Row.{Row}
use Rattle.run_list.specs.declared.run.Run.{Run}
use Rattle.run_list.specs.Runs.{run_end, IsCoarsest, PrecedesFirst, StartsFrom}
use Rattle.freedoms.specs.Laws.{is_pool_of}
use Rattle.ghost_spec.proofs.BootLists.{frames_more}
use Rattle.ghost_spec.specs.Views.{row_in}
use Rattle.free_judge.specs.inner.RunFrames.{run_frames}

-- frames in a row, and a filter of them

frames-split : (first m n : ℕ) → frames_from first (m + n) ≡ frames_from first m ++ frames_from (first + m) n
frames-split first zero n = let e : first + 0 ≡ first = omega arith in
    let z : 0 + n ≡ n = omega arith in
    ap (frames_from first) z ∙ ap (λ k. frames_from k n) (sym e)
frames-split first (suc m) n =
    let s : suc m + n ≡ suc (m + n) = omega arith in
    let e : first + 1 + m ≡ first + suc m = omega arith in
    ap (frames_from first) s
    ∙ ap (λ fs. first ∷ fs) (frames-split (first + 1) m n ∙ ap (λ k. frames_from (first + 1) m ++ frames_from k n) e)

-- tests that agree on the frames keep the same
filter-same : (p q : ℕ → Bool) (first n : ℕ)
    → ((f : ℕ) → first ≤ f → f < first + n → p f ≡ q f)
    → filter p (frames_from first n) ≡ filter q (frames_from first n)
filter-same p q first zero h = refl
filter-same p q first (suc n) h =
    same2 (λ b fs. cond b (first ∷ fs) fs) (h first (omega arith) (omega arith))
    (filter-same p q (first + 1) n (λ f low high. h f (omega arith) (omega arith)))

filter-none : (first n : ℕ) → filter (λ (f : ℕ). false) (frames_from first n) ≡ []
filter-none first zero = refl
filter-none first (suc n) = filter-none (first + 1) n

none-kept : (p : ℕ → Bool) (first n : ℕ)
    → ((f : ℕ) → first ≤ f → f < first + n → p f ≡ false)
    → filter p (frames_from first n) ≡ []
none-kept p first n h = filter-same p (λ f. false) first n h ∙ filter-none first n

and-no : (a b : Bool) → b ≡ false → (a && b) ≡ false
and-no true b h = h
and-no false b h = refl

and-yes : (a b : Bool) → b ≡ true → (a && b) ≡ a
and-yes true b h = h
and-yes false b h = refl

-- rows of runs

is-within : (first count page : ℕ) → first ≤ page → page < first + count → is_within first count page ≡ true
is-within first count page low high = grind (arith, nat_tests)

not-before : (first count page : ℕ) → page < first → is_within first count page ≡ false
not-before first count page h = grind (arith, nat_tests)

not-behind : (first count page : ℕ) → first + count ≤ page → is_within first count page ≡ false
not-behind first count page h = grind (arith, nat_tests)

starts-behind : (r : Run Row) (rs : List (Run Row)) → PrecedesFirst advance_row r rs → StartsFrom (run_end r) rs
starts-behind r [] h = tt
starts-behind r (n ∷ rs) h = h.before

starts-later : (a b : ℕ) (rs : List (Run Row)) → a ≤ b → StartsFrom b rs → StartsFrom a rs
starts-later a b [] less h = tt
starts-later a b (r ∷ rs) less h = omega arith

module _ (test : ℕ → Bool) (v : ℕ) where
  abbrev kept : List (Run Row) → ℕ → Bool
  kept rs f = test f && is_pool_of v (row_in rs f).usage

  -- on the run's own frames
  on-run : (r : Run Row) (rs : List (Run Row)) (f : ℕ)
      → is_within r.pages.first.0 r.pages.count f ≡ true
      → is_pool_of v (row_in (r ∷ rs) f).usage ≡ is_pool_of v r.value.usage
  on-run r rs f h = rw h refl

  off-run : (r : Run Row) (rs : List (Run Row)) (f : ℕ)
      → is_within r.pages.first.0 r.pages.count f ≡ false
      → row_in (r ∷ rs) f ≡ row_in rs f
  off-run r rs f h = rw h refl

  none-before : (rs : List (Run Row)) (f at : ℕ)
      → StartsFrom at rs
      → IsCoarsest advance_row rs
      → f < at
      → is_pool_of v (row_in rs f).usage ≡ false
  none-before [] f at from c less = refl
  none-before (r ∷ rs) f at from c less =
      ap (λ (x : Row). is_pool_of v x.usage) (off-run r rs f (not-before r.pages.first.0 r.pages.count f (omega arith)))
      ∙ none-before rs f (run_end r) (starts-behind r rs c.1) c.2 (omega arith)

  run-kept : (b : Bool) (r : Run Row) (first n : ℕ)
      → is_pool_of v r.value.usage ≡ b
      → filter (λ f. test f && is_pool_of v r.value.usage) (frames_from first n)
      ≡ (if is_pool_of v r.value.usage then filter test (frames_from first n) else [])
  run-kept true r first n h =
      filter-same (λ f. test f && is_pool_of v r.value.usage) test first n (λ f low high. and-yes (test f) _ h)
      ∙ sym (if-true (is_pool_of v r.value.usage) (filter test (frames_from first n)) [] h)
  run-kept false r first n h =
      none-kept (λ f. test f && is_pool_of v r.value.usage) first n (λ f low high. and-no (test f) _ h)
      ∙ sym (if-false (is_pool_of v r.value.usage) (filter test (frames_from first n)) [] h)

  -- the run's frames below the end, if it begins behind it or not
  below-end : (r : Run Row) (end : ℕ)
      → frames_from (min r.pages.first.0 end) (min (run_end r) end - min r.pages.first.0 end)
      ≡ frames_from r.pages.first.0 (min (run_end r) end - r.pages.first.0)
  below-end r end = by_lt r.pages.first.0 end
      (λ less. let e : min r.pages.first.0 end ≡ r.pages.first.0 = grind arith in
      ap (λ k. frames_from k (min (run_end r) end - k)) e)
      (λ more. let none : min (run_end r) end - min r.pages.first.0 end ≡ 0 = grind arith in
      let also : min (run_end r) end - r.pages.first.0 ≡ 0 = grind arith in
      ap (frames_from (min r.pages.first.0 end)) none ∙ sym (ap (frames_from r.pages.first.0) also))

  all-kept : (rs : List (Run Row)) (at end : ℕ)
      → StartsFrom at rs
      → IsCoarsest advance_row rs
      → at ≤ end
      → flat_map (run_frames test v end) rs ≡ filter (kept rs) (frames_from at (end - at))
  all-kept [] at end from c less =
      sym (none-kept (kept []) at (end - at) (λ f low high. and-no (test f) false refl))
  all-kept (r ∷ rs) at end from c less =
      let a = min r.pages.first.0 end in
      let e = min (run_end r) end in
      let first : at ≤ a = grind arith in
      let next : a ≤ e = grind arith in
      let last : e ≤ end = grind arith in
      let all : end - at ≡ (a - at) + ((e - a) + (end - e)) = omega arith in
      let to-a : at + (a - at) ≡ a = omega arith in
      let to-e : a + (e - a) ≡ e = omega arith in
      let split : frames_from at (end - at)
      ≡ frames_from at (a - at) ++ (frames_from a (e - a) ++ frames_from e (end - e)) =
      ap (frames_from at) all ∙ frames-split at (a - at) ((e - a) + (end - e))
      ∙ ap (λ k. frames_from at (a - at) ++ frames_from k ((e - a) + (end - e))) to-a
      ∙ ap (λ fs. frames_from at (a - at) ++ fs)
      (frames-split a (e - a) (end - e) ∙ ap (λ k. frames_from a (e - a) ++ frames_from k (end - e)) to-e) in
      let before : filter (kept (r ∷ rs)) (frames_from at (a - at)) ≡ [] =
      none-kept (kept (r ∷ rs)) at (a - at)
      (λ f low high. and-no (test f) _ (none-before (r ∷ rs) f r.pages.first.0 (omega arith) c (grind arith))) in
      let own : filter (kept (r ∷ rs)) (frames_from a (e - a)) ≡ run_frames test v end r =
      filter-same (kept (r ∷ rs)) (λ f. test f && is_pool_of v r.value.usage) a (e - a)
      (λ f low high. ap (λ b. test f && b)
      (on-run r rs f (is-within r.pages.first.0 r.pages.count f (grind arith) (grind arith))))
      ∙ run-kept (is_pool_of v r.value.usage) r a (e - a) refl
      ∙ ap (λ fs. if is_pool_of v r.value.usage then filter test fs else []) (below-end r end) in
      let behind : filter (kept (r ∷ rs)) (frames_from e (end - e)) ≡ flat_map (run_frames test v end) rs =
      filter-same (kept (r ∷ rs)) (kept rs) e (end - e)
      (λ f low high. ap (λ (x : Row). test f && is_pool_of v x.usage)
      (off-run r rs f (not-behind r.pages.first.0 r.pages.count f (grind arith))))
      ∙ sym (all-kept rs e end (starts-later e (run_end r) rs (grind arith) (starts-behind r rs c.1)) c.2 last) in
      sym
      (ap (filter (kept (r ∷ rs))) split
      ∙ filter-append (kept (r ∷ rs)) (frames_from at (a - at)) (frames_from a (e - a) ++ frames_from e (end - e))
      ∙ same2 (λ xs ys. xs ++ ys) before
      (filter-append (kept (r ∷ rs)) (frames_from a (e - a)) (frames_from e (end - e))
      ∙ same2 (λ xs ys. xs ++ ys) own behind))

starts-first : (rs : List (Run Row)) → StartsFrom 0 rs
starts-first [] = tt
starts-first (r ∷ rs) = omega arith

pub all-frames : (test : ℕ → Bool) (v end : ℕ) (rs : List (Run Row))
    → IsCoarsest advance_row rs
    → flat_map (run_frames test v end) rs
    ≡ filter (λ f. test f && is_pool_of v (row_in rs f).usage) (frames_from 0 end)
all-frames test v end rs c =
    let all : end - 0 ≡ end = omega arith in
    all-kept test v rs 0 end (starts-first rs) c (omega arith)
    ∙ ap (λ n. filter (kept test v rs) (frames_from 0 n)) all

-- frames that a loop puts one after the other

next-frame : (p : ℕ → Bool) (first i : ℕ)
    → filter p (frames_from first (i + 1))
    ≡ filter p (frames_from first i) ++ cond (p (first + i)) ((first + i) ∷ []) []
next-frame p first i =
    ap (filter p) (sym (frames_more first i)) ∙ filter-append p (frames_from first i) ((first + i) ∷ [])

pub next-taken : (p : ℕ → Bool) (first i : ℕ) (out more : List ℕ)
    → out ≡ filter p (frames_from first i)
    → p (first + i) ≡ true
    → more ≡ out ++ (first + i) ∷ []
    → more ≡ filter p (frames_from first (i + 1))
next-taken p first i out more so h e =
    e ∙ ap (λ fs. fs ++ (first + i) ∷ []) so
    ∙ sym (next-frame p first i ∙ ap (λ b. filter p (frames_from first i) ++ cond b ((first + i) ∷ []) []) h)

pub next-left : (p : ℕ → Bool) (first i : ℕ) (out more : List ℕ)
    → out ≡ filter p (frames_from first i)
    → p (first + i) ≡ false
    → more ≡ out
    → more ≡ filter p (frames_from first (i + 1))
next-left p first i out more so h e =
    e ∙ so ∙ sym (append-nil (filter p (frames_from first i)))
    ∙ sym (next-frame p first i ∙ ap (λ b. filter p (frames_from first i) ++ cond b ((first + i) ∷ []) []) h)

pub next-run : (f : Run Row → List ℕ) (rs : List (Run Row)) (i : ℕ) (r : Run Row) (out all more : List ℕ)
    → i < length rs
    → out ≡ flat_map f (take i rs)
    → more ≡ f (get_or rs i r)
    → all ≡ out ++ more
    → all ≡ flat_map f (take (i + 1) rs)
next-run f rs i r out all more less so one both =
    both ∙ same2 (λ xs ys. xs ++ ys) so (one ∙ sym (append-nil (f (get_or rs i r))))
    ∙ sym (flat_map-append f (take i rs) (get_or rs i r ∷ [])) ∙ ap (flat_map f) (sym (take_more rs i r less))
