-- Pieces of frames, and the row that four lists tell.
use Rattle.std.proofs.Common.{◌≡◌, ℕ, zero, suc, ◌+◌, ◌-◌, ◌^◌, ◌<◌, ◌≤◌, Bool, true, false, cond, List, [], ◌∷◌, take, drop, length, get_or, Option, Some, None, refl, sym, ap, subst, ◌∙◌, arith}
use Rattle.std.proofs.lemmas.List.{drop_all, drop_more, get_or_default}
use Rattle.std.specs.Option.{option_or}
use Rattle.std.specs.Prelude.{if◌then◌else◌}
use Rattle.page_state.specs.declared.layout.Region.{Region}
use Rattle.page_state.specs.declared.row.Lent.{Lent}
use Rattle.page_state.specs.declared.row.Row.{Row}
use Rattle.page_state.specs.LayoutFaults.{IsAccepted}
use Rattle.page_state.specs.Map.{is_within}
use Rattle.page_state.specs.Regions.{Memory, find_region, has_memory, is_in_range, is_memory_kind, is_memory_region}
use Rattle.page_state.specs.Rows.{advance_row, HasLentBelow, HasPageBelow}
use Rattle.page_state.proofs.Accepted.{memory_below}
use Rattle.page_state.proofs.Cases.{by_test, by_lt}
use Rattle.page_state.proofs.Common.{same-tests}
use Rattle.page_state.proofs.Updates.{within_test}
use Rattle.run_list.specs.declared.run.Run.{Run}
use Rattle.run_list.specs.OwnerRows.{row_laws}
use Rattle.run_list.specs.Parts.{IsEndedAt, EndsFrom}
use Rattle.run_list.specs.Runs.{run_end, run_map, map_updated, option_advance, value_on, EndBefore, IsCoarsest, AreInReach}
use Rattle.run_list.proofs.Found.{reach_at, ended_at, starts_drop}
use Rattle.run_list.proofs.Maps.{ends_later, none_low, run_high, run_in}
use Rattle.ghost_trees.proofs.Overlaid.{within_means}
use Rattle.ghost_rows.specs.declared.rows.pieces.Lists.{Lists}
use Rattle.ghost_rows.specs.declared.rows.pieces.Stand.{Stand}
use Rattle.ghost_rows.specs.declared.rows.pieces.Stands.{Stands}
use Rattle.ghost_rows.specs.ListedRows.{lent_told, HasNoBound, IsStanding, IsCarried, AreStanding, AreCarried}
use Rattle.ghost_spec.proofs.RowsKept.{small-map}

-- a range that has no row
pub none-laid : (first count : ℕ) (memory : Bool) (m : ℕ → Option Row) (row : Row) (f : ℕ) → memory ≡ false
    → map_updated advance_row m first count None f
    ≡ (if is_within first count f then (if memory then Some row else None) else m f)
none-laid first count memory m row f h = rw h refl

-- and one whose rows are written over others
pub memory-over : (inside memory : Bool) (row : Row) (found before : Option Row)
    → memory ≡ true
    → found ≡ (if inside then Some row else None)
    → option_or found before ≡ (if inside then (if memory then Some row else None) else before)
memory-over true memory row found before m e = rw (m, e) refl
memory-over false memory row found before m e = rw e refl

-- loans stay small along a piece

last-lent : (l : Option Lent) (r : Row) (n : ℕ)
    → r.lent ≡ l
    → 0 < n
    → HasPageBelow (advance_row r (n - 1)) 1
    → HasPageBelow r n
last-lent None r n e h k = rw e tt
last-lent (Some l) r n e h k = let w = rw e at k in rw e (omega (arith, h, w))

pub small-piece : (rs : List (Run Row)) (low high : ℕ) → AreInReach HasPageBelow rs → low < high
    → run_map advance_row rs (high - 1) ≡ option_advance advance_row (run_map advance_row rs low) (high - 1 - low)
    → HasLentBelow (lent_told (run_map advance_row rs low)) (high - low)
small-piece rs low high reach less on = by_option (run_map advance_row rs low) refl
  where
    by_option : (o : Option Row) → run_map advance_row rs low ≡ o → HasLentBelow (lent_told o) (high - low)
    by_option None e = tt
    by_option (Some r) e =
        let n : high - 1 - low ≡ high - low - 1 = omega (arith, less) in
        let there : run_map advance_row rs (high - 1) ≡ Some (advance_row r (high - low - 1)) =
        on ∙ ap (λ o. option_advance advance_row o (high - 1 - low)) e ∙ ap (λ (k : ℕ). Some (advance_row r k)) n in
        last-lent r.lent r (high - low) refl (omega (arith, less))
        (small-map rs reach (high - 1) (advance_row r (high - low - 1)) there).1

-- a list goes on as it does at a frame

run-on : (r : Run Row) (rest : List (Run Row)) (low high f : ℕ)
    → IsCoarsest advance_row (r ∷ rest)
    → low < run_end r
    → HasNoBound low high r
    → low ≤ f
    → f < high
    → run_map advance_row (r ∷ rest) f ≡ option_advance advance_row (run_map advance_row (r ∷ rest) low) (f - low)
run-on r rest low high f c more none a b =
    let begins = none.begins in
    let ends = none.ends in
    by_lt low r.pages.first.0
    (λ h. let high_low : high ≤ r.pages.first.0 =
    by_lt r.pages.first.0 high (λ k. let x = begins k in absurd (omega (arith, x, h))) (λ k. k) in
    none_low advance_row r.pages.first.0 f (r ∷ rest) c (omega arith) (omega (arith, b, high_low))
    ∙ sym
    (ap (λ (o : Option Row). option_advance advance_row o (f - low))
    (none_low advance_row r.pages.first.0 low (r ∷ rest) c (omega arith) h)))
    (λ h. let within : high ≤ run_end r =
    by_lt (run_end r) high (λ k. let x = ends k in absurd (omega (arith, x, more))) (λ k. k) in
    let offset : low - r.pages.first.0 + (f - low) ≡ f - r.pages.first.0 = omega (arith, a, h) in
    run_in advance_row r rest f (omega (arith, a, h)) (omega (arith, b, within))
    ∙ sym (ap (λ (o : Option Row). option_advance advance_row o (f - low)) (run_in advance_row r rest low h more)
    ∙ ap Some (row_laws.more r.value (low - r.pages.first.0) (f - low) ∙ ap (λ (n : ℕ). advance_row r.value n) offset)))

pub skipped : (q i : ℕ) (rs : List (Run Row)) (f : ℕ)
    → EndBefore q (take i rs)
    → q ≤ f + 1
    → run_map advance_row rs f ≡ run_map advance_row (drop i rs) f
skipped q zero rs f e h = refl
skipped q (suc i) [] f e h = refl
skipped q (suc i) (r ∷ rs) f e h = run_high advance_row r rs f (omega (arith, e.0, h)) ∙ skipped q i rs f e.1 h

pub from_place : (i : ℕ) (rs : List (Run Row)) → IsCoarsest advance_row rs → IsCoarsest advance_row (drop i rs)
from_place zero rs c = c
from_place (suc i) [] c = tt
from_place (suc i) (r ∷ rs) c = from_place i rs c.2

module _ (rs : List (Run Row)) (low place f : ℕ) (at : IsEndedAt (low + 1) place rs) (a : low ≤ f) where
  both-skipped : run_map advance_row (drop place rs) f
      ≡ option_advance advance_row (run_map advance_row (drop place rs) low) (f - low)
      → run_map advance_row rs f ≡ option_advance advance_row (run_map advance_row rs low) (f - low)
  both-skipped h =
      skipped (low + 1) place rs f at.front (omega (arith, a)) ∙ h
      ∙ ap (λ (o : Option Row). option_advance advance_row o (f - low))
      (sym (skipped (low + 1) place rs low at.front (omega arith)))

  pub behind-all : length rs ≤ place
      → run_map advance_row rs f ≡ option_advance advance_row (run_map advance_row rs low) (f - low)
  behind-all h =
      both-skipped
      (ap (λ (ss : List (Run Row)). run_map advance_row ss f) none
      ∙ ap (λ (ss : List (Run Row)). option_advance advance_row (run_map advance_row ss low) (f - low))
      (sym none))
    where
      none : drop place rs ≡ []
      none = drop_all place rs h

  pub goes-on : (high : ℕ) (d : Run Row)
      → IsCoarsest advance_row rs
      → place < length rs
      → HasNoBound low high (get_or rs place d)
      → f < high
      → run_map advance_row rs f ≡ option_advance advance_row (run_map advance_row rs low) (f - low)
  goes-on high d c less none b =
      let r : Run Row = get_or rs place d in
      let split : drop place rs ≡ r ∷ drop (place + 1) rs = drop_more rs place d less in
      let end : low + 1 ≤ run_end r = ended_at (low + 1) place rs d at.back less in
      both-skipped
      (subst
      (λ (ss : List (Run Row)). run_map advance_row ss f
      ≡ option_advance advance_row (run_map advance_row ss low) (f - low))
      (sym split)
      (run-on r (drop (place + 1) rs) low high f
      (subst (λ (ss : List (Run Row)). IsCoarsest advance_row ss) split (from_place place rs c))
      (omega (arith, end)) none a b))

-- the row of a frame at its place
module _ (rs : List (Run Row)) (f place : ℕ) (at : IsEndedAt (f + 1) place rs) where
  from_there : run_map advance_row rs f ≡ run_map advance_row (drop place rs) f
  from_there = skipped (f + 1) place rs f at.front (omega arith)

  pub none-behind : length rs ≤ place → run_map advance_row rs f ≡ None
  none-behind h = from_there ∙ ap (λ (ss : List (Run Row)). run_map advance_row ss f) (drop_all place rs h)

  module _ (less : place < length rs) (d : Run Row) where
    pub none-before : IsCoarsest advance_row rs
        → f < (get_or rs place d).pages.first.0
        → run_map advance_row rs f ≡ None
    none-before c h =
        from_there
        ∙ none_low advance_row (get_or rs place d).pages.first.0 f (drop place rs) (from_place place rs c)
        (starts_drop (get_or rs place d).pages.first.0 place rs d (λ k. omega arith)) h

    ends-behind : f < run_end (get_or rs place d)
    ends-behind = let e = ended_at (f + 1) place rs d at.back less in omega (arith, e)

    pub in-reach : AreInReach HasPageBelow rs
        → (get_or rs place d).pages.first.0 ≤ f
        → HasPageBelow (get_or rs place d).value (f - (get_or rs place d).pages.first.0)
    in-reach w h =
        row_laws.shorter (get_or rs place d).value (f - (get_or rs place d).pages.first.0)
        (get_or rs place d).pages.count (omega (arith, ends-behind, h))
        (reach_at HasPageBelow place rs d w less).values

    pub row-there : (get_or rs place d).pages.first.0 ≤ f
        → run_map advance_row rs f ≡ Some (value_on advance_row (get_or rs place d) f)
    row-there h =
        from_there ∙ ap (λ (ss : List (Run Row)). run_map advance_row ss f) (drop_more rs place d less)
        ∙ run_in advance_row (get_or rs place d) (drop (place + 1) rs) f h ends-behind

-- places that move on

pub one-more : (q i : ℕ) (rs : List (Run Row)) (d : Run Row)
    → EndBefore q (take i rs)
    → i < length rs
    → run_end (get_or rs i d) < q
    → EndBefore q (take (suc i) rs)
one-more q i [] d e h k = absurd (omega arith)
one-more q zero (r ∷ rs) d e h k = (k, tt)
one-more q (suc i) (r ∷ rs) d e h k = (e.0, one-more q i rs d e.1 (omega arith) k)

-- where a list stands

ends_drop : (q i : ℕ) (rs : List (Run Row))
    → ((d : Run Row) → i < length rs → q ≤ run_end (get_or rs i d))
    → EndsFrom q (drop i rs)
ends_drop q zero [] h = tt
ends_drop q (suc i) [] h = tt
ends_drop q zero (r ∷ rs) h = h r (omega arith)
ends_drop q (suc i) (r ∷ rs) h = ends_drop q i rs (λ d less. h d (omega (arith, less)))

carried-on : {a b : ℕ} {s : Stand} {rs : List (Run Row)} → a ≤ b → IsStanding a s rs → IsCarried b s rs
carried-on {a} {b} {s} {rs} h here = record {
  near = record { within = here.at.within; front = front };
  stays = λ less. record {
    at = record {
      within = here.at.within;
      front = front;
      back = ends_drop (b + 1) s.place rs (λ d k. let end = ended_at (a + 1) s.place rs d here.at.back k in
          let none = (here.bound d k).ends in
          by_lt (run_end (get_or rs s.place d)) s.until (λ x. let y = none x in absurd (omega (arith, y, end)))
          (λ x. omega (arith, less, x)));
    };
    more = less;
    bound = λ d k. let none = here.bound d k in
        let begins = none.begins in
        let ends = none.ends in
        record {
          begins = λ x. let y = begins x in omega (arith, y, h);
          ends = λ x. let y = ends x in omega (arith, y, h);
        };
    inside = here.inside;
    begun = λ t d. let y = here.begun t d in omega (arith, y, h);
    outside = λ t d k. let past = here.outside t d k in
        let none = (here.bound d k).begins in
        by_lt (get_or rs s.place d).pages.first.0 s.until (λ x. let y = none x in absurd (omega (arith, y, past)))
        (λ x. omega (arith, less, x));
  };
}
  where
    front : EndBefore (b + 1) (take s.place rs)
    front = ends_later (a + 1) (b + 1) (take s.place rs) (omega (arith, h)) here.at.front

-- where a list goes on so far as a frame, from one before it
pub carried-later : {a b : ℕ} {s : Stand} {rs : List (Run Row)} → a ≤ b → IsCarried a s rs → IsCarried b s rs
carried-later {a} {b} {s} {rs} h c = record {
  near =
      record {
        within = c.near.within;
        front = ends_later (a + 1) (b + 1) (take s.place rs) (omega (arith, h)) c.near.front;
      };
  stays = λ less. (carried-on h (c.stays (omega (arith, h, less)))).stays less;
}

pub all-later : (a b : ℕ) (s : Stands) (x : Lists) → a ≤ b → AreCarried a s x → AreCarried b s x
all-later a b s x h c =
    record {
      annotated = carried-later h c.annotated;
      lent = carried-later h c.lent;
      shared = carried-later h c.shared;
      used = carried-later h c.used;
    }

pub all-carried : (a b : ℕ) (s : Stands) (x : Lists) → a ≤ b → AreStanding a s x → AreCarried b s x
all-carried a b s x h here =
    record {
      annotated = carried-on h here.annotated;
      lent = carried-on h here.lent;
      shared = carried-on h here.shared;
      used = carried-on h here.used;
    }

module _ (rs : List (Run Row)) (frame place : ℕ) (at : IsEndedAt (frame + 1) place rs) where
  differ : {P : Type 0} → false ≡ true → P
  differ h = cc

  other : {P : Type 0} → true ≡ false → P
  other h = cc

  pub stand-behind : (until : ℕ)
      → length rs ≤ place
      → frame < until
      → IsStanding frame (record { place = place; inside = false; until = until }) rs
  stand-behind until h more = record {
    at = at;
    more = more;
    bound = λ d k. absurd (omega (arith, h, k));
    inside = λ t. differ t;
    begun = λ t. differ t;
    outside = λ t d k. absurd (omega (arith, h, k));
  }

  module _ (less : place < length rs) (d : Run Row) where
    any : (P : Run Row → Type 0) → P (get_or rs place d) → (e : Run Row) → P (get_or rs place e)
    any P h e = subst P (get_or_default rs place d e less) h

    pub stand-before : frame < (get_or rs place d).pages.first.0
        → IsStanding frame (record { place = place; inside = false; until = (get_or rs place d).pages.first.0 }) rs
    stand-before h = record {
      at = at;
      more = h;
      bound =
          λ e k. any (λ (r : Run Row). HasNoBound frame (get_or rs place d).pages.first.0 r)
          (record { begins = λ x. absurd (omega (arith, x)); ends = λ x. absurd (omega (arith, x)) }) e;
      inside = λ t. differ t;
      begun = λ t. differ t;
      outside = λ t e k. any (λ (r : Run Row). frame < r.pages.first.0) h e;
    }

    pub stand-inside : (get_or rs place d).pages.first.0 ≤ frame
        → IsStanding frame (record { place = place; inside = true; until = run_end (get_or rs place d) }) rs
    stand-inside h =
        let end = ended_at (frame + 1) place rs d at.back less in
        record {
          at = at;
          more = omega (arith, end);
          bound =
              λ e k. any (λ (r : Run Row). HasNoBound frame (run_end (get_or rs place d)) r)
              (record { begins = λ x. h; ends = λ x. absurd (omega (arith, x)) }) e;
          inside = λ t. less;
          begun = λ t e. any (λ (r : Run Row). r.pages.first.0 ≤ frame) h e;
          outside = λ t. other t;
        }

-- a list goes on so, and has no row where it stands between two runs

pub stand-on : (rs : List (Run Row)) (low f : ℕ) (s : Stand)
    → IsCoarsest advance_row rs
    → IsStanding low s rs
    → low ≤ f
    → f < s.until
    → run_map advance_row rs f ≡ option_advance advance_row (run_map advance_row rs low) (f - low)
stand-on [] low f s c here a b = refl
stand-on (r ∷ rs) low f s c here a b = by_lt s.place (length (r ∷ rs))
    (λ k. goes-on (r ∷ rs) low s.place f here.at a s.until r c k (here.bound r k) b)
    (λ k. behind-all (r ∷ rs) low s.place f here.at a k)

pub stand-none : (rs : List (Run Row)) (f : ℕ) (s : Stand)
    → IsCoarsest advance_row rs
    → IsStanding f s rs
    → s.inside ≡ false
    → run_map advance_row rs f ≡ None
stand-none [] f s c here t = refl
stand-none (r ∷ rs) f s c here t = by_lt s.place (length (r ∷ rs))
    (λ k. none-before (r ∷ rs) f s.place here.at k r c (here.outside t r k))
    (λ k. none-behind (r ∷ rs) f s.place here.at k)

-- one piece more of a range
pub piece-more : (first low high f : ℕ) (m n before : ℕ → Option Row) (row : ℕ → Row) → first ≤ low → low < high
    → ((g : ℕ) → low ≤ g → g < high → row g ≡ advance_row (row low) (g - low))
    → ((g : ℕ) → m g ≡ (if is_within first (low - first) g then Some (row g) else before g))
    → n ≡ map_updated advance_row m low (high - low) (Some (row low))
    → n f ≡ (if is_within first (high - first) f then Some (row f) else before f)
piece-more first low high f m n before row a b on same e =
    ap (λ (g : ℕ → Option Row). g f) e ∙ by_test (is_within low (high - low) f)
    (λ t. let w = within_means low (high - low) f t in
    rw (t, within_test first (high - first) f (omega (arith, a, w.0)) (omega (arith, a, b, w.0, w.1)))
    (ap Some (sym (on f w.0 (omega (arith, b, w.1))))))
    (λ t. let agree : is_within first (low - first) f ≡ is_within first (high - first) f =
    same-tests (is_within first (low - first) f) (is_within first (high - first) f)
    (λ h. let w = within_means first (low - first) f h in
    within_test first (high - first) f w.0 (omega (arith, a, b, w.1)))
    (λ h. let w = within_means first (high - first) f h in
    by_test (is_within first (low - first) f) (λ k. k)
    (λ k. let past : low ≤ f =
    by_low f
    (λ x. let c : true ≡ false = sym (within_test first (low - first) f w.0 (omega (arith, x))) ∙ k in
    absurd (differ c)) in
    let c : true ≡ false = sym (within_test low (high - low) f past (omega (arith, past, w.1))) ∙ t in
    absurd (differ c))) in
    rw t (same f ∙ rw agree refl))
  where
    differ : true ≡ false → ⊥
    differ c = cc

    by_low : (g : ℕ) → (g < low → ⊥) → low ≤ g
    by_low g h = omega (arith, h)

-- the row of a frame in a region, where that is one of memory
abbrev pub memory_row : Option Region → Row → Option Row
memory_row region row = elim (is_memory_region region) [ true ↦ Some row | false ↦ None ]

-- rows of memory frames alone
pub memory-rows : (m : Memory) (f : ℕ) (o : Option Row) (row other : Row)
    → IsAccepted m
    → o ≡ (elim (has_memory m f) [ true ↦ Some row | false ↦ None ])
    → (f < 2 ^ 26 → row ≡ other)
    → o ≡ (elim (has_memory m f) [ true ↦ Some other | false ↦ None ])
memory-rows m f o row other a e same = by_test (has_memory m f)
    (λ t. let some : o ≡ Some row = rw t at e in rw t (some ∙ ap Some (same (memory_below m f a t))))
    (λ t. let none : o ≡ None = rw t at e in rw t none)

kind-row : (k : Bool) (row : Row) → (if k then Some row else None) ≡ (elim k [ true ↦ Some row | false ↦ None ])
kind-row true row = refl
kind-row false row = refl

region-row : (inside : Bool) (r : Region) (found : Option Region) (row : Row) (old : Option Row)
    → old ≡ memory_row found row
    → (if inside then (if is_memory_kind r.kind then Some row else None) else old)
    ≡ memory_row (cond inside (Some r) found) row
region-row true r found row old h = kind-row (is_memory_kind r.kind) row
region-row false r found row old h = h

-- the regions from one more on
pub regions-more : (regions : List Region) (i : ℕ) (d : Region) (f : ℕ) (row : Row) (new old : Option Row)
    → 0 < i
    → i ≤ length regions
    → new
    ≡ (if is_in_range (get_or regions (i - 1) d).pages f
    then (if is_memory_kind (get_or regions (i - 1) d).kind then Some row else None)
    else old)
    → old ≡ memory_row (find_region (drop i regions) f) row
    → new ≡ memory_row (find_region (drop (i - 1) regions) f) row
regions-more regions i d f row new old some within e same =
    let r : Region = get_or regions (i - 1) d in
    let next : i ≡ i - 1 + 1 = omega arith in
    let behind : old ≡ memory_row (find_region (drop (i - 1 + 1) regions) f) row =
    same ∙ ap (λ (j : ℕ). memory_row (find_region (drop j regions) f) row) next in
    let here : (if is_in_range r.pages f then (if is_memory_kind r.kind then Some row else None) else old) ≡ memory_row (find_region (r ∷ drop (i - 1 + 1) regions) f) row =
    region-row (is_in_range r.pages f) r (find_region (drop (i - 1 + 1) regions) f) row old behind in
    e ∙ here
    ∙ sym (ap (λ (rs : List Region). memory_row (find_region rs f) row) (drop_more regions (i - 1) d (omega arith)))
