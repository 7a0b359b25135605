-- The frames that have a row after all regions were gone over are the memory frames.
use Rattle.std.proofs.Common.{◌≡◌, ℕ, suc, Bool, true, false, ◌&&◌, ◌||◌, List, [], ◌∷◌, All, Option, Some, None, refl, sym, ap, ◌∙◌, arith}
use Rattle.std.specs.Prelude.{AllPairs, if◌then◌else◌}
use Rattle.std.specs.List.{list_any}
use Rattle.page_state.specs.declared.entry.PageRange.{PageRange}
use Rattle.page_state.specs.declared.layout.Region.{Region}
use Rattle.page_state.specs.declared.row.Row.{Row}
use Rattle.page_state.specs.LayoutFaults.{AreDisjoint, IsAccepted}
use Rattle.page_state.specs.Regions.{Memory, find_region, is_in_range, has_memory, is_memory_kind, is_memory_region}
use Rattle.page_state.specs.Rows.{plain_row}
use Rattle.page_state.proofs.Common.{not-holds}
use Rattle.owner_table.specs.Filling.{filled, filled_all}
use Rattle.owner_table.specs.Rows.{rows_set}

-- a region is one of memory and holds the frame
abbrev gives : ℕ → Region → Bool
gives f r = is_memory_kind r.kind && is_in_range r.pages f

-- what one region gives, and what all of them give

at_both : (a b : Bool) (u m : ℕ → Option Row) (f : ℕ)
    → u f ≡ (if b then Some plain_row else m f)
    → (if a then u else m) f ≡ (if a && b then Some plain_row else m f)
at_both true b u m f e = e
at_both false b u m f e = refl

filled-at : (r : Region) (m : ℕ → Option Row) (f : ℕ) → filled r m f ≡ (if gives f r then Some plain_row else m f)
filled-at r m f = at_both (is_memory_kind r.kind) (is_in_range r.pages f) (rows_set m r.pages plain_row) m f refl

either : (a b : Bool) (p x y : Option Row) → y ≡ (if a then p else x) → (if b then p else y) ≡ (if a || b then p else x)
either true true p x y e = refl
either true false p x y e = e
either false true p x y e = refl
either false false p x y e = e

filled_all-at : (rs : List Region) (m : ℕ → Option Row) (f : ℕ)
    → filled_all rs m f ≡ (if list_any (gives f) rs then Some plain_row else m f)
filled_all-at [] m f = refl
filled_all-at (r ∷ rs) m f =
    filled_all-at rs (filled r m) f
    ∙ either (gives f r) (list_any (gives f) rs) (Some plain_row) (m f) (filled r m f) (filled-at r m f)

-- some region gives a row just where the first that holds the frame is one of memory

keeps : (kind rest : Bool) → rest ≡ false → kind ≡ ((kind && true) || rest)
keeps true rest e = refl
keeps false rest e = sym e

loses : (kind rest : Bool) → rest ≡ ((kind && false) || rest)
loses true rest = refl
loses false rest = refl

neither : (kind held rest : Bool) → held ≡ false → rest ≡ false → ((kind && held) || rest) ≡ false
neither true held rest e k = rw (e, k) refl
neither false held rest e k = k

first_counts : (r : Region) (found : Option Region) (held rest : Bool)
    → (held ≡ true → rest ≡ false)
    → is_memory_region found ≡ rest
    → is_memory_region (if held then Some r else found) ≡ ((is_memory_kind r.kind && held) || rest)
first_counts r found true rest none same = keeps (is_memory_kind r.kind) rest (none refl)
first_counts r found false rest none same = same ∙ loses (is_memory_kind r.kind) rest

apart-none : (range : PageRange) (rs : List Region)
    → All (λ s. AreDisjoint range s.pages) rs
    → (f : ℕ)
    → is_in_range range f ≡ true
    → list_any (gives f) rs ≡ false
apart-none range [] all f h = refl
apart-none range (s ∷ rs) all f h =
    let here : is_in_range s.pages f ≡ false = not-holds (is_in_range s.pages f) (λ t. all 0 s (omega arith) f h t) in
    neither (is_memory_kind s.kind) (is_in_range s.pages f) (list_any (gives f) rs) here
    (apart-none range rs (λ k d l. all (suc k) d (omega arith)) f h)

memory-any : (rs : List Region)
    → AllPairs (λ r s. AreDisjoint r.pages s.pages) rs
    → (f : ℕ)
    → is_memory_region (find_region rs f) ≡ list_any (gives f) rs
memory-any [] pairs f = refl
memory-any (r ∷ rs) pairs f =
    first_counts r (find_region rs f) (is_in_range r.pages f) (list_any (gives f) rs)
    (apart-none r.pages rs (λ k d l. pairs 0 (suc k) d (omega arith) (omega arith)) f)
    (memory-any rs (λ i j d below l. pairs (suc i) (suc j) d (omega arith) (omega arith)) f)

pub filled-memory : (m : Memory)
    → IsAccepted m
    → (f : ℕ)
    → filled_all m.regions (λ _. None) f ≡ (if has_memory m f then Some plain_row else None)
filled-memory m a f =
    filled_all-at m.regions (λ _. None) f
    ∙ ap (λ b. if b then Some plain_row else None) (sym (memory-any m.regions a.disjoint f))
