-- Room while the regions' frames get their rows.
use Rattle.std.proofs.Common.{◌≡◌, ℕ, zero, suc, ◌+◌, ◌-◌, ◌<◌, ◌≤◌, Bool, true, false, List, [], ◌∷◌, length, drop, get_or, min, Option, Some, None, refl, sym, ap, subst, ◌∙◌, arith}
use Rattle.std.specs.Prelude.{if◌then◌else◌}
use Rattle.std.proofs.lemmas.Bool.Decides.{nat_tests}
use Rattle.std.proofs.lemmas.List.{drop_more}
use Rattle.std.proofs.lemmas.List.Sums.{sum_by-drop_more}
use Rattle.page_state.specs.declared.entry.PageRange.{PageRange}
use Rattle.page_state.specs.declared.layout.Region.{Region}
use Rattle.page_state.specs.declared.row.Row.{Row}
use Rattle.page_state.specs.Regions.{end_of, is_in_range, is_memory_kind, memory_pages}
use Rattle.page_state.specs.Rows.{advance_row, plain_row}
use Rattle.page_state.proofs.Cases.{by_test}
use Rattle.run_list.specs.declared.run.Run.{Run}
use Rattle.run_list.specs.Counts.{one_of, pages_of}
use Rattle.run_list.specs.Runs.{IsCoarsest}
use Rattle.run_list.proofs.Counts.{runs_no_more}
use Rattle.owner_table.specs.Filling.{filled, filled_all, IsFilling}
use Rattle.owner_table.specs.Room.{HasRoom}
use Rattle.owner_table.specs.Rows.{row_at, rows_set}
use Rattle.owner_table.proofs.Frames.{inside, set-out}

pub few_filling : (runs : List (Run Row)) (room end : ℕ) (left : List Region) → IsFilling runs room end left → 2 ≤ room
few_filling runs room end left h = let few = runs_no_more advance_row runs end h.coarsest h.outside in
    let e = h.enough in
    omega arith

one-most : (o : Option Row) → one_of o ≤ 1
one-most None = omega arith
one-most (Some r) = omega arith

-- a change gives no more frames a row than its range has
pages-grow : (m : ℕ → Option Row) (frames : PageRange) (row : Row) (n : ℕ)
    → pages_of (rows_set m frames row) n ≤ pages_of m n + min frames.count (n - frames.first.0)
pages-grow m frames row zero = omega arith
pages-grow m frames row (suc n) =
    let more = pages-grow m frames row n in
    let most = one-most (rows_set m frames row n) in
    by_test (is_in_range frames n)
    (λ h. let i = inside frames.first.0 frames.count n h in let a = i.0 in let b = i.1 in omega arith)
    (λ h. let e = ap one_of (set-out m frames row n h) in omega arith)

kind-grows : (memory : Bool) (m : ℕ → Option Row) (frames : PageRange) (n : ℕ)
    → pages_of (if memory then rows_set m frames plain_row else m) n ≤ pages_of m n +
    (if memory then frames.count else 0)
kind-grows true m frames n = let more = pages-grow m frames plain_row n in omega arith
kind-grows false m frames n = omega arith

kind-outside : (memory : Bool) (m : ℕ → Option Row) (frames : PageRange) (f : ℕ)
    → end_of frames ≤ f
    → (if memory then rows_set m frames plain_row else m) f ≡ m f
kind-outside true m frames f h = set-out m frames plain_row f (grind (arith, nat_tests))
kind-outside false m frames f h = refl

pages-none : (n : ℕ) → pages_of (row_at []) n ≡ 0
pages-none zero = refl
pages-none (suc n) = let a = pages-none n in omega arith

pub filling-first : (runs : List (Run Row)) (room end : ℕ) (regions : List Region)
    → runs ≡ []
    → memory_pages regions + 2 ≤ room
    → IsFilling runs room end regions
filling-first runs room end regions e h =
    subst (λ rs. IsFilling rs room end regions) (sym e)
    (record { coarsest = tt; outside = λ f k. refl; enough = let a = pages-none end in omega arith })

pub filling-next : (old new : List (Run Row)) (room left end i : ℕ) (regions : List Region) (x : Region)
    → i < length regions
    → x ≡ get_or regions i x
    → end_of x.pages ≤ end
    → IsFilling old room end (drop i regions)
    → row_at new ≡ filled x (row_at old)
    → IsCoarsest advance_row new
    → left + length new ≡ room + length old
    → IsFilling new left end (drop (i + 1) regions)
filling-next old new room left end i regions x within read ends h e c r =
    let count : Region → ℕ = λ r. if is_memory_kind r.kind then r.pages.count else 0 in
    let grow = kind-grows (is_memory_kind x.kind) (row_at old) x.pages end in
    let same : pages_of (row_at new) end ≡ pages_of (filled x (row_at old)) end = ap (λ m. pages_of m end) e in
    let enough = h.enough in
    let sum : memory_pages (drop i regions) ≡ count x + memory_pages (drop (i + 1) regions) =
    sum_by-drop_more count regions i x within
    ∙ ap (λ y. count y + memory_pages (drop (i + 1) regions)) (sym read) in
    record {
      coarsest = c;
      outside =
          λ f k. ap (λ m. m f) e ∙ kind-outside (is_memory_kind x.kind) (row_at old) x.pages f (omega arith)
          ∙ h.outside f k;
      enough = omega arith;
    }

pub filling-last : (runs : List (Run Row)) (room end : ℕ) (left : List Region)
    → IsFilling runs room end left
    → HasRoom runs room end
filling-last runs room end left h = let e = h.enough in
    record { coarsest = h.coarsest; outside = h.outside; enough = omega arith }

pub filled-next : (m : ℕ → Option Row) (i : ℕ) (regions : List Region) (x : Region)
    → i < length regions
    → x ≡ get_or regions i x
    → filled_all (drop (i + 1) regions) (filled x m) ≡ filled_all (drop i regions) m
filled-next m i regions x within read =
    let e : drop i regions ≡ x ∷ drop (i + 1) regions =
    drop_more regions i x within ∙ ap (λ y. y ∷ drop (i + 1) regions) (sym read) in
    sym (ap (λ rs. filled_all rs m) e)
