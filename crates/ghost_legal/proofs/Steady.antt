-- What lists say of a page by its place, and how it goes on.
use Rattle.std.proofs.Common.{◌≡◌, ℕ, zero, suc, ◌+◌, ◌-◌, ◌^◌, ◌<◌, ◌≤◌, Bool, true, false, List, [], ◌∷◌, length, take, get_or, Option, Some, None, refl, sym, ap, ◌∙◌, arith}
use Rattle.std.specs.Prelude.{All}
use Rattle.std.proofs.lemmas.List.Elements.{All-nil, All-cons, All-head, All-tail}
use Rattle.page_state.specs.declared.entry.Entry.{Entry}
use Rattle.page_state.specs.declared.entry.Entry.TheVariants.{Unmapped}
use Rattle.page_state.specs.declared.entry.PageRange.{PageRange}
use Rattle.page_state.specs.declared.entry.Run.{Run}
use Rattle.page_state.specs.declared.layout.Region.{Region}
use Rattle.page_state.specs.declared.row.Row.{Row}
use Rattle.page_state.specs.declared.row.Lent.{Lent}
use Rattle.page_state.specs.Entries.{advance, entry_of_target}
use Rattle.page_state.specs.Regions.{end_of, is_in_range, find_region}
use Rattle.page_state.specs.Rows.{advance_row, advance_lent, plain_row, HasLentBelow, HasPageBelow}
use Rattle.page_state.specs.Runs.{map_of, entry_on, run_end, IsCoarsest, PrecedesFirst}
use Rattle.page_state.proofs.Cases.{by_test}
use Rattle.page_state.proofs.Entries.{advance-more}
use Rattle.ghost_trees.proofs.Overlaid.{within_means}
use Rattle.run_list.specs.declared.run.Run.{Run as RunOf}
use Rattle.run_list.specs.Runs.{value_on, AreInReach, IsCoarsest as IsCoarsestList, PrecedesFirst as PrecedesFirstOf}
use Rattle.run_list.proofs.Found.{reach_at}
use Rattle.ghost_spec.specs.Views.{row_in}
use Rattle.ghost_legal.specs.declared.finding.Facts.{Facts}
use Rattle.ghost_legal.specs.declared.finding.Holder.{Holder}
use Rattle.ghost_legal.specs.declared.finding.Holder.TheVariants.{SharedPool, VmPool, Table, Hand, Guest}
use Rattle.ghost_legal.specs.declared.held.Held.{Held}
use Rattle.ghost_legal.specs.declared.places.Place.{Place}
use Rattle.ghost_legal.specs.Facts.{later, option_later}
use Rattle.ghost_legal.specs.Frames.{held_frames, held_at, holder_of, holder_on}
use Rattle.ghost_legal.specs.Ranges.{at, AreInOrder, BeginsFrom, IsPlace}
use Rattle.ghost_legal.proofs.InOrder.{at-has, at-inside, at-outside, at-same}

-- runs of maps

abbrev pub run_pages : Run → PageRange
run_pages r = r.pages

abbrev entry_of_run : Option Run → ℕ → Entry
entry_of_run None p = Unmapped
entry_of_run (Some r) p = entry_on r p

map_of-at : (rs : List Run) (p : ℕ) → map_of rs p ≡ entry_of_run (at run_pages rs p) p
map_of-at [] p = refl
map_of-at (r ∷ rs) p = by_test (is_in_range r.pages p) (λ t. rw t refl) (λ t. rw t (map_of-at rs p))

pub runs-in-order : (rs : List Run) → IsCoarsest rs → AreInOrder run_pages rs
runs-in-order [] c = tt
runs-in-order (r ∷ rs) c = (begins rs c.1, runs-in-order rs c.2)
  where
    begins : (rs : List Run) → PrecedesFirst r rs → BeginsFrom run_pages (run_end r) rs
    begins [] h = tt
    begins (n ∷ rs) h = h.before

split-sub : (a p f : ℕ) → a ≤ p → p ≤ f → f - a ≡ (p - a) + (f - p)
split-sub a p f h k = omega arith

module _ (rs : List Run) (page : ℕ) (p : Place) (here : IsPlace run_pages page p rs) where
  pub entry-inside : (d : Run) → p.inside ≡ true → entry_on (get_or rs p.number d) page ≡ map_of rs page
  entry-inside d t =
      sym
      (map_of-at rs page
      ∙ ap (λ o. entry_of_run o page) (at-inside run_pages rs page p here d page t (omega arith) here.above))

  module _ (c : IsCoarsest rs) where
    pub entry-outside : p.inside ≡ false → Unmapped ≡ map_of rs page
    entry-outside t =
        sym
        (map_of-at rs page
        ∙ ap (λ o. entry_of_run o page)
        (at-outside run_pages rs page p here (runs-in-order rs c) page t (omega arith) here.above))

    pub entry-goes-on : (f : ℕ) → page ≤ f → f < p.until → map_of rs f ≡ advance (map_of rs page) (f - page)
    entry-goes-on f a b =
        map_of-at rs f ∙ ap (λ o. entry_of_run o f) (at-same run_pages rs page p here (runs-in-order rs c) f a b)
        ∙ by-found (at run_pages rs page) refl ∙ ap (λ e. advance e (f - page)) (sym (map_of-at rs page))
      where
        by-found : (o : Option Run)
            → at run_pages rs page ≡ o
            → entry_of_run o f ≡ advance (entry_of_run o page) (f - page)
        by-found None e = refl
        by-found (Some r) e =
            let w = within_means r.pages.first.0 r.pages.count page (at-has run_pages rs page r e) in
            ap (advance (entry_of_target r.target)) (split-sub r.pages.first.0 page f w.0 a)
            ∙ sym (advance-more (entry_of_target r.target) (page - r.pages.first.0) (f - page))

-- runs of rows

abbrev pub row_pages : RunOf Row → PageRange
row_pages r = r.pages

abbrev row_of_run : Option (RunOf Row) → ℕ → Row
row_of_run None p = plain_row
row_of_run (Some r) p = value_on advance_row r p

row_in-at : (rs : List (RunOf Row)) (p : ℕ) → row_in rs p ≡ row_of_run (at row_pages rs p) p
row_in-at [] p = refl
row_in-at (r ∷ rs) p = by_test (is_in_range r.pages p) (λ t. rw t refl) (λ t. rw t (row_in-at rs p))

pub rows-in-order : (rs : List (RunOf Row)) → IsCoarsestList advance_row rs → AreInOrder row_pages rs
rows-in-order [] c = tt
rows-in-order (r ∷ rs) c = (begins rs c.1, rows-in-order rs c.2)
  where
    begins : (rs : List (RunOf Row)) → PrecedesFirstOf advance_row r rs → BeginsFrom row_pages (end_of r.pages) rs
    begins [] h = tt
    begins (n ∷ rs) h = h.before

pub small_rows : (rs : List (RunOf Row)) → AreInReach HasPageBelow rs → All (λ r. end_of r.pages ≤ 2 ^ 63) rs
small_rows [] h = All-nil (λ r. end_of r.pages ≤ 2 ^ 63)
small_rows (r ∷ rs) h = All-cons (λ r. end_of r.pages ≤ 2 ^ 63) r rs h.0.pages (small_rows rs h.1)

lent-more : (o : Option Lent) (i j : ℕ) → advance_lent o (i + j) ≡ advance_lent (advance_lent o i) j
lent-more None i j = refl
lent-more (Some l) i j = ap (λ n. Some (record { owner = l.owner; page = n })) (omega arith)

row-more : (r : Row) (i j : ℕ) → advance_row r (i + j) ≡ advance_row (advance_row r i) j
row-more r i j = ap (λ o. record { owner = r.owner; lent = o; usage = r.usage }) (lent-more r.lent i j)

module _ (rs : List (RunOf Row)) (page : ℕ) (p : Place) (here : IsPlace row_pages page p rs) where
  pub row-inside : (d : RunOf Row) → p.inside ≡ true → value_on advance_row (get_or rs p.number d) page ≡ row_in rs page
  row-inside d t =
      sym
      (row_in-at rs page
      ∙ ap (λ o. row_of_run o page) (at-inside row_pages rs page p here d page t (omega arith) here.above))

  module _ (c : IsCoarsestList advance_row rs) where
    pub row-outside : p.inside ≡ false → plain_row ≡ row_in rs page
    row-outside t =
        sym
        (row_in-at rs page
        ∙ ap (λ o. row_of_run o page)
        (at-outside row_pages rs page p here (rows-in-order rs c) page t (omega arith) here.above))

    pub row-goes-on : (f : ℕ) → page ≤ f → f < p.until → row_in rs f ≡ advance_row (row_in rs page) (f - page)
    row-goes-on f a b =
        row_in-at rs f ∙ ap (λ o. row_of_run o f) (at-same row_pages rs page p here (rows-in-order rs c) f a b)
        ∙ by-found (at row_pages rs page) refl ∙ ap (λ e. advance_row e (f - page)) (sym (row_in-at rs page))
      where
        by-found : (o : Option (RunOf Row))
            → at row_pages rs page ≡ o
            → row_of_run o f ≡ advance_row (row_of_run o page) (f - page)
        by-found None e = refl
        by-found (Some r) e =
            let w = within_means r.pages.first.0 r.pages.count page (at-has row_pages rs page r e) in
            ap (advance_row r.value) (split-sub r.pages.first.0 page f w.0 a)
            ∙ row-more r.value (page - r.pages.first.0) (f - page)

shorter : (o : Option Lent) (a b : ℕ) → a ≤ b → HasLentBelow o b → HasLentBelow o a
shorter None a b h k = tt
shorter (Some l) a b h k = omega (arith, h, k)

pub row-reach : (rs : List (RunOf Row)) (page : ℕ) (p : Place)
    → IsPlace row_pages page p rs
    → AreInReach HasPageBelow rs
    → (d : RunOf Row)
    → p.inside ≡ true
    → HasPageBelow (get_or rs p.number d).value (page - (get_or rs p.number d).pages.first.0)
row-reach rs page p here reach d t =
    let i = here.inside t in
    let e = i.1 d in
    let r = get_or rs p.number d in
    let all = reach_at HasPageBelow p.number rs d reach i.0 in
    shorter r.value.lent (page - r.pages.first.0) r.pages.count (omega (arith, e.0, e.1, here.above)) all.values

-- pieces

later-more : (h : Holder) (i j : ℕ) → later h (i + j) ≡ later (later h i) j
later-more SharedPool i j = refl
later-more (VmPool v) i j = refl
later-more (Table at) i j = refl
later-more (Hand c) i j = refl
later-more (Guest slot page state) i j = ap (λ n. Guest slot n state) (omega arith)

module _ (hs : List Held) (page : ℕ) (p : Place) (here : IsPlace held_frames page p hs) where
  pub held-inside : (d : Held) → p.inside ≡ true → Some (holder_on (get_or hs p.number d) page) ≡ held_at hs page
  held-inside d t =
      sym (ap (λ o. holder_of o page) (at-inside held_frames hs page p here d page t (omega arith) here.above))

  module _ (c : AreInOrder held_frames hs) where
    pub held-outside : p.inside ≡ false → None ≡ held_at hs page
    held-outside t =
        sym (ap (λ o. holder_of o page) (at-outside held_frames hs page p here c page t (omega arith) here.above))

    pub held-goes-on : (f : ℕ) → page ≤ f → f < p.until → held_at hs f ≡ option_later (held_at hs page) (f - page)
    held-goes-on f a b =
        ap (λ o. holder_of o f) (at-same held_frames hs page p here c f a b) ∙ by-found (at held_frames hs page) refl
      where
        by-found : (o : Option Held)
            → at held_frames hs page ≡ o
            → holder_of o f ≡ option_later (holder_of o page) (f - page)
        by-found None e = refl
        by-found (Some h) e =
            let w = within_means h.frames.first.0 h.frames.count page (at-has held_frames hs page h e) in
            ap (λ n. Some (later h.holder n)) (split-sub h.frames.first.0 page f w.0 a)
            ∙ ap Some (later-more h.holder (page - h.frames.first.0) (f - page))

-- regions

-- all of the members before the list's end are all
pub all_taken : {X : Type 0} (P : X → Type 0) (xs : List X) (i : ℕ) → length xs ≤ i → All P (take i xs) → All P xs
all_taken P [] i less h = All-nil P
all_taken P (x ∷ xs) zero less h = absurd (omega (arith, less))
all_taken P (x ∷ xs) (suc i) less h =
    All-cons P x xs (All-head P x (take i xs) h) (all_taken P xs i (omega (arith, less)) (All-tail P x (take i xs) h))

pub region-same : (rs : List Region) (f page : ℕ)
    → All (λ r. is_in_range r.pages f ≡ is_in_range r.pages page) rs
    → find_region rs f ≡ find_region rs page
region-same [] f page h = refl
region-same (r ∷ rs) f page h =
    let e : is_in_range r.pages f ≡ is_in_range r.pages page =
    All-head (λ r. is_in_range r.pages f ≡ is_in_range r.pages page) r rs h in
    let more = region-same rs f page (All-tail (λ r. is_in_range r.pages f ≡ is_in_range r.pages page) r rs h) in
    by_test (is_in_range r.pages page)
    (λ t. rw (e ∙ t, t) refl)
    (λ t. rw (e ∙ t, t) more)

-- what all parts say, part by part
pub facts-same : (a b : Facts)
    → a.memory ≡ b.memory
    → a.host ≡ b.host
    → a.hyp ≡ b.hyp
    → a.row ≡ b.row
    → a.holder ≡ b.holder
    → a ≡ b
facts-same a b m h y r o = made a.memory b.memory a.host b.host a.hyp b.hyp a.row b.row a.holder b.holder m h y r o
  where
    made : (m n : Bool) (h i : Entry) (y z : Entry) (r s : Row) (o p : Option Holder)
        → m ≡ n
        → h ≡ i
        → y ≡ z
        → r ≡ s
        → o ≡ p
        → ◌≡◌ {A = Facts} (record { memory = m; host = h; hyp = y; row = r; holder = o })
        (record { memory = n; host = i; hyp = z; row = s; holder = p })
    made m n h i y z r s o p a b c d e = rw (a, b, c, d, e) refl
