-- Lists of rows that are written range by range.
use Rattle.std.proofs.Common.{◌≡◌, ℕ, suc, ◌+◌, ◌-◌, ◌^◌, ◌<◌, ◌≤◌, ◌||◌, nat_le, Bool, true, false, List, [], ◌∷◌, drop, length, get_or, min, Option, Some, None, refl, sym, ap, subst, ◌∙◌, arith}
use Rattle.std.specs.Option.{option_or, ForSome}
use Rattle.std.specs.Prelude.{is_some, if◌then◌else◌}
use mathlib.Core.Path.{fun_ext}
use Rattle.std.proofs.lemmas.List.{drop_more, get_or-map}
use Rattle.descriptor.specs.declared.State.{State}
use Rattle.page_state.specs.declared.entry.PageRange.{PageRange}
use Rattle.page_state.specs.declared.entry.Run.{Run as PageRun}
use Rattle.page_state.specs.declared.entry.Target.{Target}
use Rattle.page_state.specs.declared.entry.Target.TheVariants.{Malformed, Annotated, Leaf}
use Rattle.page_state.specs.declared.row.Row.{Row}
use Rattle.page_state.specs.declared.row.Usage.{Usage}
use Rattle.page_state.specs.declared.row.Usage.TheVariants.{VmPool, InHand}
use Rattle.page_state.specs.Entries.{advance, entry_of_target}
use Rattle.page_state.specs.EntryTests.{state_eq}
use Rattle.page_state.specs.Layouts.{Layout}
use Rattle.page_state.specs.Map.{is_within}
use Rattle.page_state.specs.Regions.{is_in_range}
use Rattle.page_state.specs.Rows.{advance_row, HasPageBelow}
use Rattle.page_state.specs.Runs.{entry_on}
use Rattle.page_state.proofs.Cases.{by_test}
use Rattle.run_list.proofs.Maps.{none_low}
use Rattle.std.proofs.lemmas.Bool.Decides.{nat_tests}
use Rattle.page_state.proofs.Common.{not-holds}
use Rattle.page_state.proofs.Updates.{within_test}
use Rattle.reference_model.specs.model.Owner.{page_of, is_free, is_table_frame, is_in_hand}
use Rattle.reference_model.specs.model.State.{no_guest, no_cpu}
use Rattle.run_list.specs.declared.run.Run.{Run}
use Rattle.run_list.specs.Runs.{run_map, map_updated, option_advance, IsCoarsest, AreInReach}
use Rattle.ghost_spec.specs.declared.cpu.GhostCpu.{GhostCpu}
use Rattle.ghost_spec.specs.declared.parts.GhostGuest.{GhostGuest}
use Rattle.ghost_spec.specs.Found.{target_page, run_page}
use Rattle.ghost_spec.specs.States.{guest_in}
use Rattle.ghost_spec.specs.Views.{cpu_in}
use Rattle.ghost_trees.proofs.Overlaid.{within_means}
use Rattle.ghost_spec.proofs.RowsKept.{reach-by, reach-set, small-map, none-some, some-same}
use Rattle.ghost_rows.specs.RowsLaid.{first_some, guests_in, cpus_in, annotated_row, annotation_on, loan_row, loan_at, low_page, run_below, target_frames, run_frames, guest_loan, used_row, used_if, guest_use, hand_use}

pub reach-laid : (rs ss : List (Run Row)) (first count : ℕ) (row : Option Row)
    → run_map advance_row ss ≡ map_updated advance_row (run_map advance_row rs) first count row
    → IsCoarsest advance_row ss
    → AreInReach HasPageBelow rs
    → first + count ≤ 2 ^ 63
    → ForSome row (λ r. HasPageBelow r count)
    → AreInReach HasPageBelow ss
reach-laid rs ss first count (Some row) e c h low small = reach-set rs ss first count row e c h low (small row refl)
reach-laid rs ss first count None e c h low small = reach-by ss c (λ p v k.
    let there : map_updated advance_row (run_map advance_row rs) first count None p ≡ Some v =
    sym (ap (λ (m : ℕ → Option Row). m p) e) ∙ k in
    by_test (is_within first count p)
    (λ t. let none : None ≡ Some v = rw t at there in absurd (none-some none))
    (λ t. small-map rs h p v (rw t at there)))

-- loops from the last element to the first

pub drop-back : {X : Type 0} (xs : List X) (i : ℕ) (d : X)
    → 0 < i
    → i ≤ length xs
    → drop (i - 1) xs ≡ get_or xs (i - 1) d ∷ drop i xs
drop-back xs i d some within =
    let next : i - 1 + 1 ≡ i = omega (arith, some) in
    drop_more xs (i - 1) d (omega (arith, some, within)) ∙ ap (λ (j : ℕ). get_or xs (i - 1) d ∷ drop j xs) next

pub first-end : {X : Type 0} (n : ℕ) (option : ℕ → Option X) → first_some n (n - n) option ≡ None
unfolding first_some
first-end {X} n option = let e : n - n ≡ 0 = omega arith in ap (λ (k : ℕ). first_some n k option) e

pub first-back : {X : Type 0} (n v : ℕ) (option : ℕ → Option X)
    → 0 < v
    → v ≤ n
    → first_some (v - 1) (n - (v - 1)) option ≡ option_or (option (v - 1)) (first_some v (n - v) option)
unfolding first_some
first-back {X} n v option some within =
    let a : n - (v - 1) ≡ suc (n - v) = omega (arith, some, within) in
    let b : suc (v - 1) ≡ v = omega (arith, some) in
    ap (λ (k : ℕ). first_some (v - 1) k option) a
    ∙ ap (λ (k : ℕ). option_or (option (v - 1)) (first_some k (n - v) option)) b

pub small-some : (row : Row) (n : ℕ) → HasPageBelow row n → ForSome (Some row) (λ r. HasPageBelow r n)
small-some row n h = λ r is. subst (λ (x : Row). HasPageBelow x n) (some-same is) h

-- rows of a list that are written over others, from the last one on

pub over-more : (all : List (Run Row)) (i : ℕ) (d : Run Row) (m n before : ℕ → Option Row) → 0 < i → i ≤ length all
    → ((f : ℕ) → m f ≡ option_or (run_map advance_row (drop i all) f) (before f))
    → n
    ≡ map_updated advance_row m (get_or all (i - 1) d).pages.first.0 (get_or all (i - 1) d).pages.count
    (Some (get_or all (i - 1) d).value)
    → (f : ℕ) → n f ≡ option_or (run_map advance_row (drop (i - 1) all) f) (before f)
over-more all i d m n before some within same laid f =
    let r : Run Row = get_or all (i - 1) d in
    let one : map_updated advance_row m r.pages.first.0 r.pages.count (Some r.value) f ≡ option_or (run_map advance_row (r ∷ drop i all) f) (before f) =
    by_test (is_in_range r.pages f) (λ t. rw t refl) (λ t. rw t (same f)) in
    ap (λ (g : ℕ → Option Row). g f) laid ∙ one
    ∙ ap (λ (rs : List (Run Row)). option_or (run_map advance_row rs f) (before f))
    (sym (drop-back all i d some within))

-- annotations

pub no_row : (o : Option Row) → ((r : Row) → o ≡ Some r → ⊥) → is_some o ≡ false
no_row None n = refl
no_row (Some r) n = absurd (n r refl)

annotated-on : (t : Target) (n : ℕ)
    → option_advance advance_row (annotated_row (entry_of_target t)) n ≡ annotated_row (advance (entry_of_target t) n)
annotated-on Malformed n = refl
annotated-on (Annotated o) n = refl
annotated-on (Leaf frame prot kind state) n = refl

annotated-at : (r : PageRun) (row : Option Row) (f : ℕ)
    → row ≡ annotated_row (entry_of_target r.target)
    → option_advance advance_row row (f - r.pages.first.0) ≡ annotated_row (entry_on r f)
annotated-at r row f is =
    ap (λ (o : Option Row). option_advance advance_row o (f - r.pages.first.0)) is
    ∙ annotated-on r.target (f - r.pages.first.0)

pub annotated-none : (r : PageRun) (m : ℕ → Option Row) (row : Option Row)
    → row ≡ annotated_row (entry_of_target r.target)
    → is_some row ≡ false
    → (f : ℕ)
    → m f ≡ option_or (annotation_on r f) (m f)
annotated-none r m (Some x) is none f = cc
annotated-none r m None is none f = by_test (is_in_range r.pages f)
    (λ t. rw t (ap (λ (o : Option Row). option_or o (m f)) (annotated-at r None f is)))
    (λ t. rw t refl)

pub annotated-laid : (r : PageRun) (m n : ℕ → Option Row) (row : Option Row)
    → row ≡ annotated_row (entry_of_target r.target)
    → is_some row ≡ true
    → n ≡ map_updated advance_row m r.pages.first.0 r.pages.count row
    → (f : ℕ) → n f ≡ option_or (annotation_on r f) (m f)
annotated-laid r m n None is some laid f = cc
annotated-laid r m n (Some x) is some laid f = ap (λ (g : ℕ → Option Row). g f) laid ∙ by_test (is_in_range r.pages f)
    (λ t. rw t (ap (λ (o : Option Row). option_or o (m f)) (annotated-at r (Some x) f is)))
    (λ t. rw t refl)

-- loans

-- the page of a frame, where the frames are mapped at the pages from one on
abbrev pub page_in : ℕ → Option PageRange → ℕ → Option ℕ
page_in page None f = None
page_in page (Some frames) f =
    if is_within frames.first.0 frames.count f then Some (page + (f - frames.first.0)) else None

page-of-frames : (f : ℕ) (s : State) (pages : PageRange) (t : Target)
    → target_page f s pages t ≡ page_in pages.first.0 (target_frames s pages t) f
page-of-frames f s pages Malformed = refl
page-of-frames f s pages (Annotated o) = refl
page-of-frames f s pages (Leaf frame prot kind own) = by_test (state_eq own s) (λ t. rw t refl) (λ t. rw t refl)

pub page-among : (f : ℕ) (s : State) (r : PageRun) (o : Option PageRange)
    → o ≡ run_frames s r
    → run_page f s r ≡ page_in r.pages.first.0 o f
page-among f s r o is =
    page-of-frames f s r.pages r.target ∙ ap (λ (o : Option PageRange). page_in r.pages.first.0 o f) (sym is)

pub lent-one : (number f : ℕ) (m n : ℕ → Option Row) (row : Row) (r : PageRun) (s : State) (frames : PageRange)
    → Some frames ≡ run_frames s r
    → row ≡ loan_row number r.pages.first.0
    → n ≡ map_updated advance_row m frames.first.0 frames.count (Some row)
    → n f ≡ option_or (loan_at number (run_page f s r)) (m f)
lent-one number f m n row r s frames some is laid =
    let one : map_updated advance_row m frames.first.0 frames.count (Some (loan_row number r.pages.first.0)) f ≡ option_or (loan_at number (page_in r.pages.first.0 (Some frames) f)) (m f) =
    by_test (is_within frames.first.0 frames.count f) (λ w. rw w refl) (λ w. rw w refl) in
    ap (λ (g : ℕ → Option Row). g f) laid
    ∙ ap (λ (x : Row). map_updated advance_row m frames.first.0 frames.count (Some x) f) is
    ∙ one
    ∙ ap (λ (o : Option ℕ). option_or (loan_at number o) (m f)) (sym (page-among f s r (Some frames) some))

pub loan-or : (number : ℕ) (a b : Option ℕ) (o : Option Row)
    → option_or (loan_at number a) (option_or (loan_at number b) o) ≡ option_or (loan_at number (option_or a b)) o
loan-or number None b o = refl
loan-or number (Some a) b o = refl

-- the loans of one run more, written over those of the runs behind it
pub back-more : (number limit : ℕ) (s : State) (f : ℕ) (rs : List PageRun) (i : ℕ) (d : PageRun)
    (new before old : Option Row)
    → 0 < i
    → i ≤ length rs
    → new ≡ option_or (loan_at number (run_page f s (run_below limit (get_or rs (i - 1) d)))) before
    → before ≡ option_or (loan_at number (low_page limit s f (drop i rs))) old
    → new ≡ option_or (loan_at number (low_page limit s f (drop (i - 1) rs))) old
back-more number limit s f rs i d new before old some within h k =
    let r : PageRun = get_or rs (i - 1) d in
    h ∙ ap (λ o. option_or (loan_at number (run_page f s (run_below limit r))) o) k
    ∙ either (run_page f s (run_below limit r)) (low_page limit s f (drop i rs))
    ∙ ap (λ (ps : List PageRun). option_or (loan_at number (low_page limit s f ps)) old)
    (sym (drop-back rs i d some within))
  where
    either : (a b : Option ℕ)
        → option_or (loan_at number a) (option_or (loan_at number b) old)
        ≡ option_or (loan_at number (option_or a b)) old
    either None b = refl
    either (Some a) b = refl

-- the guests and the CPUs of lists

guest-own : (gs : List GhostGuest) (v : ℕ) (d : GhostGuest) → v < length gs → guest_in (get_or gs v d) ≡ guests_in gs v
guest-own gs v d less = sym (get_or-map guest_in gs v d no_guest less)

pub loans-more : (l : Layout) (gs : List GhostGuest) (s : State) (f v : ℕ) (d : GhostGuest) (new old : Option Row)
    → 0 < v
    → v ≤ length gs
    → new ≡ option_or (loan_at (2 + (v - 1)) (page_of l (guest_in (get_or gs (v - 1) d)).tree.map s f)) old
    → old ≡ first_some v (length gs - v) (guest_loan l (guests_in gs) s f)
    → new ≡ first_some (v - 1) (length gs - (v - 1)) (guest_loan l (guests_in gs) s f)
loans-more l gs s f v d new old some within h k =
    h ∙ ap (λ o. option_or (loan_at (2 + (v - 1)) (page_of l (guest_in (get_or gs (v - 1) d)).tree.map s f)) o) k
    ∙ ap
    (λ x. option_or (loan_at (2 + (v - 1)) (page_of l x.tree.map s f))
    (first_some v (length gs - v) (guest_loan l (guests_in gs) s f)))
    (guest-own gs (v - 1) d (omega (arith, some, within)))
    ∙ sym (first-back (length gs) v (guest_loan l (guests_in gs) s f) some within)

-- uses

pub used-range : (first count limit f : ℕ) (u : Usage) (m : ℕ → Option Row) → first < limit → f < limit
    → map_updated advance_row m first (min count (limit - first)) (Some (used_row u)) f
    ≡ option_or (used_if (is_within first count f) u) (m f)
used-range first count limit f u m a b = by_test (is_within first count f)
    (λ t. let w = within_means first count f t in
    rw (t, within_test first (min count (limit - first)) f w.0 (omega (arith, w.0, w.1, b))) refl)
    (λ t. rw (
      t,
      not-holds (is_within first (min count (limit - first)) f)
          (λ k. let w = within_means first (min count (limit - first)) f k in
          let c : true ≡ false = sym (within_test first count f w.0 (omega (arith, w.0, w.1))) ∙ t in
          cc),
    ) refl)

pub used-or : (a b : Bool) (u : Usage) (o : Option Row)
    → option_or (used_if a u) (option_or (used_if b u) o) ≡ option_or (used_if (a || b) u) o
used-or true b u o = refl
used-or false b u o = refl

either-or : (a b c : Option Row) → option_or a (option_or b c) ≡ option_or (option_or a b) c
either-or None b c = refl
either-or (Some a) b c = refl

pub pools-more : (l : Layout) (gs : List GhostGuest) (f v : ℕ) (g : GhostGuest) (new old before : Option Row)
    → 0 < v
    → v ≤ length gs
    → g ≡ get_or gs (v - 1) g
    → new ≡ option_or (used_if (is_free g.free.items f || is_table_frame l (guest_in g).tree f) (VmPool (v - 1))) old
    → old ≡ option_or (first_some v (length gs - v) (guest_use l (guests_in gs) f)) before
    → new ≡ option_or (first_some (v - 1) (length gs - (v - 1)) (guest_use l (guests_in gs) f)) before
pools-more l gs f v g new old before some within e h k =
    let own : guest_in g ≡ guests_in gs (v - 1) =
    ap guest_in e ∙ guest-own gs (v - 1) g (omega (arith, some, within)) in
    let rest : Option Row = first_some v (length gs - v) (guest_use l (guests_in gs) f) in
    h
    ∙ ap
    (λ o. option_or
    (used_if (is_free (guest_in g).free f || is_table_frame l (guest_in g).tree f) (VmPool (v - 1))) o) k
    ∙ ap
    (λ x. option_or (used_if (is_free x.free f || is_table_frame l x.tree f) (VmPool (v - 1)))
    (option_or rest before)) own
    ∙ either-or (guest_use l (guests_in gs) f (v - 1)) rest before
    ∙ ap (λ o. option_or o before) (sym (first-back (length gs) v (guest_use l (guests_in gs) f) some within))

pub hands-more : (ks : List GhostCpu) (f c : ℕ) (k : GhostCpu) (new old : Option Row) → 0 < c → c ≤ length ks
    → new ≡ option_or (used_if (is_in_hand (get_or ks (c - 1) k).hand f) (InHand (c - 1))) old
    → old ≡ first_some c (length ks - c) (hand_use (cpus_in ks) f)
    → new ≡ first_some (c - 1) (length ks - (c - 1)) (hand_use (cpus_in ks) f)
hands-more ks f c k new old some within h e =
    let own : cpus_in ks (c - 1) ≡ cpu_in (get_or ks (c - 1) k) =
    get_or-map cpu_in ks (c - 1) k no_cpu (omega (arith, some, within)) in
    h ∙ ap (λ o. option_or (used_if (is_in_hand (get_or ks (c - 1) k).hand f) (InHand (c - 1))) o) e
    ∙ ap
    (λ x. option_or (used_if (is_in_hand x.hand f) (InHand (c - 1)))
    (first_some c (length ks - c) (hand_use (cpus_in ks) f)))
    (sym own)
    ∙ sym (first-back (length ks) c (hand_use (cpus_in ks) f) some within)

-- where nothing is said, nothing is taken away
pub nothing_taken : (m : ℕ → Option Row) (first count : ℕ) (row : Option Row)
    → row ≡ None
    → ((f : ℕ) → f < first + count → m f ≡ None)
    → m ≡ map_updated advance_row m first count row
nothing_taken m first count row e h = fun_ext (λ f. by_test (is_within first count f)
    (λ t. rw (t, e) (h f (within_means first count f t).1))
    (λ t. rw t refl))

pub none_told : (row : Option Row) → is_some row ≡ false → row ≡ None
none_told None h = refl
none_told (Some r) h = cc

-- in front of its first run a list says nothing
pub before_all : (rows : List (Run Row)) (d : Run Row) (frame : ℕ)
    → IsCoarsest advance_row rows
    → nat_le frame (get_or rows 0 d).pages.first.0 ≡ true
    → (f : ℕ)
    → f < frame
    → run_map advance_row rows f ≡ None
before_all [] d frame c t f h = refl
before_all (r ∷ rs) d frame c t f h = let low : frame ≤ r.pages.first.0 = grind (arith, nat_tests) in
    none_low advance_row frame f (r ∷ rs) c low h
