-- Maps over others, parts of maps, and maps of devices.
use Rattle.std.proofs.Common.{◌≡◌, ℕ, ◌+◌, ◌-◌, ◌^◌, ◌≤◌, List, [], ◌∷◌, map, refl, ap, ◌∙◌, arith}
use Rattle.std.specs.Prelude.{Bool, true, false, Option, Some, None, cond, if◌then◌else◌}
use Rattle.std.proofs.lemmas.Bool.Decides.{nat_tests}
use Rattle.std.proofs.lemmas.List.Elements.{All-nil, All-cons, All-head, All-tail}
use mathlib.Core.Path.{fun_ext}
use Rattle.descriptor.specs.declared.Prot.TheVariants.{RWX}
use Rattle.descriptor.specs.declared.State.TheVariants.{Owned}
use Rattle.page_state.specs.declared.entry.Entry.{Entry}
use Rattle.page_state.specs.declared.entry.Entry.TheVariants.{Unmapped, Malformed, Annotated, Leaf}
use Rattle.page_state.specs.declared.entry.PageRange.{PageRange}
use Rattle.page_state.specs.declared.entry.Run.{Run}
use Rattle.page_state.specs.declared.entry.Target.{Target}
use Rattle.page_state.specs.declared.entry.Target.TheVariants.{Malformed as MalformedTarget, Annotated as AnnotatedTarget, Leaf as LeafTarget}
use Rattle.page_state.specs.declared.layout.Region.{Region}
use Rattle.page_state.specs.Entries.{advance, entry_of_target}
use Rattle.page_state.specs.EntryTests.{is_unmapped, leaf, device_leaf}
use Rattle.page_state.specs.Map.{Map, is_within, update}
use Rattle.page_state.specs.Regions.{find_region, is_in_range, is_memory_kind}
use Rattle.page_state.specs.Runs.{map_of, entry_on}
use Rattle.page_state.proofs.Cases.{by_test}
use Rattle.reference_model.specs.model.SharedRules.{abort_leaf}
use Rattle.ghost_trees.specs.Small.{AreSmall, IsSmall}
use Rattle.host_views.specs.Seen.{over, own_in, within_range, as_device, device_run, device_target, of_kind, kind_in}

-- a run before others counts first, over a map too

over-by : (b : Bool) (t : Target) (k : ℕ) (x y : Entry)
    → (if b then advance (entry_of_target t) k else elim (is_unmapped x) [ true ↦ y | false ↦ x ])
    ≡ elim (is_unmapped (if b then advance (entry_of_target t) k else x))
    [ true ↦ y | false ↦ (if b then advance (entry_of_target t) k else x) ]
over-by true MalformedTarget k x y = refl
over-by true (AnnotatedTarget o) k x y = refl
over-by true (LeafTarget f p q s) k x y = refl
over-by false t k x y = refl

pub over-first : (r : Run) (rs : List Run) (n : Map)
    → update (over (map_of rs) n) r.pages.first.0 r.pages.count (entry_of_target r.target) ≡ over (map_of (r ∷ rs)) n
over-first r rs n = fun_ext (λ p. over-by (is_in_range r.pages p) r.target (p - r.pages.first.0) (map_of rs p) (n p))

-- a region before others

leaf-by : (b : Bool) (a p : ℕ)
    → a + (p - a) ≡ p
    → advance (if b then leaf RWX a Owned else device_leaf a) (p - a) ≡ (if b then leaf RWX p Owned else device_leaf p)
leaf-by true a p e = ap (λ f. leaf RWX f Owned) e
leaf-by false a p e = ap device_leaf e

leaf-on : (r : Region) (a p : ℕ) → a ≤ p → advance (abort_leaf r a) (p - a) ≡ abort_leaf r p
leaf-on r a p h = let e : a + (p - a) ≡ p = omega arith in leaf-by (is_memory_kind r.kind) a p e

within-low : (a c p : ℕ) → is_within a c p ≡ true → a ≤ p
within-low a c p h = grind (arith, nat_tests)

abbrev found-own : Option Region → ℕ → Entry
found-own o p = elim o [ Some q ↦ abort_leaf q p | None ↦ Unmapped ]

own-by : (b : Bool) (r : Region) (o : Option Region) (x : Entry) (p : ℕ)
    → (b ≡ true → x ≡ abort_leaf r p)
    → (if b then x else found-own o p) ≡ found-own (cond b (Some r) o) p
own-by true r o x p h = h refl
own-by false r o x p h = refl

pub own-first : (r : Region) (rs : List Region)
    → update (own_in rs) r.pages.first.0 r.pages.count (abort_leaf r r.pages.first.0) ≡ own_in (r ∷ rs)
own-first r rs =
    fun_ext
    (λ p. own-by (is_in_range r.pages p) r (find_region rs p)
    (advance (abort_leaf r r.pages.first.0) (p - r.pages.first.0)) p
    (λ t. leaf-on r r.pages.first.0 p (within-low r.pages.first.0 r.pages.count p t)))

-- the pages of a range

past : (a c most p : ℕ) → is_within (a + c) (most - (a + c)) p ≡ true → is_within a c p ≡ false
past a c most p h = grind (arith, nat_tests)

before : (a c p : ℕ) → is_within 0 a p ≡ true → is_within a c p ≡ false
before a c p h = grind (arith, nat_tests)

beyond : (a c most p : ℕ)
    → a + c ≤ most
    → is_within (a + c) (most - (a + c)) p ≡ false
    → is_within 0 a p ≡ false
    → is_within a c p ≡ false
    → most ≤ p
beyond a c most p h x y z = grind (arith, nat_tests)

two : (m : Map) (a c most p : ℕ)
    → a + c ≤ most
    → (most ≤ p → m p ≡ Unmapped)
    → update (update m 0 a Unmapped) (a + c) (most - (a + c)) Unmapped p
    ≡ elim (is_within a c p) [ true ↦ m p | false ↦ Unmapped ]
two m a c most p h none = by_test (is_within (a + c) (most - (a + c)) p)
    (λ x. rw (x, past a c most p x) refl)
    (λ x. by_test (is_within 0 a p)
    (λ y. rw (x, y, before a c p y) refl)
    (λ y. by_test (is_within a c p)
    (λ z. rw (x, y, z) refl)
    (λ z. rw (x, y, z) (none (beyond a c most p h x y z)))))

pub parted : (m : Map) (pages : PageRange) (most : ℕ)
    → pages.first.0 + pages.count ≤ most
    → ((p : ℕ) → most ≤ p → m p ≡ Unmapped)
    → update (update m 0 pages.first.0 Unmapped) (pages.first.0 + pages.count)
    (most - (pages.first.0 + pages.count)) Unmapped
    ≡ within_range pages m
parted m pages most h none = fun_ext (λ p. two m pages.first.0 pages.count most p h (none p))

over-end : (a c most p : ℕ) → a + c ≤ most → most ≤ p → is_within a c p ≡ false
over-end a c most p h k = grind (arith, nat_tests)

pub nothing-past : (rs : List Run) → AreSmall rs → (p : ℕ) → 2 ^ 63 ≤ p → map_of rs p ≡ Unmapped
nothing-past [] s p h = refl
nothing-past (r ∷ rs) s p h =
    let small = All-head IsSmall r rs s in
    rw (over-end r.pages.first.0 r.pages.count (2 ^ 63) p small.0 h) (nothing-past rs (All-tail IsSmall r rs s) p h)

-- devices

on-device : (t : Target) (k : ℕ)
    → advance (entry_of_target (device_target t)) k ≡ as_device (advance (entry_of_target t) k)
on-device MalformedTarget k = refl
on-device (AnnotatedTarget o) k = refl
on-device (LeafTarget f p q s) k = refl

device-by : (b : Bool) (x y m n : Entry)
    → x ≡ as_device y
    → m ≡ as_device n
    → (if b then x else m) ≡ as_device (if b then y else n)
device-by true x y m n e h = e
device-by false x y m n e h = h

device-at : (rs : List Run) (p : ℕ) → map_of (map device_run rs) p ≡ as_device (map_of rs p)
device-at [] p = refl
device-at (r ∷ rs) p =
    device-by (is_in_range r.pages p) (entry_on (device_run r) p) (entry_on r p) (map_of (map device_run rs) p)
    (map_of rs p) (on-device r.target (p - r.pages.first.0)) (device-at rs p)

pub device-map : (rs : List Run) → map_of (map device_run rs) ≡ (λ p. as_device (map_of rs p))
device-map rs = fun_ext (device-at rs)

small-run : (pages : PageRange) (t : Target)
    → IsSmall (record { pages = pages; target = t })
    → IsSmall (record { pages = pages; target = device_target t })
small-run pages MalformedTarget s = s
small-run pages (AnnotatedTarget o) s = s
small-run pages (LeafTarget f p q k) s = s

pub device-small : (rs : List Run) → AreSmall rs → AreSmall (map device_run rs)
device-small [] s = All-nil IsSmall
device-small (r ∷ rs) s =
    All-cons IsSmall (device_run r) (map device_run rs) (small-run r.pages r.target (All-head IsSmall r rs s))
    (device-small rs (All-tail IsSmall r rs s))

-- regions

kind-nothing : (b : Bool) → elim b [ true ↦ Unmapped | false ↦ as_device Unmapped ] ≡ Unmapped
kind-nothing true = refl
kind-nothing false = refl

found-nothing : (o : Option Region) → elim o [ Some r ↦ of_kind r.kind Unmapped | None ↦ Unmapped ] ≡ Unmapped
found-nothing None = refl
found-nothing (Some r) = kind-nothing (is_memory_kind r.kind)

abbrev kind-as : Bool → Entry → Entry
kind-as b e = elim b [ true ↦ e | false ↦ as_device e ]

abbrev part-of : Bool → Entry → Entry
part-of b e = elim b [ true ↦ e | false ↦ Unmapped ]

abbrev else-of : Entry → Entry → Entry
else-of x y = elim (is_unmapped x) [ true ↦ y | false ↦ x ]

abbrev found-kind : Option Region → Entry → Entry
found-kind o e = elim o [ Some q ↦ of_kind q.kind e | None ↦ e ]

over-kind : (b : Bool) (e y : Entry) → (e ≡ Unmapped → y ≡ Unmapped) → else-of (kind-as b e) y ≡ kind-as b e
over-kind true Unmapped y h = h refl
over-kind true Malformed y h = refl
over-kind true (Annotated o) y h = refl
over-kind true (Leaf f p q s) y h = refl
over-kind false Unmapped y h = h refl
over-kind false Malformed y h = refl
over-kind false (Annotated o) y h = refl
over-kind false (Leaf f p q s) y h = refl

kind-by : (b : Bool) (r : Region) (o : Option Region) (e : Entry)
    → else-of (part-of b (of_kind r.kind e)) (found-kind o e) ≡ found-kind (cond b (Some r) o) e
kind-by true r o e = over-kind (is_memory_kind r.kind) e (found-kind o e) (λ h. ap (found-kind o) h ∙ found-nothing o)
kind-by false r o e = refl

pub kind-first : (r : Region) (rs : List Region) (m : Map)
    → over (within_range r.pages (λ p. of_kind r.kind (m p))) (λ p. kind_in rs p (m p))
    ≡ (λ p. kind_in (r ∷ rs) p (m p))
kind-first r rs m = fun_ext (λ p. kind-by (is_in_range r.pages p) r (find_region rs p) (m p))

region-by : (b : Bool) (e : Entry) → part-of b (as_device e) ≡ as_device (part-of b e)
region-by true e = refl
region-by false e = refl

pub as-region : (pages : PageRange) (m : Map)
    → within_range pages (λ p. as_device (m p)) ≡ (λ p. as_device (within_range pages m p))
as-region pages m = fun_ext (λ p. region-by (is_in_range pages p) (m p))
