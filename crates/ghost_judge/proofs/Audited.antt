-- What an audit finds, from what its parts find.
use Rattle.std.proofs.Common.{◌≡◌, ℕ, zero, suc, ◌+◌, ◌-◌, ◌<◌, ◌≤◌, Bool, true, false, cond, List, [], ◌∷◌, Option, Some, None, is_some, map, length, get_or, refl, sym, ap, subst, ◌∙◌, arith}
use Rattle.std.specs.Prelude.{IfSome, IsTrue, MatchOption, not, unwrap_or, ◌↔◌}
use Rattle.std.proofs.lemmas.List.{get_or-map}
use mathlib.Core.Path.{fun_ext}
use Rattle.page_state.specs.declared.entry.Entry.{Entry}
use Rattle.page_state.specs.declared.entry.Run.{Run}
use Rattle.page_state.specs.declared.entry.Target.{Target}
use Rattle.page_state.specs.declared.entry.Target.TheVariants.{Malformed, Annotated, Leaf}
use Rattle.page_state.specs.declared.row.Row.{Row}
use Rattle.page_state.specs.Entries.{advance, advance_target, entry_of, entry_of_target, target_of}
use Rattle.page_state.specs.Map.{Map}
use Rattle.page_state.specs.Regions.{is_in_range}
use Rattle.page_state.specs.Rows.{advance_row, HasPageBelow}
use Rattle.page_state.specs.Runs.{map_of, entry_on, run_end, PrecedesFirst, IsCoarsest}
use Rattle.page_state.proofs.Cases.{by_lt}
use Rattle.page_state.proofs.Entries.{entry_advanced}
use Rattle.reference_model.specs.model.State.{Contents, plain_row, no_guest}
use Rattle.run_list.specs.declared.run.Run.{Run as ListRun}
use Rattle.run_list.specs.Runs.{run_map, value_on, PrecedesFirst as ListPrecedesFirst, IsCoarsest as IsCoarsestList, AreInReach}
use Rattle.run_list.specs.Targets.{HasFrameBelow}
use Rattle.run_list.specs.View.{IsKept as IsKeptList}
use Rattle.ghost_spec.specs.declared.parts.GhostGuest.{GhostGuest}
use Rattle.ghost_trees.specs.Small.{HasLowFrames, IsSmall, AreSmall}
use Rattle.ghost_spec.specs.States.{guest_in}
use Rattle.ghost_spec.specs.Views.{row_in}
use Rattle.ghost_trees.proofs.Coarse.{head_of, rest_of}
use Rattle.ghost_judge.specs.declared.disagreement.Disagreement.{Disagreement}
use Rattle.ghost_judge.specs.declared.disagreement.Disagreement.TheVariants.{Map as MapDiffers, Owner as OwnerDiffers}
use Rattle.ghost_judge.specs.declared.disagreement.TreeOf.{TreeOf}
use Rattle.ghost_judge.specs.declared.disagreement.TreeOf.TheVariants.{Host, Hyp, Guest}
use Rattle.ghost_judge.specs.Apart.{IsFirstApart}
use Rattle.ghost_judge.specs.Audits.{MapsAgreeBelow, MapsAgree, AuditAgrees, DiffersFirstAt, IsFirstDifference}
use Rattle.ghost_judge.specs.inner.Found.{IsFound, IsMapDifference, IsRowDifference, IsGuestDifference, guest_map}
use Rattle.ghost_judge.specs.inner.Parted.{IsFoundApart}

-- functions that give what two others do

pub found_other : {X Y : Type 0} (f g : ℕ → X) (h k : ℕ → Y)
    → ((n : ℕ) → f n ≡ g n → h n ≡ k n)
    → ((n : ℕ) → h n ≡ k n → f n ≡ g n)
    → (o : Option ℕ)
    → IsFoundApart f g o
    → MatchOption o (h ≡ k) (IsFirstApart h k)
found_other f g h k to from None x = fun_ext (λ n. to n (x n))
found_other f g h k to from (Some n) x =
    record { differ = λ e. x.differ (from n e); before = λ i l. to i (x.before i l) }

-- runs of a map, told as runs of targets

abbrev pub told : Run → ListRun Target
told r = record { pages = r.pages; value = r.target }

told_map : (rs : List Run) (p : ℕ) → entry_of (run_map advance_target (map told rs) p) ≡ map_of rs p
told_map [] p = refl
told_map (r ∷ rs) p =
    told_if (is_in_range r.pages p) (Some (value_on advance_target (told r) p))
    (run_map advance_target (map told rs) p) (entry_on r p) (map_of rs p)
    (entry_advanced r.target (p - r.pages.first.0)) (told_map rs p)
  where
    told_if : (b : _) (o q : Option Target) (e m : Entry)
        → entry_of o ≡ e
        → entry_of q ≡ m
        → entry_of (cond b o q) ≡ cond b e m
    told_if true o q e m h k = h
    told_if false o q e m h k = k

told_first : (r : Run) (rs : List Run) → PrecedesFirst r rs → ListPrecedesFirst advance_target (told r) (map told rs)
told_first r [] h = tt
told_first r (n ∷ rs) h = record {
  before = h.before;
  apart = λ e f.
      let k : run_end r - r.pages.first.0 ≡ r.pages.count = omega arith in
      h.apart e
      (ap (advance (entry_of_target r.target)) k ∙ sym (entry_advanced r.target r.pages.count)
      ∙ ap entry_of_target f);
}

told_coarsest : (rs : List Run) → IsCoarsest rs → IsCoarsestList advance_target (map told rs)
told_coarsest [] c = tt
told_coarsest (r ∷ rs) c = (c.0, told_first r rs c.1, told_coarsest rs c.2)

told_below : (t : Target) (n : ℕ) → HasLowFrames (entry_of_target t) n → HasFrameBelow t n
told_below Malformed n h = tt
told_below (Annotated owner) n h = tt
told_below (Leaf frame prot kind state) n h = h

told_reach : (rs : List Run) → AreSmall rs → AreInReach HasFrameBelow (map told rs)
told_reach [] s = tt
told_reach (r ∷ rs) s = let small : IsSmall r = head_of IsSmall r rs s in (
  record { pages = small.0; values = told_below r.target r.pages.count small.1 },
  told_reach rs (rest_of IsSmall r rs s),
)

pub told_kept : (rs : List Run) → AreSmall rs → IsCoarsest rs → IsKeptList advance_target HasFrameBelow (map told rs)
told_kept rs s c = record { coarsest = told_coarsest rs c; in_reach = told_reach rs s }

target_back : (o : Option Target) → target_of (entry_of o) ≡ o
target_back None = refl
target_back (Some Malformed) = refl
target_back (Some (Annotated owner)) = refl
target_back (Some (Leaf frame prot kind state)) = refl

pub found_map : (rs ss : List Run) (o : Option ℕ)
    → IsFoundApart (run_map advance_target (map told rs)) (run_map advance_target (map told ss)) o
    → MatchOption o (map_of rs ≡ map_of ss) (IsFirstApart (map_of rs) (map_of ss))
found_map rs ss =
    found_other (run_map advance_target (map told rs)) (run_map advance_target (map told ss)) (map_of rs) (map_of ss)
    (λ n e. sym (told_map rs n) ∙ ap entry_of e ∙ told_map ss n)
    (λ n e. sym (target_back (run_map advance_target (map told rs) n))
    ∙ ap target_of (told_map rs n ∙ e ∙ sym (told_map ss n)) ∙ target_back (run_map advance_target (map told ss) n))

-- rows

pub told_row : ListRun Row → ListRun Row
told_row r = r

pub rows_self : (rs : List (ListRun Row)) → map (λ r. r) rs ≡ rs
rows_self [] = refl
rows_self (r ∷ rs) = ap (λ xs. r ∷ xs) (rows_self rs)

pub rows_kept : (rs : List (ListRun Row))
    → IsCoarsestList advance_row rs
    → AreInReach HasPageBelow rs
    → IsKeptList advance_row HasPageBelow (map (λ r. r) rs)
rows_kept rs c h =
    subst (λ xs. IsKeptList advance_row HasPageBelow xs) (sym (rows_self rs)) (record { coarsest = c; in_reach = h })

row_back : (a b : Option Row) → is_some a ≡ is_some b → unwrap_or a plain_row ≡ unwrap_or b plain_row → a ≡ b
row_back None None h e = refl
row_back None (Some y) h e = cc
row_back (Some x) None h e = cc
row_back (Some x) (Some y) h e = ap Some e

rows_apart : (rs ss : List (ListRun Row)) (o : Option ℕ)
    → IsFoundApart (run_map advance_row (map (λ r. r) rs)) (run_map advance_row (map (λ r. r) ss)) o
    → IsFoundApart (run_map advance_row rs) (run_map advance_row ss) o
rows_apart rs ss o x =
    subst (λ ys. IsFoundApart (run_map advance_row rs) (run_map advance_row ys) o) (rows_self ss)
    (subst (λ xs. IsFoundApart (run_map advance_row xs) (run_map advance_row (map (λ r. r) ss)) o) (rows_self rs) x)

pub found_rows : (rs ss : List (ListRun Row)) (o : Option ℕ)
    → ((f : ℕ) → is_some (run_map advance_row rs f) ≡ is_some (run_map advance_row ss f))
    → IsFoundApart (run_map advance_row (map (λ r. r) rs)) (run_map advance_row (map (λ r. r) ss)) o
    → MatchOption o (row_in rs ≡ row_in ss) (IsFirstApart (row_in rs) (row_in ss))
found_rows rs ss o h x =
    found_other (run_map advance_row rs) (run_map advance_row ss) (row_in rs) (row_in ss)
    (λ n e. ap (λ v. unwrap_or v plain_row) e)
    (λ n e. row_back (run_map advance_row rs n) (run_map advance_row ss n) (h n) e) o (rows_apart rs ss o x)

pub same_rows : (rs ss : List (ListRun Row)) (o : Option ℕ) (b : Bool)
    → is_some o ≡ not b
    → IsFoundApart (run_map advance_row (map (λ r. r) rs)) (run_map advance_row (map (λ r. r) ss)) o
    → IsTrue b ↔ ((f : ℕ) → run_map advance_row rs f ≡ run_map advance_row ss f)
same_rows rs ss None true e x = (λ t. rows_apart rs ss None x, λ h. refl)
same_rows rs ss None false e x = cc
same_rows rs ss (Some n) true e x = cc
same_rows rs ss (Some n) false e x = (λ t. cc, λ h. absurd ((rows_apart rs ss (Some n) x).differ (h n)))

-- rows that are one and the same list's
pub rows_alike : (rs ss : List (ListRun Row))
    → ((f : ℕ) → run_map advance_row rs f ≡ run_map advance_row ss f)
    → row_in rs ≡ row_in ss
rows_alike rs ss h = fun_ext (λ f. ap (λ v. unwrap_or v plain_row) (h f))

-- a list's guests

pub guest_at : (gs : List GhostGuest) (v : ℕ) (g : GhostGuest)
    → v < length gs
    → map_of (get_or gs v g).tree.runs.items ≡ guest_map gs v
guest_at gs v g l = sym (ap (λ x. x.tree.map) (get_or-map guest_in gs v g no_guest l))

pub map_told : (tree : TreeOf) (m n : Map) (page : ℕ) (x y : Entry)
    → x ≡ m page
    → y ≡ n page
    → IsFirstApart m n page
    → IsMapDifference tree m n (MapDiffers tree page x y)
map_told tree m n page x y e h a =
    (page, ap (λ z. MapDiffers tree page z y) e ∙ ap (λ z. MapDiffers tree page (m page) z) h, a)

pub row_told : (m n : ℕ → Row) (frame : ℕ) (x y : Row)
    → x ≡ m frame
    → y ≡ n frame
    → IsFirstApart m n frame
    → IsRowDifference m n (OwnerDiffers frame x y)
row_told m n frame x y e h a =
    (frame, ap (λ z. OwnerDiffers frame z y) e ∙ ap (λ z. OwnerDiffers frame (m frame) z) h, a)

-- a part that finds a difference, and one that doesn't

pub is_found : (alike : Type 0) (differ : Disagreement → Type 0) (o : Option Disagreement)
    → is_some o ≡ true
    → IsFound alike differ o
    → (d : Disagreement) × (o ≡ Some d) × differ d
is_found alike differ None h x = cc
is_found alike differ (Some d) h x = (d, refl, x)

pub isnt_found : (alike : Type 0) (differ : Disagreement → Type 0) (o : Option Disagreement)
    → is_some o ≡ false
    → IsFound alike differ o
    → alike
isnt_found alike differ None h x = x
isnt_found alike differ (Some d) h x = cc

pub guest_found : (gs hs : List GhostGuest) (v : ℕ) (m n : Map) (o : Option Disagreement)
    → m ≡ guest_map gs v
    → n ≡ guest_map hs v
    → ((u : ℕ) → u < v → guest_map gs u ≡ guest_map hs u)
    → is_some o ≡ true
    → IsFound (m ≡ n) (IsMapDifference (Guest v) m n) o
    → IsFound ((u : ℕ) → guest_map gs u ≡ guest_map hs u) (IsGuestDifference gs hs) o
guest_found gs hs v m n None e f b h x = cc
guest_found gs hs v m n (Some d) e f b h x = (
  v,
  b,
  subst (λ z. IsMapDifference (Guest v) (guest_map gs v) z d) f
      (subst (λ z. IsMapDifference (Guest v) z n d) e x),
)

pub guest_next : (gs hs : List GhostGuest) (v : ℕ)
    → ((u : ℕ) → u < v → guest_map gs u ≡ guest_map hs u)
    → guest_map gs v ≡ guest_map hs v
    → (u : ℕ)
    → u < v + 1
    → guest_map gs u ≡ guest_map hs u
guest_next gs hs v below here u l =
    by_lt u v (λ k. below u k) (λ k. let e : v ≡ u = omega arith in subst (λ w. guest_map gs w ≡ guest_map hs w) e here)

-- past a list's end there is no guest
no_guest_at : (gs : List GhostGuest) (u : ℕ) → length gs ≤ u → guest_map gs u ≡ no_guest.tree.map
no_guest_at [] u h = refl
no_guest_at (g ∷ gs) zero h = absurd (omega arith)
no_guest_at (g ∷ gs) (suc u) h = no_guest_at gs u (omega arith)

pub guest_all : (gs hs : List GhostGuest) (v : ℕ)
    → length gs ≤ v
    → length hs ≤ v
    → ((u : ℕ) → u < v → guest_map gs u ≡ guest_map hs u)
    → (u : ℕ)
    → guest_map gs u ≡ guest_map hs u
guest_all gs hs v h k below u =
    by_lt u v (λ l. below u l) (λ l. no_guest_at gs u (omega arith) ∙ sym (no_guest_at hs u (omega arith)))

-- the whole

module _ (a b : Contents) where
  abbrev IsAnswer : Option Disagreement → Type 0
  IsAnswer o = ((o ≡ None) ↔ AuditAgrees a b) × IfSome o (IsFirstDifference a b)

  differs : (o : Option Disagreement) (d : Disagreement)
      → o ≡ Some d
      → (AuditAgrees a b → ⊥)
      → IsFirstDifference a b d
      → IsAnswer o
  differs None d e h x = cc
  differs (Some c) d e h x = ((λ f. cc, λ f. absurd (h f)), subst (IsFirstDifference a b) (sym (some_one c d e)) x)
    where
      some_one : (c d : Disagreement) → Some c ≡ Some d → c ≡ d
      some_one c d e = cc

  tell : (tree : TreeOf) (m n : Map) (d : Disagreement)
      → ((page : ℕ)
      → DiffersFirstAt m n page (m page) (n page)
      → IsFirstDifference a b (MapDiffers tree page (m page) (n page)))
      → IsMapDifference tree m n d
      → IsFirstDifference a b d
  tell tree m n d f x =
      subst (IsFirstDifference a b) (sym x.1) (f x.0 (record { first = x.2; kept_is = refl; walked_is = refl }))

  unlike : {X : Type 0} (m n : ℕ → X) (page : ℕ) → IsFirstApart m n page → m ≡ n → ⊥
  unlike m n page x e = x.differ (ap (λ f. f page) e)

  pub answer_host : (o : Option Disagreement)
      → is_some o ≡ true
      → IsFound (a.shared.host.map ≡ b.shared.host.map) (IsMapDifference Host a.shared.host.map b.shared.host.map) o
      → IsAnswer o
  answer_host o h x =
      let f =
      is_found (a.shared.host.map ≡ b.shared.host.map)
      (IsMapDifference Host a.shared.host.map b.shared.host.map) o h x in
      differs o f.0 f.1 (λ g. unlike a.shared.host.map b.shared.host.map f.2.0 f.2.2 g.maps.host)
      (tell Host a.shared.host.map b.shared.host.map f.0 (λ page t. t) f.2)

  pub answer_hyp : (o : Option Disagreement)
      → a.shared.host.map ≡ b.shared.host.map
      → is_some o ≡ true
      → IsFound (a.shared.hyp.map ≡ b.shared.hyp.map) (IsMapDifference Hyp a.shared.hyp.map b.shared.hyp.map) o
      → IsAnswer o
  answer_hyp o host h x =
      let f =
      is_found (a.shared.hyp.map ≡ b.shared.hyp.map)
      (IsMapDifference Hyp a.shared.hyp.map b.shared.hyp.map) o h x in
      differs o f.0 f.1 (λ g. unlike a.shared.hyp.map b.shared.hyp.map f.2.0 f.2.2 g.maps.hyp)
      (tell Hyp a.shared.hyp.map b.shared.hyp.map f.0 (λ page t. (host, t)) f.2)

  module _ (gs hs : List GhostGuest) (kept : (v : ℕ) → guest_map gs v ≡ (a.guest v).tree.map)
      (walked : (v : ℕ) → guest_map hs v ≡ (b.guest v).tree.map) (host : a.shared.host.map ≡ b.shared.host.map)
      (hyp : a.shared.hyp.map ≡ b.shared.hyp.map) where
    pub answer_guest : (o : Option Disagreement)
        → is_some o ≡ true
        → IsFound ((v : ℕ) → guest_map gs v ≡ guest_map hs v) (IsGuestDifference gs hs) o
        → IsAnswer o
    answer_guest o h x =
        let f = is_found ((v : ℕ) → guest_map gs v ≡ guest_map hs v) (IsGuestDifference gs hs) o h x in
        let below : MapsAgreeBelow a b f.2.0 =
        record { host = host; hyp = hyp; guests = λ u l. sym (kept u) ∙ f.2.1 u l ∙ walked u } in
        let one : IsMapDifference (Guest f.2.0) (a.guest f.2.0).tree.map (b.guest f.2.0).tree.map f.0 =
        subst (λ z. IsMapDifference (Guest f.2.0) (a.guest f.2.0).tree.map z f.0) (walked f.2.0)
        (subst (λ z. IsMapDifference (Guest f.2.0) z (guest_map hs f.2.0) f.0) (kept f.2.0) f.2.2) in
        differs o f.0 f.1
        (λ g. unlike (a.guest f.2.0).tree.map (b.guest f.2.0).tree.map one.0 one.2 (g.maps.guests f.2.0))
        (tell (Guest f.2.0) (a.guest f.2.0).tree.map (b.guest f.2.0).tree.map f.0 (λ page t. (below, t)) one)

    pub answer_rows : (o : Option Disagreement)
        → ((v : ℕ) → guest_map gs v ≡ guest_map hs v)
        → IsFound (a.shared.row ≡ b.shared.row) (IsRowDifference a.shared.row b.shared.row) o
        → IsAnswer o
    answer_rows None g x = (
      (
        λ f. record {
          maps = record { host = host; hyp = hyp; guests = λ v. sym (kept v) ∙ g v ∙ walked v };
          rows = x;
        },
        λ f. refl,
      ),
      tt,
    )
    answer_rows (Some d) g x =
        let maps : MapsAgree a b = record { host = host; hyp = hyp; guests = λ v. sym (kept v) ∙ g v ∙ walked v } in
        differs (Some d) d refl (λ f. unlike a.shared.row b.shared.row x.0 x.2 f.rows)
        (subst (IsFirstDifference a b) (sym x.1) (maps, record { first = x.2; kept_is = refl; walked_is = refl }))
