-- A guest after its changes, in words of the reference state.
use Rattle.std.proofs.Common.{◌≡◌, ◌≢◌, ℕ, ◌+◌, ◌<◌, ◌↔◌, refl, sym, ap, subst, ◌∙◌, arith, true, is_some, Option, Some, None, Result, Ok, Err}
use Rattle.page_state.specs.declared.layout.Geometry.{Geometry}
use Rattle.page_state.specs.declared.entry.PageRange.{PageRange}
use Rattle.call_table.specs.declared.step.VmKind.{VmKind}
use Rattle.page_state.specs.Counts.{frame_count}
use Rattle.page_state.specs.Geometries.{levels_below}
use Rattle.page_state.specs.Layouts.{Layout}
use Rattle.page_state.specs.Tables.{need, needs, edited, freed, returned}
use Rattle.page_state.specs.Trees.{Pool, Tree}
use Rattle.component.specs.declared.Plan.{Plan}
use Rattle.component.proofs.Keeps.{need_keep}
use Rattle.hyp_pool.specs.declared.PoolFault.{PoolFault}
use Rattle.hyp_pool.specs.declared.PoolFault.TheVariants.{NoPool}
use Rattle.hyp_pool.specs.Pools.{StoredFrames}
use Rattle.reference_model.specs.declared.changes.Changes.{Changes}
use Rattle.reference_model.specs.declared.changes.GuestChange.{GuestChange}
use Rattle.reference_model.specs.declared.changes.GuestChange.TheVariants.{Keep, Install, Gain, LoseLowest, Die, Empty}
use Rattle.reference_model.specs.declared.changes.MapChange.{MapChange}
use Rattle.reference_model.specs.help.ChangeLaws.{CanGain}
use Rattle.reference_model.specs.model.Changes.{edit_of, guest_by}
use Rattle.reference_model.specs.help.Conditions.{table_uses}
use Rattle.reference_model.specs.model.Owner.{count_blocks}
use Rattle.reference_model.specs.model.State.{Guest, Phase, empty, no_guest}
use Rattle.reference_model.specs.model.Step.{guest_after, guest_need}
use Rattle.table_tree.specs.declared.tree.Tree.{Tree as TableTree}
use Rattle.table_tree.specs.View.{tree_of}
use Rattle.table_tree.proofs.Same.{same_uses, same_count}
use Rattle.guest_component.specs.declared.body.Body.{Body}
use Rattle.guest_component.specs.Changing.{CanGainFrames, CanTake, GuestCanChange, PartFits, StaysMade, map_changed}
use Rattle.guest_component.specs.Own.{HoldsOwn}
use Rattle.guest_component.specs.Plans.{IsMadeFor, IsMapInHand, map_with}
use Rattle.guest_component.specs.View.{guest_in}
use Rattle.guest_component.proofs.Frames.{tables_counted, uses_counted}

-- first the map's change, then what else changes
pub after_both : (d : ℕ) (h : Changes) (g x y : Guest) (part : GuestChange)
    → h.part ≡ part
    → x ≡ map_changed d h.guest g
    → y ≡ guest_by d part x
    → y ≡ guest_after d h g
unfolding guest_after
after_both d h g x y part e a b = b ∙ ap (guest_by d part) a ∙ ap (λ q. guest_by d q (map_changed d h.guest g)) (sym e)

-- the guest that an install made
pub after_install : {A : Type 0} (geometry : Geometry) (h : Changes) (g : Guest) (o : Option (Body A))
    (part : GuestChange)
    → h.part ≡ part
    → ((x : Guest) → guest_by (levels_below geometry) part g ≡ guest_by (levels_below geometry) part x)
    → guest_in o ≡ guest_by (levels_below geometry) part no_guest
    → guest_in o ≡ guest_after (levels_below geometry) h g
unfolding guest_after
after_install geometry h g o part e same made =
    let d = levels_below geometry in
    made ∙ sym (same no_guest) ∙ same (map_changed d h.guest g)
    ∙ ap (λ q. guest_by d q (map_changed d h.guest g)) (sym e)

-- the guest that is there is one
pub made_is : {A : Type 0} (geometry : Geometry) (k : VmKind) (n : ℕ) (r : PageRange) (o : Option (Body A))
    → IsMadeFor geometry (Install k n r) o
    → guest_in o ≡ guest_by (levels_below geometry) (Install k n r) no_guest
made_is geometry k n r None h = absurd h
made_is geometry k n r (Some b) h = h.0

-- a guest that became Empty
pub after_empty : (d : ℕ) (h : Changes) (g : Guest) → h.part ≡ Empty → no_guest ≡ guest_after d h g
unfolding guest_after
after_empty d h g e = sym (ap (λ q. guest_by d q (map_changed d h.guest g)) e)

-- an Empty guest's map stays, and needs nothing
none_needed : (d : ℕ) (c : Option MapChange) → (is_some c ≡ true → empty ≢ empty) → 0 ≡ need d no_guest.tree (edit_of c)
none_needed d None h = sym (need_keep d no_guest.tree)
none_needed d (Some c) h = absurd (h refl refl)

pub no_need : {A : Type 0} (d : ℕ) (h : Changes) (o : Option (Body A))
    → o ≡ None
    → (is_some h.guest ≡ true → (guest_in o).phase ≢ empty)
    → 0 ≡ guest_need d h (guest_in o)
no_need d h o e mapped =
    let none : guest_in o ≡ no_guest = ap guest_in e in
    none_needed d h.guest (subst (λ (g : Guest). is_some h.guest ≡ true → g.phase ≢ empty) none mapped)
    ∙ sym (ap (guest_need d h) none)

pub none_short : {X : Type 0} {x : X} (m n : ℕ) → 0 ≡ n → (◌≡◌ {A = Result X PoolFault} (Ok x) (Err NoPool)) ↔ (m < n)
none_short m n e = (λ told. absurd (let clash = told in cc), λ less. absurd (omega (arith, less, e)))

-- and what else changes of it leaves it Empty
none_by : (d : ℕ) (c : Option MapChange) (part : GuestChange)
    → (is_some c ≡ true → empty ≢ empty)
    → StaysMade part
    → PartFits d no_guest part
    → no_guest ≡ guest_by d part (map_changed d c no_guest)
unfolding edited needs freed returned
none_by d (Some c) part mapped stays fits = absurd (mapped refl refl)
none_by d None Keep mapped stays fits = refl
none_by d None (Install k n r) mapped stays fits = absurd stays
none_by d None (Gain r) mapped stays fits = absurd (fits.1.1.made refl)
none_by d None LoseLowest mapped stays fits = refl
none_by d None Die mapped stays fits = absurd (fits.1.1 refl)
none_by d None Empty mapped stays fits = absurd stays

pub none_after : {A : Type 0} (d : ℕ) (h : Changes) (o : Option (Body A))
    → o ≡ None
    → StaysMade h.part
    → GuestCanChange d h (guest_in o)
    → guest_in o ≡ guest_after d h (guest_in o)
unfolding guest_after
none_after d h o e stays fits =
    let none : guest_in o ≡ no_guest = ap guest_in e in
    let can : GuestCanChange d h no_guest = subst (λ (g : Guest). GuestCanChange d h g) none fits in
    none ∙ none_by d h.guest h.part can.mapped stays can.part
    ∙ sym (ap (λ g. guest_by d h.part (map_changed d h.guest g)) none)

-- where no plan of its map is there, it is Empty
pub none_planned : {A : Type 0} (d : ℕ) (h : Changes) (o : Option (Body A)) (plan : Option (Plan A))
    → plan ≡ None
    → IsMapInHand o plan
    → StaysMade h.part
    → GuestCanChange d h (map_with plan o)
    → guest_in o ≡ guest_after d h (map_with plan o)
none_planned {A = A} d h None None e here stays fits = none_after {A = A} d h None refl stays fits
none_planned d h (Some b) None e here stays fits = absurd here
none_planned d h o (Some p) e here stays fits = absurd (let clash = e in cc)

-- what a guest stands for, part by part
abbrev pub guest_told : Phase → ℕ → VmKind → Tree → Pool → Guest
guest_told phase generation kind tree free =
    record { phase = phase; generation = generation; kind = kind; tree = tree; free = free }

pub same_parts : (phase : Phase) (generation : ℕ) (kind : VmKind) (t u : Tree) (p q : Pool)
    → t ≡ u
    → p ≡ q
    → guest_told phase generation kind t p ≡ guest_told phase generation kind u q
same_parts phase generation kind t u p q a b =
    ap (λ x. guest_told phase generation kind x p) a ∙ ap (guest_told phase generation kind u) b

-- frames that can come to a guest can come to what it holds
gains : {A : Type 0} (t : TableTree A) (p : StoredFrames) (phase : Phase) (generation : ℕ) (kind : VmKind) (l : Layout)
    (r : PageRange)
    → l.depth ≡ levels_below t.geometry
    → CanGain l (guest_told phase generation kind (tree_of t) p.frames) r
    → CanGainFrames t p r
gains t p phase generation kind l r e can = record {
  apart = λ f k.
      let used = uses_counted t f in
      let same : table_uses l.depth (tree_of t) f ≡ table_uses (levels_below t.geometry) (tree_of t) f =
      ap (λ d. table_uses d (tree_of t) f) e in
      let none : frame_count f p.frames + table_uses l.depth (tree_of t) f ≡ 0 = can.apart f k in
      omega (arith, used, same, none);
  few =
      let count =
      ap (λ (d : ℕ). count_blocks (d + 1) (d + 1) (λ x. is_some ((tree_of t).table x))) e ∙ tables_counted t in
      let few = can.few in
      omega (arith, count, few);
  low = can.low;
}

pub can_take : {A : Type 0} (t : TableTree A) (p : StoredFrames) (phase : Phase) (generation : ℕ) (kind : VmKind)
    (d : ℕ) (part : GuestChange)
    → d ≡ levels_below t.geometry
    → PartFits d (guest_told phase generation kind (tree_of t) p.frames) part
    → CanTake t p part
can_take t p phase generation kind d Keep e fits = _
can_take t p phase generation kind d (Install k n r) e fits = _
can_take t p phase generation kind d (Gain r) e fits = gains t p phase generation kind fits.0 r (fits.1.0 ∙ e) fits.1.1
can_take t p phase generation kind d LoseLowest e fits = _
can_take t p phase generation kind d Die e fits = _
can_take t p phase generation kind d Empty e fits = _

-- a tree that is one but for its spares has the same frames
pub owned : {A : Type 0} (u t : TableTree A) (q p : StoredFrames)
    → u.geometry ≡ t.geometry
    → u.table ≡ t.table
    → q ≡ p
    → HoldsOwn t p
    → HoldsOwn u q
owned u t q p geometry table pool own =
    let there : HoldsOwn u p = (
      λ f. omega (arith, own.0 f, same_uses u t geometry table f),
      (omega (arith, own.1.0, same_count u t geometry table), own.1.1),
    ) in
    subst (HoldsOwn u) (sym pool) there
