-- Parts of which one tree was poked.
use Rattle.std.proofs.Common.{◌≡◌, ◌≤◌, true, false, ℕ, zero, suc, ◌+◌, ◌-◌, ◌<◌, List, [], ◌∷◌, All, IfSome, length, get_or, replicate, slice_get, Option, Some, None, refl, sym, ap, subst, arith, ◌∙◌}
use Rattle.std.proofs.Math.ListN.{set}
use Rattle.std.proofs.lemmas.List.Elements.{All-set}
use Rattle.std.proofs.lemmas.Bool.Decides.{nat_tests}
use Rattle.std.proofs.lemmas.List.{length-replicate}
use Rattle.std.proofs.lemmas.Option.{get_or_from_slice_get, slice_get_past, slice_get_read, slice_get_within}
use Rattle.std.specs.Prelude.{nat_lt, IsSome}
use Rattle.std.specs.List.{insert, remove}
use Rattle.page_state.specs.declared.layout.Geometry.{Geometry}
use Rattle.page_state.specs.Geometries.{levels_below}
use Rattle.page_state.proofs.Cases.{by_eq, by_lt}
use Rattle.table_tree.specs.Said.{block_number, block_of}
use Rattle.part_types.specs.declared.parts.GuestPart.{GuestPart}
use Rattle.hypercalls.specs.Stands.{at_place}
use Rattle.ghost_oracle.specs.declared.raw.RawGuest.{RawGuest}
use Rattle.ghost_oracle.specs.declared.raw.Which.{Which}
use Rattle.ghost_oracle.specs.declared.raw.Which.TheVariants.{Host, Hyp, Guest}
use Rattle.ghost_oracle.specs.Beside.{slot_beside, IsSlotOf, AreSlotsOf}
use Rattle.ghost_oracle.specs.Poked.{IsPokedSeen, poked_at, guest_seen, guest_beside}
use Rattle.ghost_oracle.specs.Seen.{SeenTree, nothing_seen, slot_seen}

get_set : {X : Type 0} (xs : List X) (i : ℕ) (x : X) → i < length xs → slice_get (set xs i x) i ≡ Some x
get_set [] i x h = absurd (omega arith)
get_set (y ∷ ys) zero x h = refl
get_set (y ∷ ys) (suc i) x h = get_set ys i x (omega arith)

get_other : {X : Type 0} (xs : List X) (i j : ℕ) (x : X) → (j ≡ i → ⊥) → slice_get (set xs i x) j ≡ slice_get xs j
get_other [] i j x n = refl
get_other (y ∷ ys) zero zero x n = absurd (n refl)
get_other (y ∷ ys) zero (suc j) x n = refl
get_other (y ∷ ys) (suc i) zero x n = refl
get_other (y ∷ ys) (suc i) (suc j) x n = get_other ys i j x (λ e. n (ap suc e))

-- what was taken out of a list put back changed
pub put_back : {X : Type 0} (xs : List X) (i : ℕ) (x : X) → i < length xs → insert (remove xs i) i x ≡ set xs i x
put_back [] i x h = absurd (omega arith)
put_back (y ∷ ys) zero x h = refl
put_back (y ∷ ys) (suc i) x h = ap (λ zs. y ∷ zs) (put_back ys i x (omega arith))

-- all trees but one
pub but_host : (f k : Which → SeenTree)
    → f Hyp ≡ k Hyp
    → ((v : ℕ) → f (Guest v) ≡ k (Guest v))
    → (o : Which)
    → (o ≡ Host → ⊥)
    → f o ≡ k o
but_host f k y g Host n = absurd (n refl)
but_host f k y g Hyp n = y
but_host f k y g (Guest v) n = g v

pub but_hyp : (f k : Which → SeenTree)
    → f Host ≡ k Host
    → ((v : ℕ) → f (Guest v) ≡ k (Guest v))
    → (o : Which)
    → (o ≡ Hyp → ⊥)
    → f o ≡ k o
but_hyp f k x g Host n = x
but_hyp f k x g Hyp n = absurd (n refl)
but_hyp f k x g (Guest v) n = g v

pub but_guest : (f k : Which → SeenTree) (v : ℕ)
    → f Host ≡ k Host
    → f Hyp ≡ k Hyp
    → ((w : ℕ) → (w ≡ v → ⊥) → f (Guest w) ≡ k (Guest w))
    → (o : Which)
    → (o ≡ Guest v → ⊥)
    → f o ≡ k o
but_guest f k v x y g Host n = x
but_guest f k v x y g Hyp n = y
but_guest f k v x y g (Guest w) n = g w (λ e. n (ap Guest e))

-- a path's block hangs on the number of levels alone
pub poked_alike : (g h : Geometry) (x y : SeenTree) (p : List ℕ) (word : ℕ)
    → levels_below g ≡ levels_below h
    → IsPokedSeen (block_of g p) x y p word
    → IsPokedSeen (block_of h p) x y p word
poked_alike g h x y p word e = subst (λ n. IsPokedSeen (n + 1 - length p, block_number p) x y p word) e

module _ {A : Type 0} where
  none_poked : (n v : ℕ) → poked_at {A = A} (replicate n None) v ≡ None
  none_poked zero v = refl
  none_poked (suc n) zero = refl
  none_poked (suc n) (suc v) = none_poked n v

  -- where no guest was poked, the slots are those of the parts
  pub unpoked_seen : (gs : List (GuestPart A)) (n v : ℕ) → guest_seen gs (replicate n None) v ≡ guest_seen gs [] v
  unpoked_seen gs n v = ap (λ r. at_place nothing_seen (λ g. slot_seen g r) (slice_get gs v)) (none_poked n v)

  pub unpoked_beside : (gs : List (GuestPart A)) (n v : ℕ) → guest_beside gs (replicate n None) v ≡ guest_beside gs [] v
  unpoked_beside gs n v = ap (λ r. at_place None (λ g. Some (slot_beside g r)) (slice_get gs v)) (none_poked n v)

  pub unpoked_depth : (n : ℕ) (m : ℕ)
      → All (λ (r : Option (RawGuest A)). IfSome r (λ x. levels_below x.map.tree.geometry ≡ m)) (replicate n None)
  unpoked_depth zero m k d l = absurd (omega arith)
  unpoked_depth (suc n) m zero d l = tt
  unpoked_depth (suc n) m (suc k) d l = unpoked_depth n m k d (omega arith)

  -- one slot among all
  module _ (gs : List (GuestPart A)) (ps : List (Option (RawGuest A))) (v : ℕ) (g : GuestPart A)
      (r : Option (RawGuest A)) (eg : slice_get gs v ≡ Some g) (ep : slice_get ps v ≡ Some r) where
    pub seen_here : guest_seen gs ps v ≡ slot_seen g r
    seen_here =
        ap (at_place nothing_seen (λ x. slot_seen x (poked_at ps v))) eg
        ∙ ap (λ o. slot_seen g (at_place None (λ x. x) o)) ep

    beside_here : guest_beside gs ps v ≡ Some (slot_beside g r)
    beside_here =
        ap (at_place None (λ x. Some (slot_beside x (poked_at ps v)))) eg
        ∙ ap (λ o. Some (slot_beside g (at_place None (λ x. x) o))) ep

    pub depth_here : (geometry : Geometry) → AreSlotsOf geometry gs ps → IsSlotOf geometry g r
    depth_here geometry h =
        let x = h.0 v g (slice_get_within gs v g eg) in
        let y = h.1 v r (slice_get_within ps v r ep) in (
          subst (λ z. levels_below z.guest.geometry ≡ levels_below geometry) (get_or_from_slice_get gs v g g eg) x,
          subst (λ z. IfSome z (λ t. levels_below t.map.tree.geometry ≡ levels_below geometry))
              (get_or_from_slice_get ps v r r ep) y,
        )

    -- and it changes
    module _ (h : GuestPart A) (s : Option (RawGuest A)) where
      seen_after : guest_seen (set gs v h) (set ps v s) v ≡ slot_seen h s
      seen_after =
          ap (at_place nothing_seen (λ x. slot_seen x (poked_at (set ps v s) v)))
          (get_set gs v h (slice_get_within gs v g eg))
          ∙ ap (λ o. slot_seen h (at_place None (λ x. x) o)) (get_set ps v s (slice_get_within ps v r ep))

      beside_after : guest_beside (set gs v h) (set ps v s) v ≡ Some (slot_beside h s)
      beside_after =
          ap (at_place None (λ x. Some (slot_beside x (poked_at (set ps v s) v))))
          (get_set gs v h (slice_get_within gs v g eg))
          ∙ ap (λ o. Some (slot_beside h (at_place None (λ x. x) o))) (get_set ps v s (slice_get_within ps v r ep))

      pub seen_poked : (b : ℕ × ℕ) (p : List ℕ) (word : ℕ)
          → IsPokedSeen b (slot_seen g r) (slot_seen h s) p word
          → IsPokedSeen b (guest_seen gs ps v) (guest_seen (set gs v h) (set ps v s) v) p word
      seen_poked b p word x =
          subst (λ a. IsPokedSeen b a (guest_seen (set gs v h) (set ps v s) v) p word) (sym seen_here)
          (subst (λ a. IsPokedSeen b (slot_seen g r) a p word) (sym seen_after) x)

      pub seen_others : (w : ℕ) → (w ≡ v → ⊥) → guest_seen (set gs v h) (set ps v s) w ≡ guest_seen gs ps w
      seen_others w n =
          ap (at_place nothing_seen (λ x. slot_seen x (poked_at (set ps v s) w))) (get_other gs v w h n)
          ∙ ap (λ o. at_place nothing_seen (λ x. slot_seen x (at_place None (λ y. y) o)) (slice_get gs w))
          (get_other ps v w s n)

      beside_others : (w : ℕ) → (w ≡ v → ⊥) → guest_beside (set gs v h) (set ps v s) w ≡ guest_beside gs ps w
      beside_others w n =
          ap (at_place None (λ x. Some (slot_beside x (poked_at (set ps v s) w)))) (get_other gs v w h n)
          ∙ ap (λ o. at_place None (λ x. Some (slot_beside x (at_place None (λ y. y) o))) (slice_get gs w))
          (get_other ps v w s n)

      pub beside_kept : slot_beside h s ≡ slot_beside g r
          → (w : ℕ)
          → guest_beside (set gs v h) (set ps v s) w ≡ guest_beside gs ps w
      beside_kept e w = by_eq w v
          (λ z. subst (λ u. guest_beside (set gs v h) (set ps v s) u ≡ guest_beside gs ps u) (sym z)
          (beside_after ∙ ap Some e ∙ sym beside_here))
          (λ n. beside_others w n)

      pub depth_kept : (geometry : Geometry)
          → IsSlotOf geometry h s
          → AreSlotsOf geometry gs ps
          → AreSlotsOf geometry (set gs v h) (set ps v s)
      depth_kept geometry x y = (
        All-set (λ z. levels_below z.guest.geometry ≡ levels_below geometry) gs v h x.0 y.0,
        All-set (λ z. IfSome z (λ t. levels_below t.map.tree.geometry ≡ levels_below geometry)) ps v s x.1 y.1,
      )

-- all trees, kind by kind
pub all_trees : (f k : Which → SeenTree)
    → f Host ≡ k Host
    → f Hyp ≡ k Hyp
    → ((v : ℕ) → f (Guest v) ≡ k (Guest v))
    → (o : Which)
    → f o ≡ k o
all_trees f k x y g Host = x
all_trees f k x y g Hyp = y
all_trees f k x y g (Guest v) = g v

-- where nothing is seen there is no word
pub unseen : (t : SeenTree) (path : List ℕ) → nothing_seen ≡ t → IsSome (t.words path) → ⊥
unseen t path e h = let none : false ≡ true = subst (λ (s : SeenTree). IsSome (s.words path)) (sym e) h in cc

-- words of slots that were looked up
module _ {A : Type 0} (gs : List (GuestPart A)) (ps : List (Option (RawGuest A))) (v : ℕ) (p : List ℕ) where
  -- a slot that has a word is one of them
  pub word_within : IsSome ((guest_seen gs ps v).words p) → v < length gs
  word_within h =
      by_lt v (length gs) (λ less. less)
      (λ past. absurd
      (unseen _ p
      (sym (ap (at_place nothing_seen (λ g. slot_seen g (poked_at ps v))) (slice_get_past gs v past))) h))

  pub past_seen : false ≡ nat_lt v (length gs) → None ≡ (guest_seen gs ps v).words p
  past_seen h =
      let l : length gs ≤ v = grind (arith, nat_tests) in
      sym (ap (λ o. (at_place nothing_seen (λ g. slot_seen g (poked_at ps v)) o).words p) (slice_get_past gs v l))

  pub past_poked : length ps ≡ length gs → false ≡ nat_lt v (length ps) → None ≡ (guest_seen gs ps v).words p
  past_poked e h = past_seen (h ∙ ap (λ n. nat_lt v n) e)

  pub word_seen : (g : GuestPart A) (r : Option (RawGuest A))
      → true ≡ nat_lt v (length gs)
      → true ≡ nat_lt v (length ps)
      → g ≡ get_or gs v g
      → r ≡ get_or ps v r
      → (slot_seen g r).words p ≡ (guest_seen gs ps v).words p
  word_seen g r hg hp eg ep =
      let lg : v < length gs = grind (arith, nat_tests) in
      let lp : v < length ps = grind (arith, nat_tests) in
      sym
      (ap (λ s. s.words p)
      (seen_here gs ps v g r (slice_get_read gs (length gs) v g refl lg eg)
      (slice_get_read ps (length ps) v r refl lp ep)))

  pub word_unpoked : (g : GuestPart A)
      → true ≡ nat_lt v (length gs)
      → g ≡ get_or gs v g
      → (slot_seen g None).words p ≡ (guest_seen gs [] v).words p
  word_unpoked g hg eg =
      let lg : v < length gs = grind (arith, nat_tests) in
      sym
      (ap (λ o. (at_place nothing_seen (λ x. slot_seen x None) o).words p)
      (slice_get_read gs (length gs) v g refl lg eg))

pub none_length : {A : Type 0} (xs : List (Option (RawGuest A))) (n : ℕ) → xs ≡ replicate n None → length xs ≡ n
none_length {A} xs n e = ap length e ∙ length-replicate {A = Option (RawGuest A)} n None
