-- Slots by number, as the parts that lie in them.
use Rattle.std.proofs.Common.{◌≡◌, ◌∙◌, ℕ, zero, suc, ◌<◌, ◌==◌, false, List, [], ◌∷◌, ◌++◌, length, map, drop, slice_get, slice_index_or, All, Some, refl, sym, ap, subst, arith, append_assoc, append-nil}
use Rattle.std.proofs.lemmas.List.{map-append}
use Rattle.std.proofs.lemmas.Bool.Decides.{nat_tests}
use Rattle.part_table.proofs.Left.{each_part}
use Rattle.part_table.specs.declared.slot.Slot.{Slot}
use Rattle.part_table.specs.declared.slot.Slot.TheVariants.{Vm as VmSlot, Shared as SharedSlot, Guest as GuestSlot}
use Rattle.part_types.specs.declared.parts.VmPart.{VmPart}
use Rattle.part_types.specs.declared.parts.SharedPart.{SharedPart}
use Rattle.part_types.specs.declared.parts.GuestPart.{GuestPart}
use Rattle.page_state.specs.declared.layout.Layout.{Layout as TheLayout}
use Rattle.page_state.specs.LayoutView.{layout_of}
use Rattle.page_state.specs.Layouts.{Layout}
use Rattle.reference_model.specs.model.History.{calls_on}
use Rattle.reference_model.specs.model.Parts.{vm_part, shared_part, guest_part}
use Rattle.reference_model.specs.model.State.{Reference, no_guest, no_cpu}
use Rattle.part_types.specs.declared.parts.CpuState.{CpuState}
use Rattle.part_types.specs.Numbers.{AreNumbered}
use Rattle.part_types.specs.View.{guest_held, cpu_of}
use Rattle.hypercalls.specs.declared.parts.Parts.{Parts}
use Rattle.hypercalls.specs.Stands.{at_place, HasHistory}
use Rattle.part_table.specs.Endings.{IsEndOf}
use Rattle.part_table.specs.Parts.{log_of, HoldsGuest, IsPart, IsVms, IsShared, IsGuest}
use Rattle.part_table.specs.Whole.{AreGuests, AreParts}
use Rattle.part_table.proofs.Stepping.{some_same}
use Rattle.part_table.proofs.TakenApart.{got}

-- what is taken from the front of a list
pub first_out : {P : Type 0} (xs rest : List P) (x : P)
    → 0 < length xs
    → x ≡ slice_index_or xs 0 x
    → rest ≡ drop 1 xs
    → xs ≡ x ∷ rest
first_out [] rest x some e is = absurd (omega (arith, some))
first_out (y ∷ ys) rest x some e is = λ i. sym e i ∷ sym is i

-- what is pushed onto a list
pub moved : {P Q : Type 0} (f : P → Q) (done now : List Q) (xs rest : List P) (x : P)
    → xs ≡ x ∷ rest
    → now ≡ done ++ f x ∷ []
    → now ++ map f rest ≡ done ++ map f xs
moved f done now xs rest x e is =
    ap (λ l. l ++ map f rest) is ∙ append_assoc done (f x ∷ []) (map f rest) ∙ sym (ap (λ l. done ++ map f l) e)

pub moved_back : {P Q : Type 0} (f : P → Q) (done now : List P) (xs rest : List Q) (x : P)
    → xs ≡ f x ∷ rest
    → now ≡ done ++ x ∷ []
    → map f now ++ rest ≡ map f done ++ xs
moved_back f done now xs rest x e is =
    ap (λ l. map f l ++ rest) is ∙ ap (λ l. l ++ rest) (map-append f done (x ∷ []))
    ∙ append_assoc (map f done) (f x ∷ []) rest ∙ sym (ap (λ l. map f done ++ l) e)

-- a list that isn't empty
pub some_items : (n : ℕ) → (n == 0) ≡ false → 0 < n
some_items n h = grind (arith, nat_tests)

pub none_left : {P : Type 0} (done xs : List P) → length xs ≡ 0 → done ++ xs ≡ done
none_left done [] e = append-nil done
none_left done (x ∷ xs) e = absurd (omega (arith, e))

pub no_more : {P Q : Type 0} (f : P → Q) (done : List Q) (xs : List P) → length xs ≡ 0 → done ++ map f xs ≡ done
no_more f done [] e = append-nil done
no_more f done (x ∷ xs) e = absurd (omega (arith, e))

get_below : {P : Type 0} (xs : List P) (j : ℕ) (x : P) → slice_get xs j ≡ Some x → j < length xs
get_below [] j x e = absurd cc
get_below (y ∷ xs) zero x e = omega arith
get_below (y ∷ xs) (suc j) x e = let less = get_below xs j x e in omega (arith, less)

pub all_got : {P : Type 0} (Is : P → Type 0) (xs : List P)
    → ((k : ℕ) (x : P) → slice_get xs k ≡ Some x → Is x)
    → All Is xs
all_got Is [] h k d less = absurd (omega (arith, less))
all_got Is (x ∷ xs) h zero d less = h 0 x refl
all_got Is (x ∷ xs) h (suc k) d less = all_got Is xs (λ i y e. h (suc i) y e) k d (omega (arith, less))

pair : {X Y : Type 0} (a b : X) (m n : Y) → a ≡ b → m ≡ n → ◌≡◌ {A = X × Y} (a, m) (b, n)
pair a b m n d e = λ i. (d i, e i)

module _ {A : Type 0} where
  -- the first slot of guests is a guest's
  pub first_guest : (xs rest : List (Slot A)) (x : Slot A) → AreGuests xs → xs ≡ x ∷ rest → HoldsGuest x
  first_guest xs rest x kinds e = go x (subst AreGuests e kinds)
    where
      go : (y : Slot A) → AreGuests (y ∷ rest) → HoldsGuest y
      go (VmSlot v) h = h
      go (SharedSlot s) h = h
      go (GuestSlot g) h = tt

  pub rest_guests : (xs rest : List (Slot A)) (g : GuestPart A)
      → AreGuests xs
      → xs ≡ GuestSlot g ∷ rest
      → AreGuests rest
  rest_guests xs rest g kinds e = subst AreGuests e kinds

  -- what parts by number are
  pub parts_split : (xs : List (Slot A))
      → AreParts xs
      → (v : VmPart)
      × (s : SharedPart A)
      × (rest : List (Slot A))
      × (xs ≡ VmSlot v ∷ (SharedSlot s ∷ rest))
      × AreGuests rest
  parts_split [] h = absurd h
  parts_split (VmSlot v ∷ []) h = absurd h
  parts_split (VmSlot v ∷ (VmSlot w ∷ xs)) h = absurd h
  parts_split (VmSlot v ∷ (SharedSlot s ∷ xs)) h = (v, s, xs, refl, h)
  parts_split (VmSlot v ∷ (GuestSlot g ∷ xs)) h = absurd h
  parts_split (SharedSlot s ∷ xs) h = absurd h
  parts_split (GuestSlot g ∷ xs) h = absurd h

  pub rest_of : (xs rest : List (Slot A)) (v : VmPart) (s : SharedPart A)
      → AreParts xs
      → xs ≡ VmSlot v ∷ (SharedSlot s ∷ rest)
      → AreGuests rest
  rest_of xs rest v s h e = subst AreParts e h

  guest_of : (l : Layout) (s : Reference) (k : ℕ) (x : Slot A)
      → IsPart l s (suc (suc k)) x
      → (g : GuestPart A) × (x ≡ GuestSlot g)
  guest_of l s k (VmSlot v) h = absurd h
  guest_of l s k (SharedSlot t) h = absurd h
  guest_of l s k (GuestSlot g) h = (g, refl)

  guests_from : (Is : ℕ → Slot A → Type 0)
      → ((k : ℕ) (x : Slot A) → Is k x → (g : GuestPart A) × (x ≡ GuestSlot g))
      → (xs : List (Slot A))
      → ((k : ℕ) → k < length xs → (x : Slot A) × (slice_get xs k ≡ Some x) × Is k x)
      → AreGuests xs
  guests_from Is kind [] each = tt
  guests_from Is kind (x ∷ xs) each =
      let t = each 0 (omega arith) in
      let g = kind 0 t.0 t.2 in
      let e : x ≡ GuestSlot g.0 = some_same x t.0 t.1 ∙ g.1 in
      subst (λ y. AreGuests (y ∷ xs)) (sym e)
      (guests_from (λ k. Is (suc k)) (λ k. kind (suc k)) xs (λ k less. each (suc k) (omega (arith, less))))

  vms_front : (l : Layout) (s : Reference) (x : Slot A) → IsPart l s 0 x → (v : VmPart) × (x ≡ VmSlot v)
  vms_front l s (VmSlot v) h = (v, refl)
  vms_front l s (SharedSlot t) h = absurd h
  vms_front l s (GuestSlot g) h = absurd h

  shared_front : (l : Layout) (s : Reference) (x : Slot A) → IsPart l s 1 x → (t : SharedPart A) × (x ≡ SharedSlot t)
  shared_front l s (VmSlot v) h = absurd h
  shared_front l s (SharedSlot t) h = (t, refl)
  shared_front l s (GuestSlot g) h = absurd h

  -- parts at the end of a history are of their kinds
  pub end_parts : (l : TheLayout) (xs : List (Slot A)) (cpus : List CpuState) → IsEndOf l xs cpus → AreParts xs
  end_parts l [] cpus h = absurd (let n = h.all in omega (arith, n))
  end_parts l (x ∷ []) cpus h = absurd (let n = h.all in omega (arith, n))
  end_parts l (x ∷ (y ∷ xs)) cpus h =
      let many = h.all in
      let a = each_part h 0 (omega arith) in
      let b = each_part h 1 (omega arith) in
      let v = vms_front (layout_of l) h.left.history.end a.0 a.2 in
      let s = shared_front (layout_of l) h.left.history.end b.0 b.2 in
      let ex : x ≡ VmSlot v.0 = some_same x a.0 a.1 ∙ v.1 in
      let ey : y ≡ SharedSlot s.0 = some_same y b.0 b.1 ∙ s.1 in
      let guests =
      guests_from (λ k z. IsPart (layout_of l) h.left.history.end (suc (suc k)) z)
      (guest_of (layout_of l) h.left.history.end) xs
      (λ k less. let t = each_part h (suc (suc k)) (omega (arith, less, many)) in (t.0, t.1, t.2)) in
      subst (λ z. AreParts (z ∷ (y ∷ xs))) (sym ex) (subst (λ z. AreParts (VmSlot v.0 ∷ (z ∷ xs))) (sym ey) guests)

  get_guest : (gs : List (GuestPart A)) (j : ℕ) (g : GuestPart A)
      → slice_get gs j ≡ Some g
      → slice_get (map (λ (h : GuestPart A). GuestSlot h) gs) j ≡ Some (GuestSlot g)
  get_guest [] j g e = absurd cc
  get_guest (h ∷ gs) zero g e = let s : h ≡ g = cc in ap (λ (x : GuestPart A). Some (GuestSlot x)) s
  get_guest (h ∷ gs) (suc j) g e = get_guest gs j g e

  length_guests : (gs : List (GuestPart A)) → length (map (λ (h : GuestPart A). GuestSlot h) gs) ≡ length gs
  length_guests [] = refl
  length_guests (h ∷ gs) = ap suc (length_guests gs)

  module _ (l : TheLayout) (found : List (Slot A)) (cpus : List CpuState) (end : IsEndOf l found cpus) (v : VmPart)
      (s : SharedPart A) (gs : List (GuestPart A))
      (is : found ≡ VmSlot v ∷ (SharedSlot s ∷ map (λ (h : GuestPart A). GuestSlot h) gs)) where
    abbrev at : Layout
    at = layout_of l

    pub guests_count : length gs ≡ 64
    guests_count = let n = ap length is in let many = end.all in let m = length_guests gs in omega (arith, n, many, m)

    pub vms_end : IsVms at end.left.history.end v × (v.log.calls ≡ calls_on vm_part end.left.log)
    vms_end =
        let t = each_part end 0 (omega arith) in
        let e : t.0 ≡ VmSlot v =
        sym (some_same (VmSlot v) t.0 (sym (ap (λ (xs : List (Slot A)). slice_get xs 0) is) ∙ t.1)) in
        (subst (IsPart at end.left.history.end 0) e t.2, sym (ap (λ (x : Slot A). (log_of x).calls) e) ∙ t.3)

    pub shared_end : IsShared at end.left.history.end s × (s.log.calls ≡ calls_on shared_part end.left.log)
    shared_end =
        let t = each_part end 1 (omega arith) in
        let e : t.0 ≡ SharedSlot s =
        sym (some_same (SharedSlot s) t.0 (sym (ap (λ (xs : List (Slot A)). slice_get xs 1) is) ∙ t.1)) in
        (subst (IsPart at end.left.history.end 1) e t.2, sym (ap (λ (x : Slot A). (log_of x).calls) e) ∙ t.3)

    pub guest_end : (j : ℕ) (g : GuestPart A)
        → slice_get gs j ≡ Some g
        → IsGuest at end.left.history.end j g × (g.log.calls ≡ calls_on (guest_part j) end.left.log)
    guest_end j g here =
        let less = get_below gs j g here in
        let many = guests_count in
        let t = each_part end (suc (suc j)) (omega (arith, less, many)) in
        let e : t.0 ≡ GuestSlot g =
        sym
        (some_same (GuestSlot g) t.0
        (sym (ap (λ (xs : List (Slot A)). slice_get xs (suc (suc j))) is ∙ get_guest gs j g here) ∙ t.1)) in
        let log = sym (ap (λ (x : Slot A). (log_of x).calls) e) ∙ t.3 in
        (subst (IsPart at end.left.history.end (suc (suc j))) e t.2, log)

  -- parts that are put together so stand at the end of the history
  pub has_history : (q : Parts A) (found : List (Slot A)) (end : IsEndOf q.layout found q.cpus.items)
      → found ≡ VmSlot q.vms ∷ (SharedSlot q.shared ∷ map (λ (h : GuestPart A). GuestSlot h) q.guests.items)
      → HasHistory q
  has_history q found end is =
      let l = q.layout in
      let v = q.vms in
      let s = q.shared in
      let gs = q.guests.items in
      let vs = vms_end l found q.cpus.items end v s gs is in
      let ss = shared_end l found q.cpus.items end v s gs is in
      let count = end.count in
      record {
        ready = end.left.ready;
        log = end.left.log;
        history = record {
          end = end.left.history.end;
          run = end.left.history.run;
          stored = end.left.history.stored;
          vms = pair _ _ _ _ vs.0.content vs.1;
          shared = pair _ _ _ _ ss.0.content ss.1;
          guest = λ j less. let g =
              got gs j (let many = guests_count l found q.cpus.items end v s gs is in omega (arith, less, many)) in
              let t = guest_end l found q.cpus.items end v s gs is j g.0 g.1 in
              pair _ _ _ _ (ap (at_place no_guest guest_held) g.1 ∙ t.0.content)
              (ap (at_place [] (λ (w : GuestPart A). w.log.calls)) g.1 ∙ t.1);
          cpu = λ c less. let k =
              got q.cpus.items c (let less' : c < l.config.cpus = less in omega (arith, less', count)) in
              let t = end.left.cpus c k.0 k.1 in
              pair _ _ _ _ (ap (at_place no_cpu cpu_of) k.1 ∙ t.1.content)
              (ap (at_place [] (λ (w : CpuState). w.log.calls)) k.1 ∙ t.0);
        };
      }

  -- and the CPUs' own states are by number
  pub numbers : (l : TheLayout) (found : List (Slot A)) (cpus : List CpuState) → IsEndOf l found cpus → AreNumbered cpus
  numbers l found cpus end c k there = (end.left.cpus c k there).1.id
