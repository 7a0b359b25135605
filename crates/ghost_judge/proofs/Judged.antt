-- What a judgement finds, from what its parts find.
use Rattle.std.proofs.Common.{◌≡◌, ℕ, zero, suc, ◌+◌, ◌<◌, ◌≤◌, true, false, Bool, List, [], ◌∷◌, All, Option, Some, None, map, length, get_or, refl, sym, ap, subst, ◌∙◌, arith}
use Rattle.std.proofs.lemmas.List.{get_or-map}
use Rattle.std.specs.Prelude.{◌↔◌}
use mathlib.Core.Path.{fun_ext}
use Rattle.page_state.specs.Blocks.{block_eq}
use Rattle.page_state.specs.Trees.{Block}
use Rattle.page_state.proofs.BlockTests.{block_eq-same}
use Rattle.page_state.proofs.Cases.{by_lt, by_test}
use Rattle.reference_model.specs.model.State.{Contents, Guest, Shared, Slot}
use Rattle.ghost_trees.specs.declared.tree.Table.{Table}
use Rattle.ghost_trees.specs.Trees.{table_of}
use Rattle.page_state.specs.declared.entry.Entry.{Entry}
use Rattle.ghost_judge.specs.declared.disagreement.Disagreement.{Disagreement}
use Rattle.ghost_judge.specs.declared.disagreement.Disagreement.TheVariants.{Map as MapDiffers, Owner as OwnerDiffers, Reply as ReplyDiffers, SharedPart, GuestPart, Vm, Cpu}
use Rattle.ghost_judge.specs.declared.disagreement.TreeOf.{TreeOf}
use Rattle.ghost_judge.specs.declared.disagreement.TreeOf.TheVariants.{Host, Hyp, Guest as GuestOf}
use Rattle.ghost_judge.specs.Apart.{IsFirstApart}
use Rattle.ghost_judge.specs.Audits.{AuditAgrees, IsFirstMap}
use Rattle.ghost_judge.specs.Judgements.{PoolAgrees, SlotsAgree, IsFirstOfState}
use Rattle.ghost_judge.specs.PartDifferences.{without_map, IsSamePool}
use Rattle.ghost_judge.proofs.OnePart.{guest_else, shared_else}
use Rattle.ghost_judge.specs.inner.Found.{IsFound, IsGuestPart, IsSharedPart}
use Rattle.ghost_judge.specs.inner.Same.{unloaded, HasSameFrame}

-- two functions, place by place

pub below_next : {X : Type 0} (f g : ℕ → X) (i : ℕ)
    → ((u : ℕ) → u < i → f u ≡ g u)
    → f i ≡ g i
    → (u : ℕ)
    → u < i + 1
    → f u ≡ g u
below_next f g i below here u l =
    by_lt u i (λ k. below u k) (λ k. let e : i ≡ u = omega arith in subst (λ w. f w ≡ g w) e here)

pub past_end : {S X : Type 0} (view : S → X) (blank : X) (xs : List S) (u : ℕ)
    → length xs ≤ u
    → get_or (map view xs) u blank ≡ blank
past_end view blank [] u h = refl
past_end view blank (x ∷ xs) zero h = absurd (omega arith)
past_end view blank (x ∷ xs) (suc u) h = past_end view blank xs u (omega arith)

pub end_of_list : {X : Type 0} (blank : X) (xs : List X) (u : ℕ) → length xs ≤ u → get_or xs u blank ≡ blank
end_of_list blank [] u h = refl
end_of_list blank (x ∷ xs) zero h = absurd (omega arith)
end_of_list blank (x ∷ xs) (suc u) h = end_of_list blank xs u (omega arith)

pub everywhere : {X : Type 0} (f g : ℕ → X) (blank : X) (n : ℕ)
    → ((u : ℕ) → n ≤ u → f u ≡ blank)
    → ((u : ℕ) → n ≤ u → g u ≡ blank)
    → ((u : ℕ) → u < n → f u ≡ g u)
    → (u : ℕ)
    → f u ≡ g u
everywhere f g blank n h k below u = by_lt u n (λ l. below u l) (λ l. h u l ∙ sym (k u l))

pub apart_here : {X : Type 0} (f g : ℕ → X) (i : ℕ)
    → ((u : ℕ) → u < i → f u ≡ g u)
    → (f i ≡ g i → ⊥)
    → IsFirstApart f g i
apart_here f g i below differ = record { differ = differ; before = below }

-- tables

no-some : (f : ℕ) → None ≡ Some f → ⊥
no-some f e = cc

-- a block with a frame is that of a table of the list
at_block : (a b ts : List Table) (x : Block) (f : ℕ)
    → All (HasSameFrame a b) ts
    → table_of ts x ≡ Some f
    → table_of a x ≡ table_of b x
at_block a b [] x f h e = absurd (no-some f e)
at_block a b (t ∷ ts) x f h e = by_test (block_eq t.block x)
    (λ k. subst (λ y. table_of a y ≡ table_of b y) (block_eq-same t.block x k) (h 0 t (omega arith)))
    (λ k. at_block a b ts x f (λ n d l. h (suc n) d (omega (arith, l))) (rw k at e))

pub alike : (a b : List Table) → All (HasSameFrame a b) a → All (HasSameFrame a b) b → table_of a ≡ table_of b
alike a b h k = fun_ext (λ x. go x (table_of a x) (table_of b x) refl refl)
  where
    go : (x : Block) (p q : Option ℕ) → table_of a x ≡ p → table_of b x ≡ q → table_of a x ≡ table_of b x
    go x (Some f) q e g = at_block a b a x f h e
    go x None (Some f) e g = at_block a b b x f k g
    go x None None e g = e ∙ sym g

pub all_alike : (a b ts : List Table) → table_of a ≡ table_of b → All (HasSameFrame a b) ts
all_alike a b ts e = λ n d l. ap (λ f. f (get_or ts n d).block) e

pub not_both : (b : Bool) → b ≡ true → b ≡ false → ⊥
not_both b e f = let g : true ≡ false = sym e ∙ f in cc

pub place_same : {S X Y : Type 0} (view : S → X) (blank : X) (rest : X → Y) (xs ys : List S) (i : ℕ) (x y : S)
    → i < length xs
    → i < length ys
    → rest (view (get_or xs i x)) ≡ rest (view (get_or ys i y))
    → rest (get_or (map view xs) i blank) ≡ rest (get_or (map view ys) i blank)
place_same view blank rest xs ys i x y l k e =
    ap rest (get_or-map view xs i x blank l) ∙ e ∙ sym (ap rest (get_or-map view ys i y blank k))

pub place_view : {S X : Type 0} (view : S → X) (blank : X) (xs ys : List S) (i : ℕ) (x y : S)
    → i < length xs
    → i < length ys
    → get_or (map view xs) i blank ≡ get_or (map view ys) i blank
    → view (get_or xs i x) ≡ view (get_or ys i y)
place_view view blank xs ys i x y l k e = sym (get_or-map view xs i x blank l) ∙ e ∙ get_or-map view ys i y blank k

pub place_told : {S X Y : Type 0} (view : S → X) (blank : X) (rest : X → Y) (xs ys : List S) (i : ℕ) (x y : S)
    → i < length xs
    → i < length ys
    → x ≡ get_or xs i x
    → y ≡ get_or ys i y
    → rest (view x) ≡ rest (view y)
    → rest (get_or (map view xs) i blank) ≡ rest (get_or (map view ys) i blank)
place_told view blank rest xs ys i x y l k e f g =
    place_same view blank rest xs ys i x y l k (sym (ap (λ z. rest (view z)) e) ∙ g ∙ ap (λ z. rest (view z)) f)

pub slot_same : (s t : Slot) → unloaded s ≡ unloaded t → s.loaded ≡ t.loaded → s ≡ t
slot_same s t e h = ap (λ x. record s { loaded = x }) h ∙ ap (λ (x : Slot). record x { loaded = t.loaded }) e

-- contents from their parts

guest_same : (g h : Guest) → g.tree.map ≡ h.tree.map → without_map g ≡ without_map h → g ≡ h
guest_same g h m w =
    ap (λ t. record g { tree = record g.tree { map = t } }) m
    ∙ ap (λ (x : Guest). record x { tree = record x.tree { map = h.tree.map } }) w

shared_same : (s t : Shared) → s.host.map ≡ t.host.map → s.hyp.map ≡ t.hyp.map → s.row ≡ t.row → IsSamePool s t → s ≡ t
shared_same s t m n r p =
    ap (λ x. record { host = record { map = x; table = s.host.table }; hyp = s.hyp; free = s.free; row = s.row }) m
    ∙ ap (λ x. record { host = record { map = t.host.map; table = x }; hyp = s.hyp; free = s.free; row = s.row }) p.host
    ∙ ap (λ x. record { host = t.host; hyp = record { map = x; table = s.hyp.table }; free = s.free; row = s.row }) n
    ∙ ap (λ x. record { host = t.host; hyp = record { map = t.hyp.map; table = x }; free = s.free; row = s.row }) p.hyp
    ∙ ap (λ x. record { host = t.host; hyp = t.hyp; free = x; row = s.row }) p.free
    ∙ ap (λ x. record { host = t.host; hyp = t.hyp; free = t.free; row = x }) r

pub contents_same : (a b : Contents) → SlotsAgree a b → ((c : ℕ) → a.cpu c ≡ b.cpu c) → a ≡ b
contents_same a b h k =
    let maps = h.guests.pool.audit.maps in
    ap (λ x. record { vms = record { slot = x }; shared = a.shared; guest = a.guest; cpu = a.cpu }) (fun_ext h.slots)
    ∙ ap (λ x. record { vms = b.vms; shared = x; guest = a.guest; cpu = a.cpu })
    (shared_same a.shared b.shared maps.host maps.hyp h.guests.pool.audit.rows h.guests.pool.pool)
    ∙ ap (λ x. record { vms = b.vms; shared = b.shared; guest = x; cpu = a.cpu })
    (fun_ext (λ v. guest_same (a.guest v) (b.guest v) (maps.guests v) (h.guests.guests v)))
    ∙ ap (λ x. record { vms = b.vms; shared = b.shared; guest = b.guest; cpu = x }) (fun_ext k)

-- a first difference is one

module _ (a b : Contents) where
  refutes_map : (tree : TreeOf) (page : ℕ) (x y : Entry) → IsFirstMap a b tree page x y → a ≡ b → ⊥
  refutes_map Host page x y h e = h.first.differ (ap (λ (c : Contents). c.shared.host.map page) e)
  refutes_map Hyp page x y h e = h.1.first.differ (ap (λ (c : Contents). c.shared.hyp.map page) e)
  refutes_map (GuestOf v) page x y h e = h.1.first.differ (ap (λ (c : Contents). (c.guest v).tree.map page) e)

  pub refutes : (d : Disagreement) → IsFirstOfState a b d → a ≡ b → ⊥
  refutes (MapDiffers tree page x y) h e = refutes_map tree page x y h e
  refutes (OwnerDiffers frame x y) h e = h.1.first.differ (ap (λ (c : Contents). c.shared.row frame) e)
  refutes (SharedPart part) h e =
      shared_else a.shared b.shared part
      (record {
        free = ap (λ (c : Contents). c.shared.free) e;
        host = ap (λ (c : Contents). c.shared.host.table) e;
        hyp = ap (λ (c : Contents). c.shared.hyp.table) e;
      }) h.1
  refutes (GuestPart v part) h e =
      guest_else v (a.guest v) (b.guest v) part (ap (λ (c : Contents). without_map (c.guest v)) e) h.2
  refutes (Vm v) h e = h.1.differ (ap (λ (c : Contents). c.vms.slot v) e)
  refutes (Cpu k) h e = h.1.differ (ap (λ (c : Contents). c.cpu k) e)
  refutes (ReplyDiffers said spec) h e = h

  pub answered : (o : Option Disagreement) → IsFound (a ≡ b) (IsFirstOfState a b) o → (o ≡ None) ↔ (a ≡ b)
  answered None x = (λ f. x, λ f. refl)
  answered (Some d) x = (λ f. cc, λ e. absurd (refutes d x e))

  -- the Shared parts or two guests differ

  pub shared_part : (o : Option Disagreement)
      → AuditAgrees a b
      → (IsSamePool a.shared b.shared → ⊥)
      → IsFound (IsSamePool a.shared b.shared) (IsSharedPart a.shared b.shared) o
      → IsFound (a ≡ b) (IsFirstOfState a b) o
  shared_part None g d x = absurd (d x)
  shared_part (Some d) g n x = subst (IsFirstOfState a b) (sym x.1) (g, x.2)

  pub guest_part : (v : ℕ) (o : Option Disagreement)
      → PoolAgrees a b
      → IsFirstApart (λ u. without_map (a.guest u)) (λ u. without_map (b.guest u)) v
      → IsFound (without_map (a.guest v) ≡ without_map (b.guest v)) (IsGuestPart v (a.guest v) (b.guest v)) o
      → IsFound (a ≡ b) (IsFirstOfState a b) o
  guest_part v None g n x = absurd (n.differ x)
  guest_part v (Some d) g n x = subst (IsFirstOfState a b) (sym x.1) (g, n.before, x.2)
