-- What freedoms leave of a state: rules, changes and rows are the same of it, where the step doesn't depend on which of
-- its own pages the host has.
use Rattle.std.proofs.Common.{◌≡◌, ℕ, ◌+◌, ◌-◌, refl, ap, sym, ◌∙◌}
use Rattle.std.specs.Prelude.{Bool, true, false, not, ◌&&◌, ◌==◌, Option, Some, None, if◌then◌else◌}
use mathlib.Core.Path.{fun_ext}
use Rattle.descriptor.specs.declared.Prot.TheVariants.{RWX}
use Rattle.descriptor.specs.declared.State.TheVariants.{Owned, SharedOwned, SharedBorrowed}
use Rattle.page_state.specs.declared.entry.Entry.{Entry}
use Rattle.page_state.specs.declared.entry.Entry.TheVariants.{Unmapped, Malformed, Annotated, Leaf}
use Rattle.page_state.specs.declared.layout.Region.{Region}
use Rattle.page_state.proofs.Common.{same2}
use Rattle.page_state.specs.Entries.{advance}
use Rattle.page_state.specs.EntryTests.{is_unmapped, is_in, is_free_page, maps_frame, leaf, device_leaf}
use Rattle.page_state.specs.Layouts.{Layout}
use Rattle.page_state.specs.Map.{Map, is_within}
use Rattle.page_state.specs.Regions.{region_of, is_memory_kind}
use Rattle.reference_model.specs.model.SharedRules.{abort_leaf}
use Rattle.page_state.specs.Layouts.{hyp_page}
use Rattle.page_state.specs.Search.{all_below}
use Rattle.page_state.specs.Tables.{Edit, keep, put, edited_map, edited}
use Rattle.page_state.specs.Trees.{no_tree}
use Rattle.call_table.specs.declared.step.Step.{Step}
use Rattle.call_table.specs.declared.step.Step.TheVariants.{ShareHyp, UnshareHyp, DonateHyp, Fund, ShareGuest, DonateGuest, HostAbort, HostTranslate, Topup, ReclaimPool, FinishGuest}
use Rattle.reference_model.specs.declared.changes.Changes.{Changes}
use Rattle.reference_model.specs.model.Changes.{edit_of}
use Rattle.reference_model.specs.model.GuestRules.{is_protected}
use Rattle.reference_model.specs.model.Rules.{rule}
use Rattle.reference_model.specs.model.State.{Shared, Guest}
use Rattle.reference_model.specs.model.Step.{rule_of, changed, shared_after}
use Rattle.reference_model.specs.model.Used.{Used}
use Rattle.freedoms.proofs.Bare.{changed-bare}
use Rattle.freedoms.specs.Ample.{asks_pool}
use Rattle.freedoms.specs.OwnTables.{bare_shared, bare_used}
use Rattle.freedoms.specs.declared.Freedoms.{Freedoms}
use Rattle.freedoms.specs.Freedoms.{reads_host, own_entry, touched_entry, is_device, as_device, kind_entry, view_entry}

-- a test of entries that freedoms leave alone
pub record Leaves {X : Type 0} (l : Layout) (test : Entry → X) : Type 0 where
  pub own : (p : ℕ) → test (own_entry l p) ≡ test Unmapped
  pub kind : (e : Entry) → test (as_device e) ≡ test e

if-test : {X : Type 0} (test : Entry → X) (b : Bool) (x e : Entry)
    → test x ≡ test e
    → test (if b then x else e) ≡ test e
if-test test true x e h = h
if-test test false x e h = refl

touched-test : {X : Type 0} (l : Layout) (test : Entry → X)
    → Leaves l test
    → (p : ℕ) (e : Entry)
    → test (touched_entry l p e) ≡ test e
touched-test l test h p Unmapped = h.own p
touched-test l test h p (Annotated o) = refl
touched-test l test h p Malformed = refl
touched-test l test h p (Leaf f q k s) = refl

pub view-test : {X : Type 0} (w : Freedoms) (l : Layout) (test : Entry → X)
    → Leaves l test
    → (p : ℕ) (e : Entry)
    → test (view_entry w l p e) ≡ test e
view-test w l test h p e =
    let kind = if-test test (is_device l p) (as_device e) e (h.kind e) in
    let chosen = if-test test w.any_kind (kind_entry l p e) e kind in
    if-test test w.lazy_host (touched_entry l p (if w.any_kind then kind_entry l p e else e))
    (if w.any_kind then kind_entry l p e else e)
    (touched-test l test h p (if w.any_kind then kind_entry l p e else e))
    ∙ chosen

pub own-test : {X : Type 0} (l : Layout) (test : Entry → X) (b : X)
    → ((f : ℕ) (r : Region) → test (abort_leaf r f) ≡ b)
    → test Unmapped ≡ b
    → (p : ℕ)
    → test (own_entry l p) ≡ test Unmapped
own-test l test b each none p = go (region_of l.memory p)
  where
    go : (o : Option Region) → test (elim o [ Some r ↦ abort_leaf r p | None ↦ Unmapped ]) ≡ test Unmapped
    go None = refl
    go (Some r) = each p r ∙ sym none

pub abort-test : {X : Type 0} (test : Entry → X) (b : X) (f : ℕ) (r : Region)
    → test (leaf RWX f Owned) ≡ b
    → test (device_leaf f) ≡ b
    → test (abort_leaf r f) ≡ b
abort-test test b f r h k = go (is_memory_kind r.kind)
  where
    go : (m : Bool) → test (if m then leaf RWX f Owned else device_leaf f) ≡ b
    go true = h
    go false = k

pub free-leaves : (l : Layout) → Leaves l is_free_page
free-leaves l =
    record { own = own-test l is_free_page true (λ f r. abort-test is_free_page true f r refl refl) refl; kind = go }
  where
    go : (e : Entry) → is_free_page (as_device e) ≡ is_free_page e
    go Unmapped = refl
    go Malformed = refl
    go (Annotated o) = refl
    go (Leaf f q k s) = refl

pub shared-leaves : (l : Layout) → Leaves l (is_in SharedOwned)
shared-leaves l =
    record {
      own = own-test l (is_in SharedOwned) false
          (λ f r. abort-test (is_in SharedOwned) false f r refl refl) refl;
      kind = go;
    }
  where
    go : (e : Entry) → is_in SharedOwned (as_device e) ≡ is_in SharedOwned e
    go Unmapped = refl
    go Malformed = refl
    go (Annotated o) = refl
    go (Leaf f q k s) = refl

and-no : (b : Bool) → (b && false) ≡ false
and-no true = refl
and-no false = refl

pub borrow-leaves : (l : Layout) (f : ℕ) → Leaves l (maps_frame f SharedBorrowed)
borrow-leaves l f =
    record {
      own = own-test l (maps_frame f SharedBorrowed) false
          (λ g r. abort-test (maps_frame f SharedBorrowed) false g r (and-no (g == f)) (and-no (g == f))) refl;
      kind = go;
    }
  where
    go : (e : Entry) → maps_frame f SharedBorrowed (as_device e) ≡ maps_frame f SharedBorrowed e
    go Unmapped = refl
    go Malformed = refl
    go (Annotated o) = refl
    go (Leaf g q k s) = refl

-- the owner that an entry names
abbrev pub annot : Entry → Option ℕ
annot (Annotated o) = Some o.0
annot other = None

pub annot-leaves : (l : Layout) → Leaves l annot
annot-leaves l = record { own = own-test l annot None (λ f r. abort-test annot None f r refl refl) refl; kind = go }
  where
    go : (e : Entry) → annot (as_device e) ≡ annot e
    go Unmapped = refl
    go Malformed = refl
    go (Annotated o) = refl
    go (Leaf f q k s) = refl

-- seen twice is seen once

as-twice : (e : Entry) → as_device (as_device e) ≡ as_device e
as-twice Unmapped = refl
as-twice Malformed = refl
as-twice (Annotated o) = refl
as-twice (Leaf g q k s) = refl

kind-twice : (l : Layout) (p : ℕ) (e : Entry) → kind_entry l p (kind_entry l p e) ≡ kind_entry l p e
kind-twice l p e = go (is_device l p)
  where
    go : (b : Bool)
        → (if b then as_device (if b then as_device e else e) else (if b then as_device e else e))
        ≡ (if b then as_device e else e)
    go true = as-twice e
    go false = refl

abbrev region-entry : ℕ → Option Region → Entry
region-entry p o = elim o [ Some r ↦ abort_leaf r p | None ↦ Unmapped ]

own-kind : (l : Layout) (p : ℕ) → kind_entry l p (own_entry l p) ≡ own_entry l p
own-kind l p = go (region_of l.memory p)
  where
    by-kind : (m : Bool)
        → (if not m then as_device (if m then leaf RWX p Owned else device_leaf p)
        else (if m then leaf RWX p Owned else device_leaf p))
        ≡ (if m then leaf RWX p Owned else device_leaf p)
    by-kind true = refl
    by-kind false = refl

    go : (o : Option Region)
        → (if (elim o [ Some r ↦ not (is_memory_kind r.kind) | None ↦ false ]) then as_device (region-entry p o)
        else region-entry p o)
        ≡ region-entry p o
    go None = refl
    go (Some r) = by-kind (is_memory_kind r.kind)

if-both : {X : Type 0} (b : Bool) (x : X) → (if b then x else x) ≡ x
if-both true x = refl
if-both false x = refl

pub touched-twice : (l : Layout) (p : ℕ) (e : Entry) → touched_entry l p (touched_entry l p e) ≡ touched_entry l p e
touched-twice l p Unmapped = if-both (is_unmapped (own_entry l p)) (own_entry l p)
touched-twice l p Malformed = refl
touched-twice l p (Annotated o) = refl
touched-twice l p (Leaf f q k s) = refl

-- by whether each freedom is there
abbrev by_kind : Layout → Bool → ℕ → Entry → Entry
by_kind l b p e = if b then kind_entry l p e else e

kind-stays : (l : Layout) (b : Bool) (p : ℕ) (e : Entry) → by_kind l b p (by_kind l b p e) ≡ by_kind l b p e
kind-stays l true p e = kind-twice l p e
kind-stays l false p e = refl

pub kind-own : (l : Layout) (b : Bool) (p : ℕ) → by_kind l b p (own_entry l p) ≡ own_entry l p
kind-own l true p = own-kind l p
kind-own l false p = refl

kind-touched : (l : Layout) (b : Bool) (p : ℕ) (k : Entry)
    → by_kind l b p k ≡ k
    → by_kind l b p (touched_entry l p k) ≡ touched_entry l p k
kind-touched l b p Unmapped h = kind-own l b p
kind-touched l b p Malformed h = h
kind-touched l b p (Annotated o) h = h
kind-touched l b p (Leaf f q j s) h = h

twice : (l : Layout) (b c : Bool) (p : ℕ) (k : Entry)
    → by_kind l b p k ≡ k
    → (let t = if c then touched_entry l p k else k in
    if c then touched_entry l p (by_kind l b p t) else by_kind l b p t)
    ≡ (if c then touched_entry l p k else k)
twice l b true p k h = ap (touched_entry l p) (kind-touched l b p k h) ∙ touched-twice l p k
twice l b false p k h = h

pub view-twice : (w : Freedoms) (l : Layout) (p : ℕ) (e : Entry)
    → view_entry w l p (view_entry w l p e) ≡ view_entry w l p e
view-twice w l p e = twice l w.any_kind w.lazy_host p (by_kind l w.any_kind p e) (kind-stays l w.any_kind p e)

-- parts

abbrev pub view_shared : Freedoms → Layout → Shared → Shared
view_shared w l x =
    record (bare_shared x) { host = record { map = λ p. view_entry w l p (x.host.map p); table = no_tree.table } }

abbrev pub view_used : Freedoms → Layout → Used → Used
view_used w l x = record (bare_used x) { shared = view_shared w l x.shared }

-- an edit of a map that is seen
abbrev edited_view : Freedoms → Layout → Map → Edit → Map
edited_view w l m keep p = m p
edited_view w l m (put first count entry) p =
    if is_within first count p then view_entry w l p (advance entry (p - first)) else m p

pub if-view : (w : Freedoms) (l : Layout) (p : ℕ) (b : Bool) (x e : Entry)
    → view_entry w l p (if b then x else e) ≡ (if b then view_entry w l p x else view_entry w l p e)
if-view w l p true x e = refl
if-view w l p false x e = refl

map-view : (w : Freedoms) (l : Layout) (m : Map) (e : Edit) (p : ℕ)
    → view_entry w l p (edited_map m e p) ≡ edited_view w l (λ q. view_entry w l q (m q)) e p
map-view w l m keep p = refl
map-view w l m (put first count entry) p = if-view w l p (is_within first count p) (advance entry (p - first)) (m p)

-- a change of what is seen
changed_view : Freedoms → Layout → Changes → Used → Used
changed_view w l h v =
    record (bare_used (changed l.depth h v)) {
      shared = record (bare_shared (changed l.depth h v).shared)
          { host = record { map = edited_view w l v.shared.host.map (edit_of h.host); table = no_tree.table } };
    }

abbrev with_map : Used → Map → Used
with_map x m = record x { shared = record x.shared { host = record { map = m; table = no_tree.table } } }

view-changed : (w : Freedoms) (l : Layout) (h : Changes) (x : Used)
    → view_used w l (changed l.depth h x) ≡ changed_view w l h (view_used w l x)
unfolding changed_view changed shared_after edited
view-changed w l h x =
    same2 (λ (g : Guest) (m : Map). with_map (record (bare_used (changed l.depth h x)) { guest = g }) m)
    (ap (λ (z : Used). z.guest) (changed-bare l.depth h x))
    (fun_ext (map-view w l x.shared.host.map (edit_of h.host)))

pub changed-alike : (w : Freedoms) (l : Layout) (h : Changes) (x z : Used)
    → view_used w l x ≡ view_used w l z
    → view_used w l (changed l.depth h x) ≡ view_used w l (changed l.depth h z)
changed-alike w l h x z e = view-changed w l h x ∙ ap (changed_view w l h) e ∙ sym (view-changed w l h z)

-- rules

host-at : (w : Freedoms) (l : Layout) (x : Used) (test : Entry → Bool)
    → Leaves l test
    → (f : ℕ)
    → test ((view_used w l x).shared.host.map f) ≡ test (x.shared.host.map f)
host-at w l x test h f = view-test w l test h f (x.shared.host.map f)

all-at : (w : Freedoms) (l : Layout) (x : Used) (f n : ℕ) (b : ℕ → Bool)
    → all_below n (λ i. is_free_page ((view_used w l x).shared.host.map (f + i)) && b i)
    ≡ all_below n (λ i. is_free_page (x.shared.host.map (f + i)) && b i)
all-at w l x f n b =
    ap (all_below n) (fun_ext (λ i. ap (λ t. t && b i) (host-at w l x is_free_page (free-leaves l) (f + i))))

rule-view : (w : Freedoms) (l : Layout) (cpu : ℕ) (slot : Option ℕ) (step : Step) (x : Used)
    → asks_pool step ≡ false
    → reads_host step ≡ false
    → rule_of l cpu slot step (view_used w l x) ≡ rule_of l cpu slot step x
unfolding rule
rule-view w l cpu slot (ShareHyp f) x a b =
    ap
    (λ t. record (rule_of l cpu slot (ShareHyp f) x) {
      allowed = record (rule_of l cpu slot (ShareHyp f) x).allowed
          { passes = t && is_unmapped (x.shared.hyp.map (hyp_page f)) };
    })
    (host-at w l x is_free_page (free-leaves l) f)
rule-view w l cpu slot (UnshareHyp f) x a b =
    ap
    (λ t. record (rule_of l cpu slot (UnshareHyp f) x) {
      allowed = record (rule_of l cpu slot (UnshareHyp f) x).allowed
          { passes = t && is_in SharedBorrowed (x.shared.hyp.map (hyp_page f)) };
    })
    (host-at w l x (is_in SharedOwned) (shared-leaves l) f)
rule-view w l cpu slot (DonateHyp f n) x a b =
    ap
    (λ t. record (rule_of l cpu slot (DonateHyp f n) x)
    { allowed = record (rule_of l cpu slot (DonateHyp f n) x).allowed { passes = t } })
    (all-at w l x f n (λ i. is_unmapped (x.shared.hyp.map (hyp_page (f + i)))))
rule-view w l cpu slot (Fund f n) x a b =
    ap
    (λ t. record (rule_of l cpu slot (Fund f n) x)
    { allowed = record (rule_of l cpu slot (Fund f n) x).allowed { passes = t } })
    (all-at w l x f n (λ i. is_unmapped (x.shared.hyp.map (hyp_page (f + i)))))
rule-view w l cpu slot (ShareGuest f g r n) x a b =
    ap
    (λ t. record (rule_of l cpu slot (ShareGuest f g r n) x) {
      allowed = record (rule_of l cpu slot (ShareGuest f g r n) x).allowed
          { passes = not (is_protected x.guest.kind) && t };
    })
    (all-at w l x f n (λ i. is_unmapped (x.guest.tree.map (g + i))))
rule-view w l cpu slot (DonateGuest f g n) x a b =
    ap
    (λ t. record (rule_of l cpu slot (DonateGuest f g n) x) {
      allowed = record (rule_of l cpu slot (DonateGuest f g n) x).allowed
          { passes = is_protected x.guest.kind && t };
    })
    (all-at w l x f n (λ i. is_unmapped (x.guest.tree.map (g + i))))
rule-view w l cpu slot (HostAbort p) x a b = cc
rule-view w l cpu slot (HostTranslate p) x a b = cc
rule-view w l cpu slot (Topup vm) x a b = cc
rule-view w l cpu slot (ReclaimPool vm) x a b = cc
rule-view w l cpu slot FinishGuest x a b = cc
rule-view w l cpu slot step x a b = refl

pub rule-alike : (w : Freedoms) (l : Layout) (cpu : ℕ) (slot : Option ℕ) (step : Step) (x z : Used)
    → asks_pool step ≡ false
    → reads_host step ≡ false
    → view_used w l x ≡ view_used w l z
    → rule_of l cpu slot step x ≡ rule_of l cpu slot step z
rule-alike w l cpu slot step x z a b e =
    sym (rule-view w l cpu slot step x a b) ∙ ap (rule_of l cpu slot step) e ∙ rule-view w l cpu slot step z a b
