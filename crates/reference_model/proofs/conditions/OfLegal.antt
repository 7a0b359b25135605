-- From the invariant to single frames.
use Rattle.std.proofs.Common.{◌≡◌, ℕ, ◌+◌, ◌-◌, refl, ap, sym, ◌∙◌, arith, inl, inr}
use Rattle.std.specs.Prelude.{Bool, true, false, ◌&&◌, ◌==◌}
use Rattle.descriptor.specs.declared.Prot.{Prot}
use Rattle.descriptor.specs.declared.Prot.TheVariants.{RW}
use Rattle.descriptor.specs.declared.State.{State}
use Rattle.descriptor.specs.declared.State.TheVariants.{Owned, SharedOwned, SharedBorrowed}
use Rattle.page_state.specs.declared.entry.Entry.{Entry}
use Rattle.page_state.specs.declared.entry.Entry.TheVariants.{Unmapped}
use Rattle.page_state.specs.EntryTests.{maps_frame, state_eq, leaf, annotation}
use Rattle.reference_model.specs.model.State.{Contents}
use Rattle.page_state.specs.Layouts.{Layout, hyp_page}
use Rattle.reference_model.specs.help.Conditions.{Condition, outside, hosts, with_hyp, hyps, with_guest, guests, lent_back, HostFits, hyp_entry_by, guest_condition, MapsFit, HeldFit}
use Rattle.reference_model.specs.claims.RunLaws.{LegalRows}
use Rattle.page_state.proofs.Cases.{by_lt}
use Rattle.page_state.proofs.Common.{eq-same, eq-self, and-left, and-right}
use Rattle.reference_model.proofs.conditions.Stands.{SharedStands, GuestsStand, row-stands}

pub state_eq-self : (a : State) → state_eq a a ≡ true
state_eq-self Owned = refl
state_eq-self SharedOwned = refl
state_eq-self SharedBorrowed = refl

pub state_eq-same : (a b : State) → state_eq a b ≡ true → a ≡ b
state_eq-same Owned Owned h = refl
state_eq-same SharedOwned SharedOwned h = refl
state_eq-same SharedBorrowed SharedBorrowed h = refl
state_eq-same a b h = cc

pub leaf-maps : (prot : Prot) (f : ℕ) (state : State) → maps_frame f state (leaf prot f state) ≡ true
leaf-maps prot f state = go (f == f) (state_eq state state) (eq-self f) (state_eq-self state)
  where
    go : (a b : Bool) → a ≡ true → b ≡ true → a && b ≡ true
    go true b p q = q
    go false b p q = cc

leaf-frame : (prot : Prot) (p f : ℕ) (a b : State) (e : Entry) → e ≡ leaf prot p a → maps_frame f b e ≡ true → p ≡ f
leaf-frame prot p f a b e h m = eq-same p f (and-left (p == f) (state_eq a b) (sym (ap (maps_frame f b) h) ∙ m))

pub leaf-state : (prot : Prot) (p f : ℕ) (a b : State) (e : Entry) → e ≡ leaf prot p a → maps_frame f b e ≡ true → a ≡ b
leaf-state prot p f a b e h m = state_eq-same a b (and-right (p == f) (state_eq a b) (sym (ap (maps_frame f b) h) ∙ m))

pub unmapped-none : {P : Type 0} (f : ℕ) (state : State) (e : Entry) → e ≡ Unmapped → maps_frame f state e ≡ true → P
unmapped-none f state e h m = let bad : false ≡ true = sym (ap (maps_frame f state) h) ∙ m in cc

pub annotated-none : {P : Type 0} (f n : ℕ) (state : State) (e : Entry)
    → e ≡ annotation n
    → maps_frame f state e ≡ true
    → P
annotated-none f n state e h m = let bad : false ≡ true = sym (ap (maps_frame f state) h) ∙ m in cc

pub fits-alone : (p f : ℕ) (c : Condition) (state : State) (e : Entry)
    → HostFits p c e
    → maps_frame f state e ≡ true
    → p ≡ f
fits-alone p f outside state e (inl h) m = unmapped-none f state e h m
fits-alone p f outside state e (inr h) m =
    eq-same p f (and-left (p == f) (state_eq Owned state) (sym (ap (maps_frame f state) h) ∙ m))
fits-alone p f hosts state e (inl h) m = unmapped-none f state e h m
fits-alone p f hosts state e (inr h) m = leaf-frame _ p f Owned state e h m
fits-alone p f with_hyp state e h m = leaf-frame _ p f SharedOwned state e h m
fits-alone p f (hyps u) state e h m = annotated-none f 1 state e h m
fits-alone p f (with_guest v g) state e h m = leaf-frame _ p f SharedOwned state e h m
fits-alone p f (guests v g) state e h m = annotated-none f (2 + v) state e h m
fits-alone p f (lent_back v g) state e h m = leaf-frame _ p f SharedBorrowed state e h m

says-alone : (q f : ℕ) (c : Condition) (state : State) → maps_frame f state (hyp_entry_by q c) ≡ true → q ≡ f
says-alone q f with_hyp state m = leaf-frame RW q f SharedBorrowed state (leaf RW q SharedBorrowed) refl m
says-alone q f (hyps u) state m = leaf-frame RW q f Owned state (leaf RW q Owned) refl m
says-alone q f c state m = cc

module _ (s : Contents) (condition : ℕ → Condition) (maps : MapsFit s condition) (f : ℕ) where
  pub host_alone : (p : ℕ) (state : State) → maps_frame f state (s.shared.host.map p) ≡ true → p ≡ f
  host_alone p state m = fits-alone p f (condition p) state (s.shared.host.map p) (maps.host p) m

  pub hyp_alone : (p : ℕ) (state : State) → maps_frame f state (s.shared.hyp.map p) ≡ true → p ≡ hyp_page f
  hyp_alone p state m = by_lt p (hyp_page 0)
      (λ low. unmapped-none f state (s.shared.hyp.map p) (maps.hyp_below p low) m)
      (λ high.
      let at : p ≡ hyp_page (p - hyp_page 0) = omega arith in
      let says : s.shared.hyp.map p ≡ hyp_entry_by (p - hyp_page 0) (condition (p - hyp_page 0)) =
      ap (s.shared.hyp.map) at ∙ maps.hyp (p - hyp_page 0) in
      let same : p - hyp_page 0 ≡ f =
      says-alone (p - hyp_page 0) f (condition (p - hyp_page 0)) state (sym (ap (maps_frame f state) says) ∙ m) in
      at ∙ ap hyp_page same)

  pub guest_alone : (v p : ℕ) (state : State)
      → maps_frame f state ((s.guest v).tree.map p) ≡ true
      → condition f ≡ guest_condition state v p
  guest_alone v p state m = elim (maps.guest v p) [
    | inl h ↦ unmapped-none f state _ h m
    | inr h ↦
        let frame : h.frame ≡ f = leaf-frame h.prot h.frame f h.state state _ h.leaf_is m in
        let is : h.state ≡ state = leaf-state h.prot h.frame f h.state state _ h.leaf_is m in
        ap condition (sym frame) ∙ h.named ∙ ap (λ a. guest_condition a v p) is
  ]

  pub guest_has : (v p : ℕ) (state : State)
      → condition f ≡ guest_condition state v p
      → maps_frame f state ((s.guest v).tree.map p) ≡ true
  guest_has v p state h = let at = maps.guest_has v p f state h in ap (maps_frame f state) at.1 ∙ leaf-maps at.0 f state

  pub shared-of : (l : Layout) → HeldFit l s condition → SharedStands l s.shared f (condition f)
  shared-of l held =
      record {
        host = maps.host f;
        host_alone = host_alone;
        hyp = maps.hyp f;
        hyp_alone = hyp_alone;
        held = held.shared f;
      }

  pub guests-of : (l : Layout) → HeldFit l s condition → GuestsStand l s.guest f (condition f)
  guests-of l held = record { has = guest_has; alone = guest_alone; held = λ v. held.vm v f }

pub legal_rows : LegalRows
legal_rows l s legal usable f = row-stands l s f (legal.condition f)
    (shared-of s legal.condition legal.maps f l legal.held)
    (guests-of s legal.condition legal.maps f l legal.held)
    (λ cpu. legal.held.hand cpu f)
    (legal.of_layout.good f)
    (λ i. usable.pages f (sym (legal.of_layout.inside f) ∙ i))
