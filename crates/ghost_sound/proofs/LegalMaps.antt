-- The maps of a legal state are sound.
use Rattle.std.proofs.Common.{◌≡◌, ◌∙◌, ℕ, sym, subst, inl, inr}
use Rattle.descriptor.specs.declared.State.{State}
use Rattle.page_state.specs.declared.entry.Entry.{Entry}
use Rattle.page_state.specs.Layouts.{Layout}
use Rattle.page_state.proofs.Cases.{by_eq}
use Rattle.reference_model.specs.help.Conditions.{Condition, outside, hosts, with_hyp, hyps, with_guest, guests, lent_back, HostFits, row_in, IsUsable, Legal}
use Rattle.reference_model.specs.claims.Sound.{owner, Holds, IsLeafOf, Sound}
use Rattle.reference_model.specs.model.State.{Contents}
use Rattle.reference_model.proofs.conditions.OfLegal.{guests-of, shared-of}
use Rattle.reference_model.proofs.conditions.SoundOf.{holds-state, legal_sound, own-one, owner-of}
use Rattle.ghost_sound.specs.Laws.{LegalIsSound}
use Rattle.ghost_sound.specs.Sound.{HasOneOwner, HasShares}

-- the host maps a frame at its own page alone
own-page : (p f : ℕ) (c : Condition) (state : State) (e : Entry) → HostFits p c e → IsLeafOf f state e → p ≡ f
own-page p f outside state e (inl h) m = absurd (subst (IsLeafOf f state) h m)
own-page p f outside state e (inr h) m = (subst (IsLeafOf f state) h m).0
own-page p f hosts state e (inl h) m = absurd (subst (IsLeafOf f state) h m)
own-page p f hosts state e (inr h) m = (subst (IsLeafOf f state) h m).0
own-page p f with_hyp state e h m = (subst (IsLeafOf f state) h m).0
own-page p f (hyps u) state e h m = absurd (subst (IsLeafOf f state) h m)
own-page p f (with_guest v g) state e h m = (subst (IsLeafOf f state) h m).0
own-page p f (guests v g) state e h m = absurd (subst (IsLeafOf f state) h m)
own-page p f (lent_back v g) state e h m = (subst (IsLeafOf f state) h m).0

module _ (l : Layout) (s : Contents) (legal : Legal l s) (usable : IsUsable l) where
  sound : Sound l s
  sound = legal_sound l s legal usable

  host-page : (f p : ℕ) → Holds s 0 p f → p ≡ f
  host-page f p h =
      holds-state s 0 p f h
      (λ state m n. own-page p f (legal.condition p) state (s.shared.host.map p) (legal.maps.host p) m)

  -- the owner's number, by the frame's condition
  number-is : (f a p : ℕ) → Holds s a p f → a ≡ (row_in f (legal.condition f)).owner.0
  number-is f a p h =
      holds-state s a p f h
      (owner-of l s f (legal.condition f) (shared-of s legal.condition legal.maps f l legal.held)
      (guests-of s legal.condition legal.maps f l legal.held) a p)

  one-page : (f a p q : ℕ) → Holds s a p f → Holds s a q f → q ≡ p
  one-page f a p q h k =
      by_eq a 0
      (λ e. host-page f q (subst (λ n. Holds s n q f) e k) ∙ sym (host-page f p (subst (λ n. Holds s n p f) e h)))
      (λ e.
      let is = number-is f a p h in
      let one =
      own-one l s f (legal.condition f) (shared-of s legal.condition legal.maps f l legal.held)
      (guests-of s legal.condition legal.maps f l legal.held) (λ z. e (is ∙ z)) in
      one.2 q (subst (λ n. Holds s n q f) is k) ∙ sym (one.2 p (subst (λ n. Holds s n p f) is h)))

  one-owner : HasOneOwner s
  one-owner f a page b other h k =
      let same : b ≡ a = sound.one_owner.no_other f b other k ∙ sym (sound.one_owner.no_other f a page h) in
      (same, one-page f a page other h (subst (λ n. Holds s n other f) same k))

  shares : HasShares s
  shares f component page m = let h = (sound.one_borrower.lent f).0 (component, page, m) in (owner l s f, h.0, h.1)

pub legal_is_sound : LegalIsSound
legal_is_sound l s legal usable =
    record {
      one_owner = one-owner l s legal usable;
      one_borrower = (sound l s legal usable).one_borrower.one_borrower;
      shares = shares l s legal usable;
    }
