-- The condition of a frame is one alone, and a made step moves it as its changes tell.
use Rattle.std.proofs.Common.{◌≡◌, ℕ, refl, ap, sym, ◌∙◌, arith}
use Rattle.std.specs.Prelude.{Bool, true}
use Rattle.descriptor.specs.declared.State.{State}
use Rattle.descriptor.specs.declared.State.TheVariants.{Owned, SharedOwned, SharedBorrowed}
use Rattle.page_state.specs.declared.row.Usage.TheVariants.{Plain, SharedPool, VmPool, InHand}
use Rattle.reference_model.specs.help.ConditionChanges.{ConditionOnce, ConditionsMove}
use Rattle.reference_model.specs.help.Conditions.{Condition, outside, hosts, with_hyp, hyps, with_guest, guests, lent_back, hyp_entry_by, guest_condition, Legal, in_shared, in_vm, in_hand, one, shared_uses, guest_uses, is_inside}
use Rattle.page_state.specs.Layouts.{Layout}
use Rattle.reference_model.specs.model.State.{Contents}
use Rattle.reference_model.specs.model.Step.{made}
use Rattle.reference_model.specs.model.Used.{used_of}
use Rattle.page_state.proofs.Common.{eq-self}
use Rattle.reference_model.proofs.conditions.Keeps.{each}
use Rattle.reference_model.proofs.conditions.OfLegal.{guest_alone, guest_has}
use Rattle.reference_model.proofs.conditions.SoundOf.{one-true, in_shared-is, in_vm-is, in_hand-is}

-- what one condition says of a frame, another says too
record Follows (f : ℕ) (c d : Condition) : Type 0 where
  inside : is_inside c ≡ is_inside d
  hyp : hyp_entry_by f c ≡ hyp_entry_by f d
  named : (state : State) (v g : ℕ) → c ≡ guest_condition state v g → d ≡ guest_condition state v g
  shared : in_shared c ≡ true → in_shared d ≡ true
  vm : (v : ℕ) → in_vm v c ≡ true → in_vm v d ≡ true
  hand : (cpu : ℕ) → in_hand cpu c ≡ true → in_hand cpu d ≡ true

same : (f : ℕ) (c d : Condition) → Follows f c d → Follows f d c → d ≡ c
same f (guests v g) d x y = x.named Owned v g refl
same f (lent_back v g) d x y = x.named SharedOwned v g refl
same f (with_guest v g) d x y = x.named SharedBorrowed v g refl
same f (hyps SharedPool) d x y = in_shared-is d (x.shared refl)
same f (hyps (VmPool v)) d x y = in_vm-is v d (x.vm v (eq-self v))
same f (hyps (InHand cpu)) d x y = in_hand-is cpu d (x.hand cpu (eq-self cpu))
same f c (guests v g) x y = sym (y.named Owned v g refl)
same f c (lent_back v g) x y = sym (y.named SharedOwned v g refl)
same f c (with_guest v g) x y = sym (y.named SharedBorrowed v g refl)
same f c (hyps SharedPool) x y = sym (in_shared-is c (y.shared refl))
same f c (hyps (VmPool v)) x y = sym (in_vm-is v c (y.vm v (eq-self v)))
same f c (hyps (InHand cpu)) x y = sym (in_hand-is cpu c (y.hand cpu (eq-self cpu)))
same f (hyps Plain) (hyps Plain) x y = refl
same f (hyps Plain) outside x y = let e = x.inside in cc
same f (hyps Plain) hosts x y = let e = x.hyp in cc
same f (hyps Plain) with_hyp x y = let e = x.hyp in cc
same f outside outside x y = refl
same f outside hosts x y = let e = x.inside in cc
same f outside with_hyp x y = let e = x.inside in cc
same f outside (hyps Plain) x y = let e = x.inside in cc
same f hosts outside x y = let e = x.inside in cc
same f hosts hosts x y = refl
same f hosts with_hyp x y = let e = x.hyp in cc
same f hosts (hyps Plain) x y = let e = x.hyp in cc
same f with_hyp outside x y = let e = x.inside in cc
same f with_hyp hosts x y = let e = x.hyp in cc
same f with_hyp with_hyp x y = refl
same f with_hyp (hyps Plain) x y = let e = x.hyp in cc

one-same : (n : ℕ) (a b : Bool) → n ≡ one a → n ≡ one b → a ≡ true → b ≡ true
one-same n a b p q h = let e : one a ≡ 1 = ap one h in one-true b n (omega arith) q

follows : (l : Layout) (s : Contents) (a b : Legal l s) (f : ℕ) → Follows f (a.condition f) (b.condition f)
follows l s a b f = record {
  inside = a.of_layout.inside f ∙ sym (b.of_layout.inside f);
  hyp = sym (a.maps.hyp f) ∙ b.maps.hyp f;
  named = λ state v g h. guest_alone s b.condition b.maps f v g state (guest_has s a.condition a.maps f v g state h);
  shared =
      one-same (shared_uses l.depth s.shared f) (in_shared (a.condition f)) (in_shared (b.condition f))
      (a.held.shared f) (b.held.shared f);
  vm =
      λ v. one-same (guest_uses l.depth (s.guest v) f) (in_vm v (a.condition f)) (in_vm v (b.condition f))
      (a.held.vm v f) (b.held.vm v f);
  hand = λ cpu h. sym (b.held.hand cpu f) ∙ a.held.hand cpu f ∙ h;
}

pub condition_once : ConditionOnce
condition_once l s a b f = same f (a.condition f) (b.condition f) (follows l s a b f) (follows l s b a f)

pub conditions_move : ConditionsMove
unfolding used_of made
conditions_move l s cpu slot step legal usable known named h after f =
    let kept = each l usable s legal cpu known step slot named h in
    condition_once l _ kept.legal after f ∙ kept.moved f
