-- What follows from the headline, and that a boot has one fault.
use Rattle.std.proofs.Common.{◌≡◌, ◌≢◌, Bool, ℕ, ◌+◌, zero, suc, refl, ap, sym, ◌∙◌, subst, arith, inl, inr, List, [], ◌∷◌, ◌++◌, map, append_assoc, All, Some}
use Rattle.std.proofs.Math.Logic.{∥∥₁_elim, ∥∥₁_map}
use Rattle.std.proofs.Props.{props}
use Rattle.page_state.specs.declared.entry.Entry.{Entry}
use Rattle.page_state.specs.declared.layout.Config.{Config}
use Rattle.page_state.specs.declared.layout.Geometry.{Geometry}
use Rattle.page_state.specs.Layouts.{Layout}
use Rattle.page_state.specs.Regions.{Memory}
use Rattle.call_table.specs.declared.reply.Call.{Call}
use Rattle.call_table.specs.declared.reply.Reply.{Reply}
use Rattle.call_table.specs.declared.step.Step.{Step}
use Rattle.call_table.specs.declared.step.Step.TheVariants.{GuestShareHost, GuestUnshareHost}
use Rattle.reference_model.specs.model.Boot.{IsCarveEnough, boot}
use Rattle.reference_model.specs.claims.HeldFrames.{GivesHandOn, IsHeldFor}
use Rattle.reference_model.specs.claims.Isolation.{PageStays, guest_entry_at}
use Rattle.reference_model.specs.model.Run.{Runs}
use Rattle.reference_model.specs.claims.Sound.{IsHeld, hand, owner}
use Rattle.reference_model.specs.model.State.{Contents, Reference, dying, live}
use Rattle.reference_model.specs.model.Step.{Steps}
use Rattle.reference_model.proofs.Steps.{end_once}
use Rattle.hypercalls.specs.Booted.{IsConfig, layout_for}
use Rattle.hypercalls.specs.declared.parts.Parts.{Parts}
use Rattle.hypercalls.specs.Stands.{parts_layout, state_of}
use Rattle.world.specs.declared.boot.BootFault.TheVariants.{Config as config_fault, CarveSmall, NoMemory}
use Rattle.world.specs.Headline.{CallKeeps, RunsOn}
use Rattle.world.specs.HeadlineLaws.{BeginsRight, BootedElse, FaultOnce, IsRefusal, KeepsFrame, RefusalsLeave, StepKeepsFrames, StepKeepsHand, StepKeepsHeld}
use Rattle.world.proofs.Headline.{runs_after}
use Rattle.world.proofs.WalkedState.{row_prop}

contents_prop : (a b : Contents) → IsProp (a ≡ b)
contents_prop a b = hlevel props

nat_prop : (a b : ℕ) → IsProp (a ≡ b)
nat_prop a b = hlevel props

entry_prop : (a b : Entry) → IsProp (a ≡ b)
entry_prop a b = hlevel props

-- a run is one and then another
split : {S : Type 0} (Go : S → Call → S → Type 0) (cs ds : List Call) (s t : S)
    → Runs Go s (cs ++ ds) t
    → (m : S) × Runs Go s cs m × Runs Go m ds t
split Go [] ds s t h = (s, refl, h)
split Go (c ∷ cs) ds s t h = let r = split Go cs ds h.0 t h.2 in (r.0, (h.0, h.1, r.1), r.2)

one_call : {X : Type 0} (f : Call → X) (cs : List Call) (y : X)
    → map f cs ≡ y ∷ []
    → (c : Call) × (cs ≡ c ∷ []) × (f c ≡ y)
one_call f [] y h = cc
one_call f (c ∷ []) y h = (c, refl, cc)
one_call f (c ∷ (d ∷ cs)) y h = cc

first_call : {X : Type 0} (f : Call → X) (cs : List Call) (y : X) (ys : List X)
    → map f cs ≡ y ∷ ys
    → (c : Call) × (rest : List Call) × (cs ≡ c ∷ rest)
first_call f [] y ys h = cc
first_call f (c ∷ cs) y ys h = (c, cs, refl)

all_refused : (cs : List Call) → All IsRefusal (map (λ c. c.reply) cs) → All (λ c. IsRefusal c.reply) cs
all_refused [] h k d less = absurd (omega arith)
all_refused (c ∷ cs) h zero d less = h zero d.reply (omega arith)
all_refused (c ∷ cs) h (suc k) d less = all_refused cs (λ i e l. h (suc i) e (omega arith)) k d (omega arith)

module _ {A : Type 0} (p q : Parts A) (steps : List (ℕ × Step)) (replies : List Reply)
    (r : RunsOn p steps replies q) where
  abbrev l : Layout
  l = parts_layout p

  -- the calls lead from the state of the parts before to that of those afterwards
  leads : Runs (Steps l) (state_of p) r.calls (state_of q)
  leads =
      let s = split (Steps l) r.before r.calls (boot l) (state_of q) r.ends.leads in
      subst (λ m. Runs (Steps l) m r.calls (state_of q))
      (end_once l r.before s.0 (state_of p) (record { cpus = r.begins.cpus; leads = s.1 }) r.begins) s.2

  -- from a state of the run on refusals leave all
  refused_on : (done left : List Call) (s : Reference)
      → r.calls ≡ done ++ left
      → Runs (Steps l) (state_of p) done s
      → Runs (Steps l) s left (state_of q)
      → All (λ c. IsRefusal c.reply) left
      → (state_of q).contents ≡ s.contents
  refused_on done [] s e run h all = sym (ap (λ (x : Reference). x.contents) h)
  refused_on done (c ∷ left) s e run h all =
      let no = all zero c (omega arith) in
      let here = (r.each done left c s h.0 e run h.1).refused no.0 no.1 in
      refused_on (done ++ c ∷ []) left h.0 (e ∙ sym (append_assoc done (c ∷ []) left))
      (runs_after (Steps l) done (c ∷ []) (state_of p) s h.0 run (h.0, h.1, refl)) h.2
      (λ k d less. all (suc k) d (omega arith))
      ∙ here

  refusals : All IsRefusal replies → (state_of q).contents ≡ (state_of p).contents
  refusals all =
      refused_on [] r.calls (state_of p) refl refl leads
      (all_refused r.calls (subst (All IsRefusal) (sym r.replied) all))

  -- what the first call keeps
  first_keeps : (c : Call) (rest : List Call)
      → r.calls ≡ c ∷ rest
      → (t : Reference) × CallKeeps l (state_of p) c t × Runs (Steps l) t rest (state_of q)
  first_keeps c rest e = let h = subst (λ cs. Runs (Steps l) (state_of p) cs (state_of q)) e leads in
      (h.0, r.each [] rest c (state_of p) h.0 e refl h.1, h.2)

pub refusals_leave : {A : Type 0} → RefusalsLeave A
refusals_leave p q steps replies h all = ∥∥₁_elim h.run (contents_prop _ _) (λ r. refusals p q steps replies r all)

page_same : (s t : Contents) (cpu v g : ℕ) (asked step : Step)
    → asked ≡ step
    → PageStays s t cpu asked v g
    → (step ≡ GuestShareHost g → ⊥)
    → (step ≡ GuestUnshareHost g → ⊥)
    → guest_entry_at t v g ≡ guest_entry_at s v g
page_same s t cpu v g asked step e (inl same) share unshare = same
page_same s t cpu v g asked step e (inr back) share unshare =
    elim back.made [ inl a ↦ absurd (share (sym e ∙ a.0)) | inr a ↦ absurd (unshare (sym e ∙ a.0)) ]

bool_prop : (a b : Bool) → IsProp (a ≡ b)
bool_prop a b = hlevel props

module _ {A : Type 0} (p q : Parts A) (cpu : ℕ) (step : Step) (reply : Reply)
    (r : RunsOn p ((cpu, step) ∷ []) (reply ∷ []) q) where
  -- the one call of the run, and what it keeps
  only_call : (c : Call) × (c.cpu ≡ cpu) × (c.step ≡ step) × CallKeeps (parts_layout p) (state_of p) c (state_of q)
  only_call =
      let one = one_call (λ c. (c.cpu, c.step)) r.calls (cpu, step) r.asked in
      let first = first_keeps p q ((cpu, step) ∷ []) (reply ∷ []) r one.0 [] one.1 in (
        one.0,
        ap (λ (x : ℕ × Step). x.0) one.2,
        ap (λ (x : ℕ × Step). x.1) one.2,
        subst (λ (t : Reference). CallKeeps (parts_layout p) (state_of p) one.0 t) first.2 first.1,
      )

  held_kept : (v f : ℕ)
      → ((state_of p).contents.guest v).phase ≢ dying
      → IsHeldFor (state_of p).contents v f
      → IsHeldFor (state_of q).contents v f
  held_kept v f n had = elim (only_call.3.held v f had) [ inl stays ↦ stays | inr back ↦ absurd (n back.is_dying) ]

  hand_kept : (k f : ℕ)
      → IsHeld (state_of p).contents f (hand k)
      → (cpu ≡ k → GivesHandOn step → ⊥)
      → IsHeld (state_of q).contents f (hand k)
  hand_kept k f had n =
      elim (only_call.3.in_hand k f had) [
        | inl stays ↦ stays
        | inr given ↦ absurd (n (sym only_call.1 ∙ given.0) (subst GivesHandOn only_call.2 given.1))
      ]

module _ {A : Type 0} (p q : Parts A) (cpu : ℕ) (step : Step) (reply : Reply) (v f : ℕ)
    (alive : ((state_of p).contents.guest v).phase ≡ live)
    (owned : owner (parts_layout p) (state_of p).contents f ≡ 2 + v) where
  frame_kept : RunsOn p ((cpu, step) ∷ []) (reply ∷ []) q
      → KeepsFrame (parts_layout p) (state_of p).contents (state_of q).contents step v f
  frame_kept r =
      let one = only_call p q cpu step reply r in
      let stays = one.3.isolated v f alive owned in
      record {
        owner_stays = stays.owner_stays;
        page_stays =
            λ g held share unshare. page_same (state_of p).contents
            (state_of q).contents one.0.cpu v g one.0.step step one.2 (stays.page_stays g held) share unshare;
      }

pub step_keeps_frames : {A : Type 0} → StepKeepsFrames A
step_keeps_frames p q cpu step reply v f h alive owned = record {
  owner_stays = ∥∥₁_elim h.run (nat_prop _ _) (λ r. (frame_kept p q cpu step reply v f alive owned r).owner_stays);
  page_stays =
      λ g held share unshare. ∥∥₁_elim h.run (entry_prop _ _)
      (λ r. (frame_kept p q cpu step reply v f alive owned r).page_stays g held share unshare);
}

pub step_keeps_held : {A : Type 0} → StepKeepsHeld A
step_keeps_held p q cpu step reply v f h n had = ∥∥₁_map h.run (λ r. held_kept p q cpu step reply r v f n had)

pub step_keeps_hand : {A : Type 0} → StepKeepsHand A
step_keeps_hand p q cpu step reply k f h had n =
    ∥∥₁_elim h.run (bool_prop _ _) (λ r. hand_kept p q cpu step reply r k f had n)

module _ {A : Type 0} (p q : Parts A) (asked : ℕ × Step) (steps : List (ℕ × Step)) (replies : List Reply) where
  keeps_first : RunsOn p (asked ∷ steps) replies q
      → (c : Call) × (t : Reference) × CallKeeps (parts_layout p) (state_of p) c t
  keeps_first r = let first = first_call (λ c. (c.cpu, c.step)) r.calls asked steps r.asked in
      let k = first_keeps p q (asked ∷ steps) replies r first.0 first.1 first.2 in
      (first.0, k.0, k.1)

pub begins_right : {A : Type 0} → BeginsRight A
begins_right p q asked steps replies h = record {
  rows = λ f m. ∥∥₁_elim h.run (row_prop _ _) (λ r. (keeps_first p q asked steps replies r).2.rows f m);
  sound = ∥∥₁_map h.run (λ r. (keeps_first p q asked steps replies r).2.sound);
}

-- boots

one_geometry : (c : Config) (g h : Geometry) → IsConfig c g → IsConfig c h → g ≡ h
one_geometry c g h a b = let e : Some g ≡ Some h = sym a.geometry ∙ b.geometry in cc

both_carves : {P : Type 0} (m : Memory) (c : Config) (g h : Geometry)
    → IsConfig c g
    → IsConfig c h
    → (IsCarveEnough (layout_for m c g) → ⊥)
    → IsCarveEnough (layout_for m c h)
    → P
both_carves m c g h a b small enough =
    absurd (small (subst (λ x. IsCarveEnough (layout_for m c x)) (sym (one_geometry c g h a b)) enough))

pub fault_once : FaultOnce
fault_once m c config_fault config_fault h k = refl
fault_once m c config_fault CarveSmall h k = absurd (h k.1.accepted)
fault_once m c config_fault NoMemory h k = absurd (h k.1.accepted)
fault_once m c CarveSmall config_fault h k = absurd (k h.1.accepted)
fault_once m c CarveSmall CarveSmall h k = refl
fault_once m c CarveSmall NoMemory h k = both_carves m c h.0 k.0 h.1 k.1 h.2 k.2
fault_once m c NoMemory config_fault h k = absurd (k h.1.accepted)
fault_once m c NoMemory CarveSmall h k = both_carves m c k.0 h.0 k.1 h.1 k.2 h.2
fault_once m c NoMemory NoMemory h k = refl

pub booted_else : {A : Type 0} → BootedElse A
booted_else m c p fault booted h = fault_once m c fault NoMemory h (booted.geometry, booted.accepted, booted.enough)
