-- An audit and a judgement have one answer.
use Rattle.std.proofs.Common.{◌≡◌, ℕ, true, false, refl, sym, ap, subst, ◌∙◌, arith, inl, inr}
use Rattle.std.specs.Prelude.{◌⊎◌}
use Rattle.call_table.specs.declared.reply.Reply.{Reply}
use Rattle.call_table.specs.declared.step.Step.{Step}
use Rattle.page_state.specs.declared.entry.Entry.{Entry}
use Rattle.page_state.specs.declared.row.Row.{Row}
use Rattle.page_state.proofs.Cases.{by_lt}
use Rattle.reference_model.specs.model.State.{Contents, Reference}
use Rattle.ghost_judge.specs.declared.disagreement.Disagreement.{Disagreement}
use Rattle.ghost_judge.specs.declared.disagreement.Disagreement.TheVariants.{Map as MapDiffers, Owner as OwnerDiffers, Reply as ReplyDiffers, SharedPart, GuestPart, Vm, Cpu}
use Rattle.ghost_judge.specs.declared.disagreement.PartDifference.{PartDifference}
use Rattle.ghost_judge.specs.declared.disagreement.TreeOf.{TreeOf}
use Rattle.ghost_judge.specs.declared.disagreement.TreeOf.TheVariants.{Host, Hyp, Guest}
use Rattle.ghost_judge.specs.Apart.{IsFirstApart}
use Rattle.ghost_judge.specs.Audits.{IsFirstMap, DiffersFirstAt, MapsAgree}
use Rattle.ghost_judge.specs.Judgements.{IsFirstChange, IsFirstJudged, IsFirstOfState, IsFirstUntold, IsOtherReply, JudgeAgrees, WantsMemory, is_done}
use Rattle.ghost_judge.specs.PartDifferences.{IsFirstOfGuest}
use Rattle.ghost_judge.specs.OneAnswer.{AuditElse, AuditOnce, JudgedElse, JudgedOnce, StateElse, StateOnce}
use Rattle.ghost_judge.proofs.OnePart.{apart_once, guest_else, guest_once, shared_else, shared_once}

-- functions of numbers

apart_else : {X : Type 0} (f g : ℕ → X) (n : ℕ) → f ≡ g → IsFirstApart f g n → ⊥
apart_else f g n e a = a.differ (ap (λ h. h n) e)

-- maps

map_once : (tree : TreeOf) (f g : ℕ → Entry) (n m : ℕ) (x y z w : Entry)
    → DiffersFirstAt f g n x y
    → DiffersFirstAt f g m z w
    → MapDiffers tree n x y ≡ MapDiffers tree m z w
map_once tree f g n m x y z w a b =
    let e = apart_once f g n m a.first b.first in
    ap (λ k. MapDiffers tree k x y) e ∙ ap (λ u. MapDiffers tree m u y) (a.kept_is ∙ ap f e ∙ sym b.kept_is)
    ∙ ap (λ u. MapDiffers tree m z u) (a.walked_is ∙ ap g e ∙ sym b.walked_is)

row_once : (f g : ℕ → Row) (n m : ℕ) (x y z w : Row)
    → DiffersFirstAt f g n x y
    → DiffersFirstAt f g m z w
    → OwnerDiffers n x y ≡ OwnerDiffers m z w
row_once f g n m x y z w a b =
    let e = apart_once f g n m a.first b.first in
    ap (λ k. OwnerDiffers k x y) e ∙ ap (λ u. OwnerDiffers m u y) (a.kept_is ∙ ap f e ∙ sym b.kept_is)
    ∙ ap (λ u. OwnerDiffers m z u) (a.walked_is ∙ ap g e ∙ sym b.walked_is)

module _ (kept walked : Contents) where
  maps_once : (s t : TreeOf) (n m : ℕ) (x y z w : Entry)
      → IsFirstMap kept walked s n x y
      → IsFirstMap kept walked t m z w
      → MapDiffers s n x y ≡ MapDiffers t m z w
  maps_once Host Host n m x y z w h k = map_once Host _ _ n m x y z w h k
  maps_once Host Hyp n m x y z w h k = absurd (apart_else _ _ n k.0 h.first)
  maps_once Host (Guest u) n m x y z w h k = absurd (apart_else _ _ n k.0.host h.first)
  maps_once Hyp Host n m x y z w h k = absurd (apart_else _ _ m h.0 k.first)
  maps_once Hyp Hyp n m x y z w h k = map_once Hyp _ _ n m x y z w h.1 k.1
  maps_once Hyp (Guest u) n m x y z w h k = absurd (apart_else _ _ n k.0.hyp h.1.first)
  maps_once (Guest v) Host n m x y z w h k = absurd (apart_else _ _ m h.0.host k.first)
  maps_once (Guest v) Hyp n m x y z w h k = absurd (apart_else _ _ m h.0.hyp k.1.first)
  maps_once (Guest v) (Guest u) n m x y z w h k =
      by_lt v u (λ l. absurd (apart_else _ _ n (k.0.guests v l) h.1.first)) (λ l. by_lt u v
      (λ r. absurd (apart_else _ _ m (h.0.guests u r) k.1.first))
      (λ r. let e : v ≡ u = omega arith in
      subst
      (λ i. IsFirstMap kept walked (Guest i) m z w → MapDiffers (Guest v) n x y ≡ MapDiffers (Guest i) m z w) e
      (λ j. map_once (Guest v) _ _ n m x y z w h.1 j.1) k))

  maps_else : (s : TreeOf) (n : ℕ) (x y : Entry) → MapsAgree kept walked → IsFirstMap kept walked s n x y → ⊥
  maps_else Host n x y a h = apart_else _ _ n a.host h.first
  maps_else Hyp n x y a h = apart_else _ _ n a.hyp h.1.first
  maps_else (Guest v) n x y a h = apart_else _ _ n (a.guests v) h.1.first

-- audits

pub audit_once : AuditOnce
audit_once kept walked (MapDiffers at an ax ay) (MapDiffers bt bn bx by) h k =
    maps_once kept walked at bt an bn ax ay bx by h k
audit_once kept walked (MapDiffers at an ax ay) (OwnerDiffers bn bx by) h k =
    absurd (maps_else kept walked at an ax ay k.0 h)
audit_once kept walked (MapDiffers at an ax ay) (ReplyDiffers br bq) h k = absurd k
audit_once kept walked (MapDiffers at an ax ay) (SharedPart bp) h k = absurd k
audit_once kept walked (MapDiffers at an ax ay) (GuestPart bv bp) h k = absurd k
audit_once kept walked (MapDiffers at an ax ay) (Vm bv) h k = absurd k
audit_once kept walked (MapDiffers at an ax ay) (Cpu bv) h k = absurd k
audit_once kept walked (OwnerDiffers an ax ay) (MapDiffers bt bn bx by) h k =
    absurd (maps_else kept walked bt bn bx by h.0 k)
audit_once kept walked (OwnerDiffers an ax ay) (OwnerDiffers bn bx by) h k = row_once _ _ an bn ax ay bx by h.1 k.1
audit_once kept walked (OwnerDiffers an ax ay) (ReplyDiffers br bq) h k = absurd k
audit_once kept walked (OwnerDiffers an ax ay) (SharedPart bp) h k = absurd k
audit_once kept walked (OwnerDiffers an ax ay) (GuestPart bv bp) h k = absurd k
audit_once kept walked (OwnerDiffers an ax ay) (Vm bv) h k = absurd k
audit_once kept walked (OwnerDiffers an ax ay) (Cpu bv) h k = absurd k
audit_once kept walked (ReplyDiffers ar aq) e h k = absurd h
audit_once kept walked (SharedPart aq) e h k = absurd h
audit_once kept walked (GuestPart av aq) e h k = absurd h
audit_once kept walked (Vm av) e h k = absurd h
audit_once kept walked (Cpu av) e h k = absurd h

pub audit_else : AuditElse
audit_else kept walked (MapDiffers at an ax ay) a h = maps_else kept walked at an ax ay a.maps h
audit_else kept walked (OwnerDiffers an ax ay) a h = apart_else _ _ an a.rows h.1.first
audit_else kept walked (ReplyDiffers ar aq) a h = absurd h
audit_else kept walked (SharedPart aq) a h = absurd h
audit_else kept walked (GuestPart av aq) a h = absurd h
audit_else kept walked (Vm av) a h = absurd h
audit_else kept walked (Cpu av) a h = absurd h

-- states

guests_once : (post spec : Contents) (v u : ℕ) (d e : PartDifference)
    → IsFirstOfState post spec (GuestPart v d)
    → IsFirstOfState post spec (GuestPart u e)
    → GuestPart v d ≡ GuestPart u e
guests_once post spec v u d e h k =
    by_lt v u (λ l. absurd (guest_else v (post.guest v) (spec.guest v) d (k.1 v l) h.2)) (λ l. by_lt u v
    (λ r. absurd (guest_else u (post.guest u) (spec.guest u) e (h.1 u r) k.2))
    (λ r. let f : u ≡ v = omega arith in
    ap (GuestPart v)
    (guest_once v (post.guest v) (spec.guest v) d e h.2
    (subst (λ i. IsFirstOfGuest i (post.guest i) (spec.guest i) e) f k.2))
    ∙ ap (λ i. GuestPart i e) (sym f)))

pub state_once : StateOnce
state_once post spec (MapDiffers at an ax ay) (MapDiffers bt bn bx by) h k =
    audit_once post spec (MapDiffers at an ax ay) (MapDiffers bt bn bx by) h k
state_once post spec (MapDiffers at an ax ay) (OwnerDiffers bn bx by) h k =
    audit_once post spec (MapDiffers at an ax ay) (OwnerDiffers bn bx by) h k
state_once post spec (MapDiffers at an ax ay) (ReplyDiffers br bq) h k = absurd k
state_once post spec (MapDiffers at an ax ay) (SharedPart bp) h k = absurd (audit_else post spec (MapDiffers at an ax ay) k.0 h)
state_once post spec (MapDiffers at an ax ay) (GuestPart bv bp) h k =
    absurd (audit_else post spec (MapDiffers at an ax ay) k.0.audit h)
state_once post spec (MapDiffers at an ax ay) (Vm bv) h k =
    absurd (audit_else post spec (MapDiffers at an ax ay) k.0.pool.audit h)
state_once post spec (MapDiffers at an ax ay) (Cpu bv) h k =
    absurd (audit_else post spec (MapDiffers at an ax ay) k.0.guests.pool.audit h)
state_once post spec (OwnerDiffers an ax ay) (MapDiffers bt bn bx by) h k =
    audit_once post spec (OwnerDiffers an ax ay) (MapDiffers bt bn bx by) h k
state_once post spec (OwnerDiffers an ax ay) (OwnerDiffers bn bx by) h k =
    audit_once post spec (OwnerDiffers an ax ay) (OwnerDiffers bn bx by) h k
state_once post spec (OwnerDiffers an ax ay) (ReplyDiffers br bq) h k = absurd k
state_once post spec (OwnerDiffers an ax ay) (SharedPart bp) h k = absurd (audit_else post spec (OwnerDiffers an ax ay) k.0 h)
state_once post spec (OwnerDiffers an ax ay) (GuestPart bv bp) h k =
    absurd (audit_else post spec (OwnerDiffers an ax ay) k.0.audit h)
state_once post spec (OwnerDiffers an ax ay) (Vm bv) h k =
    absurd (audit_else post spec (OwnerDiffers an ax ay) k.0.pool.audit h)
state_once post spec (OwnerDiffers an ax ay) (Cpu bv) h k =
    absurd (audit_else post spec (OwnerDiffers an ax ay) k.0.guests.pool.audit h)
state_once post spec (ReplyDiffers ar aq) e h k = absurd h
state_once post spec (SharedPart aq) (MapDiffers bt bn bx by) h k = absurd (audit_else post spec (MapDiffers bt bn bx by) h.0 k)
state_once post spec (SharedPart aq) (OwnerDiffers bn bx by) h k = absurd (audit_else post spec (OwnerDiffers bn bx by) h.0 k)
state_once post spec (SharedPart aq) (ReplyDiffers br bq) h k = absurd k
state_once post spec (SharedPart aq) (SharedPart bp) h k =
    ap SharedPart (shared_once post.shared spec.shared aq bp h.1 k.1)
state_once post spec (SharedPart aq) (GuestPart bv bp) h k =
    absurd (shared_else post.shared spec.shared aq k.0.pool h.1)
state_once post spec (SharedPart aq) (Vm bv) h k =
    absurd (shared_else post.shared spec.shared aq k.0.pool.pool h.1)
state_once post spec (SharedPart aq) (Cpu bv) h k =
    absurd (shared_else post.shared spec.shared aq k.0.guests.pool.pool h.1)
state_once post spec (GuestPart av aq) (MapDiffers bt bn bx by) h k =
    absurd (audit_else post spec (MapDiffers bt bn bx by) h.0.audit k)
state_once post spec (GuestPart av aq) (OwnerDiffers bn bx by) h k =
    absurd (audit_else post spec (OwnerDiffers bn bx by) h.0.audit k)
state_once post spec (GuestPart av aq) (ReplyDiffers br bq) h k = absurd k
state_once post spec (GuestPart av aq) (SharedPart bp) h k =
    absurd (shared_else post.shared spec.shared bp h.0.pool k.1)
state_once post spec (GuestPart av aq) (GuestPart bv bp) h k = guests_once post spec av bv aq bp h k
state_once post spec (GuestPart av aq) (Vm bv) h k =
    absurd (guest_else av (post.guest av) (spec.guest av) aq (k.0.guests av) h.2)
state_once post spec (GuestPart av aq) (Cpu bv) h k =
    absurd (guest_else av (post.guest av) (spec.guest av) aq (k.0.guests.guests av) h.2)
state_once post spec (Vm av) (MapDiffers bt bn bx by) h k =
    absurd (audit_else post spec (MapDiffers bt bn bx by) h.0.pool.audit k)
state_once post spec (Vm av) (OwnerDiffers bn bx by) h k =
    absurd (audit_else post spec (OwnerDiffers bn bx by) h.0.pool.audit k)
state_once post spec (Vm av) (ReplyDiffers br bq) h k = absurd k
state_once post spec (Vm av) (SharedPart bp) h k =
    absurd (shared_else post.shared spec.shared bp h.0.pool.pool k.1)
state_once post spec (Vm av) (GuestPart bv bp) h k =
    absurd (guest_else bv (post.guest bv) (spec.guest bv) bp (h.0.guests bv) k.2)
state_once post spec (Vm av) (Vm bv) h k = ap Vm (apart_once _ _ av bv h.1 k.1)
state_once post spec (Vm av) (Cpu bv) h k = absurd (h.1.differ (k.0.slots av))
state_once post spec (Cpu av) (MapDiffers bt bn bx by) h k =
    absurd (audit_else post spec (MapDiffers bt bn bx by) h.0.guests.pool.audit k)
state_once post spec (Cpu av) (OwnerDiffers bn bx by) h k =
    absurd (audit_else post spec (OwnerDiffers bn bx by) h.0.guests.pool.audit k)
state_once post spec (Cpu av) (ReplyDiffers br bq) h k = absurd k
state_once post spec (Cpu av) (SharedPart bp) h k =
    absurd (shared_else post.shared spec.shared bp h.0.guests.pool.pool k.1)
state_once post spec (Cpu av) (GuestPart bv bp) h k =
    absurd (guest_else bv (post.guest bv) (spec.guest bv) bp (h.0.guests.guests bv) k.2)
state_once post spec (Cpu av) (Vm bv) h k = absurd (k.1.differ (h.0.slots bv))
state_once post spec (Cpu av) (Cpu bv) h k = ap Cpu (apart_once _ _ av bv h.1 k.1)

same_else : (s : Contents) (d : Disagreement) → IsFirstOfState s s d → ⊥
same_else s (MapDiffers at an ax ay) h =
    audit_else s s (MapDiffers at an ax ay)
    (record { maps = record { host = refl; hyp = refl; guests = λ v. refl }; rows = refl }) h
same_else s (OwnerDiffers an ax ay) h = h.1.first.differ refl
same_else s (ReplyDiffers ar aq) h = h
same_else s (SharedPart aq) h = shared_else s.shared s.shared aq (record { free = refl; host = refl; hyp = refl }) h.1
same_else s (GuestPart av aq) h = guest_else av (s.guest av) (s.guest av) aq refl h.2
same_else s (Vm av) h = h.1.differ refl
same_else s (Cpu av) h = h.1.differ refl

pub state_else : StateElse
state_else post spec d e h = same_else spec d (subst (λ s. IsFirstOfState s spec d) e h)

-- judgements

-- what a wanted step is told to answer isn't what it answered
not_both : (step : Step) (reply told : Reply) → WantsMemory step reply told → reply ≡ told → ⊥
not_both step reply told w e = let f : false ≡ true = ap is_done (sym w.reply_is ∙ e) ∙ w.made in cc

module _ (pre : Contents) (step : Step) (reply : Reply) (post : Contents) (told : Reply × Reference) where
  -- a first difference is of replies or of states
  abbrev OfReply : Disagreement → Type 0
  OfReply d = (said : Reply) × (spec : Reply) × (d ≡ ReplyDiffers said spec) × IsOtherReply step reply told said spec

  abbrev OfState : Disagreement → Type 0
  OfState d = IsFirstChange pre step reply post told d ⊎ IsFirstUntold reply post told d

  view : (d : Disagreement) → IsFirstJudged pre step reply post told d → OfReply d ⊎ OfState d
  view (MapDiffers at an ax ay) h = inr h
  view (OwnerDiffers an ax ay) h = inr h
  view (ReplyDiffers ar aq) h = inl (ar, aq, refl, h)
  view (SharedPart aq) h = inr h
  view (GuestPart av aq) h = inr h
  view (Vm av) h = inr h
  view (Cpu av) h = inr h

  viewed_once : (d e : Disagreement) → OfReply d ⊎ OfState d → OfReply e ⊎ OfState e → d ≡ e
  viewed_once d e (inl a) (inl b) =
      a.2 ∙ ap (λ r. ReplyDiffers r a.1) (a.3.said_is ∙ sym b.3.said_is)
      ∙ ap (ReplyDiffers b.0) (a.3.spec_is ∙ sym b.3.spec_is) ∙ sym b.2
  viewed_once d e (inl a) (inr (inl b)) = absurd (a.3.is_no_want b.wants)
  viewed_once d e (inl a) (inr (inr b)) = absurd (a.3.differ b.reply_is)
  viewed_once d e (inr (inl a)) (inl b) = absurd (b.3.is_no_want a.wants)
  viewed_once d e (inr (inr a)) (inl b) = absurd (b.3.differ a.reply_is)
  viewed_once d e (inr (inl a)) (inr (inl b)) = state_once post pre d e a.first b.first
  viewed_once d e (inr (inr a)) (inr (inr b)) = state_once post told.1.contents d e a.first b.first
  viewed_once d e (inr (inl a)) (inr (inr b)) = absurd (not_both step reply told.0 a.wants b.reply_is)
  viewed_once d e (inr (inr a)) (inr (inl b)) = absurd (not_both step reply told.0 b.wants a.reply_is)

  viewed_else : (d : Disagreement) → JudgeAgrees pre step reply post told → OfReply d ⊎ OfState d → ⊥
  viewed_else d (inl a) (inl b) = b.3.differ a.reply_is
  viewed_else d (inl a) (inr (inl b)) = not_both step reply told.0 b.wants a.reply_is
  viewed_else d (inl a) (inr (inr b)) = state_else post told.1.contents d a.contents_are b.first
  viewed_else d (inr a) (inl b) = b.3.is_no_want a.wants
  viewed_else d (inr a) (inr (inl b)) = state_else post pre d a.contents_are b.first
  viewed_else d (inr a) (inr (inr b)) = not_both step reply told.0 a.wants b.reply_is

pub judged_once : JudgedOnce
judged_once pre step reply post told d e h k =
    viewed_once pre step reply post told d e (view pre step reply post told d h) (view pre step reply post told e k)

pub judged_else : JudgedElse
judged_else pre step reply post told d a h =
    viewed_else pre step reply post told d a (view pre step reply post told d h)
