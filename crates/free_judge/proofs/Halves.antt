-- A step of a state and of another that differs in tables and free frames, and as the freedoms allow, where the guest
-- that the step uses is the same in both, with its pool.
use Rattle.std.proofs.Common.{◌≡◌, ℕ, refl, ap, sym, ◌∙◌, subst, inl, inr}
use Rattle.std.specs.Prelude.{Bool, true, false, ◌&&◌, Option, None, if◌then◌else◌}
use mathlib.Core.Path.{fun_ext}
use Rattle.call_table.specs.declared.reply.Reply.{Reply}
use Rattle.call_table.specs.declared.reply.Reply.TheVariants.{Done}
use Rattle.call_table.specs.declared.step.Step.{Step}
use Rattle.call_table.specs.declared.step.Step.TheVariants.{Topup, ReclaimPool, FinishGuest}
use Rattle.page_state.proofs.Common.{and-both, same2}
use Rattle.page_state.specs.declared.row.Row.{Row}
use Rattle.page_state.specs.Layouts.{Layout, is_memory}
use Rattle.reference_model.specs.declared.changes.Changes.{Changes}
use Rattle.reference_model.specs.model.Parts.{Names, lacks_slot, uses_shared, uses_vms}
use Rattle.reference_model.specs.model.Rule.{Rule}
use Rattle.reference_model.specs.model.Rules.{guest_slot, names, rule}
use Rattle.reference_model.specs.model.State.{Contents, Cpu, Guest, Shared, no_shared, no_vms}
use Rattle.reference_model.specs.model.Step.{changed, first_test, guest_after, is_touched, made, own_row, rule_of, shared_after, with_rows}
use Rattle.reference_model.specs.model.Used.{Used, guest_at, put_back, used_of}
use Rattle.freedoms.specs.Ample.{asks_pool, rule_fails, AnswersAmply, StepsAmply}
use Rattle.freedoms.specs.declared.Freedoms.{Freedoms}
use Rattle.freedoms.specs.Freedoms.{view, Alike}
use Rattle.freedoms.proofs.Bare.{at-over, if-over, put-over}
use Rattle.freedoms.proofs.Gone.{guest_holds, still-apart, IsApart}
use Rattle.freedoms.proofs.Judged.{Made}
use Rattle.freedoms.proofs.OwnRows.{choose, with_row}
use Rattle.freedoms.proofs.ViewRows.{own-view}
use Rattle.freedoms.proofs.Views.{changed-alike, view_shared, view_used}

choose-both : (b : Bool) (x y m n : Row) → m ≡ n → (b ≡ true → x ≡ y) → choose b x m ≡ choose b y n
choose-both true x y m n e h = h refl
choose-both false x y m n e h = e

-- the frames that the step touches are apart from the Shared part, if it is made
abbrev pub IsLoose : Layout → ℕ → Option ℕ → Step → Used → Used → Type 0
IsLoose l cpu slot step x z =
    rule_fails l cpu slot step x ≡ None
    → (f : ℕ)
    → is_memory l f ≡ true
    → is_touched (rule_of l cpu slot step x).changes f ≡ true
    → IsApart z.shared f

module _ (w : Freedoms) (l : Layout) (cpu : ℕ) (slot : Option ℕ) (step : Step) (x z : Used)
    (e : view_used w l x ≡ view_used w l z) (g : x.guest ≡ z.guest) where
  guest-same : (h : Changes) (f : ℕ)
      → guest_holds l (guest_after l.depth h x.guest) f ≡ guest_holds l (guest_after l.depth h z.guest) f
  guest-same h f = ap (λ (k : Guest). guest_holds l (guest_after l.depth h k) f) g

  own-same : (h : Changes) (f : ℕ)
      → IsApart x.shared f
      → IsApart z.shared f
      → own_row l cpu slot step (changed l.depth h x) f ≡ own_row l cpu slot step (changed l.depth h z) f
  unfolding changed
  own-same h f a b =
      own-view w l (changed l.depth h x) (changed l.depth h z) (changed-alike w l h x z e) cpu slot step f
      (still-apart l l.depth h x.shared f a) (still-apart l l.depth h z.shared f b) (guest-same h f)

  rows-same : (h : Changes)
      → ((f : ℕ) → is_memory l f ≡ true → is_touched h f ≡ true → IsApart x.shared f × IsApart z.shared f)
      → view_used w l (with_rows l cpu slot step h (changed l.depth h x))
      ≡ view_used w l (with_rows l cpu slot step h (changed l.depth h z))
  unfolding with_rows changed shared_after
  rows-same h out =
      same2 with_row (changed-alike w l h x z e)
      (fun_ext
      (λ f. choose-both (is_memory l f && is_touched h f) (own_row l cpu slot step (changed l.depth h x) f)
      (own_row l cpu slot step (changed l.depth h z) f) (x.shared.row f) (z.shared.row f)
      (ap (λ (u : Used). u.shared.row f) e)
      (λ k. let t = and-both (is_memory l f) (is_touched h f) k in
      let o = out f t.0 t.1 in own-same h f o.0 o.1)))

  module _ (same : rule_of l cpu slot step x ≡ rule_of l cpu slot step z) where
    made-same : ((f : ℕ)
        → is_memory l f ≡ true
        → is_touched (rule_of l cpu slot step x).changes f ≡ true
        → IsApart x.shared f × IsApart z.shared f)
        → view_used w l (made l cpu slot step x) ≡ view_used w l (made l cpu slot step z)
    unfolding made
    made-same out =
        rows-same (rule_of l cpu slot step x).changes out
        ∙ ap (λ (r : Rule). view_used w l (with_rows l cpu slot step r.changes (changed l.depth r.changes z))) same

    pub twin-half : IsLoose l cpu slot step x x
        → IsLoose l cpu slot step x z
        → (reply : Reply) (y : Used)
        → AnswersAmply l cpu slot step x reply y
        → (u : Used) × AnswersAmply l cpu slot step z reply u × (view_used w l y ≡ view_used w l u)
    twin-half a b reply y p =
        let fails : rule_fails l cpu slot step x ≡ rule_fails l cpu slot step z =
        ap (λ (r : Rule). first_test r (lacks_slot (names step) slot)) same in
        elim p [
          | inl m ↦ (
            made l cpu slot step z,
            inl
                (record {
                  passes = sym fails ∙ m.passes;
                  reply_is = m.reply_is
                      ∙ ap (λ (r : Rule). Done r.changes.value) same;
                  next = refl;
                }),
            ap (view_used w l) m.next
                ∙ made-same (λ f k t. (a m.passes f k t, b m.passes f k t)),
          )
          | inr (inl m) ↦ (
            z,
            inr (inl (record { why = m.why; fail = sym fails ∙ m.fail; reply_is = m.reply_is; next = refl })),
            ap (view_used w l) m.next
                ∙ e,
          )
          | inr (inr m) ↦ (
            z,
            inr
                (inr
                (record {
                  passes = sym fails
                      ∙ m.passes;
                  grows = m.grows;
                  reply_is = m.reply_is;
                  next = refl;
                })),
            ap (view_used w l) m.next
                ∙ e,
          )
        ]

-- a rule that asks a pool reads only the guest and the CPU

guest-only : Guest → Cpu → Used
guest-only g k = record { vms = no_vms; shared = no_shared; guest = g; cpu = k }

rule-of-guest : (l : Layout) (cpu : ℕ) (slot : Option ℕ) (step : Step) (x : Used)
    → asks_pool step ≡ true
    → rule_of l cpu slot step x ≡ rule_of l cpu slot step (guest-only x.guest x.cpu)
unfolding rule guest-only
rule-of-guest l cpu slot (Topup vm) x h = refl
rule-of-guest l cpu slot (ReclaimPool vm) x h = refl
rule-of-guest l cpu slot FinishGuest x h = refl
rule-of-guest l cpu slot step x h = cc

pub rule-half : (w : Freedoms) (l : Layout) (cpu : ℕ) (slot : Option ℕ) (step : Step) (x z : Used)
    → asks_pool step ≡ true
    → view_used w l x ≡ view_used w l z
    → x.guest ≡ z.guest
    → rule_of l cpu slot step x ≡ rule_of l cpu slot step z
rule-half w l cpu slot step x z h e g =
    rule-of-guest l cpu slot step x h
    ∙ same2 (λ j k. rule_of l cpu slot step (guest-only j k)) g (ap (λ (u : Used). u.cpu) e)
    ∙ sym (rule-of-guest l cpu slot step z h)

-- what is put back

put-view : (w : Freedoms) (l : Layout) (n : Names) (slot : Option ℕ) (cpu : ℕ) (s : Contents) (y : Used)
    → view w l (put_back n slot cpu s y) ≡ put_back n slot cpu (view w l s) (view_used w l y)
unfolding put_back
put-view w l n slot cpu s y =
    same2
    (λ (a : Shared) (g : ℕ → Guest). record (put_back n slot cpu (view w l s) (view_used w l y))
    { shared = a; guest = g })
    (if-over (view_shared w l) (uses_shared n slot) y.shared s.shared) (fun_ext (put-over slot s.guest y.guest))

-- what is used

seen-used : (w : Freedoms) (l : Layout) (n : Names) (slot : Option ℕ) (cpu : ℕ) → Contents → Used
seen-used w l n slot cpu c = record {
  vms = if uses_vms n then c.vms else no_vms;
  shared = if uses_shared n slot then c.shared else view_shared w l no_shared;
  guest = guest_at c.guest slot;
  cpu = c.cpu cpu;
}

used-at : (w : Freedoms) (l : Layout) (n : Names) (slot : Option ℕ) (cpu : ℕ) (c : Contents)
    → view_used w l (used_of n slot cpu c) ≡ seen-used w l n slot cpu (view w l c)
unfolding used_of seen-used
used-at w l n slot cpu c =
    same2
    (λ (a : Shared) (g : Guest). record (seen-used w l n slot cpu (view w l c)) { shared = a; guest = g })
    (if-over (view_shared w l) (uses_shared n slot) c.shared no_shared) (sym (at-over slot c.guest))

pub used-view : (w : Freedoms) (l : Layout) (n : Names) (slot : Option ℕ) (cpu : ℕ) (s r : Contents)
    → Alike w l s r
    → view_used w l (used_of n slot cpu s) ≡ view_used w l (used_of n slot cpu r)
used-view w l n slot cpu s r e =
    used-at w l n slot cpu s ∙ ap (seen-used w l n slot cpu) e ∙ sym (used-at w l n slot cpu r)

-- a step of one state, by that of the other
pub packed-half : (w : Freedoms) (l : Layout) (s r : Contents) (cpu : ℕ) (step : Step) (reply : Reply)
    → Alike w l s r
    → ((y : Used)
    → AnswersAmply l cpu (guest_slot (s.cpu cpu) step) step
    (used_of (names step) (guest_slot (s.cpu cpu) step) cpu s) reply y
    → (u : Used)
    × AnswersAmply l cpu (guest_slot (s.cpu cpu) step) step
    (used_of (names step) (guest_slot (s.cpu cpu) step) cpu r) reply u
    × (view_used w l y ≡ view_used w l u))
    → (t : Contents)
    → StepsAmply l s cpu step reply t
    → (u : Contents) × StepsAmply l r cpu step reply u × Alike w l t u
packed-half w l s r cpu step reply e twin t p =
    let n = names step in
    let slot = guest_slot (s.cpu cpu) step in
    let a = twin p.after p.answers in
    let u = put_back n slot cpu r a.0 in
    let here : Made l r cpu step reply u slot = (a.0, a.1, refl) in
    let at = subst (Made l r cpu step reply u) (ap (λ (c : Contents). guest_slot (c.cpu cpu) step) e) here in (
      u,
      record { after = at.0; answers = at.1; next = at.2 },
      ap (view w l) p.next ∙ put-view w l n slot cpu s p.after
          ∙ same2 (put_back n slot cpu) e a.2 ∙ sym (put-view w l n slot cpu r a.0),
    )
