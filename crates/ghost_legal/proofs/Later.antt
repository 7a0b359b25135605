-- The condition of a frame goes on as all parts do.
use Rattle.std.proofs.Common.{◌≡◌, ℕ, ◌+◌, Bool, true, false, ◌==◌, Option, Some, None, refl, sym, ap, subst, ◌∙◌, inl, inr, arith, cond}
use Rattle.descriptor.specs.declared.State.TheVariants.{Owned, SharedOwned, SharedBorrowed}
use Rattle.page_state.specs.declared.entry.Entry.{Entry}
use Rattle.page_state.specs.declared.row.Lent.{Lent}
use Rattle.page_state.specs.declared.row.Row.{Row}
use Rattle.page_state.specs.declared.row.Usage.TheVariants.{Plain}
use Rattle.page_state.specs.Entries.{advance}
use Rattle.page_state.specs.Rows.{advance_row, advance_lent}
use Rattle.reference_model.specs.help.Conditions.{Condition, outside, hosts, with_hyp, hyps, with_guest, guests, lent_back, hyp_entry_by, row_in, HostFits}
use Rattle.ghost_legal.specs.declared.finding.Facts.{Facts}
use Rattle.ghost_legal.specs.declared.finding.Holder.{Holder}
use Rattle.ghost_legal.specs.declared.finding.Holder.TheVariants.{SharedPool, VmPool, Table, Hand, Guest}
use Rattle.ghost_legal.specs.Facts.{condition_by, held_in, unheld_in, later, option_later, facts_later, Fits, IsCondition}

-- the condition some frames further on
abbrev pub condition_later : Condition → ℕ → Condition
condition_later (with_guest v g) n = with_guest v (g + n)
condition_later (guests v g) n = guests v (g + n)
condition_later (lent_back v g) n = lent_back v (g + n)
condition_later other n = other

held-later : (h : Holder) (n : ℕ) → held_in (later h n) ≡ condition_later (held_in h) n
held-later SharedPool n = refl
held-later (VmPool v) n = refl
held-later (Table at) n = refl
held-later (Hand c) n = refl
held-later (Guest slot page Owned) n = refl
held-later (Guest slot page SharedOwned) n = refl
held-later (Guest slot page SharedBorrowed) n = refl

unheld-later : (b : Bool) (o : Option Lent) (n : ℕ)
    → cond b (hyps Plain) (elim (advance_lent o n) [ Some l ↦ with_hyp | None ↦ hosts ])
    ≡ condition_later (cond b (hyps Plain) (elim o [ Some l ↦ with_hyp | None ↦ hosts ])) n
unheld-later true o n = refl
unheld-later false None n = refl
unheld-later false (Some l) n = refl

by-later : (m : Bool) (r : Row) (o : Option Holder) (n : ℕ)
    → elim (option_later o n) [ Some h ↦ held_in h | None ↦ cond m (unheld_in (advance_row r n)) outside ]
    ≡ condition_later (elim o [ Some h ↦ held_in h | None ↦ cond m (unheld_in r) outside ]) n
by-later m r (Some h) n = held-later h n
by-later false r None n = refl
by-later true r None n = unheld-later (r.owner.0 == 1) r.lent n

host-later : (f : ℕ) (c : Condition) (e : Entry) (n : ℕ)
    → HostFits f c e
    → HostFits (f + n) (condition_later c n) (advance e n)
host-later f outside e n (inl h) = inl (ap (λ e. advance e n) h)
host-later f outside e n (inr h) = inr (ap (λ e. advance e n) h)
host-later f hosts e n (inl h) = inl (ap (λ e. advance e n) h)
host-later f hosts e n (inr h) = inr (ap (λ e. advance e n) h)
host-later f with_hyp e n h = ap (λ e. advance e n) h
host-later f (hyps u) e n h = ap (λ e. advance e n) h
host-later f (with_guest v g) e n h = ap (λ e. advance e n) h
host-later f (guests v g) e n h = ap (λ e. advance e n) h
host-later f (lent_back v g) e n h = ap (λ e. advance e n) h

hyp-later : (f : ℕ) (c : Condition) (n : ℕ) → advance (hyp_entry_by f c) n ≡ hyp_entry_by (f + n) (condition_later c n)
hyp-later f outside n = refl
hyp-later f hosts n = refl
hyp-later f with_hyp n = refl
hyp-later f (hyps u) n = refl
hyp-later f (with_guest v g) n = refl
hyp-later f (guests v g) n = refl
hyp-later f (lent_back v g) n = refl

row-later : (f : ℕ) (c : Condition) (n : ℕ) → advance_row (row_in f c) n ≡ row_in (f + n) (condition_later c n)
row-later f outside n = refl
row-later f hosts n = refl
row-later f with_hyp n =
    ap
    (λ p. record {
      owner = record { 0 = 0 };
      lent = Some (record { owner = record { 0 = 1 }; page = p });
      usage = Plain;
    })
    (omega arith)
row-later f (hyps u) n = refl
row-later f (with_guest v g) n = refl
row-later f (guests v g) n = refl
row-later f (lent_back v g) n = refl

some-before : (o : Option Holder) (n : ℕ) (h : Holder) → option_later o n ≡ Some h → (k : Holder) × (o ≡ Some k)
some-before None n h e = cc
some-before (Some k) n h e = (k, refl)

pub condition-later : (f : ℕ) (x : Facts) (n : ℕ) → IsCondition f x → IsCondition (f + n) (facts_later x n)
condition-later f x n k =
    let c = condition_by x in
    let same : condition_by (facts_later x n) ≡ condition_later c n = by-later x.memory x.row x.holder n in
    record {
      inside = λ h e. let b = some-before x.holder n h e in k.inside b.0 b.1;
      fits = subst (λ d. Fits (f + n) d (facts_later x n)) (sym same) (record {
        host = host-later f c x.host n k.fits.host;
        hyp = ap (λ e. advance e n) k.fits.hyp ∙ hyp-later f c n;
        row = λ m. ap (λ r. advance_row r n) (k.fits.row m) ∙ row-later f c n;
      });
    }
