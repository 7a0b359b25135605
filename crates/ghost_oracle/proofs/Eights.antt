-- Eight slots of a table that hold the words which extend the pending run.
use Rattle.std.proofs.Common.{◌≡◌, ℕ, zero, suc, ◌+◌, ◌-◌, ◌*◌, ◌^◌, ◌<◌, ◌≤◌, IsTrue, min, sym, ap, ◌∙◌, arith}
use Rattle.std.proofs.Math.Nat.{mul-le-mul_right}
use Rattle.table_tree.specs.declared.table.Table.{Table}
use Rattle.table_tree.specs.declared.table.Slot.{Slot}
use Rattle.table_tree.specs.declared.table.Slot.TheVariants.{Word}
use Rattle.table_tree.specs.Meaning.{slot_at}
use Rattle.page_state.proofs.Cases.{by_lt}
use Rattle.ghost_oracle.specs.declared.pending.Pending.{Pending}
use Rattle.ghost_oracle.specs.inner.Eights.{AreSlots, AreNext, GoesTo, HasLooked, nth}
use Rattle.ghost_oracle.specs.inner.Pending.{pending_with}

module _ {A : Type 0} (t : Table A) (i : ℕ) (a b c d e f g h : Slot A) (s : AreSlots t i a b c d e f g h) where
  pub nth_slot : (k : ℕ) → k < 8 → nth k a b c d e f g h ≡ slot_at t (i + k)
  nth_slot zero l = s.a_is ∙ ap (slot_at t) (omega arith)
  nth_slot (suc zero) l = s.b_is
  nth_slot (suc (suc zero)) l = s.c_is
  nth_slot (suc (suc (suc zero))) l = s.d_is
  nth_slot (suc (suc (suc (suc zero)))) l = s.e_is
  nth_slot (suc (suc (suc (suc (suc zero))))) l = s.f_is
  nth_slot (suc (suc (suc (suc (suc (suc zero)))))) l = s.g_is
  nth_slot (suc (suc (suc (suc (suc (suc (suc k))))))) l = s.h_is ∙ ap (slot_at t) (omega (arith, l))

  pub next_slot : (next step : ℕ)
      → AreNext next step a b c d e f g h
      → (k : ℕ)
      → k < 8
      → slot_at t (i + k) ≡ Word (next + k * step)
  next_slot next step n k l = sym (nth_slot k l) ∙ next_nth k l
    where
      next_nth : (k : ℕ) → k < 8 → nth k a b c d e f g h ≡ Word (next + k * step)
      next_nth zero l = n.a_is ∙ ap (λ w. Word w) (omega arith)
      next_nth (suc zero) l = n.b_is ∙ ap (λ w. Word w) (omega arith)
      next_nth (suc (suc zero)) l = n.c_is
      next_nth (suc (suc (suc zero))) l = n.d_is
      next_nth (suc (suc (suc (suc zero)))) l = n.e_is
      next_nth (suc (suc (suc (suc (suc zero))))) l = n.f_is
      next_nth (suc (suc (suc (suc (suc (suc zero)))))) l = n.g_is
      next_nth (suc (suc (suc (suc (suc (suc (suc k))))))) l =
          n.h_is
          ∙ ap (λ w. Word w)
          (let e : suc (suc (suc (suc (suc (suc (suc k)))))) ≡ 7 = omega (arith, l) in
          ap (λ x. next + x * step) (sym e))

  pub slot_is : (k : ℕ) (r : Slot A) → k < 8 → r ≡ nth k a b c d e f g h → slot_at t (i + k) ≡ r
  slot_is k r l n = sym (nth_slot k l) ∙ sym n

-- words that extended it, by eights
pub next_more : (next hn step from c : ℕ)
    → next ≡ hn + (8 * c - 8 * from) * step
    → from ≤ c
    → next + 8 * step ≡ hn + (8 * (c + 1) - 8 * from) * step
next_more next hn step from c e l = let n : 8 * (c + 1) - 8 * from ≡ 8 * c - 8 * from + 8 = omega (arith, l) in
    let x : hn + (8 * c - 8 * from) * step + 8 * step ≡ hn + (8 * c - 8 * from + 8) * step = omega arith in
    ap (λ y. y + 8 * step) e ∙ x ∙ ap (λ y. hn + y * step) (sym n)

pub next_room : (next hn step from c : ℕ)
    → next ≡ hn + (8 * c - 8 * from) * step
    → from ≤ c
    → c < 64
    → hn + (512 - 8 * from) * step < 2 ^ 64
    → next + 8 * step < 2 ^ 64
next_room next hn step from c e l m r =
    let x = next_more next hn step from c e l in
    let few : (8 * (c + 1) - 8 * from) * step ≤ (512 - 8 * from) * step = mul-le-mul_right step (omega (arith, m)) in
    omega (arith, x, few, r)

pub looked_more : (old more now new : ℕ)
    → HasLooked old more now
    → new ≡ min (now + 8) 18446744073709551615
    → HasLooked old (more + 8) new
looked_more old more now new h e = let c = h.count in
    record { count = omega (arith, e, c); fits = λ l. omega (arith, e); kept = λ l. omega (arith, e) }

module _ {A : Type 0} (t : Table A) where
  pub words_more : (next hn step from c : ℕ)
      → next ≡ hn + (8 * c - 8 * from) * step
      → from ≤ c
      → ((k : ℕ) → 8 * from + k < 8 * c → slot_at t (8 * from + k) ≡ Word (hn + k * step))
      → ((k : ℕ) → k < 8 → slot_at t (8 * c + k) ≡ Word (next + k * step))
      → (k : ℕ) → 8 * from + k < 8 * (c + 1) → slot_at t (8 * from + k) ≡ Word (hn + k * step)
  words_more next hn step from c e l h g k m = by_lt (8 * from + k) (8 * c)
      (λ z. h k z)
      (λ z.
      let at : 8 * from + k ≡ 8 * c + (8 * from + k - 8 * c) = omega (arith, z) in
      let n : 8 * c - 8 * from + (8 * from + k - 8 * c) ≡ k = omega (arith, z, l) in
      let w : hn + (8 * c - 8 * from) * step + (8 * from + k - 8 * c) * step ≡ hn + (8 * c - 8 * from + (8 * from + k - 8 * c)) * step =
      omega arith in
      ap (slot_at t) at ∙ g (8 * from + k - 8 * c) (omega (arith, m, z))
      ∙ ap (λ x. Word x) (ap (λ y. y + (8 * from + k - 8 * c) * step) e ∙ w ∙ ap (λ y. hn + y * step) n))

  pub goes_to : (i j next step : ℕ) (old h : Pending)
      → step ≡ old.step
      → h ≡ old
      → next ≡ old.next + (j - i) * step
      → (i < j → IsTrue old.goes_on)
      → ((k : ℕ) → i + k < j → slot_at t (i + k) ≡ Word (old.next + k * step))
      → GoesTo t i j old (pending_with h next)
  goes_to i j next step old h s e n o w = record {
    on = o;
    words = λ k l. w k l ∙ ap (λ z. Word (old.next + k * z)) s;
    pending = ap (λ x. pending_with x next) e ∙ ap (pending_with old) (n ∙ ap (λ z. old.next + (j - i) * z) s);
  }
