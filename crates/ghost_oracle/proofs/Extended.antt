-- How a pending run is extended.
use Rattle.std.proofs.Common.{◌≡◌, ℕ, zero, suc, ◌+◌, ◌-◌, ◌*◌, ◌^◌, ◌<◌, ◌≤◌, IsTrue, true, sym, ap, subst, ◌∙◌, arith}
use Rattle.std.proofs.Math.Nat.{mul-le-mul_right}
use Rattle.page_state.specs.declared.entry.Entry.{Entry}
use Rattle.page_state.specs.declared.entry.Entry.TheVariants.{Unmapped}
use Rattle.page_state.specs.Entries.{advance}
use Rattle.page_state.specs.Geometries.{block_pages}
use Rattle.page_state.specs.Map.{Map}
use Rattle.page_state.proofs.Cases.{by_lt}
use Rattle.page_state.proofs.Entries.{advance-more}
use Rattle.table_tree.specs.Shape.{HasSmallFrame}
use Rattle.ghost_oracle.specs.declared.pending.Pending.{Pending}
use Rattle.table_tree.specs.Ahead.{gives, GoesAhead}
use Rattle.ghost_oracle.specs.inner.Pending.{ComesNext, IsPending, IsGiven, pending_with}
use Rattle.table_tree.proofs.Ahead.{zero_gives}

-- no pages yet, and words of 0
pub none_pending : (m : Map) (d first left : ℕ)
    → IsPending m d first left (record { first = first; entry = Unmapped; goes_on = true; next = 0; step = 0 })
none_pending m d first left = record {
  order = omega arith;
  given = λ p a b. absurd (omega (arith, a, b));
  small = tt;
  next = λ _. record {
    ahead = λ k l. ap (λ w. gives d w) (omega arith) ∙ zero_gives d;
    room = omega arith;
  };
}

-- the words after the first one of a run
pub comes_next : (d first pages word step : ℕ) (e : Entry)
    → pages ≡ block_pages d
    → word < 2 ^ 64
    → e ≡ gives d word
    → GoesAhead d e step
    → ComesNext d (first + pages) 511
    (record { first = first; entry = e; goes_on = true; next = word + step; step = step })
comes_next d first pages word step e s r g h = record {
  ahead = λ k l.
      let same : word + step + k * step ≡ word + (k + 1) * step = omega arith in
      let pages_on : (k + 1) * block_pages d ≡ first + pages + k * block_pages d - first = omega (arith, s) in
      ap (λ w. gives d w) same ∙ h.ahead word (k + 1) r (sym g) (omega (arith, l)) ∙ ap (advance e) pages_on;
  room = let x = h.room word r (sym g) in omega (arith, x);
}

-- extended by a word
pub pending_on : (m : Map) (d end left : ℕ) (h : Pending)
    → IsPending m d end (left + 1) h
    → IsTrue h.goes_on
    → IsGiven m d end h.next
    → IsPending m d (end + block_pages d) left (pending_with h (h.next + h.step))
pending_on m d end left h x t g =
    let c = x.next t in
    let order : h.first ≤ end = x.order in
    record {
      order = omega (arith, order);
      given = λ p a b. by_lt p end
          (λ l. x.given p a l)
          (λ l.
          let first : h.next + 0 * h.step ≡ h.next = omega arith in
          let entry : gives d h.next ≡ advance h.entry (end + 0 * block_pages d - h.first) =
          ap (λ w. gives d w) (sym first) ∙ c.ahead 0 (omega arith) in
          let pages : end + 0 * block_pages d - h.first + (p - end) ≡ p - h.first = omega (arith, order, l) in
          g p l b ∙ ap (λ e. advance e (p - end)) entry
          ∙ advance-more h.entry (end + 0 * block_pages d - h.first) (p - end) ∙ ap (advance h.entry) pages);
      small = x.small;
      next = λ _. record {
        ahead = λ k l.
            let same : h.next + h.step + k * h.step ≡ h.next + (k + 1) * h.step = omega arith in
            let pages : end + (k + 1) * block_pages d - h.first ≡ end + block_pages d + k * block_pages d - h.first =
            ap (λ n. n - h.first) (omega arith) in
            ap (λ w. gives d w) same ∙ c.ahead (k + 1) (omega (arith, l)) ∙ ap (advance h.entry) pages;
        room = let r = c.room in
            let same : h.next + h.step + left * h.step ≡ h.next + (left + 1) * h.step = omega arith in
            omega (arith, r, same);
      };
    }

-- the first word of a run
pub pending_new : (m : Map) (d end left word : ℕ) (h : Pending)
    → h.first ≡ end
    → h.entry ≡ gives d word
    → HasSmallFrame h.entry
    → (IsTrue h.goes_on → ComesNext d (end + block_pages d) 511 h)
    → left < 512
    → IsGiven m d end word
    → IsPending m d (end + block_pages d) left h
pending_new m d end left word h f e s c l g = record {
  order = omega (arith, f);
  given =
      λ p a b. g p (omega (arith, f, a)) b ∙ ap (λ x. advance x (p - end)) (sym e)
      ∙ ap (λ n. advance h.entry (p - n)) (sym f);
  small = s;
  next = λ t. record {
    ahead = λ k i. (c t).ahead k (omega (arith, i, l));
    room = let r = (c t).room in
        let more : left * h.step ≤ 511 * h.step = mul-le-mul_right h.step (omega (arith, l)) in
        omega (arith, r, more);
  };
}

-- extended by `n` words
pub pending_steps : (m : Map) (d end left n : ℕ) (h : Pending)
    → IsPending m d end (left + n) h
    → IsTrue h.goes_on
    → ((j : ℕ) → j < n → IsGiven m d (end + j * block_pages d) (h.next + j * h.step))
    → IsPending m d (end + n * block_pages d) left (pending_with h (h.next + n * h.step))
pending_steps m d end left zero h x t g =
    let a : left + 0 ≡ left = omega arith in
    let b : end ≡ end + 0 * block_pages d = omega arith in
    let c : h.next ≡ h.next + 0 * h.step = omega arith in
    subst (λ w. IsPending m d (end + 0 * block_pages d) left (pending_with h w)) c
    (subst (λ p. IsPending m d p left h) b (subst (λ l. IsPending m d end l h) a x))
pending_steps m d end left (suc n) h x t g =
    let a : left + suc n ≡ left + 1 + n = omega arith in
    let y =
    pending_steps m d end (left + 1) n h (subst (λ l. IsPending m d end l h) a x) t
    (λ j l. g j (omega (arith, l))) in
    let z =
    pending_on m d (end + n * block_pages d) left (pending_with h (h.next + n * h.step)) y t (g n (omega arith)) in
    let b : end + n * block_pages d + block_pages d ≡ end + suc n * block_pages d = omega arith in
    let c : h.next + n * h.step + h.step ≡ h.next + suc n * h.step = omega arith in
    subst (λ w. IsPending m d (end + suc n * block_pages d) left (pending_with h w)) c
    (subst (λ p. IsPending m d p left (pending_with h (h.next + n * h.step + h.step))) b z)
