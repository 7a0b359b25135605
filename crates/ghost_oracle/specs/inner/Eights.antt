-- Eight slots of a table in a row.
use Rattle.std.specs.Borrow.{Bor}
use Rattle.std.specs.Prelude.{◌≡◌, ℕ, zero, suc, ◌+◌, ◌-◌, ◌*◌, ◌<◌, ◌≤◌, min, IfSome, IsTrue, MatchOption, Option}
use Rattle.table_tree.specs.declared.table.Table.{Table}
use Rattle.table_tree.specs.declared.table.Slot.{Slot}
use Rattle.table_tree.specs.declared.table.Slot.TheVariants.{Word}
use Rattle.table_tree.specs.Meaning.{slot_at}
use Rattle.table_tree.specs.Shape.{HoldsWord}
use Rattle.ghost_oracle.specs.declared.pending.Pending.{Pending}
use Rattle.ghost_oracle.specs.inner.Pending.{pending_with}

-- these are the slots of a table from `i` on
pub record AreSlots {A : Type 0} (t : Table A) (i : ℕ) (a b c d e f g h : Slot A) : Type 0 where
  pub a_is : a ≡ slot_at t i
  pub b_is : b ≡ slot_at t (i + 1)
  pub c_is : c ≡ slot_at t (i + 2)
  pub d_is : d ≡ slot_at t (i + 3)
  pub e_is : e ≡ slot_at t (i + 4)
  pub f_is : f ≡ slot_at t (i + 5)
  pub g_is : g ≡ slot_at t (i + 6)
  pub h_is : h ≡ slot_at t (i + 7)

-- they hold words
pub record AreWords {A : Type 0} (a b c d e f g h : Slot A) : Type 0 where
  pub a_is : HoldsWord a
  pub b_is : HoldsWord b
  pub c_is : HoldsWord c
  pub d_is : HoldsWord d
  pub e_is : HoldsWord e
  pub f_is : HoldsWord f
  pub g_is : HoldsWord g
  pub h_is : HoldsWord h

-- they hold `next`, `next + step`, and so on
pub record AreNext {A : Type 0} (next step : ℕ) (a b c d e f g h : Slot A) : Type 0 where
  pub a_is : a ≡ Word next
  pub b_is : b ≡ Word (next + step)
  pub c_is : c ≡ Word (next + 2 * step)
  pub d_is : d ≡ Word (next + 3 * step)
  pub e_is : e ≡ Word (next + 4 * step)
  pub f_is : f ≡ Word (next + 5 * step)
  pub g_is : g ≡ Word (next + 6 * step)
  pub h_is : h ≡ Word (next + 7 * step)

-- slot `k` of eight
abbrev pub nth : {A : Type 0} → ℕ → (a b c d e f g h : Slot A) → Slot A
nth zero a b c d e f g h = a
nth (suc zero) a b c d e f g h = b
nth (suc (suc zero)) a b c d e f g h = c
nth (suc (suc (suc zero))) a b c d e f g h = d
nth (suc (suc (suc (suc zero)))) a b c d e f g h = e
nth (suc (suc (suc (suc (suc zero))))) a b c d e f g h = f
nth (suc (suc (suc (suc (suc (suc zero)))))) a b c d e f g h = g
nth (suc (suc (suc (suc (suc (suc (suc k))))))) a b c d e f g h = h

-- the slots of a table from `i` to `j` hold the words that extend the pending run, which has been
-- extended by them
pub record GoesTo {A : Type 0} (t : Table A) (i j : ℕ) (old new : Pending) : Type 0 where
  pub on : i < j → IsTrue old.goes_on
  pub words : (k : ℕ) → i + k < j → slot_at t (i + k) ≡ Word (old.next + k * old.step)
  pub pending : new ≡ pending_with old (old.next + (j - i) * old.step)

-- a count of looks, `more` looks later
pub record HasLooked (old more new : ℕ) : Type 0 where
  pub count : min new 18446744073709551615 ≡ min (old + more) 18446744073709551615
  pub fits : 1 ≤ more → new ≤ 18446744073709551615
  pub kept : old ≤ 18446744073709551615 → new ≤ 18446744073709551615

-- references to eight slots
abbrev pub EightSlots : Type 0 → Type 0
EightSlots A =
    Bor (Slot A)
    × Bor (Slot A)
    × Bor (Slot A)
    × Bor (Slot A)
    × Bor (Slot A)
    × Bor (Slot A)
    × Bor (Slot A)
    × Bor (Slot A)

module _ {A : Type 0} where
  -- they are those of a table from `i` on
  abbrev pub AreSlotsFrom : Table A → ℕ → EightSlots A → Type 0
  AreSlotsFrom t i x = AreSlots t i x.0.now x.1.now x.2.now x.3.now x.4.now x.5.now x.6.now x.7.now

  -- they hold words
  abbrev pub HoldWords : EightSlots A → Type 0
  HoldWords x = AreWords x.0.now x.1.now x.2.now x.3.now x.4.now x.5.now x.6.now x.7.now

  -- they hold `next`, `next + step`, and so on
  abbrev pub HoldNext : ℕ → ℕ → EightSlots A → Type 0
  HoldNext next step x =
      AreNext next step x.0.now x.1.now x.2.now x.3.now x.4.now x.5.now x.6.now x.7.now

  -- slot `k` of them
  abbrev pub nth_of : ℕ → EightSlots A → Slot A
  nth_of k x = nth k x.0.now x.1.now x.2.now x.3.now x.4.now x.5.now x.6.now x.7.now

  -- the result of a look at the slots of a table, eight at a time from slot `8 * from` on: the
  -- number and the slots of the first eight that don't all extend the pending run; none if each
  -- does
  module _ (t : Table A) (from : ℕ) (found : Option (ℕ × EightSlots A)) where
    -- the words before them extend the run, which has been extended by them
    abbrev pub GoesToFound : Pending → Pending → Type 0
    GoesToFound old new =
        MatchOption found (GoesTo t (8 * from) 512 old new)
        (λ r. GoesTo t (8 * from) (8 * r.0) old new)

    -- each slot to the last of them was looked at once
    abbrev pub HasLookedToFound : ℕ → ℕ → Type 0
    HasLookedToFound old new =
        MatchOption found (HasLooked old (512 - 8 * from) new)
        (λ r. HasLooked old (8 * r.0 + 8 - 8 * from) new)

    -- they are slots of the table
    abbrev pub IsFoundIn : Type 0
    IsFoundIn = IfSome found (λ r. (from ≤ r.0) × (r.0 < 64) × AreSlotsFrom t (8 * r.0) r.1)
