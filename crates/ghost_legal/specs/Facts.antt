-- The facts of the parts of a state about a frame, and the condition that they make.
use Rattle.std.specs.Prelude.{◌≡◌, ℕ, zero, suc, ◌+◌, ◌^◌, ◌<◌, true, ◌==◌, Option, Some, None, if◌then◌else◌}
use Rattle.page_state.specs.declared.row.Row.{Row}
use Rattle.page_state.specs.declared.row.Usage.{Usage}
use Rattle.page_state.specs.declared.row.Usage.TheVariants.{Plain, SharedPool, VmPool, InHand}
use Rattle.page_state.specs.Entries.{advance}
use Rattle.page_state.specs.Rows.{advance_row}
use Rattle.reference_model.specs.help.Conditions.{Condition, outside, hosts, with_hyp, hyps, with_guest, guests, lent_back, guest_condition, hyp_entry_by, row_in, HostFits}
use Rattle.ghost_legal.specs.declared.condition.Condition.{Condition as ConditionOf}
use Rattle.ghost_legal.specs.declared.condition.Condition.TheVariants.{Outside, Hosts, WithHyp, Hyps, WithGuest, Guests, LentBack}
use Rattle.ghost_legal.specs.declared.finding.Facts.{Facts}
use Rattle.ghost_legal.specs.declared.finding.Holder.{Holder}
use Rattle.ghost_legal.specs.declared.finding.Holder.TheVariants.{SharedPool as SharedPoolHolder, VmPool as VmPoolHolder, Table, Hand, Guest}

-- the condition that the code names
abbrev pub condition_in : ConditionOf → Condition
condition_in Outside = outside
condition_in Hosts = hosts
condition_in WithHyp = with_hyp
condition_in (Hyps usage) = hyps usage
condition_in (WithGuest slot page) = with_guest slot page
condition_in (Guests slot page) = guests slot page
condition_in (LentBack slot page) = lent_back slot page

-- the use of the tables of the tree with this owner number
abbrev pub table_use : ℕ → Usage
table_use zero = SharedPool
table_use (suc zero) = SharedPool
table_use (suc (suc v)) = VmPool v

-- the condition of a frame with this holder
abbrev pub held_in : Holder → Condition
held_in SharedPoolHolder = hyps SharedPool
held_in (VmPoolHolder v) = hyps (VmPool v)
held_in (Table at) = hyps (table_use at.tree)
held_in (Hand c) = hyps (InHand c)
held_in (Guest slot page state) = guest_condition state slot page

-- the condition of a memory frame without a holder, from its row
abbrev pub unheld_in : Row → Condition
unheld_in r =
    if r.owner.0 == 1 then hyps Plain else elim r.lent [ Some l ↦ with_hyp | None ↦ hosts ]

-- the one condition that a frame can be in
abbrev pub condition_by : Facts → Condition
condition_by x =
    elim x.holder [ Some h ↦ held_in h | None ↦ if x.memory then unheld_in x.row else outside ]

-- the facts of the parts about a frame fit the condition
pub record Fits (f : ℕ) (c : Condition) (x : Facts) : Type 0 where
  pub host : HostFits f c x.host
  pub hyp : x.hyp ≡ hyp_entry_by f c
  pub row : x.memory ≡ true → x.row ≡ row_in f c

-- only a memory frame is held
abbrev pub IsHeldInside : Facts → Type 0
IsHeldInside x = (h : Holder) → x.holder ≡ Some h → x.memory ≡ true

-- the facts of the parts about a frame fit this condition and no other
pub record IsCondition (f : ℕ) (x : Facts) : Type 0 where
  pub inside : IsHeldInside x
  pub fits : Fits f (condition_by x) x

-- a guest's page is small some frames further on
abbrev pub HasLowPage : Holder → ℕ → Type 0
HasLowPage (Guest slot page state) n = page + n < 2 ^ 64
HasLowPage other n = Unit {0}

-- the holder of a frame some frames further on: a guest's page advances with the frame
abbrev pub later : Holder → ℕ → Holder
later (Guest slot page state) n = Guest slot (page + n) state
later other n = other

abbrev pub option_later : Option Holder → ℕ → Option Holder
option_later None n = None
option_later (Some h) n = Some (later h n)

-- the facts of the parts some frames further on, as they advance
abbrev pub facts_later : Facts → ℕ → Facts
facts_later x n =
    record {
      memory = x.memory;
      host = advance x.host n;
      hyp = advance x.hyp n;
      row = advance_row x.row n;
      holder = option_later x.holder n;
    }

-- the slot of a condition, if it names one, is one of the 64
abbrev pub IsLowCondition : ConditionOf → Type 0
IsLowCondition (WithGuest slot page) = slot < 64
IsLowCondition (Guests slot page) = slot < 64
IsLowCondition (LentBack slot page) = slot < 64
IsLowCondition other = Unit {0}

-- the slot of a holder that is a guest is one of the 64
abbrev pub IsLowHolder : Option Holder → Type 0
IsLowHolder (Some (Guest slot page state)) = slot < 64
IsLowHolder other = Unit {0}
