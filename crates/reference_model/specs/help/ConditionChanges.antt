-- The condition of the frames that a call's changes touch, from the changes only.
use Rattle.std.specs.Prelude.{◌≡◌, ℕ, ◌+◌, ◌-◌, true, false, ◌&&◌, ◌<◌, unwrap_or, Option, Some, None}
use Rattle.descriptor.specs.declared.State.TheVariants.{SharedOwned, SharedBorrowed}
use Rattle.reference_model.specs.declared.changes.Changes.{Changes}
use Rattle.page_state.specs.declared.entry.Entry.{Entry}
use Rattle.page_state.specs.declared.entry.Entry.TheVariants.{Annotated, Leaf}
use Rattle.page_state.specs.declared.row.Usage.TheVariants.{VmPool}
use Rattle.call_table.specs.declared.step.Step.{Step}
use Rattle.reference_model.specs.help.Conditions.{Condition, hosts, with_hyp, hyps, with_guest, guests, lent_back, Legal, IsUsable}
use Rattle.page_state.specs.Layouts.{Layout, is_memory}
use Rattle.reference_model.specs.model.Rules.{names, guest_slot}
use Rattle.reference_model.specs.help.RowChanges.{use_by}
use Rattle.reference_model.specs.model.State.{Contents}
use Rattle.reference_model.specs.model.Step.{is_touched, rule_of, fails, made}
use Rattle.reference_model.specs.model.Used.{used_of, put_back}

-- the condition of a frame of the range, counted from its first, if the host gives its page away:
-- to the guest whose page also changes, or to the hypervisor
abbrev pub given_away : ℕ → Option ℕ → Changes → ℕ → Condition
given_away cpu slot h i =
    elim (h.guest) [
      | Some c ↦ guests (unwrap_or slot 0) (c.range.first.0 + i)
      | None ↦ hyps (use_by cpu h.cpu.hand)
    ]

-- its condition if the host shares it: with the guest whose page also changes, or with the
-- hypervisor
abbrev pub lent_out : Option ℕ → Changes → ℕ → Condition
lent_out slot h i =
    elim (h.guest)
    [ Some c ↦ with_guest (unwrap_or slot 0) (c.range.first.0 + i) | None ↦ with_hyp ]

-- its condition if the host borrows it: from the guest whose page also changes
abbrev pub borrowed : Option ℕ → Changes → ℕ → Condition
borrowed slot h i =
    elim (h.guest) [ Some c ↦ lent_back (unwrap_or slot 0) (c.range.first.0 + i) | None ↦ hosts ]

-- the condition of the frame, from the entry that the host's pages get
abbrev pub condition_by : ℕ → Option ℕ → Changes → ℕ → Entry → Condition
condition_by cpu slot h i (Annotated owner) = given_away cpu slot h i
condition_by cpu slot h i (Leaf frame prot kind SharedOwned) = lent_out slot h i
condition_by cpu slot h i (Leaf frame prot kind SharedBorrowed) = borrowed slot h i
condition_by cpu slot h i other = hosts

-- the condition of a touched frame; if the host's map stays, the frame goes to the guest's pool
abbrev pub touched_condition : ℕ → Option ℕ → Changes → ℕ → Condition
touched_condition cpu slot h f =
    elim (h.host) [
      | Some c ↦ condition_by cpu slot h (f - c.range.first.0) c.entry
      | None ↦ hyps (VmPool (unwrap_or slot 0))
    ]

-- the conditions after the changes: memory frames of the touched range have the given ones, and all
-- else stays
abbrev pub conditions_after : Layout → ℕ → Option ℕ → Changes → (ℕ → Condition) → ℕ → Condition
conditions_after l cpu slot h condition f =
    elim (is_memory l f && is_touched h f)
    [ true ↦ touched_condition cpu slot h f | false ↦ condition f ]

-- a state determines the condition of each frame
abbrev pub ConditionOnce : Type 0
ConditionOnce =
    (l : Layout) (s : Contents) (a b : Legal l s) (f : ℕ) → b.condition f ≡ a.condition f

-- a made step moves the touched memory frames to the given conditions, and no other
abbrev pub ConditionsMove : Type 0
ConditionsMove =
    (l : Layout) (s : Contents) (cpu : ℕ) (slot : Option ℕ) (step : Step) (legal : Legal l s)
    → IsUsable l
    → cpu < l.config.cpus
    → slot ≡ guest_slot (s.cpu cpu) step
    →
    let x = used_of (names step) slot cpu s in
    let t = put_back (names step) slot cpu s (made l cpu slot step x) in
    fails l cpu slot step x ≡ None
    → (after : Legal l t)
    → (f : ℕ)
    → after.condition f
    ≡ conditions_after l cpu slot (rule_of l cpu slot step x).changes legal.condition f
