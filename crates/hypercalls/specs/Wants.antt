-- A law on refusals for memory: a step that changes pages isn't refused if memory for it is already
-- reserved.
use Rattle.std.specs.Prelude.{◌≡◌, ◌≤◌, ◌*◌, ◌==◌, ℕ, Bool, true, false, Option, Some, None, slice_get, if◌then◌else◌}
use Rattle.call_table.specs.declared.reply.Refusal.TheVariants.{NoMemory}
use Rattle.call_table.specs.declared.reply.Reply.{Reply}
use Rattle.call_table.specs.declared.reply.Reply.TheVariants.{Refused}
use Rattle.call_table.specs.declared.step.Step.{Step}
use Rattle.call_table.specs.declared.step.Step.TheVariants.{ShareHyp, UnshareHyp, ShareGuest, UnshareGuest, DonateGuest, GuestShareHost, GuestUnshareHost, GuestRelax, ReclaimPage}
use Rattle.page_state.specs.Geometries.{levels_below}
use Rattle.table_tree.specs.View.{spares_of}
use Rattle.component.specs.declared.Component.{Component}
use Rattle.guest_component.specs.declared.body.Body.{Body}
use Rattle.guest_component.specs.View.{guest_depth}
use Rattle.part_types.specs.declared.parts.GuestPart.{GuestPart}
use Rattle.hypercalls.specs.declared.parts.Parts.{Parts}
use Rattle.hypercalls.specs.Whole.{IsStep, slot_here}

-- the steps that change at most a range of each map: one page, or more for the calls on a guest
-- that take a range
abbrev pub changes_a_range : Step → Bool
changes_a_range (ShareHyp f) = true
changes_a_range (UnshareHyp f) = true
changes_a_range (ShareGuest f g p n) = true
changes_a_range (UnshareGuest vm g) = true
changes_a_range (DonateGuest f g n) = true
changes_a_range (GuestShareHost g) = true
changes_a_range (GuestUnshareHost g) = true
changes_a_range (GuestRelax g p) = true
changes_a_range (ReclaimPage vm g) = true
changes_a_range other = false

-- the most blocks of one size that such a range meets: a page lies in one, and a range of up to 512
-- pages meets two
abbrev pub blocks_met : Step → ℕ
blocks_met (ShareGuest f g p n) = if n == 1 then 1 else 2
blocks_met (DonateGuest f g n) = if n == 1 then 1 else 2
blocks_met other = 1

-- memory for a change is there already: the tree keeps this many spare tables, and the maplets have
-- room for two runs
pub record IsStocked {A : Type 0} (tables : ℕ) (c : Component A) : Type 0 where
  pub spares : tables ≤ spares_of c.tree
  pub room : 2 ≤ c.maplets.room

-- so it is with a guest's tree, if there is one
abbrev pub IsGuestStocked : {A : Type 0} → ℕ → Option (Body A) → Type 0
IsGuestStocked tables None = Unit {0}
IsGuestStocked tables (Some b) = IsStocked tables b.map

-- with both trees of the Shared part, and with that of the guest of a slot: a spare for each of
-- `blocks` blocks of each size below the root's
pub record AreStocked {A : Type 0} (p : Parts A) (slot : Option ℕ) (blocks : ℕ) : Type 0 where
  pub shared : IsStocked (blocks * levels_below p.shared.host.tree.geometry) p.shared.host
      × IsStocked (blocks * levels_below p.shared.hyp.tree.geometry) p.shared.hyp
  pub guest : (v : ℕ) (g : GuestPart A)
      → slot ≡ Some v
      → slice_get p.guests.items v ≡ Some g
      → IsGuestStocked (blocks * guest_depth g.guest) g.guest.body

-- a step that changes a range is then not refused for memory
abbrev pub StockedWants : Type 0 → Type 0
StockedWants A =
    (p q : Parts A) (cpu : ℕ) (step : Step) (reply : Reply)
    → IsStep p cpu step reply q
    → changes_a_range step ≡ true
    → AreStocked p (slot_here p cpu step) (blocks_met step)
    → reply ≡ Refused NoMemory
    → ⊥
