-- What a table begins with.
use Rattle.std.specs.Prelude.{◌≡◌, ℕ, ◌<◌, List, [], ◌∷◌, ◌++◌, Option, Some, None, slice_get, slice_index_or}
use Rattle.std.proofs.Common.{refl}
use Rattle.page_state.specs.declared.layout.Layout.{Layout as TheLayout}
use Rattle.page_state.specs.declared.layout.Geometry.TheVariants.{Bits39}
use Rattle.page_state.specs.LayoutView.{layout_of}
use Rattle.call_table.specs.declared.reply.Call.{Call}
use Rattle.reference_model.specs.model.History.{calls_on, calls_by}
use Rattle.part_types.specs.declared.parts.CpuState.{CpuState}
use Rattle.part_table.specs.declared.rule.Begun.{Begun}
use Rattle.part_table.specs.declared.rule.Opening.{Opening}
use Rattle.part_table.specs.declared.slot.Slot.{Slot}
use Rattle.part_table.specs.Does.{IsLeft, none_at}
use Rattle.part_table.specs.Known.{own_at_boot}
use Rattle.part_table.specs.Parts.{parts, part_of, log_of}

abbrev pub no_layout : TheLayout
no_layout =
    record {
      map = record { regions = []; carve = record { first = record { 0 = 0 }; count = 0 } };
      config = record { cpus = 0; log = 0; geometry = 39 };
      geometry = Bits39;
      known = refl;
    }

abbrev pub no_own : CpuState
no_own = own_at_boot no_layout 0

-- the logs of parts in their slots
abbrev pub logs_in : {A : Type 0} → List (Option (Slot A)) → List (List Call)
logs_in [] = []
logs_in (None ∷ xs) = [] ∷ logs_in xs
logs_in (Some x ∷ xs) = (log_of x).calls ∷ logs_in xs

-- what a table begins with
abbrev pub begun_in : {A : Type 0} → Opening A → Begun
begun_in k = record { logs = logs_in k.slots.value.items; owns = k.owns.value.items }

-- the own state with which a CPU begins
abbrev pub own_in : Begun → ℕ → CpuState
own_in b c = slice_index_or b.owns c no_own

-- a history goes on from one that left what the table began with: calls that come first, which are
-- those of the logs of parts and CPUs there, and then others
pub record GoesOn (b : Begun) (log : List Call) : Type 0 where
  pub first : List Call
  pub after : List Call
  pub log_is : log ≡ first ++ after
  pub on : (k : ℕ) → k < parts → calls_on (part_of k) first ≡ slice_index_or b.logs k []
  pub by : (c : ℕ) (k : CpuState) → slice_get b.owns c ≡ Some k → calls_by c first ≡ k.log.calls

-- a run leaves the own state with which each CPU begins
abbrev pub AreLeftFirst : Type 0 → TheLayout → Begun → Type 0
AreLeftFirst A l b =
    (c : ℕ) → c < l.config.cpus → IsLeft {A = A} (layout_of l) c (own_in b c) none_at
