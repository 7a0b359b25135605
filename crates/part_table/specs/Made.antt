-- What a call comes to that a maker made while the pass held its parts.
use Rattle.std.specs.Prelude.{◌≡◌, ℕ, List, ◌++◌, map, Option, Some, option_map, true}
use Rattle.call_table.specs.declared.reply.Call.{Call}
use Rattle.call_table.specs.declared.reply.Reply.{Reply}
use Rattle.call_table.specs.declared.step.Step.{Step}
use Rattle.page_state.specs.declared.layout.Layout.{Layout as TheLayout}
use Rattle.page_state.specs.LayoutView.{layout_of}
use Rattle.part_types.specs.declared.parts.CpuState.{CpuState}
use Rattle.part_table.specs.declared.slot.Slot.{Slot}
use Rattle.part_table.specs.Answered.{next_call, used_by}
use Rattle.part_table.specs.Does.{Does, IsLeft}
use Rattle.part_table.specs.Parts.{log_of, uses}
use Rattle.part_table.specs.Known.{AddsTries, Known}

module _ {A T : Type 0}
    (tells : TheLayout
    → (ℕ → Option (Slot A))
    → CpuState
    → Call
    → (ℕ → Option (Slot A))
    → CpuState
    → T
    → T
    → Type 0)
    (step : Step) where
  -- The pass's next call was made once, with this reply, on the parts that it uses, by number, as
  -- they were taken, with the logs of the tries, and on the pass's own state. A run ends in them,
  -- and the call is the reference step on them. The maker reported it, and the parts and the state
  -- as the call left them
  pub record IsMade (reply : Reply) (v w : Known) (from to : T) : Type 0 where
    pub call : Call
    pub call_is : call ≡ next_call v step reply
    pub before : ℕ → Option (Slot A)
    pub after : ℕ → Option (Slot A)
    pub left : IsLeft (layout_of v.layout) v.cpu v.own before
    pub only : (k : ℕ) (x : Slot A) → before k ≡ Some x → uses call k ≡ true
    pub does : Does (layout_of v.layout) call before v.own after w.own
    pub tried : AddsTries (map (λ k. (k, option_map log_of (before k))) (used_by step v)) v w
    pub told : tells v.layout before v.own call after w.own from to
