-- What follows from a call that a maker made.
use Rattle.std.specs.Prelude.{◌≡◌, ℕ, [], ◌∷◌, ◌++◌, All, Option, Some}
use Rattle.call_table.specs.declared.reply.Call.{Call}
use Rattle.call_table.specs.declared.reply.Reply.{Reply}
use Rattle.call_table.specs.declared.step.Step.{Step}
use Rattle.page_state.specs.declared.layout.Layout.{Layout as TheLayout}
use Rattle.part_types.specs.declared.parts.CpuState.{CpuState}
use Rattle.part_table.specs.declared.slot.Slot.{Slot}
use Rattle.part_table.specs.Answered.{MakesCall, used_by}
use Rattle.part_table.specs.Known.{Known, seen_at}
use Rattle.part_table.specs.Made.{IsMade}
use Rattle.part_table.specs.Parts.{log_of}

-- A stored call was made on each part that it uses as the part was taken: with the call at its end,
-- that part's log is what the pass has then seen of the part
abbrev pub MadeAsTaken : {A T : Type 0}
    → (TheLayout
    → (ℕ → Option (Slot A))
    → CpuState
    → Call
    → (ℕ → Option (Slot A))
    → CpuState
    → T
    → T
    → Type 0)
    → Type 0
MadeAsTaken {A = A} {T = T} tells =
    (step : Step) (reply : Reply) (v w : Known) (from to : T) (s : MakesCall step reply v w)
    (m : IsMade tells step reply v w from to)
    → All
    (λ k. (x : Slot A)
    × (m.before k ≡ Some x)
    × (seen_at w.seen k ≡ (log_of x).calls ++ s.call ∷ []))
    (used_by step v)
