-- Worked rows of the number of a call: one more than its CPU's log held.
use Rattle.std.specs.Prelude.{◌≡◌, ℕ, None}
use Rattle.call_table.specs.declared.reply.Call.{Call}
use Rattle.call_table.specs.declared.reply.Refusal.TheVariants.{Perm, LogFull}
use Rattle.call_table.specs.declared.reply.Reply.{Reply}
use Rattle.call_table.specs.declared.reply.Reply.TheVariants.{Refused}
use Rattle.call_table.specs.declared.step.Step.TheVariants.{ShareHyp}
use Rattle.reference_model.specs.model.State.{Reference, put_at, all_rooms}
use Rattle.reference_model.specs.model.Step.{Steps, predict_step}
use Rattle.reference_model.specs.rows.Scene.{small, ok}
use Rattle.reference_model.specs.rows.SceneState.{scene}

-- a share of a frame by a CPU, as logs of 64 calls store it
abbrev pub shared_as : ℕ → ℕ → ℕ → Reply → Call
shared_as cpu number frame reply =
    record { cpu = cpu; number = number; step = ShareHyp frame; reply = reply; slot = None }

-- the scene in which the log of CPU 2 holds four calls, and that of CPU 3 is full
abbrev pub begun : Reference
begun = record scene { rooms = record (all_rooms 64) { cpu = put_at (put_at (λ c. 64) 2 60) 3 0 } }

-- the fifth call of CPU 2 has the number 5 and leads to the predicted state; of its next call the
-- number is 6, and of another CPU's first the number is 1
abbrev pub NumbersMade : Type 0
NumbersMade =
    let t = (predict_step (small 1) begun 2 (ShareHyp 0x1401)).1 in
    Steps (small 1) begun (shared_as 2 5 0x1401 ok) t
    × Steps (small 1) t (shared_as 2 6 0x1401 (Refused Perm))
    (predict_step (small 1) t 2 (ShareHyp 0x1401)).1
    × Steps (small 1) t (shared_as 4 1 0x1000 ok) (predict_step (small 1) t 4 (ShareHyp 0x1000)).1

-- and no other number, whether the call is made or its CPU's log of 64 calls is full
abbrev pub NumbersOnly : Type 0
NumbersOnly =
    ((number : ℕ) (t : Reference)
    → Steps (small 1) begun (shared_as 2 number 0x1401 ok) t
    → number ≡ 5)
    × ((number : ℕ) (t : Reference)
    → Steps (small 1) begun (shared_as 3 number 0x1401 (Refused LogFull)) t
    → number ≡ 65)
    × ((number : ℕ) (t : Reference)
    → Steps (small 1) begun (shared_as 4 number 0x1401 ok) t
    → number ≡ 1)
