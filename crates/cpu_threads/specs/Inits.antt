-- Making a VM by four calls.
use Rattle.std.specs.Prelude.{◌≡◌, ◌≢◌, ℕ, Result, Ok, Err, MatchResult}
use Rattle.call_table.specs.declared.reply.Refusal.{Refusal}
use Rattle.call_table.specs.declared.reply.Refusal.TheVariants.{Contended, LogFull}
use Rattle.call_table.specs.declared.reply.Reply.{Reply}
use Rattle.call_table.specs.declared.reply.Reply.TheVariants.{Done, Refused}
use Rattle.call_table.specs.declared.reply.Value.{Value}
use Rattle.call_table.specs.declared.reply.Value.TheVariants.{Vm}
use Rattle.call_table.specs.declared.step.Step.{Step}
use Rattle.call_table.specs.declared.step.Step.TheVariants.{VmReserve, Fund, Install, VmOpen}
use Rattle.call_table.specs.declared.step.VmId.{VmId}
use Rattle.call_table.specs.declared.step.VmKind.{VmKind}
use Rattle.reference_model.specs.model.History.{IsStored}
use Rattle.part_table.specs.Known.{Known}
use Rattle.cpu_threads.specs.Machines.{FullInTheEnd, StoresInTheEnd}
use Rattle.cpu_threads.specs.declared.init.InitStage.{InitStage}
use Rattle.cpu_threads.specs.declared.init.InitStage.TheVariants.{Reserve, Fund as FundStage, Install as InstallStage, Open}

-- the reply to a call of a step, and what the pass then knows
pub record IsCallOf (step : Step) (reply : Reply) (v w : Known) : Type 0 where
  pub answered : reply ≢ Refused Contended
  pub stored : IsStored reply → StoresInTheEnd step reply v w
  pub log_full : reply ≡ Refused LogFull → FullInTheEnd step v w

-- what making a step comes to: its value or its refusal
abbrev pub ComesTo : Step → Result Value Refusal → Known → Known → Type 0
ComesTo step result v w =
    MatchResult result (λ value. IsCallOf step (Done value) v w)
    (λ why. IsCallOf step (Refused why) v w)

-- the step is made
abbrev pub IsMade : Step → Known → Known → Type 0
IsMade step v w = (value : Value) × IsCallOf step (Done value) v w

-- the call of a stage is refused, after those before it were made
module _ (kind : VmKind) (vcpus pfn n : ℕ) where
  abbrev pub IsRefusedAt : InitStage → Refusal → Known → Known → Type 0
  IsRefusedAt Reserve why v w = IsCallOf (VmReserve kind vcpus) (Refused why) v w
  IsRefusedAt FundStage why v w =
      (a : Known) × IsMade (VmReserve kind vcpus) v a × IsCallOf (Fund pfn n) (Refused why) a w
  IsRefusedAt InstallStage why v w =
      (a b : Known)
      × IsMade (VmReserve kind vcpus) v a
      × IsMade (Fund pfn n) a b
      × IsCallOf Install (Refused why) b w
  IsRefusedAt Open why v w =
      (a b c : Known)
      × IsMade (VmReserve kind vcpus) v a
      × IsMade (Fund pfn n) a b
      × IsMade Install b c
      × IsCallOf VmOpen (Refused why) c w

  -- all four are made, and the last answers the VM; or the answer is the first refusal and its
  -- stage
  abbrev pub InitsVm : Result VmId (InitStage × Refusal) → Known → Known → Type 0
  InitsVm (Ok vm) v w =
      (a b c : Known)
      × IsMade (VmReserve kind vcpus) v a
      × IsMade (Fund pfn n) a b
      × IsMade Install b c
      × IsCallOf VmOpen (Done (Vm vm)) c w
  InitsVm (Err e) v w = IsRefusedAt e.0 e.1 v w
