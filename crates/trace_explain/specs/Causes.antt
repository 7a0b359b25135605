-- Why a call is refused, in words: those of the test of its rule that fails, and those of what no
-- rule tests (profile).
use Rattle.std.specs.Prelude.{ℕ, List, [], codes, unwrap_or, None}
use Rattle.call_table.specs.declared.reply.Refusal.{Refusal}
use Rattle.call_table.specs.declared.reply.Refusal.TheVariants as refusals
use Rattle.call_table.specs.declared.step.Step.{Step}
use Rattle.page_state.specs.Regions.{memory_of}
use Rattle.reference_model.specs.model.Rule.{Reads, Rule}
use Rattle.reference_model.specs.model.Rules.{step_rule}
use Rattle.reference_model.specs.model.SharedRules.{no_range}
use Rattle.reference_model.specs.model.State.{no_cpu, no_guest}
use Rattle.reference_model.specs.model.Used.{guest_alone}

-- a rule's words are the same whatever it reads, so they are asked for on nothing
abbrev pub nothing : Reads
nothing = record {
  layout =
      record {
        memory = memory_of [] no_range;
        config = record { cpus = 0; log = 0; geometry = 0 };
        depth = 0;
      };
  id = 0;
  slot = None;
  used = guest_alone no_guest no_cpu;
}

-- the tests of a step
abbrev pub tests_of : Step → Rule
tests_of step = (step_rule step).rule nothing

-- why a step is refused so
abbrev pub cause_of : Step → Refusal → List ℕ
cause_of step refusals.Invalid = (tests_of step).valid.failing
cause_of step refusals.NoVm = unwrap_or (step_rule step).lacking (tests_of step).has_vm.failing
cause_of step refusals.Busy = (tests_of step).ready.failing
cause_of step refusals.Perm = (tests_of step).allowed.failing
cause_of step refusals.NoPool =
    codes "a pool has fewer free frames than the tables that the call needs"
cause_of step refusals.LogFull =
    codes "the log of the CPU, or that of a part that the call uses, is full"
cause_of step refusals.NoMemory = codes "this machine refused memory"
cause_of step refusals.Contended = codes "a part that the call uses was taken"
