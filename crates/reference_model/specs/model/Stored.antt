-- The parts and the CPUs with their logs, and a call that is stored there.
use Rattle.std.specs.Prelude.{◌≡◌, ℕ, ◌-◌, Bool, true, false, ◌==◌, List, [], ◌∷◌, ◌++◌, length}
use Rattle.call_table.specs.declared.reply.Call.{Call}
use Rattle.page_state.specs.Layouts.{Layout}
use Rattle.reference_model.specs.model.History.{Kept}
use Rattle.reference_model.specs.model.Parts.{vm_part, shared_part, guest_part}
use Rattle.reference_model.specs.model.Rules.{call_uses}
use Rattle.reference_model.specs.model.State.{Contents, Reference}

-- a part or a CPU before and after a call: if the call uses it, it gets the content of the next
-- state and the call at the end of its log; else it stays
abbrev pub Stores : {X : Type 0} → Bool → Call → X → X × List Call → X × List Call → Type 0
Stores used c next before after =
    elim used [ true ↦ after ≡ (next, before.1 ++ c ∷ []) | false ↦ after ≡ before ]

-- the parts and CPUs, before and after they store a call that leads to a state
pub record StoresCall (c : Call) (t : Contents) (before after : Kept) : Type 0 where
  pub vms : Stores (call_uses vm_part c) c t.vms before.vms after.vms
  pub shared : Stores (call_uses shared_part c) c t.shared before.shared after.shared
  pub guest : (v : ℕ)
      → Stores (call_uses (guest_part v) c) c (t.guest v) (before.guest v) (after.guest v)
  pub cpu : (cpu : ℕ) → Stores (c.cpu == cpu) c (t.cpu cpu) (before.cpu cpu) (after.cpu cpu)

-- the room that a log leaves
abbrev pub left_of : Layout → List Call → ℕ
left_of l log = l.config.log - length log

-- the state of the parts and CPUs: the room of a log is the part of its size that its calls leave
abbrev pub held_state : Layout → Kept → Reference
held_state l k = record {
  contents =
      record {
        vms = k.vms.0;
        shared = k.shared.0;
        guest = λ v. (k.guest v).0;
        cpu = λ c. (k.cpu c).0;
      };
  rooms =
      record {
        vms = left_of l k.vms.1;
        shared = left_of l k.shared.1;
        guest = λ v. left_of l (k.guest v).1;
        cpu = λ c. left_of l (k.cpu c).1;
      };
}
