-- The parts that have booted have the empty history.
use Rattle.std.proofs.Common.{◌≡◌, ℕ, List, [], sym, ap, subst, ◌∙◌}
use mathlib.Core.Path.{fun_ext}
use Rattle.page_state.specs.declared.layout.Config.{Config}
use Rattle.call_table.specs.declared.reply.Call.{Call}
use Rattle.page_state.specs.Layouts.{HasItsDepth}
use Rattle.page_state.specs.Regions.{Memory}
use Rattle.reference_model.specs.model.Boot.{boot, CanBoot}
use Rattle.reference_model.specs.model.History.{Kept, IsHistory}
use Rattle.reference_model.specs.model.State.{Reference}
use Rattle.reference_model.proofs.History.{history_begins}
use Rattle.hypercalls.specs.declared.parts.Parts.{Parts}
use Rattle.hypercalls.specs.Stands.{parts_layout, kept_of, state_of, HasHistory}
use Rattle.hypercalls.specs.Booted.{IsBooted}

module _ {A : Type 0} (m : Memory) (c : Config) (p : Parts A) (booted : IsBooted m c p) where
  -- what there is of a state, with these logs
  abbrev with_calls : Reference → List Call → List Call → (ℕ → List Call) → (ℕ → List Call) → Kept
  with_calls s vms shared guest own =
      record {
        vms = (s.contents.vms, vms);
        shared = (s.contents.shared, shared);
        guest = λ v. (s.contents.guest v, guest v);
        cpu = λ k. (s.contents.cpu k, own k);
      }

  pub ready : CanBoot (parts_layout p)
  ready =
      subst CanBoot (sym booted.layout)
      (record {
        accepted = record {
          memory = booted.memory;
          config = booted.accepted.accepted;
          depth = subst HasItsDepth booted.layout booted.depth;
        };
        enough = booted.enough;
      })

  pub at_boot : HasHistory p
  at_boot =
      let k = kept_of p in
      let s : Reference = state_of p in
      let is : with_calls (boot (parts_layout p)) [] [] (λ v. []) (λ i. []) ≡ k =
      ap (λ x. with_calls x [] [] (λ v. []) (λ i. [])) booted.stands
      ∙ ap (λ cs. with_calls s cs [] (λ v. []) (λ i. [])) (sym booted.no_calls.vms)
      ∙ ap (λ cs. with_calls s k.vms.1 cs (λ v. []) (λ i. [])) (sym booted.no_calls.shared)
      ∙ ap (λ cs. with_calls s k.vms.1 k.shared.1 cs (λ i. [])) (sym (fun_ext booted.no_calls.guests))
      ∙ ap (with_calls s k.vms.1 k.shared.1 (λ v. (k.guest v).1)) (sym (fun_ext booted.no_calls.cpus)) in
      record {
        ready = ready;
        log = [];
        history = subst (λ (x : Kept). IsHistory (parts_layout p) x []) is (history_begins (parts_layout p));
      }
