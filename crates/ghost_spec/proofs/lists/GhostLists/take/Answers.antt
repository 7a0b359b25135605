use Rattle.std.proofs.Common.{Bool, refl, sym, ap, subst, ◌∙◌, if◌then◌else◌}
use Rattle.std.proofs.lemmas.List.{get_or-map}
use Rattle.std.proofs.lemmas.Result.{IfOk-from_err}
use Rattle.page_state.proofs.Common.{same4}
use Rattle.reference_model.specs.model.Parts.{uses_shared}
use Rattle.reference_model.specs.model.Rules.{names}
use Rattle.reference_model.specs.model.State.{Vms, Shared, Guest, Cpu, no_vms, no_shared, no_cpu}
use Rattle.reference_model.specs.model.Used.{Used, used_of, put_back}
use Rattle.ghost_spec.specs.Kept.{IsKeptCpu}
use Rattle.ghost_spec.specs.Used.{vms_in}
use Rattle.ghost_spec.specs.Views.{cpu_in, shared_in_lists}
use Rattle.ghost_spec.proofs.Predictions.{contents-same, if-stays}
use Rattle.ghost_spec.proofs.lists.GhostLists.take.Goals as goal

make : Vms → Shared → Guest → Cpu → Used
make v s g k = record { vms = v; shared = s; guest = g; cpu = k }

pub returns-clause-taken : goal.returns-clause-taken
unfolding used_of make
returns-clause-taken c =
    let own =
    get_or-map cpu_in c.args.self.now.cpus.items c.args.cpu c.index.result.now no_cpu c.requires.cpu
    ∙ ap cpu_in (sym c.index.ensures) in
    record {
      used =
          same4 make
          ((rw c.as_slice.ensures.value at c.in_ok-used_vms.ensures.vms)
          ∙ ap (λ (b : Bool). if b then vms_in c.args.self.now.vms.items else no_vms) c.requires.uses.vms)
          (c.take_shared.ensures.shared
          ∙ ap (λ (b : Bool). if b then shared_in_lists c.args.self.now.shared else no_shared) c.requires.uses.shared)
          c.take_guest.ensures.guest
          (sym own);
      kept = record {
        shared = c.take_shared.ensures.kept;
        guest = c.take_guest.ensures.kept;
        own = subst IsKeptCpu (sym c.index.ensures) (c.requires.kept.cpus c.args.cpu c.index.result.now c.requires.cpu);
      };
      count = λ t. rw c.as_slice.ensures.value at (c.in_ok-used_vms.ensures.count (c.requires.uses.vms ∙ t)) ∙ c.requires.kept.vms_count;
    }

pub returns-clause-others : goal.returns-clause-others
unfolding put_back
returns-clause-others c x =
    contents-same refl
    (if-stays (uses_shared (names c.args.uses.step) c.args.uses.slot) x.shared _ _
    (λ t. ap shared_in_lists (c.take_shared.ensures.stays (c.requires.uses.shared ∙ t))))
    (c.take_guest.ensures.others x.guest) refl

pub returns-clause-left : goal.returns-clause-left
returns-clause-left c = record {
  shared = c.take_shared.ensures.left;
  guests = c.take_guest.ensures.left;
  cpus = c.requires.kept.cpus;
  vms_count = c.requires.kept.vms_count;
  guests_count = c.take_guest.ensures.count;
  cpus_count = c.requires.kept.cpus_count;
  guest_rooms_count = c.requires.kept.guest_rooms_count;
  cpu_rooms_count = c.requires.kept.cpu_rooms_count;
}

pub returns-in_err-used_vms-clause-taken : goal.returns-in_err-used_vms-clause-taken
returns-in_err-used_vms-clause-taken c = IfOk-from_err _ _ c.from_residual.ensures.0

pub returns-in_err-used_vms-clause-others : goal.returns-in_err-used_vms-clause-others
returns-in_err-used_vms-clause-others c = IfOk-from_err _ _ c.from_residual.ensures.0

pub returns-in_err-used_vms-clause-left : goal.returns-in_err-used_vms-clause-left
returns-in_err-used_vms-clause-left c = IfOk-from_err _ _ c.from_residual.ensures.0

pub returns-in_err-used_vms-clause-layout : goal.returns-in_err-used_vms-clause-layout
returns-in_err-used_vms-clause-layout c = refl

pub returns-in_err-used_vms-clause-rooms : goal.returns-in_err-used_vms-clause-rooms
returns-in_err-used_vms-clause-rooms c = refl

pub returns-clause-layout : goal.returns-clause-layout
returns-clause-layout c = refl

pub returns-clause-rooms : goal.returns-clause-rooms
returns-clause-rooms c = refl

pub take_shared-requires : goal.take_shared-requires
take_shared-requires c = c.requires.kept.shared

pub take_guest-requires-clause-count : goal.take_guest-requires-clause-count
take_guest-requires-clause-count c = c.requires.kept.guests_count

pub take_guest-requires-clause-kept : goal.take_guest-requires-clause-kept
take_guest-requires-clause-kept c = c.requires.kept.guests

pub take_guest-requires-clause-slot : goal.take_guest-requires-clause-slot
take_guest-requires-clause-slot c = c.requires.uses.low
