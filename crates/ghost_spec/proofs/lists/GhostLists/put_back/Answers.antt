use Rattle.std.proofs.Common.{Bool, sym, ap, ◌∙◌, if◌then◌else◌}
use Rattle.std.proofs.lemmas.List.{length-set}
use Rattle.std.proofs.lemmas.List.Elements.{All-set}
use Rattle.reference_model.specs.model.State.{no_cpu}
use Rattle.reference_model.specs.model.Used.{put_back}
use Rattle.ghost_spec.specs.Kept.{IsKeptCpu}
use Rattle.ghost_spec.specs.Used.{vms_in}
use Rattle.ghost_spec.specs.Views.{cpu_in, shared_in_lists}
use Rattle.ghost_spec.proofs.Predictions.{contents-same, put-list}
use Rattle.ghost_spec.proofs.lists.GhostLists.put_back.Goals as goal

pub returns-clause-contents : goal.returns-clause-contents
unfolding put_back
returns-clause-contents c =
    contents-same
    (c.put_vms.ensures.vms
    ∙ ap (λ (b : Bool). if b then vms_in c.args.used.vms.items else vms_in c.args.self.now.vms.items)
    c.requires.uses.vms)
    (c.put_shared.ensures.shared
    ∙ ap (λ (b : Bool). if b then shared_in_lists c.args.used.shared else shared_in_lists c.args.self.now.shared)
    c.requires.uses.shared)
    c.put_guest.ensures.guests
    (put-list cpu_in no_cpu c.args.self.now.cpus.items c.args.cpu c.args.used.own c.requires.cpu)

pub returns-clause-kept : goal.returns-clause-kept
returns-clause-kept c = record {
  shared = c.put_shared.ensures.kept;
  guests = c.put_guest.ensures.kept;
  cpus =
      All-set IsKeptCpu c.args.self.now.cpus.items c.args.cpu c.args.used.own c.requires.used.own c.requires.kept.cpus;
  vms_count =
      c.put_vms.ensures.count (λ t. c.requires.count (sym c.requires.uses.vms ∙ t) ∙ sym c.requires.kept.vms_count) ∙ c.requires.kept.vms_count;
  guests_count = c.put_guest.ensures.count;
  cpus_count = length-set c.args.self.now.cpus.items c.args.cpu c.args.used.own ∙ c.requires.kept.cpus_count;
  guest_rooms_count = c.requires.kept.guest_rooms_count;
  cpu_rooms_count = c.requires.kept.cpu_rooms_count;
}
