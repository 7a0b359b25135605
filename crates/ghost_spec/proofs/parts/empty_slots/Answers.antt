use Rattle.std.proofs.Common.{◌≡◌, ℕ, List, Option, None, get_or, ap}
use Rattle.call_table.specs.declared.step.VmKind.TheVariants.{Plain}
use Rattle.reference_model.specs.model.State.{no_slot, vacant}
use Rattle.ghost_spec.specs.declared.parts.GhostSlot.{GhostSlot}
use Rattle.ghost_spec.specs.declared.parts.GhostStand.TheVariants.{Vacant}
use Rattle.ghost_spec.specs.States.{slot_in}
use Rattle.ghost_trees.proofs.Pushed.{all_pushed, count_pushed}
use Rattle.ghost_spec.proofs.parts.empty_slots.Goals as goal

pub loop-preserved : goal.loop-preserved
loop-preserved c =
    let slot : GhostSlot = record { stand = Vacant; generation = 1; kind = Plain; vcpus = 0; loaded = c.new.result } in
    let none : slot_in slot ≡ no_slot 1 =
    ap
    (λ
    (xs : List (Option ℕ)). record {
      stand = vacant;
      generation = 1;
      kind = Plain;
      vcpus = 0;
      loaded = λ i. get_or xs i None;
    }) c.new.ensures.items in
    record {
      count =
          count_pushed c.loop.slots.items c.push.new.self.items slot c.loop.counter
          c.in_ok-push.ensures.items c.loop.invariant.count;
      empty =
          all_pushed
          (λ (s : GhostSlot). slot_in s ≡ no_slot 1) c.loop.slots.items c.push.new.self.items slot
          c.in_ok-push.ensures.items c.loop.invariant.empty none;
    }
