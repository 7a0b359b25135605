use Rattle.std.proofs.Common.{◌≡◌, ◌∙◌, ap, arith, length, map, refl}
use Rattle.part_types.specs.View.{guest_held, cpu_of}
use Rattle.ghost_spec.specs.States.{guest_in}
use Rattle.ghost_spec.specs.Views.{cpu_in, shared_in_lists}
use Rattle.std.proofs.lemmas.List.{length-map}
use Rattle.ghost_oracle.proofs.Founds.{is_found, as_long}
use Rattle.ghost_oracle.specs.inner.Trees.{AreTreesKept}
use Rattle.ghost_oracle.proofs.LowKept.{all_kept, low_cpus_kept}
use Rattle.ghost_oracle.proofs.kept.ghost_with.Goals as goal
use Rattle.ghost_oracle.proofs.kept.ghost_with.Given as Given

counted : (g : Given.Over) (c : goal.In-Ok-rooms_from g)
    → length c.args.parts.now.cpus.items ≡ c.in-Ok.layout.config.cpus
counted g c = let told = ap (λ l. l.config.cpus) c.in-Ok.ensures in
    omega (arith, told, c.args.parts.now.counted, c.args.parts.now.cpus.ok.0)

trees : (g : Given.Over) (c : goal.In-Ok-rooms_from g)
    → AreTreesKept
    (record {
      layout = c.in-Ok.layout;
      vms = c.in-Ok-slots_from.vms;
      shared = c.args.shared;
      guests = c.args.guests;
      cpus = c.in-Ok-cpus_from.cpus;
      rooms = c.in-Ok-rooms_from.rooms;
    })
trees g c = record {
  shared = c.requires.shared_kept;
  guests = c.requires.trees;
  vms_count = c.in-Ok-slots_from.ensures.count;
  guests_count =
      as_long guest_in guest_held c.args.guests.items c.args.parts.now.guests.items 64 c.requires.guests
      (omega (arith, c.args.parts.now.slots, c.args.parts.now.guests.ok.0));
  cpus_count =
      as_long cpu_in cpu_of c.in-Ok-cpus_from.cpus.items c.args.parts.now.cpus.items c.in-Ok.layout.config.cpus
      (c.in-Ok-cpus_from.ensures ∙ ap (map cpu_of) c.as_slice.ensures.value) (counted g c);
  guest_rooms_count =
      ap length c.in-Ok-rooms_from.ensures.guests ∙ length-map c.args.parts.now.guests.items (λ x. x.log.room)
      ∙ omega (arith, c.args.parts.now.slots, c.args.parts.now.guests.ok.0);
  cpu_rooms_count =
      ap length c.in-Ok-rooms_from.ensures.cpus ∙ length-map c.args.parts.now.cpus.items (λ k. k.log.room)
      ∙ counted g c;
}

pub returns-clause-with : goal.returns-clause-with
returns-clause-with g c = record {
  state =
      is_found c.args.parts.now
      (record {
        layout = c.in-Ok.layout;
        vms = c.in-Ok-slots_from.vms;
        shared = c.args.shared;
        guests = c.args.guests;
        cpus = c.in-Ok-cpus_from.cpus;
        rooms = c.in-Ok-rooms_from.rooms;
      })
      (shared_in_lists c.args.shared).row (record {
        layout = c.in-Ok.ensures;
        slots = λ v. c.in-Ok-slots_from.ensures.slots v;
        shared = c.requires.shared;
        guests = c.requires.guests;
        cpus = c.in-Ok-cpus_from.ensures ∙ ap (map cpu_of) c.as_slice.ensures.value;
        vms_room = c.in-Ok-rooms_from.ensures.vms;
        shared_room = c.in-Ok-rooms_from.ensures.shared;
        guest_rooms = c.in-Ok-rooms_from.ensures.guests;
        cpu_rooms = c.in-Ok-rooms_from.ensures.cpus;
      });
  layout = c.in-Ok.ensures;
  trees = trees g c;
  shared = refl;
  guests = refl;
}

pub returns-clause-kept : goal.returns-clause-kept
returns-clause-kept g c =
    λ guests low. all_kept (trees g c) guests
    (low_cpus_kept c.in-Ok-cpus_from.cpus.items c.args.parts.now.cpus.items
    (c.in-Ok-cpus_from.ensures ∙ ap (map cpu_of) c.as_slice.ensures.value) low)
