-- A world that boots is the model's machine.
use Rattle.std.proofs.Common.{◌≡◌, ◌∙◌, sym, ap, subst}
use Rattle.page_state.specs.declared.layout.Config.{Config}
use Rattle.page_state.specs.LayoutView.{layout_of}
use Rattle.page_state.specs.Layouts.{Layout}
use Rattle.page_state.specs.Regions.{Memory}
use Rattle.reference_model.specs.model.State.{Reference}
use Rattle.ghost_spec.specs.declared.state.Ghost.{Ghost}
use Rattle.ghost_spec.specs.States.{ghost_state}
use Rattle.hypercalls.specs.Booted.{IsBooted}
use Rattle.hypercalls.specs.Stands.{parts_layout, state_of}
use Rattle.world.specs.declared.World.{World}
use Rattle.trace_text.specs.declared.session.Stop.{Stop}
use Rattle.trace_text.specs.declared.session.Stop.TheVariants as stops
use Rattle.trace_text.specs.Session.{IsNoWorld}
use Rattle.trace_text.specs.View.{machine_of}
use Rattle.trace_text.specs.Worlds.{IsBootOf, Machine}
use Rattle.trace_text.proofs.Machines.{boots}
use Rattle.trace_race.specs.declared.booting.Booted.{Booted}
use Rattle.trace_race.specs.Booted.{IsBootedOf, StopsBoot, boot_response, machine_in}

machine_made : Layout → Reference → Machine
machine_made l s = record { layout = l; state = s }

-- what a world keeps is its machine
same_machine : {A : Type 0} (g : Ghost) (w : World A)
    → layout_of g.layout ≡ parts_layout w.parts
    → ghost_state g ≡ state_of w.parts
    → machine_in g ≡ machine_of w
same_machine g w layout state =
    ap (λ l. record { layout = l; state = ghost_state g }) layout
    ∙ ap (λ s. record { layout = parts_layout w.parts; state = s }) state

pub booted_of : (m n : Memory) (c d : Config) (b : Booted)
    → n ≡ m
    → d ≡ c
    → IsBooted n d b.world.parts
    → b.line ≡ boot_response (machine_of b.world)
    → layout_of b.state.layout ≡ parts_layout b.world.parts
    → ghost_state b.state ≡ state_of b.world.parts
    → IsBootedOf m c b
booted_of m n c d b memory config world line layout state =
    subst (λ x. IsBootedOf x c b) memory (subst (λ x. IsBootedOf n x b) config record {
      booted = subst (IsBootOf n d) (sym same) (boots n d b.world world);
      line = line ∙ ap boot_response (sym same);
      layout = sym layout;
      world = world;
    })
  where
    same : machine_in b.state ≡ machine_of b.world
    same = same_machine b.state b.world layout state

pub stops_boot : (m : Memory) (c : Config) (stop : Stop) → IsNoWorld stop m c → StopsBoot m c stop
stops_boot m c (stops.Fault fault) h = h
stops_boot m c stops.NoMemory h = tt
