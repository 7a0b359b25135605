use Rattle.std.proofs.Common.{arith, ◌≡◌, None, get_or, rules, subst}
use Rattle.std.specs.Prelude.{◌==◌, if◌then◌else◌}
use Rattle.std.specs.Option.{option_or}
use Rattle.ghost_spec.specs.declared.parts.GhostSlot.{GhostSlot}
use Rattle.c_states.specs.Lists.{loader_from_c}
use Rattle.c_states.proofs.Telling.{slots_more}
use Rattle.c_states.proofs.told.loads_to_c.Goals as goal

pub loop-i-preserved : goal.loop-i-preserved
loop-i-preserved c = (
  λ s k.
      let here : c.as_slice.result.now ≡ (get_or c.args.slots.now c.loop-i.i c.index-slots-i.result).loaded.items =
      search rules in
      slots_more (λ (x : GhostSlot). x.loaded.items) c.args.slots.now c.loop-i.i c.index-slots-i.result s k
      (loader_from_c c.loop-i.told.items s k) (loader_from_c c.push_loads.new.told.items s k) c.loop-i-test.true
      (c.loop-i.invariant.0 s k)
      (subst
      (λ os. loader_from_c c.push_loads.new.told.items s k
      ≡ option_or (loader_from_c c.loop-i.told.items s k)
      (if c.loop-i.i == s then get_or os k None else None)) here
      (c.in_ok-push_loads.ensures.said s k)),
  λ most. c.in_ok-push_loads.ensures.known (omega (arith, most, c.loop-i-test.true)) (c.loop-i.invariant.1 most),
)
