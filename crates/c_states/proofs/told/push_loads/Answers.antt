use Rattle.std.proofs.Common.{ℕ, List, None, Option, ap, get_or, ◌∙◌}
use Rattle.std.proofs.lemmas.List.{take_all}
use Rattle.std.specs.Option.{option_or}
use Rattle.std.specs.Prelude.{◌==◌, if◌then◌else◌}
use Rattle.c_states.specs.Lists.{loader_from_c}
use Rattle.c_states.proofs.Telling.{vcpus_more}
use Rattle.c_states.proofs.told.push_loads.Goals as goal

pub loop-i-preserved : goal.loop-i-preserved
loop-i-preserved c = (
  λ s k.
      vcpus_more c.args.loaded.now c.loop-i.i c.args.slot s k (loader_from_c c.args.told.now.items s k)
      (loader_from_c c.loop-i.told.items s k) (loader_from_c c.push_load.new.told.items s k) c.loop-i-test.true
      (c.loop-i.invariant.0 s k) (c.in_ok-push_load.ensures.said s k),
  λ low known. c.in_ok-push_load.ensures.known low (c.loop-i.invariant.1 low known),
)

pub returns-clause-said : goal.returns-clause-said
returns-clause-said c = λ s k.
    c.loop-i.invariant.0 s k
    ∙ ap
    (λ (xs : List (Option ℕ)). option_or (loader_from_c c.args.told.now.items s k)
    (if c.args.slot == s then get_or xs k None else None))
    (take_all c.loop-i.i c.args.loaded.now c.loop-i-test.false)
