use Rattle.std.proofs.Common.{ℕ, Option, refl, subst, sym, ◌∙◌}
use Rattle.std.specs.Prelude.{IfOk}
use Rattle.page_state.specs.LayoutView.{layout_of}
use Rattle.ghost_spec.specs.Kept.{IsLowSlot}
use Rattle.ghost_spec.specs.States.{contents_in}
use Rattle.free_judge.specs.PoolByRows.{IsAskedOf}
use Rattle.free_judge.proofs.asked.asked.Goals as goal

pub with_pool-requires : goal.with_pool-requires
with_pool-requires c = subst IsLowSlot c.in-Some.is c.slot_in.ensures.low

pub returns-in-Some-clause-asked : goal.returns-in-Some-clause-asked
returns-in-Some-clause-asked c =
    subst
    (λ (o : Option ℕ). IfOk c.with_pool.result
    (λ g. IsAskedOf c.args.freedoms (layout_of c.args.state.layout) (contents_in c.args.state) o c.args.step
    c.args.reply (contents_in g)))
    (sym c.in-Some.is ∙ c.slot_in.ensures.value) c.with_pool.ensures.pool

pub returns-in-None-clause-asked : goal.returns-in-None-clause-asked
returns-in-None-clause-asked c =
    subst
    (λ (o : Option ℕ). IsAskedOf c.args.freedoms (layout_of c.args.state.layout) (contents_in c.args.state) o
    c.args.step c.args.reply (contents_in c.args.state))
    (sym c.in-None.is ∙ c.slot_in.ensures.value) refl
