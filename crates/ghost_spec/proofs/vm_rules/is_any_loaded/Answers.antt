use Rattle.std.proofs.Common.{◌≡◌, ℕ, Bool, Option, Some, None, true, false, not, ap, sym, ◌∙◌, arith, below_more}
use Rattle.std.specs.Prelude.{is_some, is_none}
use Rattle.ghost_spec.specs.States.{slot_in}
use Rattle.ghost_trees.proofs.Searches.{all_below_true, all_below_false}
use Rattle.ghost_spec.proofs.vm_rules.is_any_loaded.Goals as goal

none-is : (o : Option ℕ) (b : Bool) → is_some o ≡ b → is_none o ≡ not b
none-is (Some x) b h = ap not h
none-is None b h = ap not h

pub returns-then-is_loaded : goal.returns-then-is_loaded
returns-then-is_loaded c =
    ap not
    (sym
    (all_below_false 8 c.loop-vcpu.vcpu (λ i. is_none ((slot_in c.args.slot.now).loaded i))
    (omega (arith, c.loop-vcpu-test.true))
    (none-is ((slot_in c.args.slot.now).loaded c.loop-vcpu.vcpu) true
    (sym c.is_loaded.ensures ∙ c.if-is_loaded.true))))

pub loop-vcpu-preserved : goal.loop-vcpu-preserved
loop-vcpu-preserved c = below_more _ _ c.loop-vcpu.invariant (sym c.is_loaded.ensures ∙ c.if-is_loaded.false)

pub returns : goal.returns
returns c =
    ap not
    (sym
    (all_below_true 8 (λ i. is_none ((slot_in c.args.slot.now).loaded i))
    (λ j h. none-is ((slot_in c.args.slot.now).loaded j) false
    (c.loop-vcpu.invariant j (omega (arith, h, c.loop-vcpu-test.false))))))
