use Rattle.std.proofs.Common.{◌≡◌, ◌∙◌, rules, inr, Option, None, Some, IfSome, IsSome, ap, subst, sym}
use Rattle.page_state.proofs.Geometries.{width_is}
use Rattle.page_state.specs.Geometries.{levels_below}
use Rattle.page_state.specs.Layouts.{HasItsDepth}
use Rattle.page_state.specs.LayoutView.{layout_of}
use Rattle.trace_generate.proofs.walk.booted.Goals as goal

not_some : {X : Type 0} (o : Option X) → o ≡ None → IsSome o → ⊥
not_some o e h = let k = subst IsSome e h in absurd (cc)

taken : {X : Type 0} (P : X → Type 0) (o : Option X) (x : X) → o ≡ Some x → IfSome o P → P x
taken P o x e h = subst (λ p. IfSome p P) e h

pub returns-in-Ok-None-clause-fault : goal.returns-in-Ok-None-clause-fault
returns-in-Ok-None-clause-fault c =
    let depth =
    ap (λ k. k.geometry) c.config.ensures
    ∙ width_is c.args.options.geometry c.in-Some.geometry (sym c.of_bits.ensures ∙ c.in-Some.is) in (
      c.requires,
      inr (
        record { memory = c.in-Ok.map; config = c.config.result; depth = levels_below c.in-Some.geometry },
        record { memory = search rules; config = search rules; depth = depth },
        λ e. not_some _ c.in-Ok-None.field-0-is (c.in-Ok-None.ensures.enough.1 e),
      ),
    )

pub returns-in-Ok-Some-clause-layout : goal.returns-in-Ok-Some-clause-layout
returns-in-Ok-Some-clause-layout c =
    let depth =
    ap (λ k. k.geometry) c.config.ensures
    ∙ width_is c.args.options.geometry c.in-Some.geometry (sym c.of_bits.ensures ∙ c.in-Some.is) in
    record {
      memory = search rules;
      config = search rules;
      depth =
          subst (λ m. HasItsDepth (layout_of m))
          (sym (taken _ _ _ c.in-Ok-Some.field-0-is c.in-Ok-Some.ensures.layout)) depth;
    }
