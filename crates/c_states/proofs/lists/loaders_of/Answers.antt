use Rattle.std.proofs.Common.{◌≡◌, ℕ, Option, ap, rules, get_or, None, ◌+◌, ◌++◌, [], ◌∷◌, List, sym, ◌∙◌, arith}
use Rattle.std.specs.Prelude.{nat_lt, if◌then◌else◌}
use Rattle.std.proofs.lemmas.List.FromFn.{map-range_with_len_more}
use Rattle.page_state.proofs.Common.{same2}
use Rattle.c_states.specs.Lists.{loader_from_c}
use Rattle.c_states.proofs.OneMore.{by_range}
use Rattle.c_states.proofs.lists.loaders_of.Goals as goal

pub loop-vcpu-preserved : goal.loop-vcpu-preserved
loop-vcpu-preserved c =
    let here : 0 + c.loop-vcpu.vcpu ≡ c.loop-vcpu.vcpu = omega arith in
    c.in_ok-push.ensures.items
    ∙ same2 (λ (os : List (Option ℕ)) (o : Option ℕ). os ++ o ∷ []) c.loop-vcpu.invariant c.loader_of.ensures
    ∙ sym
    (map-range_with_len_more
    (loader_from_c c.args.loads.now c.args.slot) 0 c.loop-vcpu.vcpu c.loop-vcpu.vcpu here)

pub returns : goal.returns
returns c = λ i.
    let end : c.loop-vcpu.vcpu ≡ 8 = search rules in
    ap (λ (os : List (Option ℕ)). get_or os i None) c.loop-vcpu.invariant
    ∙ by_range (loader_from_c c.args.loads.now c.args.slot) c.loop-vcpu.vcpu i
    ∙ ap (λ (n : ℕ). if nat_lt i n then loader_from_c c.args.loads.now c.args.slot i else None) end
