use Rattle.std.proofs.Common.{◌≡◌, ◌∙◌, ap, refl, sym, Some, option_map}
use Rattle.page_state.specs.declared.layout.Geometry.{Geometry}
use Rattle.ghost_oracle.specs.Poked.{raw_beside_of, raw_trees}
use Rattle.trace_audit.specs.Paths.{path_on}
use Rattle.trace_audit.proofs.Setting.{not_true, sets, sets_nothing}
use Rattle.trace_audit.proofs.poked.poke_again.Goals as goal

pub returns-in-Ok : goal.returns-in-Ok
returns-in-Ok g c =
    let leads : path_on c.args.world.parts.layout.geometry c.args.poke.page c.args.poke.level
    ≡ Some c.in-Some.path.items
    = ap (λ (x : Geometry). path_on x c.args.poke.page c.args.poke.level) (sym c.geometry.ensures)
    ∙ sym c.path_on.ensures ∙ ap (option_map (λ p. p.items)) c.in-Some.is in
    sets c.args.world.parts.layout.geometry (raw_trees c.args.world.parts)
    (λ beside. beside ≡ raw_beside_of c.args.world.parts) c.args.poke c.in-Some.path.items c.as_slice.result.now
    c.which_of.result leads c.as_slice.ensures.value c.which_of.ensures c.in-Ok.world
    (c.in-Ok.ensures.fault.0 refl) c.in-Ok.ensures.poked c.in-Ok.ensures.beside

pub returns-in-Err : goal.returns-in-Err
returns-in-Err g c =
    let leads : path_on c.args.world.parts.layout.geometry c.args.poke.page c.args.poke.level
    ≡ Some c.in-Some.path.items
    = ap (λ (x : Geometry). path_on x c.args.poke.page c.args.poke.level) (sym c.geometry.ensures)
    ∙ sym c.path_on.ensures ∙ ap (option_map (λ p. p.items)) c.in-Some.is in
    sets_nothing c.args.world.parts.layout.geometry (raw_trees c.args.world.parts)
    (λ beside. beside ≡ raw_beside_of c.args.world.parts) c.args.poke c.in-Some.path.items c.as_slice.result.now
    c.which_of.result leads c.as_slice.ensures.value c.which_of.ensures g.row.A.Denot
    (λ there. not_true (c.in-Err.ensures.fault.1 there))
