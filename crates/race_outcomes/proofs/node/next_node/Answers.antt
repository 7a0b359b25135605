use Rattle.std.proofs.Common.{◌≡◌, ℕ, arith, sym, subst}
use Rattle.std.specs.Prelude.{Option, Some, Vec}
use Rattle.std.proofs.lemmas.Option.{slice_get-get_or}
use Rattle.std.specs.Global.{Global}
use Rattle.page_state.specs.LayoutView.{layout_of}
use Rattle.ghost_spec.specs.States.{ghost_state}
use Rattle.race_outcomes.specs.Layers.{IsPlaceFault, point_of}
use Rattle.race_outcomes.specs.Orders.{AreWanted, IsWanted}
use Rattle.race_outcomes.proofs.Found.{passed}
use Rattle.race_outcomes.proofs.Known.{hand_fault, leads_from, leads_moved}
use Rattle.race_outcomes.proofs.Orders.{step_makes, step_wanted}
use Rattle.race_outcomes.proofs.Wanted.{wanted_more}
use Rattle.race_outcomes.proofs.node.next_node.Goals as goal

pub made_at-requires-clause-at : goal.made_at-requires-clause-at
made_at-requires-clause-at c = slice_get-get_or c.args.turns.now c.args.place _ c.requires.inside

pub returns-in-Ok-false-clause-none : goal.returns-in-Ok-false-clause-none
returns-in-Ok-false-clause-none c e new q makes are =
    let n = c.args.node.now in
    let r = c.in_ok-made.made.reply in
    let to =
    leads_from n.state c.args.turns.now c.args.known.now c.args.states.now c.requires.at_hand _ r
    c.in_ok-made.made.state c.in_ok-made.ensures.leads in
    let w =
    step_wanted (layout_of n.state.layout) c.args.turns.now (point_of n) c.args.place _ r
    (ghost_state c.in_ok-made.made.state) to.told
    c.args.wanted.now q c.index-wanted-place.result
    (omega (arith, c.requires.inside, c.requires.ready.wanted_count)) c.requires.ready.wanted_count
    c.requires.ready.count makes are in
    let told =
    c.in-Ok-false.ensures.1
    (subst (λ (x : Option (Vec ℕ Global)). IsWanted x (Some r)) (sym c.index-wanted-place.is) w) in
    let tested = c.in-Ok-false.field-0-test in
    absurd (cc)

pub returns-in-Ok-clause-some : goal.returns-in-Ok-clause-some
returns-in-Ok-clause-some c =
    let n = c.args.node.now in
    let r = c.in_ok-made.made.reply in
    let next = c.in-Ok.next in
    let l = layout_of n.state.layout in
    let state : next.state ≡ c.in_ok-made.made.state = c.in-Ok.ensures.state in
    let leads =
    leads_moved n.state c.args.turns.now c.args.known.now c.args.states.now c.requires.at_hand _ r
    c.in_ok-made.made.state next.state state c.in_ok-made.ensures.leads in
    let w =
    subst (λ (x : Option (Vec ℕ Global)). IsWanted x (Some r)) c.index-wanted-place.is
    (c.in-Ok-true.ensures.0 c.in-Ok-true.field-0-test) in
    record {
      layout = leads.layout;
      makes =
          step_makes l c.args.turns.now (point_of n) c.args.place _ r
          (ghost_state next.state) leads.told next.told.items c.requires.next c.in-Ok.ensures.told;
      order = c.in-Ok.ensures.order;
      are_wanted =
          subst (AreWanted c.args.wanted.now) (sym c.in-Ok.ensures.told)
          (wanted_more c.args.wanted.now n.told.items c.args.place _ r
          (omega (arith, c.requires.inside, c.requires.ready.wanted_count)) c.requires.ready.are_wanted w);
    }

pub returns-in_err-made-clause-fault : goal.returns-in_err-made-clause-fault
returns-in_err-made-clause-fault c =
    let turns = c.args.turns.now in
    let n = c.args.node.now in
    passed (IsPlaceFault turns n c.args.place) c.from_residual.result _ c.from_residual.ensures.1
    (hand_fault turns n c.args.place _ c.args.known.now c.args.states.now _ c.requires.at_hand c.requires.next
    c.in_err-made.ensures.fault)
