use Rattle.state_changes.proofs.Together.{adds_then}
use Rattle.state_changes.proofs.own.add_cpu.Goals as goal

pub returns : goal.returns
returns c =
    adds_then _ _ _ _ _ c.in_ok-add_loaded.ensures
    (adds_then _ _ _ _ _ c.in_ok-add_hand.ensures c.in_ok-add_ticket.ensures)
