use Rattle.trace_outcomes.proofs.Texting.{four_parts}
use Rattle.trace_outcomes.proofs.writing.add_otherwise.Goals as goal

pub returns : goal.returns
returns c =
    four_parts _ _ _ _ _ _ _ _ _ c.in_ok-add_number.ensures c.in_ok-extend_from_slice.ensures.items
    c.in_ok-extend_from_slice-2.ensures.items c.in_ok-extend_from_slice-3.ensures.items
