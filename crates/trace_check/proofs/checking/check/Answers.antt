use Rattle.std.proofs.Common.{arith, ap, length, map}
use Rattle.std.proofs.lemmas.List.{length-map}
use Rattle.trace_text.specs.Session.{at_start}
use Rattle.trace_check.specs.View.{told_in}
use Rattle.trace_check.proofs.Going.{runs_few}
use Rattle.trace_check.proofs.checking.check.Goals as goal

pub check_reported-requires : goal.check_reported-requires
check_reported-requires g c =
    let few =
    runs_few 1 at_start (map (λ line. line.now) c.as_slice.result.now)
    (told_in c.in_ok-carried.carried.told.items) c.in_ok-carried.ensures.told in
    omega (
      arith,
      few,
      length-map c.as_slice.result.now (λ line. line.now),
      length-map c.in_ok-carried.carried.told.items (λ reported. reported.items),
      ap length c.as_slice.ensures.value,
      ap length c.as_slice-2.ensures.value,
      ap length c.as_slice-3.ensures.value,
    )
