use Rattle.std.proofs.Common.{◌≡◌, ◌-◌, length, drop}
use Rattle.c_calls.specs.Steps.{all_in_front}
use Rattle.c_calls.proofs.step.all_in_front.Given as goal

-- the last arguments so far
abbrev pub invariant-loop-i : goal.invariant-loop-i
invariant-loop-i l =
    record { told : l.told ≡ all_in_front (drop (length l.forms - l.i) l.forms) l.arguments l.initial.told }
