use Rattle.std.proofs.Common.{◌≡◌, ◌<◌, drop}
use Rattle.race_outcomes.specs.Layers.{key_from, key_of}
use Rattle.race_outcomes.proofs.layer.key.Given as goal

abbrev pub invariant-loop-i : goal.invariant-loop-i
invariant-loop-i l = record {
  is : key_from l.key (drop l.i l.told) ≡ key_of l.told;
  low : l.key < 4093;
}
