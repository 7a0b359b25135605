use Rattle.std.proofs.Common.{◌≡◌, vec_len, All}
use Rattle.part_types.specs.Numbers.{AreNumbered}
use Rattle.world.specs.Boots.{IsIdle}
use Rattle.world.proofs.boot.cpus_at_boot.Given as goal

abbrev pub invariant-loop-id : goal.invariant-loop-id
invariant-loop-id l = record {
  count : vec_len l.cpus ≡ l.id;
  idle : All (λ k. IsIdle l.fn.config.log k) l.cpus.items;
  numbers : AreNumbered l.cpus.items;
}
