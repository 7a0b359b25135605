use Rattle.std.proofs.Common.{rules, ℕ, zero, suc, ◌*◌, ◌%◌, ◌^◌, ◌<◌, arith}
use Rattle.table_tree.proofs.Words.{can_advance}
use Rattle.walk_plan.proofs.change.Change.part.Goals as goal

-- a part begins below 2^36
starts : (d i : ℕ) → d < 4 → i < 512 → i * ((1 * 2 ^ (9 * d)) % 18446744073709551616) < 2 ^ 36
starts zero i p q = omega arith
starts (suc zero) i p q = omega arith
starts (suc (suc zero)) i p q = omega arith
starts (suc (suc (suc zero))) i p q = omega arith
starts (suc (suc (suc (suc d)))) i p q = absurd (omega arith)

pub advance-requires : goal.advance-requires
advance-requires c = let x = starts c.args.depth c.args.i c.requires.depth_in c.requires.within in
    can_advance c.args.self.entry _ c.requires.entry (omega (arith, x))

pub returns : goal.returns
returns c = search rules
