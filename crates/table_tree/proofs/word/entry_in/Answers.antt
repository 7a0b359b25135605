use Rattle.std.proofs.Common.{◌<◌, ◌%◌, ◌*◌, ◌^◌, ℕ, zero, suc, arith}
use Rattle.table_tree.proofs.Words.{can_advance}
use Rattle.table_tree.proofs.word.entry_in.Goals as goal

below : (d q : ℕ) → d < 4 → q % ((1 * 2 ^ (9 * d)) % 18446744073709551616) < 2 ^ 27
below zero q h = omega arith
below (suc zero) q h = omega arith
below (suc (suc zero)) q h = omega arith
below (suc (suc (suc zero))) q h = omega arith
below (suc (suc (suc (suc d)))) q h = absurd (omega arith)

pub advance-requires : goal.advance-requires
advance-requires c = let x = below c.args.depth c.args.page c.requires in
    can_advance c.entry_of.result _ c.entry_of.ensures.small (omega (arith, x))
