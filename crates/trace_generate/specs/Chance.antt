-- Chance: the generator of a seed, and the numbers that it gives (profile).
use Rattle.std.specs.Prelude.{ℕ, ◌%◌}
use Rattle.rand_pcg.specs.Lcg.{Lcg, increment_of, started}
use Rattle.rand_pcg.specs.Pcg.{multiplier_64, pcg32}

-- the generator of a seed, on the stream of this number
abbrev pub seeded : ℕ → Lcg
seeded seed = started 64 multiplier_64 seed (increment_of 64 0x6f776e657273)

-- the number below a count that it gives next: its next word, modulo the count
abbrev pub drawn : Lcg → ℕ → ℕ
drawn chance count = (pcg32 chance).0 % count

-- and the generator after that word
abbrev pub after_word : Lcg → Lcg
after_word chance = (pcg32 chance).1
