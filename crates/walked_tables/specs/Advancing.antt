-- What pages have goes on along a run.
use Rattle.std.specs.Prelude.{◌≡◌, ℕ, ◌+◌, ◌≤◌, Bool}
use Rattle.std.proofs.Common.{ap, refl, arith}
use Rattle.run_list.specs.Advance.{AdvanceLaws}
use Rattle.table_words.specs.declared.word.Decoded.{Decoded}
use Rattle.table_words.specs.declared.word.Decoded.TheVariants.{Malformed, Unmapped, Annotated, Poisoned, Locked, Cleared, Leaf, Table}
use Rattle.table_words.specs.declared.word.Mapping.{Mapping}
use Rattle.walked_tables.specs.declared.said.Said.{Said}
use Rattle.walked_tables.specs.contracts.said.SaidPartialEq.TheImpl as saids
use Rattle.walked_tables.specs.Values.{advance_decoded, advance_said, CanGo, CanGoOn}
use Rattle.walked_tables.specs.Equality.{saids_tell}

-- equality, as the code tests it
abbrev pub said_eq : Said → Said → Bool
said_eq = saids.ghosts.eq

leaf_at : Mapping → ℕ → Decoded
leaf_at m n = Leaf (record m { frame = record { 0 = n } })

none : (d : Decoded) → advance_decoded d 0 ≡ d
unfolding leaf_at
none (Leaf m) = let e : m.frame.0 + 0 ≡ m.frame.0 = omega arith in ap (leaf_at m) e
none Malformed = refl
none Unmapped = refl
none (Annotated o g) = refl
none Poisoned = refl
none Locked = refl
none (Cleared m) = refl
none (Table f) = refl

more : (d : Decoded) (a b : ℕ) → advance_decoded (advance_decoded d a) b ≡ advance_decoded d (a + b)
unfolding leaf_at
more (Leaf m) a b = let e : m.frame.0 + a + b ≡ m.frame.0 + (a + b) = omega arith in
    ap (leaf_at m) e
more Malformed a b = refl
more Unmapped a b = refl
more (Annotated o g) a b = refl
more Poisoned a b = refl
more Locked a b = refl
more (Cleared m) a b = refl
more (Table f) a b = refl

shorter : (d : Decoded) (a b : ℕ) → a ≤ b → CanGo d b → CanGo d a
shorter (Leaf m) a b h k = omega arith
shorter Malformed a b h k = tt
shorter Unmapped a b h k = tt
shorter (Annotated o g) a b h k = tt
shorter Poisoned a b h k = tt
shorter Locked a b h k = tt
shorter (Cleared m) a b h k = tt
shorter (Table f) a b h k = tt

rest : (d : Decoded) (a b : ℕ) → CanGo d (a + b) → CanGo (advance_decoded d a) b
rest (Leaf m) a b h = omega arith
rest Malformed a b h = tt
rest Unmapped a b h = tt
rest (Annotated o g) a b h = tt
rest Poisoned a b h = tt
rest Locked a b h = tt
rest (Cleared m) a b h = tt
rest (Table f) a b h = tt

joint : (d : Decoded) (a b : ℕ) → CanGo d a → CanGo (advance_decoded d a) b → CanGo d (a + b)
joint (Leaf m) a b h k = omega arith
joint Malformed a b h k = tt
joint Unmapped a b h k = tt
joint (Annotated o g) a b h k = tt
joint Poisoned a b h k = tt
joint Locked a b h k = tt
joint (Cleared m) a b h k = tt
joint (Table f) a b h k = tt

wrapped : Decoded → Said
wrapped d = record { 0 = d }

pub said_laws : AdvanceLaws advance_said CanGoOn said_eq
unfolding wrapped
said_laws = record {
  none = λ s. ap wrapped (none s.0);
  more = λ s a b. ap wrapped (more s.0 a b);
  shorter = λ s. shorter s.0;
  rest = λ s. rest s.0;
  joint = λ s. joint s.0;
  is_equal = λ a b. (saids_tell a b).0;
  is_own = λ a. (saids_tell a a).1 refl;
}
