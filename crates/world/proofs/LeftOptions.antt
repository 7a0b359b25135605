-- What is left of an option of a reference, over any type, in the terms that a goal on it computes to. Over a part the
-- tactics stop inside its fields.
use Rattle.std.proofs.Common.{◌≡◌, false, Option, Some, None, inl, inr, refl, sym, ap, subst}
use Rattle.std.specs.Prelude.{◌⊎◌, is_some}
use Rattle.std.specs.Borrow.{MutBor}
use Rattle.world.specs.LentParts.{OptionLeft, given, left}
use base.Fml.{ftrue}
use denote.Exit.{Exit, Last, leaves, or_else, pair, see, unchanged}
use denote.MutBor.{at_last}
use denote.Enum.Declared.{left_or, right_or}
use borrow.Kind.EnumInner.{or_inl, or_inr}

-- the last values of a choice, from the value that stands in its place at the return
abbrev last_of : {X Y : Type 0} (e : Exit X) (f : Exit Y)
    → ((x y : X) → Last e x)
    → ((x y : Y) → Last f x)
    → (a c : X ⊎ Y)
    → Last (or_else e f) a
last_of e f g h (inl x) c = or_inl e f x (g x (left_or x c))
last_of e f g h (inr y) c = or_inr e f y (h y (right_or y c))

module _ (X : Type 0) where
  abbrev Field : Type 0
  Field = MutBor X × Unit {0}

  abbrev field_left : Exit Field
  field_left = pair (leaves (λ r. X) (λ r w. ftrue) (MutBor X) at_last (λ r. r.now)) unchanged

  abbrev option_left : Exit (OptionLeft X)
  option_left = or_else unchanged (or_else field_left unchanged)

  -- the option as a choice, in two steps
  abbrev chosen : Option (MutBor X) → OptionLeft X
  chosen None = inl tt
  chosen (Some r) = inr (inl (r, tt))

  abbrev in_some : Field ⊎ ⊥ → Field ⊎ ⊥
  in_some (inl p) = inl (p.0, tt)
  in_some (inr e) = inr (absurd e)

  abbrev as_row : OptionLeft X → OptionLeft X
  as_row (inl x) = inl tt
  as_row (inr y) = inr (in_some y)

  abbrev choice_of : Option (MutBor X) → OptionLeft X
  choice_of o = as_row (chosen o)

  abbrev lasts : (a c : OptionLeft X) → Last option_left a
  lasts =
      last_of unchanged (or_else field_left unchanged) (λ x y. tt)
      (last_of field_left unchanged (λ x y. (y.0.now, tt)) (λ x y. tt))

module _ {X : Type 0} where
  -- the last values of an option, the option that they are at the return, and those where what r refers to is n
  abbrev pub LastOf : Option (MutBor X) → Type 0
  LastOf o = Last (option_left X) (choice_of X o)

  abbrev pub exit_of : (o : Option (MutBor X)) → LastOf o → OptionLeft X
  exit_of o w = see (option_left X) (choice_of X o) w

  abbrev pub last_at : (o : Option (MutBor X)) → MutBor X → X → LastOf o
  last_at o r n = lasts X (choice_of X o) (inr (inl (record r { now = n }, tt)))

  pub none_given : (o : Option (MutBor X)) → is_some (given o) ≡ false → o ≡ None
  none_given None e = refl
  none_given (Some r) e = cc

  pub given_none : (o : Option (MutBor X)) → o ≡ None → given o ≡ None
  given_none o is = ap given is

  pub given_some : (o : Option (MutBor X)) (r : MutBor X) → o ≡ Some r → given o ≡ Some r.now
  given_some o r is = ap given is

  pub left_none : (o : Option (MutBor X)) → o ≡ None → (w : LastOf o) → left (exit_of o w) ≡ None
  left_none None e w = refl
  left_none (Some r) e w = cc

  pub left_some : (o : Option (MutBor X)) (r : MutBor X) (n : X)
      → o ≡ Some r
      → left (exit_of o (last_at o r n)) ≡ Some n
  left_some o r n is = subst (λ z. left (exit_of z (last_at z r n)) ≡ Some n) (sym is) refl
