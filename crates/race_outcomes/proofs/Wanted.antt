-- Replies that are wanted, with one more.
use Rattle.std.proofs.Common.{◌≡◌, ℕ, zero, suc, ◌<◌, sym, subst, arith, List, [], ◌∷◌, length, get_or}
use Rattle.std.specs.Prelude.{Option, Some, None, Vec, slice_get, slice_set}
use Rattle.std.specs.Global.{Global}
use Rattle.call_table.specs.declared.reply.Reply.{Reply}
use Rattle.race_outcomes.specs.declared.node.Turn.{Turn}
use Rattle.race_outcomes.specs.Orders.{AreWanted, IsWanted, no_replies_yet}

abbrev Text : Type 0
Text = Option (Vec ℕ Global)

pub none_wanted_at : (w : Text) → IsWanted w None
none_wanted_at None = tt
none_wanted_at (Some w) = tt

pub none_wanted : (ws : List Text) (turns : List Turn) → AreWanted ws (no_replies_yet turns)
none_wanted [] turns = tt
none_wanted (w ∷ ws) [] = tt
none_wanted (w ∷ ws) (t ∷ ts) = (none_wanted_at w, none_wanted ws ts)

-- with one more that is wanted
pub wanted_more : (ws : List Text) (ts : List (Option Reply)) (i : ℕ) (d : Text) (r : Reply)
    → i < length ws
    → AreWanted ws ts
    → IsWanted (get_or ws i d) (Some r)
    → AreWanted ws (slice_set ts i (Some r))
wanted_more [] ts i d r less h w = tt
wanted_more (x ∷ ws) [] i d r less h w = tt
wanted_more (x ∷ ws) (t ∷ ts) zero d r less h w = (w, h.1)
wanted_more (x ∷ ws) (t ∷ ts) (suc i) d r less h w = (h.0, wanted_more ws ts i d r (omega arith) h.1 w)

-- each is wanted, and so were those before one more
pub wanted_at : (ws : List Text) (ts : List (Option Reply)) (i : ℕ) (d : Text) (r : Reply)
    → i < length ws
    → i < length ts
    → AreWanted ws (slice_set ts i (Some r))
    → IsWanted (get_or ws i d) (Some r)
wanted_at [] ts i d r less lower h = absurd (omega arith)
wanted_at (x ∷ ws) [] i d r less lower h = absurd (omega arith)
wanted_at (x ∷ ws) (t ∷ ts) zero d r less lower h = h.0
wanted_at (x ∷ ws) (t ∷ ts) (suc i) d r less lower h = wanted_at ws ts i d r (omega arith) (omega arith) h.1

pub wanted_before : (ws : List Text) (ts : List (Option Reply)) (i : ℕ) (r : Reply)
    → slice_get ts i ≡ Some None
    → AreWanted ws (slice_set ts i (Some r))
    → AreWanted ws ts
wanted_before [] ts i r e h = tt
wanted_before (x ∷ ws) [] i r e h = tt
wanted_before (x ∷ ws) (t ∷ ts) zero r e h = (subst (IsWanted x) (sym (same t e)) (none_wanted_at x), h.1)
  where
    same : (t : Option Reply) → ◌≡◌ {A = Option (Option Reply)} (Some t) (Some None) → t ≡ None
    same t e = cc
wanted_before (x ∷ ws) (t ∷ ts) (suc i) r e h = (h.0, wanted_before ws ts i r e h.1)
