-- Facts of maps and runs that hold in one way at most.
use Rattle.std.specs.Prelude.{◌≡◌, ◌≤◌, ◌<◌, List, [], ◌∷◌}
use Rattle.std.specs.Coded.{×_prop, Unit-prop, le_prop, Π_prop}
use Rattle.std.proofs.Common.{ap}
use Rattle.std.proofs.Props.{props}
use Rattle.page_state.specs.declared.entry.Run.{Run}
use Rattle.page_state.specs.Map.{Map}
use Rattle.page_state.specs.Entries.{entry_of_target}
use Rattle.page_state.specs.Runs.{Precedes, PrecedesFirst, IsCoarsest, entry_on, run_end}

-- two maps are equal in one way at most
pub maps_prop : (m n : Map) → IsProp (m ≡ n)
maps_prop m n = hlevel props

precedes_prop : (r n : Run) → IsProp (Precedes r n)
precedes_prop r n a b =
    ap
    (λ
    (z : (run_end r ≤ n.pages.first.0)
    × (run_end r ≡ n.pages.first.0
    → entry_on r (run_end r) ≡ entry_of_target n.target
    → ⊥)). record {
      before = z.0;
      apart = z.1;
    })
    (×_prop le_prop (Π_prop (λ e. Π_prop (λ f u. absurd u))) (a.before, a.apart)
    (b.before, b.apart))

first_prop : (r : Run) (rs : List Run) → IsProp (PrecedesFirst r rs)
first_prop r [] = Unit-prop
first_prop r (n ∷ rs) = precedes_prop r n

-- a list of runs is a coarsest one in one way at most
pub coarsest_prop : (rs : List Run) → IsProp (IsCoarsest rs)
coarsest_prop [] = hlevel props
coarsest_prop (r ∷ rs) = hlevel (props, precedes_prop, first_prop r rs, coarsest_prop rs)
