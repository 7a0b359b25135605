-- A range that is left out before others.
use Rattle.std.proofs.Common.{◌≡◌, ℕ, List, ◌∷◌, refl}
use Rattle.std.specs.Prelude.{Bool, true, false, ◌||◌, ◌-◌, if◌then◌else◌}
use mathlib.Core.Path.{fun_ext}
use Rattle.page_state.specs.declared.entry.Entry.{Entry}
use Rattle.page_state.specs.declared.entry.Entry.TheVariants.{Unmapped}
use Rattle.page_state.specs.Entries.{advance}
use Rattle.page_state.specs.Map.{Map, is_within, update}
use Rattle.c_trees.specs.declared.root.PlainRange.{PlainRange}
use Rattle.c_trees.specs.Entries.{is_skipped, without}

without-by : (b any : Bool) (x : Entry) (k : ℕ)
    → (if b then advance Unmapped k else if any then Unmapped else x) ≡ (if b || any then Unmapped else x)
without-by true any x k = refl
without-by false any x k = refl

pub without-first : (r : PlainRange) (rs : List PlainRange) (m : Map)
    → update (without rs m) r.first r.count Unmapped ≡ without (r ∷ rs) m
without-first r rs m =
    fun_ext (λ p. without-by (is_within r.first r.count p) (is_skipped rs p) (m p) (p - r.first))
