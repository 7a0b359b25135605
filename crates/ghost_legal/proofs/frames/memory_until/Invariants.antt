use Rattle.std.proofs.Common.{◌≡◌, ℕ, ◌<◌, ◌≤◌, take, All}
use Rattle.page_state.specs.Regions.{is_in_range}
use Rattle.ghost_legal.proofs.frames.memory_until.Given as goal

abbrev pub invariant-loop-i : goal.invariant-loop-i
invariant-loop-i l = record {
  above : l.page < l.until;
  below : l.until ≤ l.most;
  goes_on : (f : ℕ)
      → l.page ≤ f
      → f < l.until
      → All (λ r. is_in_range r.pages f ≡ is_in_range r.pages l.page) (take l.i l.regions);
}
