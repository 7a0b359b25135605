use Rattle.std.proofs.Common.{◌≡◌, [], List, ℕ, Option, ap, sym, subst, ◌∙◌}
use Rattle.std.specs.Prelude.{Bool, ◌&&◌, if◌then◌else◌}
use Rattle.page_state.proofs.Common.{same2}
use Rattle.ghost_spec.specs.Kept.{AreLowFrames, HasLowTables}
use Rattle.ghost_spec.specs.States.{guest_in}
use Rattle.ghost_trees.specs.Trees.{table_of}
use Rattle.free_judge.specs.PoolByRows.{free_of, may_hold, root_alone, root_of, with_tables}
use Rattle.free_judge.proofs.PoolStates.{low-left, low-tables}
use Rattle.free_judge.proofs.asked.with_frames.Goals as goal

pub pooled-requires-clause-tables : goal.pooled-requires-clause-tables
pooled-requires-clause-tables c =
    subst HasLowTables (sym (c.in_ok-tables.ensures ∙ ap (root_alone c.args.depth) c.root_of-root.ensures))
    (low-tables c.args.depth c.args.named c.args.frames.now c.requires.low)

pub pooled-requires-clause-free : goal.pooled-requires-clause-free
pooled-requires-clause-free c =
    subst AreLowFrames
    (sym
    (c.in_ok-free.ensures
    ∙ same2 (λ (b : Bool) (r : Option ℕ). if b then [] else free_of c.args.named r c.args.frames.now)
    c.are_held-all.ensures c.root_of-root.ensures))
    (low-left (c.args.is_held && may_hold c.args.depth c.args.frames.now) c.args.named
    (root_of c.args.named c.args.frames.now) c.args.frames.now c.requires.low)

pub returns-clause-guest : goal.returns-clause-guest
returns-clause-guest c =
    c.in_ok-made.ensures.same
    ∙ same2 (λ t f. with_tables t f (guest_in c.args.guest.now))
    (c.in_ok-tables.ensures ∙ ap (root_alone c.args.depth) c.root_of-root.ensures)
    (c.in_ok-free.ensures
    ∙ same2 (λ (b : Bool) (r : Option ℕ). if b then [] else free_of c.args.named r c.args.frames.now)
    c.are_held-all.ensures c.root_of-root.ensures)
