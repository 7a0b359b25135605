use Rattle.std.proofs.Common.{◌≡◌, ℕ, List, Some, None, ap, sym, subst, ◌∙◌}
use Rattle.page_state.specs.Runs.{IsCoarsest}
use Rattle.ghost_spec.specs.Kept.{AreLowFrames}
use Rattle.ghost_trees.specs.declared.tree.Table.{Table}
use Rattle.ghost_trees.specs.Small.{AreSmall}
use Rattle.ghost_trees.specs.Trees.{table_of}
use Rattle.free_judge.proofs.Fills.{low-frames}
use Rattle.free_judge.proofs.bare.bare_guest.Goals as goal

pub returns-clause-kept : goal.returns-clause-kept
returns-clause-kept c =
    let runs = c.in_ok-from_slice.ensures.items ∙ c.as_slice.ensures.value in
    record {
      tree =
          record {
            small = subst AreSmall (sym runs) c.requires.guest.tree.small;
            coarsest = subst IsCoarsest (sym runs) c.requires.guest.tree.coarsest;
          };
      tables = λ b f e. let w : None ≡ Some f = sym (ap (λ (ts : List Table). table_of ts b) c.new.ensures.items) ∙ e in
          cc;
      free =
          subst (λ (fs : List ℕ). AreLowFrames fs) (sym c.in_ok-from_slice-2.ensures.items)
          (low-frames c.args.frames.now c.requires.frames);
    }
