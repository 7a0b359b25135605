use Rattle.std.proofs.Common.{◌≡◌, sym, ap, subst, ◌∙◌}
use Rattle.page_state.specs.Tables.{all_given}
use Rattle.page_state.specs.Trees.{Pool, frames_from}
use Rattle.ghost_spec.specs.Kept.{AreLowFrames}
use Rattle.ghost_spec.proofs.Guests.{low-all_given, low-frames_from}
use Rattle.ghost_spec.proofs.guest.gain.Goals as goal

pub returns-clause-kept : goal.returns-clause-kept
returns-clause-kept c =
    let fs = frames_from c.args.range.first.0 c.args.range.count in
    let free : c.give_all.new.free.items ≡ all_given fs c.args.guest.now.free.items =
    c.in_ok-give_all.ensures
    ∙ ap (λ (p : Pool). all_given p c.args.guest.now.free.items)
    (c.as_slice.ensures.value ∙ c.in_ok-frames.ensures) in
    record {
      tree = c.requires.kept.tree;
      tables = c.requires.kept.tables;
      free =
          subst (λ (p : Pool). AreLowFrames p) (sym free)
          (low-all_given fs c.args.guest.now.free.items
          (low-frames_from c.args.range.first.0 c.args.range.count c.requires.range) c.requires.kept.free);
    }
