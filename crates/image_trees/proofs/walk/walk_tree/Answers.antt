use Rattle.std.proofs.Common.{◌≡◌, length, map, subst, arith}
use Rattle.std.proofs.lemmas.List.{length-map}
use Rattle.memory_image.specs.Pages.{page_words}
use Rattle.image_trees.specs.KeptPages.{kept_told, AreMore, IsWalkedBy}
use Rattle.image_trees.proofs.Reading.{still_read}
use Rattle.image_trees.proofs.SameTrees.{tree_in}
use Rattle.image_trees.proofs.walk.walk_tree.Goals as goal

pub returns-then-len-before-clause-tree : goal.returns-then-len-before-clause-tree
returns-then-len-before-clause-tree g c = λ all e.
    let read = page_words all c.args.segments.now in
    let before = map kept_told c.loop-bytes.kept.items in
    let after = map kept_told c.add_missing.new.kept.items in
    let count : length after ≡ length before =
    omega (
      arith,
      length-map c.add_missing.new.kept.items kept_told,
      length-map c.loop-bytes.kept.items kept_told,
      c.if-len-before.true,
      c.len-before.ensures,
      c.len-in-loop-bytes.ensures,
      c.add_missing.new.kept.ok.0,
      c.loop-bytes.kept.ok.0,
    ) in
    let more : AreMore read c.in_ok-tree.tree.runs.items before after =
    subst (λ rs. AreMore read rs before after) c.as_slice-in-loop-bytes.ensures.value
    (c.in_ok-add_missing.ensures.more all e) in
    tree_in read c.args.root.now before after c.in_ok-tree.tree.tables.items c.in_ok-tree.tree.runs.items
    (c.loop-bytes.invariant.read all e)
    (subst
    (λ ks. IsWalkedBy c.args.root.now
    (map kept_told ks) c.in_ok-tree.tree.tables.items c.in_ok-tree.tree.runs.items) c.as_slice.ensures.value
    c.in_ok-tree.ensures.walked) more count

pub loop-bytes-preserved : goal.loop-bytes-preserved
loop-bytes-preserved g c = record {
  room = omega (arith, c.add_missing.auto.buffer, c.loop-bytes.invariant.room);
  whole = c.in_ok-add_missing.ensures.whole;
  long = omega (arith, c.in_ok-add_missing.ensures.count, c.loop-bytes.invariant.long);
  read = λ all e.
      let m = c.in_ok-add_missing.ensures.more all e in
      still_read (page_words all c.args.segments.now) c.args.root.now c.args.root.now.count
      (map kept_told c.loop-bytes.kept.items) (map kept_told c.add_missing.new.kept.items) m.more
      (c.loop-bytes.invariant.read all e) m.pages m.given
      (omega (arith, length-map c.loop-bytes.kept.items kept_told, c.loop-bytes.invariant.long));
}

pub returns-then-len-before-clause-kept : goal.returns-then-len-before-clause-kept
returns-then-len-before-clause-kept g c = record {
  coarsest = c.in_ok-tree.ensures.walked.walked.coarsest;
  in_reach = c.in_ok-tree.ensures.walked.walked.in_reach;
}
