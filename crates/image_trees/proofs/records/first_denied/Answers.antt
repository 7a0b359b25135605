use Rattle.std.proofs.Common.{◌≡◌, ◌+◌, ◌^◌, ◌<◌, ◌≤◌, ◌∙◌, Some, true, false, ap, sym, arith}
use Rattle.image_trees.specs.Records.{is_denied, records_in}
use Rattle.image_trees.proofs.Denied.{found_frame, next_frame, no_more_frames, past_frames}
use Rattle.image_trees.proofs.records.first_denied.Goals as goal

pub returns-then-at-ge-FRAMES-clause-first : goal.returns-then-at-ge-FRAMES-clause-first
returns-then-at-ge-FRAMES-clause-first g c = λ all e.
    let past : 2 ^ 63 ≤ c.args.frame + c.loop-k.k =
    omega (arith, c.if-at-ge-FRAMES.true, c.saturating_add-at.ensures) in
    past_frames (records_in all c.args.segments.now c.args.records.now) c.args.tree c.args.frame c.args.count c.loop-k.k
    _ c.loop-k-test.true past (c.loop-k.invariant.so_far all e)

pub returns-then-denies-clause-first : goal.returns-then-denies-clause-first
returns-then-denies-clause-first g c = λ all e.
    let record_of = records_in all c.args.segments.now c.args.records.now in
    let at : c.saturating_add-at.result ≡ c.args.frame + c.loop-k.k =
    omega (arith, c.if-at-ge-FRAMES.false, c.saturating_add-at.ensures) in
    let small : c.args.frame + c.loop-k.k < 2 ^ 63 = omega (arith, c.if-at-ge-FRAMES.false, at) in
    let denied : is_denied c.args.tree (record_of (c.args.frame + c.loop-k.k)) ≡ true =
    ap (λ f. is_denied c.args.tree (record_of f)) (sym at)
    ∙ sym (c.denies.ensures ∙ ap (is_denied c.args.tree) (c.in_ok-word.ensures.record all e)) ∙ c.if-denies.true in
    ap (λ f. Some f) at
    ∙ found_frame record_of c.args.tree c.args.frame c.args.count c.loop-k.k _ c.loop-k-test.true small denied
    (c.loop-k.invariant.so_far all e)

pub loop-k-preserved : goal.loop-k-preserved
loop-k-preserved g c = record {
  room = omega (arith, c.record_of.auto.buffer, c.loop-k.invariant.room);
  so_far = λ all e.
      let record_of = records_in all c.args.segments.now c.args.records.now in
      let at : c.saturating_add-at.result ≡ c.args.frame + c.loop-k.k =
      omega (arith, c.if-at-ge-FRAMES.false, c.saturating_add-at.ensures) in
      let small : c.args.frame + c.loop-k.k < 2 ^ 63 = omega (arith, c.if-at-ge-FRAMES.false, at) in
      let other : is_denied c.args.tree (record_of (c.args.frame + c.loop-k.k)) ≡ false =
      ap (λ f. is_denied c.args.tree (record_of f)) (sym at)
      ∙ sym (c.denies.ensures ∙ ap (is_denied c.args.tree) (c.in_ok-word.ensures.record all e)) ∙ c.if-denies.false in
      next_frame record_of c.args.tree c.args.frame c.args.count c.loop-k.k _ c.loop-k-test.true small other
      (c.loop-k.invariant.so_far all e);
}

pub returns-clause-first : goal.returns-clause-first
returns-clause-first g c = λ all e.
    no_more_frames (records_in all c.args.segments.now c.args.records.now) c.args.tree c.args.frame c.args.count
    c.loop-k.k _ c.loop-k-test.false (c.loop-k.invariant.so_far all e)
