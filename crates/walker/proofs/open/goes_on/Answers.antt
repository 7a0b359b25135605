use Rattle.std.proofs.Common.{◌≡◌, ◌*◌, sym, ap, arith, ◌∙◌, true}
use Rattle.page_state.specs.Entries.{advance}
use Rattle.page_state.specs.Geometries.{block_pages}
use Rattle.page_state.proofs.Cases.{by_eq}
use Rattle.table_tree.specs.Meaning.{slot_at}
use Rattle.table_tree.specs.Tight.{HasEntry}
use Rattle.walker.proofs.open.goes_on.Goals as goal

pub returns-then-not-gives-clause-on : goal.returns-then-not-gives-clause-on
returns-then-not-gives-clause-on g c =
    let i = c.loop-i.i in
    let e = c.advance-part.ensures ∙ ap (λ n. advance c.args.first n) c.pages_before.ensures.value in (
      λ h. cc,
      λ all.
          let y : c.gives.result ≡ true =
          c.gives.ensures.1
          (rw (e, c.slot.ensures.value)
          (all i (omega (arith, c.loop-i.auto.i)) (omega (arith, c.loop-i-test.true)))) in
          sym c.if-not-gives.true ∙ y,
    )

pub loop-i-preserved : goal.loop-i-preserved
loop-i-preserved g c =
    let i = c.loop-i.i in
    let e = c.advance-part.ensures ∙ ap (λ n. advance c.args.first n) c.pages_before.ensures.value in
    let here : HasEntry c.args.depth (advance c.args.first (i * block_pages c.args.depth)) (slot_at c.args.table.now i) =
    rw (e, c.slot.ensures.value) at (c.gives.ensures.0 c.if-not-gives.false) in
    record {
      on = λ k a b. by_eq k i (λ z. rw z here) (λ z. c.loop-i.invariant.on k a (omega (arith, z)));
      reads = omega (arith, c.slot.ensures.reads, c.loop-i.invariant.reads);
    }
