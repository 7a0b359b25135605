use Rattle.std.proofs.Common.{ap, arith, length}
use Rattle.table_tree.specs.Links.{links_of}
use Rattle.table_tree.specs.Meaning.{frame_of}
use Rattle.table_tree.proofs.Chains.{chain_child, chain_word, frames_chain, link_is_wide}
use Rattle.table_tree.proofs.chain.Chain.count_to.Goals as goal

pub loop-count-init : goal.loop-count-init
loop-count-init g c = (links_of c.args.self.now, (frames_chain c.args.self.now, (omega arith, omega arith)))

pub read-slot-requires-clause-wide : goal.read-slot-requires-clause-wide
read-slot-requires-clause-wide g c =
    let x =
    chain_child c.loop-count.invariant.0 c.loop-count.slot.now c.in-Child.table c.loop-count.invariant.1.0
    c.in-Child.is in
    rw c.deref.ensures (link_is_wide (frame_of c.in-Child.table.value) c.in-Child.table.value x.2)

pub loop-count-preserved : goal.loop-count-preserved
loop-count-preserved g c =
    let x =
    chain_child c.loop-count.invariant.0 c.loop-count.slot.now c.in-Child.table c.loop-count.invariant.1.0
    c.in-Child.is in
    let e = ap length x.1 in (
      x.0,
      (
        rw (c.read-slot.ensures, c.deref.ensures) x.3,
        (omega (arith, e, c.loop-count.invariant.1.1.0), omega (arith, c.loop-count-test.true)),
      ),
    )

pub returns-in-Word : goal.returns-in-Word
returns-in-Word g c =
    let e =
    ap length
    (chain_word c.loop-count.invariant.0 c.loop-count.slot.now c.in-Word.field-0 c.loop-count.invariant.1.0
    c.in-Word.is) in
    omega (arith, e, c.loop-count.invariant.1.1.0, c.loop-count.invariant.1.1.1)
