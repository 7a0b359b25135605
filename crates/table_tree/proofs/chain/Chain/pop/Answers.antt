use Rattle.std.proofs.Common.{sym, ap, ◌∙◌, [], ◌∷◌}
use Rattle.table_tree.specs.Meaning.{frame_of}
use Rattle.table_tree.specs.Links.{links_of}
use Rattle.table_tree.proofs.Chains.{chain_nil, chain_word, chain_first, frames_is, frames_chain, link_blank, link_wide, link_is_wide}
use Rattle.table_tree.proofs.Tight.{new_table}
use Rattle.table_tree.proofs.chain.Chain.pop.Goals as goal

pub take-requires-clause-wide : goal.take-requires-clause-wide
take-requires-clause-wide g c =
    link_is_wide (frame_of c.deref_mut.result.now) c.deref_mut.result.now
    (chain_first c.args.self.now c.deref_mut.result.now c.in-Child.table c.deref_mut.ensures.value
    c.in-Child.ensures.value).2

pub invariant_of-self : goal.invariant_of-self
invariant_of-self g c = let x =
    chain_first c.args.self.now c.deref_mut.result.now c.in-Child.table c.deref_mut.ensures.value
    c.in-Child.ensures.value in
    record { chained = (x.0, rw c.take.ensures.value x.3) }

pub invariant_of-self-in-Word : goal.invariant_of-self-in-Word
invariant_of-self-in-Word g c = record { chained = ([], chain_nil _ c.replace.ensures.after) }

pub returns-in-Child-clause-frames : goal.returns-in-Child-clause-frames
returns-in-Child-clause-frames g c =
    let x =
    chain_first c.args.self.now c.deref_mut.result.now c.in-Child.table c.deref_mut.ensures.value
    c.in-Child.ensures.value in
    let y = frames_is _ x.0 (rw c.take.ensures.value x.3) in
    x.1 ∙ ap (λ f. f ∷ x.0) (sym c.take.ensures.frame) ∙ ap (λ gs. frame_of c.take.new.self ∷ gs) (sym y)

pub returns-in-Child-clause-wide : goal.returns-in-Child-clause-wide
returns-in-Child-clause-wide g c =
    link_wide (frame_of c.deref_mut.result.now) c.deref_mut.result.now c.take.new.self
    (chain_first c.args.self.now c.deref_mut.result.now c.in-Child.table c.deref_mut.ensures.value
    c.in-Child.ensures.value).2 c.take.ensures.slots

pub returns-in-Child-clause-blank : goal.returns-in-Child-clause-blank
returns-in-Child-clause-blank g c =
    link_blank (frame_of c.deref_mut.result.now) c.deref_mut.result.now c.take.new.self
    (chain_first c.args.self.now c.deref_mut.result.now c.in-Child.table c.deref_mut.ensures.value
    c.in-Child.ensures.value).2 c.take.ensures.slots

pub returns-in-Word-clause-frames : goal.returns-in-Word-clause-frames
returns-in-Word-clause-frames g c =
    chain_word (links_of c.args.self.now) c.args.self.now.first c.in-Word.field-0 (frames_chain c.args.self.now)
    (sym c.in-Word.ensures.value)

pub returns-in-Child-clause-tree : goal.returns-in-Child-clause-tree
returns-in-Child-clause-tree g c =
    new_table c.take.new.self (returns-in-Child-clause-wide g c) (returns-in-Child-clause-blank g c)

pub returns-in-Word-clause-none : goal.returns-in-Word-clause-none
returns-in-Word-clause-none g c = frames_is _ [] (chain_nil _ c.replace.ensures.after)
