use Rattle.std.proofs.Common.{◌≡◌, refl, ap, sym, subst, ◌∙◌, not}
use Rattle.std.specs.Prelude.{is_some, IsSome}
use Rattle.std.proofs.lemmas.Bool.{false≢true}
use mathlib.Core.Path.{fun_ext}
use Rattle.table_tree.specs.Said.{block_of}
use Rattle.ghost_oracle.specs.Poked.{IsPokedTree, IsBeside, parts_trees, raw_trees}
use Rattle.ghost_oracle.proofs.pokes.poke.Goals as goal

pub returns-clause-poked : goal.returns-clause-poked
returns-clause-poked g c =
    let e : raw_trees c.raw_parts-raw.result ≡ parts_trees c.args.parts = fun_ext c.raw_parts-raw.ensures.trees in
    subst
    (λ f. IsPokedTree (block_of c.args.parts.layout.geometry c.args.path.now) f
    (raw_trees c.set.new.self) c.args.which c.args.path.now c.args.word) e
    (subst
    (λ l. IsPokedTree (block_of l.geometry c.args.path.now) (raw_trees c.raw_parts-raw.result)
    (raw_trees c.set.new.self) c.args.which c.args.path.now c.args.word) c.raw_parts-raw.ensures.layout
    c.set.ensures.poked)

pub returns-then-is_none-clause-kept : goal.returns-then-is_none-clause-kept
returns-then-is_none-clause-kept g c = refl

pub returns-then-is_none-clause-poked : goal.returns-then-is_none-clause-poked
returns-then-is_none-clause-poked g c = tt

pub returns-then-is_none-clause-beside : goal.returns-then-is_none-clause-beside
returns-then-is_none-clause-beside g c = tt

pub returns-clause-kept : goal.returns-clause-kept
returns-clause-kept g c = tt

pub set-requires : goal.set-requires
set-requires g c =
    record {
      there = subst (λ t. IsSome (t.words c.args.path.now)) (sym (c.raw_parts-raw.ensures.trees c.args.which))
          (subst IsSome c.parts_word.ensures (c.is_none.ensures ∙ ap not c.if-is_none.false));
    }

pub returns-clause-fault : goal.returns-clause-fault
returns-clause-fault g c =
    (λ _. subst IsSome c.parts_word.ensures (c.is_none.ensures ∙ ap not c.if-is_none.false), λ _. refl)

pub returns-then-is_none-clause-fault : goal.returns-then-is_none-clause-fault
returns-then-is_none-clause-fault g c = (
  λ e. absurd (false≢true e),
  λ s. absurd
      (false≢true (sym (ap not c.if-is_none.true) ∙ sym c.is_none.ensures ∙ ap is_some c.parts_word.ensures ∙ s)),
)

pub returns-clause-beside : goal.returns-clause-beside
returns-clause-beside g c = subst (IsBeside c.args.parts) (sym c.set.ensures.beside) c.raw_parts-raw.ensures.beside
