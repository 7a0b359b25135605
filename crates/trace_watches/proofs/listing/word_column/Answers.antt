use Rattle.std.proofs.Common.{◌≡◌, refl, sym, ◌∙◌, ap, ◌+◌, ℕ, List, [], ◌∷◌, drop}
use Rattle.trace_faults.specs.Columns.{word_column}
use Rattle.trace_watches.proofs.listing.word_column.Goals as goal

first : (bytes : List ℕ) → word_column bytes 0 ≡ 1
first [] = refl
first (byte ∷ bytes) = refl

pub returns-then-left-eq0 : goal.returns-then-left-eq0
returns-then-left-eq0 c =
    let rest = drop c.loop-index.index c.args.line.now in
    sym
    (c.loop-index.invariant
    ∙ ap (λ n. c.loop-index.index + n) (ap (word_column rest) c.if-left-eq0.true ∙ first rest))
