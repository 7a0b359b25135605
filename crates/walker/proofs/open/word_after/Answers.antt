use Rattle.std.proofs.Common.{◌≡◌, sym, ◌∙◌, rules}
use Rattle.page_state.proofs.Equality.{entries_tell}
use Rattle.walker.proofs.open.word_after.Goals as goal

pub returns-then-eq-clause-map : goal.returns-then-eq-clause-map
returns-then-eq-clause-map c =
    let same : c.advance.result ≡ c.args.change.entry =
    (entries_tell c.advance.result c.args.change.entry).0 (sym c.eq.ensures ∙ c.if-eq.true) in
    search rules
