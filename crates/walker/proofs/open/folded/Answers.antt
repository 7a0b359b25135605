use Rattle.std.proofs.Common.{◌≡◌, ◌+◌, suc, sym, ap, ◌∙◌, true, false, add-one}
use Rattle.page_state.specs.Blocks.{fits_word}
use Rattle.walker.proofs.Says.{says_first, says_parts, says_made}
use Rattle.walker.proofs.open.folded.Goals as goal

pub returns-then-not-fits_word-clause-found : goal.returns-then-not-fits_word-clause-found
returns-then-not-fits_word-clause-found g c o =
    let d = c.args.depth in
    let first = c.entry_of-first.result in
    let is =
    says_first d c.in-Word.word c.args.table.now first o
    (sym c.slot.ensures.value ∙ c.in-Word.is) c.entry_of-first.ensures.value in
    let no : fits_word (d + 1) first ≡ false = sym c.fits_word.ensures ∙ c.if-not-fits_word.true in
    let yes : fits_word (suc d) first ≡ true = ap (λ x. fits_word (suc d) x) (sym is) ∙ o.fits in
    let bad : true ≡ false = sym yes ∙ ap (λ n. fits_word n first) (sym (add-one d)) ∙ no in
    cc

pub returns-then-not-goes_on-clause-found : goal.returns-then-not-goes_on-clause-found
returns-then-not-goes_on-clause-found g c o =
    let d = c.args.depth in
    let first = c.entry_of-first.result in
    let is =
    says_first d c.in-Word.word c.args.table.now first o
    (sym c.slot.ensures.value ∙ c.in-Word.is) c.entry_of-first.ensures.value in
    let yes : c.goes_on.result ≡ true = c.goes_on.ensures.on.1 (says_parts d c.args.table.now first o is) in
    let bad : true ≡ false = sym yes ∙ c.if-not-goes_on.true in
    cc

pub returns-clause-found : goal.returns-clause-found
returns-clause-found g c =
    says_made c.args.depth c.in-Word.word c.word_of.result c.args.table.now c.entry_of-first.result
    (sym c.slot.ensures.value ∙ c.in-Word.is) c.entry_of-first.ensures.value
    (c.goes_on.ensures.on.0 c.if-not-goes_on.false) c.word_of.ensures.entry c.word_of.ensures.value
    (sym c.fits_word.ensures ∙ c.if-not-fits_word.false)
