use Rattle.std.proofs.Common.{sym, ◌∙◌, ap, arith, length, ◌≡◌, [], ◌∷◌, ◌++◌}
use Rattle.memory_image.specs.Pages.{words_in}
use Rattle.memory_image.proofs.Headers.{length-words_in, no_word, one_more_word}
use Rattle.memory_image.proofs.pages.words_of_page.Goals as goal

pub loop-i-init : goal.loop-i-init
loop-i-init c = c.new-words.ensures.items ∙ sym (no_word c.args.page.now)

pub loop-i-preserved : goal.loop-i-preserved
loop-i-preserved c =
    let page = c.args.page.now in
    c.in_ok-push.ensures.items
    ∙ (ap (λ ws. ws ++ c.number64_at.result ∷ []) c.loop-i.invariant
    ∙ (ap (λ n. words_in page c.loop-i.i ++ n ∷ []) c.number64_at.ensures
    ∙ sym (one_more_word page c.loop-i.i)))

pub returns-clause-whole : goal.returns-clause-whole
returns-clause-whole c =
    let end : c.loop-i.i ≡ 512 = omega arith in
    ap length c.loop-i.invariant ∙ (length-words_in c.args.page.now c.loop-i.i ∙ end)
