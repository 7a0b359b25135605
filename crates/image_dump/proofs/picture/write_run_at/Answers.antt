use Rattle.std.proofs.Common.{◌++◌, ◌∙◌, ap, ap₂}
use Rattle.std.specs.Prelude.{string_bytes}
use Rattle.page_state.specs.Texts.{text_of_page}
use Rattle.image_dump.specs.Pictures.{block_text}
use Rattle.image_dump.specs.Texts.{text_of_line}
use Rattle.image_dump.specs.declared.line.DumpLine.TheVariants.{Run as RunOf}
use Rattle.image_dump.proofs.Pictured.{run_written}
use Rattle.image_dump.proofs.picture.write_run_at.Goals as goal

pub returns : goal.returns
returns c =
    let line = c.as_bytes.ensures.value ∙ c.in_ok-line.ensures.ok in
    let page = c.as_bytes-2.ensures.value ∙ c.in_ok-page.ensures.ok in
    let old = string_bytes c.args.svg.now in
    let run = c.args.run in
    let now =
    c.in_ok-write_run_block.ensures
    ∙ (ap₂ (λ l p. old ++ block_text c.args.at c.args.width c.look_of-look.result l p) line page
    ∙ ap
    (λ look. old
    ++ block_text c.args.at c.args.width look (text_of_line (RunOf run)) (text_of_page run.pages.first.0))
    c.look_of-look.ensures) in
    run_written c.write_mark.result c.args.findings.now c.args.at c.args.width run c.is_named-bad.result old _
    (string_bytes c.write_mark.new.svg) now c.is_named-bad.ensures c.write_mark.ensures
