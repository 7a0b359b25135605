use Rattle.std.proofs.Common.{sym, ◌∙◌}
use Rattle.memory_image.specs.CoreFile.{core_of, segments_of}
use Rattle.memory_image.proofs.Headers.{of_ok, by_fault, by_table, read_on}
use Rattle.memory_image.proofs.core_file.core_segments.Goals as goal

pub returns-in-Ok-table_in-clause-opened : goal.returns-in-Ok-table_in-clause-opened
returns-in-Ok-table_in-clause-opened g c =
    let read = of_ok c.fill.result _ (sym c.is_err.ensures.value ∙ c.if-is_err.false) c.fill.ensures.read in
    let table = c.in-Ok-table_in.table in
    read_on (g.I.ImageBytes.bytes c.args.image.now) (g.I.ImageBytes.may_fail c.args.image.now)
    (λ all. segments_of c.in-Ok.count all table table.headers) core_of c.read_segments.result
    c.read_segments.ensures.read
    (λ all r e s. by_table all c.fill.new.into c.in-Ok.count table r
    (c.in-Ok.ensures.count all e) c.if-count-lt64.false (read all e)
    (sym c.table_in.ensures.is ∙ c.in-Ok-table_in.is) s)

pub returns-in-Err-clause-opened : goal.returns-in-Err-clause-opened
returns-in-Err-clause-opened g c = λ all e.
    let read = of_ok c.fill.result _ (sym c.is_err.ensures.value ∙ c.if-is_err.false) c.fill.ensures.read in
    by_fault all c.fill.new.into c.in-Ok.count c.in-Err.fault (c.in-Ok.ensures.count all e) c.if-count-lt64.false
    (read all e) (sym c.table_in.ensures.is ∙ c.in-Err.is)
