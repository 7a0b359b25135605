use Rattle.std.proofs.Common.{◌∙◌}
use Rattle.part_table.proofs.Making.{made_of, untold_of}
use Rattle.part_table.proofs.table_of_parts.PartTable.try_step_by.Goals as goal

pub returns-clause-answers : goal.returns-clause-answers
returns-clause-answers g c = c.try_step.ensures.answers

pub returns-clause-cpu : goal.returns-clause-cpu
returns-clause-cpu g c = c.try_step.ensures.stays.1

pub returns-clause-pass : goal.returns-clause-pass
returns-clause-pass g c =
    record {
      table = c.try_step.ensures.table ∙ c.requires.pass.table;
      layout = c.try_step.ensures.stays.0
          ∙ c.requires.pass.layout;
    }

pub returns-clause-made : goal.returns-clause-made
returns-clause-made g c s =
    made_of
    {A = g.row.A.Denot} g.M.Maker.tells c.args.step c.try_step.result c.args.pass.now.knows
    c.try_step.new.self.knows c.args.told.now c.try_step.new.told c.try_step.ensures.made s

pub returns-clause-untold : goal.returns-clause-untold
returns-clause-untold g c s =
    untold_of
    {A = g.row.A.Denot} g.M.Maker.tells c.args.step c.try_step.result c.args.pass.now.knows
    c.try_step.new.self.knows c.args.told.now c.try_step.new.told c.try_step.ensures.made s

pub returns-clause-heard : goal.returns-clause-heard
returns-clause-heard g c = c.try_step.ensures.heard
