use Rattle.std.proofs.Common.{ℕ, ◌<◌, sym, subst}
use Rattle.page_state.specs.Layouts.{Layout}
use Rattle.page_state.specs.LayoutView.{layout_of}
use Rattle.reference_model.specs.model.State.{Cpu}
use Rattle.ghost_spec.specs.Kept.{HasNextGeneration}
use Rattle.ghost_spec.specs.States.{contents_in}
use Rattle.free_judge.proofs.Ready.{told-freely}
use Rattle.free_judge.proofs.judge.predicted_freely.Goals as goal

pub predict_amply-requires-clause-cpu : goal.predict_amply-requires-clause-cpu
predict_amply-requires-clause-cpu c =
    subst (λ (l : Layout). c.args.cpu < l.config.cpus) (sym c.in_ok-ready.ensures.layout) c.requires.cpu

pub predict_amply-requires-clause-generation : goal.predict_amply-requires-clause-generation
predict_amply-requires-clause-generation c =
    subst (λ (k : ℕ → Cpu). HasNextGeneration (k c.args.cpu).ticket c.args.step)
    (sym c.in_ok-ready.ensures.cpu) c.requires.generation

pub returns : goal.returns
returns c =
    record {
      told = told-freely c.args.freedoms (layout_of c.args.pre.now.layout)
          (layout_of c.in_ok-ready.ready.layout) (contents_in c.args.pre.now)
          (contents_in c.in_ok-ready.ready) c.args.cpu c.args.step c.args.reply c.in_ok-told.told.0
          (contents_in c.in_ok-told.told.1) c.in_ok-ready.ensures.layout c.in_ok-ready.ensures.ready
          c.in_ok-told.ensures.told;
    }
