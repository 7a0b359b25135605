use Rattle.std.proofs.Common.{sym, ◌∙◌, refl, rules}
use Rattle.page_state.specs.LayoutView.{layout_of}
use Rattle.reference_model.specs.model.Rules.{rule}
use Rattle.decisions.proofs.Ranged.{rows_of_range}
use Rattle.decisions.proofs.calls.give_back.decide_hyp_donate_host.Goals as goal

pub may_return_all-requires-clause-rows : goal.may_return_all-requires-clause-rows
may_return_all-requires-clause-rows g c =
    λ i less. rows_of_range
    (layout_of c.args.layout.now) c.args.shared.now.owners c.args.pfn c.args.n i c.requires.suits.rows
    (sym c.is_good_range.ensures.value ∙ c.if-not-is_good_range.false) less

pub returns-then-not-may_return_all : goal.returns-then-not-may_return_all
unfolding rule
returns-then-not-may_return_all g c =
    record {
      decided = λ cpu k. rw (
        sym c.is_good_range.ensures.value ∙ c.if-not-is_good_range.false,
        sym (c.may_return_all.ensures k)
            ∙ c.if-not-may_return_all.true,
      ) refl;
    }

pub returns : goal.returns
unfolding rule
returns g c =
    record {
      decided = λ cpu k. rw (
        sym c.is_good_range.ensures.value ∙ c.if-not-is_good_range.false,
        sym (c.may_return_all.ensures k)
            ∙ c.if-not-may_return_all.false,
      )
          (search rules);
    }
