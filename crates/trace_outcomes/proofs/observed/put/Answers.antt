use Rattle.std.proofs.Common.{◌≡◌, ◌∙◌, rules, sym, subst, true, Option, Some, None, Ok, ℕ, Vec, Global}
use Rattle.std.specs.Prelude.{slice_get, slice_set}
use Rattle.trace_outcomes.specs.Races.{texts_in}
use Rattle.trace_outcomes.specs.Reports.{is_reply, put}
use Rattle.trace_outcomes.proofs.Noting.{none_there, put_down}
use Rattle.trace_outcomes.proofs.observed.put.Goals as goal

pub returns-clause-told : goal.returns-clause-told
returns-clause-told c =
    let items = c.args.texts.now.items in
    let reply : is_reply c.args.text.now ≡ true = search rules in
    let none : slice_get items c.args.place ≡ Some None =
    none_there items c.args.place c.index.result.now c.requires c.index.ensures
    (sym c.is_some.ensures ∙ c.if-is_some.false) in
    let there : c.replace.new.dest ≡ Some c.in_ok-text.text = c.replace.ensures.after in
    subst
    (λ (o : Option (Vec ℕ Global)). put (texts_in items) c.args.place c.args.text.now
    ≡ Ok (texts_in (slice_set items c.args.place o)))
    (sym there)
    (put_down items c.args.place c.args.text.now c.in_ok-text.text reply none c.in_ok-text.ensures.items)
