use Rattle.std.proofs.Common.{rules, ◌≡◌, ℕ, ◌<◌, List, [], ◌∷◌, ◌++◌, take, get_or, ap, sym, subst, ◌∙◌}
use Rattle.std.specs.Prelude.{is_ok, if◌then◌else◌}
use Rattle.std.proofs.lemmas.List.{take_all}
use Rattle.call_table.specs.declared.reply.Reply.{Reply}
use Rattle.call_table.specs.declared.step.Step.{Step}
use Rattle.call_table.specs.declared.step.Step.TheVariants.{ShareHyp}
use Rattle.world.proofs.World.run.Goals as goal
use Rattle.world.proofs.Headline.{Made, made_next, headline}

pub loop-asked-preserved : goal.loop-asked-preserved
loop-asked-preserved g c =
    let rs : List Reply = c.loop-asked.replies.items in
    let items : c.push.new.self.items ≡ rs ++ c.make-reply.result ∷ [] =
    c.push.ensures.items ∙ ap (λ r. if is_ok r then rs ++ c.make-reply.result ∷ [] else rs) c.unwrap.ensures in
    let inside : (get_or c.args.steps.now c.loop-asked.asked-index (0, ShareHyp 0)).0 < c.loop-asked.self.parts.layout.config.cpus =
    subst (λ l. (get_or c.args.steps.now c.loop-asked.asked-index (0, ShareHyp 0)).0 < l.config.cpus)
    (sym c.loop-asked.invariant.layout)
    (c.requires.known c.loop-asked.asked-index (0, ShareHyp 0) c.loop-asked-test.true) in
    record {
      made =
          made_next c.args.self.now.parts c.args.steps.now c.loop-asked.asked-index
          (0, ShareHyp 0) rs c.push.new.self.items c.loop-asked.self.parts c.make-reply.new.self.parts
          c.make-reply.result c.loop-asked-test.true inside c.make-reply.ensures.step
          items c.loop-asked.invariant.made;
      layout = c.make-reply.ensures.layout ∙ c.loop-asked.invariant.layout;
      count = search rules;
      room = search rules;
    }

pub returns-clause-headline : goal.returns-clause-headline
returns-clause-headline g c =
    let steps : List (ℕ × Step) = c.args.steps.now in
    let i = c.loop-asked.asked-index in
    let whole : take i steps ≡ steps = take_all i steps c.loop-asked-test.false in
    headline c.args.self.now.parts c.loop-asked.self.parts steps c.loop-asked.replies.items c.args.self.now.history
    (subst
    (λ ss. Made c.args.self.now.parts ss c.loop-asked.replies.items c.loop-asked.self.parts) whole
    c.loop-asked.invariant.made)
