use Rattle.std.proofs.Common.{◌∙◌, ◌∷◌, [], sym, subst, inl, inr, refl, get_or, take}
use Rattle.std.specs.Prelude.{Contains}
use Rattle.std.proofs.lemmas.List.{map-append, take_all, take_more}
use Rattle.std.proofs.lemmas.List.Elements.{Contains-get_or, Contains-push_cases}
use Rattle.race_outcomes.specs.declared.finding.Outcome.{Outcome}
use Rattle.race_outcomes.specs.Layers.{replies_of}
use Rattle.race_outcomes.proofs.Members.{to_map}
use Rattle.race_outcomes.proofs.Replies.{replies_same}
use Rattle.race_outcomes.proofs.finding.has_replies.Goals as goal

pub returns-then-eq : goal.returns-then-eq
returns-then-eq c =
    let found = c.args.found.now in
    let o = get_or found c.loop-i.i c.index-found-i.result in
    let same = (replies_same c.as_slice.result.now c.args.replies.now c.eq.result c.eq.ensures).0 c.if-eq.true in
    let there =
    to_map (λ (x : Outcome). x.replies.items) found o
    (Contains-get_or found c.loop-i.i c.index-found-i.result c.loop-i-test.true) in
    ((λ _. subst (Contains (replies_of found)) (sym c.as_slice.ensures.value ∙ same) there), λ _. refl)

pub loop-i-preserved : goal.loop-i-preserved
loop-i-preserved c h =
    let found = c.args.found.now in
    let replies = c.args.replies.now in
    let front = take c.loop-i.i found in
    let o = get_or found c.loop-i.i c.index-found-i.result in
    let more =
    subst (λ os. Contains (replies_of os) replies)
    (take_more found c.loop-i.i c.index-found-i.result c.loop-i-test.true) h in
    let there = subst (λ ls. Contains ls replies) (map-append (λ (x : Outcome). x.replies.items) front (o ∷ [])) more in
    elim (Contains-push_cases (replies_of front) o.replies.items replies there) as (λ _. ⊥) [
      | inl before ↦ c.loop-i.invariant before
      | inr here ↦
          let yes =
          (replies_same c.as_slice.result.now replies c.eq.result c.eq.ensures).1
          (c.as_slice.ensures.value ∙ here) in
          let no = c.if-eq.false in
          absurd (cc)
    ]

pub returns : goal.returns
returns c =
    let found = c.args.found.now in
    let all = take_all c.loop-i.i found c.loop-i-test.false in (
      (λ h. let e = h in absurd (cc)),
      λ h. absurd (c.loop-i.invariant (subst (λ os. Contains (replies_of os) c.args.replies.now) (sym all) h)),
    )
