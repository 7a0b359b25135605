use Rattle.std.proofs.Common.{◌≡◌, ◌∙◌, ◌∷◌, [], ◌++◌, sym, subst, inl, inr, refl, List, map}
use Rattle.std.specs.Prelude.{Contains, MatchOption, Some}
use Rattle.std.proofs.lemmas.List.{map-append}
use Rattle.std.proofs.lemmas.List.Elements.{Contains-push}
use Rattle.call_table.specs.declared.reply.Reply.{Reply}
use Rattle.race_outcomes.specs.declared.finding.Outcome.{Outcome}
use Rattle.race_outcomes.specs.Layers.{IsOutcomeOf, replies_of}
use Rattle.race_outcomes.proofs.Found.{all_same}
use Rattle.race_outcomes.proofs.finding.add_outcome.Goals as goal

pub returns-then-has_replies : goal.returns-then-has_replies
returns-then-has_replies c =
    let n = c.args.node.now in
    let o = c.in-Some.outcome in
    let is : IsOutcomeOf n o =
    subst
    (λ r. MatchOption r ((rs : List Reply) → n.told.items ≡ map Some rs → ⊥) (IsOutcomeOf n)) c.in-Some.is
    c.in_ok-outcome.ensures in
    let there = c.has_replies.ensures.0 c.if-has_replies.true in
    let has : Contains (replies_of c.args.found.now.items) o.replies.items =
    subst (λ rs. Contains (replies_of c.args.found.now.items) rs) c.as_slice-2.ensures.value
    (subst (λ os. Contains (replies_of os) c.as_slice-2.result.now) c.as_slice.ensures.value there) in
    record {
      grows = inl refl;
      has =
          λ rs e. subst (Contains (replies_of c.args.found.now.items))
          (all_same o.replies.items rs (sym is.told ∙ e)) has;
    }

pub returns : goal.returns
returns c =
    let n = c.args.node.now in
    let o = c.in-Some.outcome in
    let old = c.args.found.now.items in
    let is : IsOutcomeOf n o =
    subst
    (λ r. MatchOption r ((rs : List Reply) → n.told.items ≡ map Some rs → ⊥) (IsOutcomeOf n)) c.in-Some.is
    c.in_ok-outcome.ensures in
    let no : Contains (replies_of old) o.replies.items → ⊥ = λ h.
    let yes =
    c.has_replies.ensures.1
    (subst (λ os. Contains (replies_of os) c.as_slice-2.result.now) (sym c.as_slice.ensures.value)
    (subst (λ rs. Contains (replies_of old) rs) (sym c.as_slice-2.ensures.value) h)) in
    let f = c.if-has_replies.false in
    absurd (cc) in
    let grows : c.push.new.self.items ≡ old ++ o ∷ [] = c.in_ok-push.ensures.items in
    record {
      grows = inr (o, grows, is, no);
      has = λ rs e.
          subst (λ os. Contains (replies_of os) rs) (sym grows)
          (subst (λ ls. Contains ls rs) (sym (map-append (λ (x : Outcome). x.replies.items) old (o ∷ [])))
          (subst (λ x. Contains (replies_of old ++ x ∷ []) rs) (sym (all_same o.replies.items rs (sym is.told ∙ e)))
          (Contains-push (replies_of old) rs)));
    }
