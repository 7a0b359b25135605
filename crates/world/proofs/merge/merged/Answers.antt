use Rattle.std.proofs.Common.{rules, ◌≡◌, [], ℕ, length, List, sym, subst}
use Rattle.call_table.specs.declared.reply.Call.{Call}
use Rattle.call_table.specs.declared.reply.Reply.{Reply}
use Rattle.call_table.specs.declared.step.Step.{Step}
use Rattle.world.specs.inner.Merging.{left, whole, LogName, IsNext}
use Rattle.world.proofs.Merging.{IsWhyIllegal, fewer, has_merged, next_inside, no_list, told_all, told_more, told_none}
use Rattle.world.proofs.merge.merged.Goals as goal

pub loop-call-init : goal.loop-call-init
loop-call-init c = record {
  placed = c.in-Ok.ensures.placed;
  begun =
      subst (IsWhyIllegal c.args.histories.now c.in-Ok.places) (sym c.new-told.ensures.items)
      (told_none c.args.histories.now c.in-Ok.places c.in-Ok.ensures.start);
}

pub loop-call-smaller : goal.loop-call-smaller
loop-call-smaller c =
    let h = c.args.histories.now in
    let call : Call = c.in-Some.call in
    fewer (left h c.loop-call.places) (left h c.advance.new.places) call c.in-Some.ensures.next c.advance.ensures.left
    (length h.cpus.items) (next_inside h c.loop-call.places call c.in-Some.ensures.next)

pub loop-call-preserved : goal.loop-call-preserved
loop-call-preserved c =
    let h = c.args.histories.now in
    let told : List (ℕ × Step × Reply) = c.loop-call.told.items in
    record {
      placed = c.advance.ensures.placed;
      begun =
          subst (IsWhyIllegal h c.advance.new.places) (sym c.in-Ok-push.ensures.items)
          (told_more h c.loop-call.places c.advance.new.places told c.in-Some.call c.loop-call.invariant.begun
          c.in-Some.ensures.next c.advance.ensures.left);
    }

pub returns-then-all_given-clause-merged : goal.returns-then-all_given-clause-merged
returns-then-all_given-clause-merged c =
    let h = c.args.histories.now in
    let empty : (x : LogName) → left h c.loop-call.places x ≡ [] = search rules in
    told_all h c.loop-call.places c.loop-call.told.items c.loop-call.invariant.begun empty

pub returns-clause-no_order : goal.returns-clause-no_order
returns-clause-no_order c e all m =
    let h = c.args.histories.now in
    let g = c.loop-call.places in
    let none : (d : Call) → IsNext (left h g) d → ⊥ = search rules in
    let more : ((x : LogName) → left h g x ≡ []) → ⊥ = search rules in
    no_list (whole h) (left h g) c.loop-call.invariant.begun.done c.loop-call.invariant.begun.begun none more all
    (has_merged h all m)
