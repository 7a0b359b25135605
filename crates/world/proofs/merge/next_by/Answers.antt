use Rattle.std.proofs.Common.{rules, ◌≡◌, ◌≢◌, ◌<◌, ◌≤◌, true, length, sym, ap, ◌∙◌}
use Rattle.std.specs.Prelude.{Some, None, List}
use Rattle.std.proofs.lemmas.Option.{slice_get_past}
use Rattle.call_table.specs.declared.reply.Call.{Call}
use Rattle.reference_model.specs.model.Parts.{Part}
use Rattle.reference_model.specs.model.Rules.{call_uses}
use Rattle.world.specs.inner.Merging.{by, first_of, left, on}
use Rattle.world.proofs.Merging.{first_read, get_of, next_first, next_made, next_same}
use Rattle.world.proofs.merge.next_by.Goals as goal

pub returns-in_default-clause-none : goal.returns-in_default-clause-none
returns-in_default-clause-none c d e next =
    let h = c.args.histories.now in
    let g = c.args.places.now in
    let read : List Call = c.as_slice.result.now in
    let past : length read ≤ c.index-2.result.now = search rules in
    let none : first_of (left h g (by c.args.cpu)) ≡ None =
    first_read h g c.args.cpu c.index-2.result.now c.index.result.now read c.requires.inside c.index.ensures
    (search rules) c.index-2.ensures c.as_slice.ensures.value None
    (slice_get_past read c.index-2.result.now past) in
    let some = next_first h g c.args.cpu d e next in
    cc

pub returns-then-call-cpu-clause-none : goal.returns-then-call-cpu-clause-none
returns-then-call-cpu-clause-none c d e next =
    let h = c.args.histories.now in
    let g = c.args.places.now in
    let call : Call = c.in-Some.call.now in
    let read : List Call = c.as_slice.result.now in
    let below : c.index-2.result.now < length read = search rules in
    let first =
    first_read h g c.args.cpu c.index-2.result.now c.index.result.now read c.requires.inside c.index.ensures
    (search rules) c.index-2.ensures c.as_slice.ensures.value (Some call)
    (get_of read c.index-2.result.now call below c.in-Some.ensures.lookup.1) in
    let same : d ≡ call = next_same h g c.args.cpu d call e next first in
    let other : call.cpu ≢ c.args.cpu = search rules in
    other (sym (ap (λ (x : Call). x.cpu) same) ∙ e)

pub returns-then-is_next_on_parts-clause-next : goal.returns-then-is_next_on_parts-clause-next
returns-then-is_next_on_parts-clause-next c =
    let h = c.args.histories.now in
    let g = c.args.places.now in
    let call : Call = c.in-Some.call.now in
    let read : List Call = c.as_slice.result.now in
    let below : c.index-2.result.now < length read = search rules in
    let first =
    first_read h g c.args.cpu c.index-2.result.now c.index.result.now read c.requires.inside c.index.ensures
    (search rules) c.index-2.ensures c.as_slice.ensures.value (Some call)
    (get_of read c.index-2.result.now call below c.in-Some.ensures.lookup.1) in
    let own : call.cpu ≡ c.args.cpu = search rules in
    let parts : (p : Part) → call_uses p call ≡ true → first_of (left h g (on p)) ≡ Some call = search rules in
    next_made h g c.args.cpu call own first parts

pub returns-else-is_next_on_parts-clause-none : goal.returns-else-is_next_on_parts-clause-none
returns-else-is_next_on_parts-clause-none c d e next =
    let h = c.args.histories.now in
    let g = c.args.places.now in
    let call : Call = c.in-Some.call.now in
    let read : List Call = c.as_slice.result.now in
    let below : c.index-2.result.now < length read = search rules in
    let first =
    first_read h g c.args.cpu c.index-2.result.now c.index.result.now read c.requires.inside c.index.ensures
    (search rules) c.index-2.ensures c.as_slice.ensures.value (Some call)
    (get_of read c.index-2.result.now call below c.in-Some.ensures.lookup.1) in
    let same : d ≡ call = next_same h g c.args.cpu d call e next first in
    let parts : (p : Part) → call_uses p call ≡ true → first_of (left h g (on p)) ≡ Some call =
    λ p of. next (on p) (ap (call_uses p) same ∙ of) ∙ ap (λ (x : Call). Some x) same in
    search rules
