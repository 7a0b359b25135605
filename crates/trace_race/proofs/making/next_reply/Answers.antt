use Rattle.std.proofs.Common.{arith, ◌≡◌, ◌∙◌, ◌<◌, ap, get_or, length, refl, subst, sym, slice_get, Some}
use Rattle.std.specs.Prelude.{slice_index}
use Rattle.std.proofs.lemmas.Option.{slice_get_read}
use Rattle.trace_race.specs.declared.workers.Done.{Done}
use Rattle.trace_race.proofs.Made.{at_place, read_number, some-same}
use Rattle.trace_race.proofs.making.next_reply.Goals as goal

pub overflow_add-cursor : goal.overflow_add-cursor
overflow_add-cursor c =
    let d = at_place c.args.done.now c.args.cpu c.requires.inside.0 in
    let few = c.requires.left d.0 d.1 in
    let long = d.0.replies.ok.0 in
    let small = d.0.replies.small in
    let is =
    read_number c.args.cursors.now.items c.args.cpu c.index-cursor.result.now
    (omega (arith, c.requires.inside.0, c.requires.inside.1)) c.index-cursor.ensures in
    omega (arith, few, long, d.0.replies.ok.1, small, is)

pub index-requires : goal.index-requires
index-requires c =
    let there : slice_get c.args.done.now c.args.cpu ≡ Some c.index-done-cpu.result =
    slice_get_read c.args.done.now
    (length c.args.done.now) c.args.cpu c.index-done-cpu.result refl c.requires.inside.0 c.index-done-cpu.is in
    let few = c.requires.left c.index-done-cpu.result there in
    let long = c.index-done-cpu.result.replies.ok.0 in
    let is =
    read_number c.args.cursors.now.items c.args.cpu c.index-cursor.result.now
    (omega (arith, c.requires.inside.0, c.requires.inside.1)) c.index-cursor.ensures in
    subst (λ (d : Done). c.index-cursor.result.now < d.replies.len) c.index-done-cpu.is (omega (arith, few, long, is))

pub returns-clause-reply : goal.returns-clause-reply
returns-clause-reply c = λ d there.
    let here : slice_get c.args.done.now c.args.cpu ≡ Some c.index-done-cpu.result =
    slice_get_read c.args.done.now
    (length c.args.done.now) c.args.cpu c.index-done-cpu.result refl c.requires.inside.0 c.index-done-cpu.is in
    let same : c.index-done-cpu.result ≡ d = some-same (sym here ∙ there) in
    let few = c.requires.left c.index-done-cpu.result here in
    let is =
    read_number c.args.cursors.now.items c.args.cpu c.index-cursor.result.now
    (omega (arith, c.requires.inside.0, c.requires.inside.1)) c.index-cursor.ensures in
    let read =
    slice_get_read c.index-done-cpu.result.replies.items
    (length c.index-done-cpu.result.replies.items) c.index-cursor.result.now c.index.result.now refl
    (omega (arith, few, is))
    (c.index.ensures
    ∙ ap (λ (x : Done). get_or x.replies.items c.index-cursor.result.now c.index.result.now)
    (sym c.index-done-cpu.is)) in
    subst
    (λ (d : Done). slice_get d.replies.items (slice_index c.args.cursors.now.items c.args.cpu)
    ≡ Some c.index.result.now) same
    (subst (λ n. slice_get c.index-done-cpu.result.replies.items n ≡ Some c.index.result.now) is read)
