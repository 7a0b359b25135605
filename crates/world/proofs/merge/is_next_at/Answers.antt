use Rattle.std.proofs.Common.{◌≡◌, [], drop, slice_index, sym, ap, ◌∙◌, arith}
use Rattle.std.specs.Prelude.{Some, None}
use Rattle.world.specs.inner.Merging.{first_of}
use Rattle.world.proofs.Merging.{drop_past, get_of, log_here, log_past}
use Rattle.world.proofs.merge.is_next_at.Goals as goal

pub returns-then-i-logs : goal.returns-then-i-logs
returns-then-i-logs c =
    let logs = c.args.logs.now in
    let log =
    log_here logs c.args.i c.index-logs-i.result
    (get_of logs c.args.i c.index-logs-i.result c.if-i-logs.true c.index-logs-i.is)
    ∙ sym c.as_slice.ensures.value in
    let same = ap (λ l. first_of (drop (slice_index c.args.places.now c.args.i) l)) log in
    ((λ e. same ∙ c.is_next_in.ensures.0 e), (λ h. c.is_next_in.ensures.1 (sym same ∙ h)))

pub returns-else-i-logs : goal.returns-else-i-logs
returns-else-i-logs c = (
  (λ e. cc),
  (λ h.
      let empty = log_past c.args.logs.now c.args.i c.if-i-logs.false in
      let none : None ≡ Some c.args.call.now =
      sym
      (ap (λ l. first_of (drop (slice_index c.args.places.now c.args.i) l)) empty
      ∙ ap first_of (drop_past [] (slice_index c.args.places.now c.args.i) (omega arith)))
      ∙ h in
      absurd cc),
)
