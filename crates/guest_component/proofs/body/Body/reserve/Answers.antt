use Rattle.std.proofs.Common.{Result, Ok, Err, OnErr}
use Rattle.table_tree.specs.Stocks.{frames_of}
use Rattle.guest_component.proofs.InHand.{owned_after, taken, told, untaken}
use Rattle.guest_component.proofs.body.Body.reserve.Goals as goal

-- what is so where a result is a fault
if_err : {T E : Type 0} (r : Result T E) (P : Type 0) → P → OnErr r P
if_err (Ok x) P p = tt
if_err (Err e) P p = p

pub invariant_of-self-2 : goal.invariant_of-self-2
invariant_of-self-2 g c =
    let e = c.reserve.ensures in
    record {
      own = owned_after c.args.self.now c.reserve.new.self.tree c.reserve.new.pool c.need-need.result
          c.reserve.result e.stays e.room e.taken e.left;
    }

pub returns-in_err-reserve-clause-err : goal.returns-in_err-reserve-clause-err
returns-in_err-reserve-clause-err g c =
    if_err _ _
    (untaken c.args.self.now c.reserve.new.self.tree c.reserve.new.pool c.reserve.ensures.stays
    c.in_err-reserve.ensures.left.pool)

pub returns-clause-in_hand : goal.returns-clause-in_hand
returns-clause-in_hand g c =
    let e = c.reserve.ensures in
    let h = c.in_ok-reserve.ensures in
    taken c.args.self.now _ c.args.change c.need-need.result c.need-need.ensures.value e.stays.geometry e.stays.table
    e.room c.in_ok-reserve.field-0 c.free.ensures.pool h.planned h.taken

pub returns-clause-whole : goal.returns-clause-whole
returns-clause-whole g c =
    told c.args.self.now c.reserve.new.self.tree c.reserve.new.pool c.need-need.result
    (frames_of c.in_ok-reserve.field-0.spare.stock) c.reserve.ensures.stays c.in_ok-reserve.ensures.taken
