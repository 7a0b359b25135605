use Rattle.std.proofs.Common.{◌≤◌, ◌<◌, ◌-◌, length, arith}
use Rattle.run_list.specs.Runs.{run_end}
use Rattle.run_list.proofs.Found.{begun_read, reach_read}
use Rattle.run_changes.proofs.GoesOn.{goes_inside, reach_inside, goes_outside, reach_outside, none_first, none_past}
use Rattle.run_changes.proofs.finding.until.Goals as goal

pub returns-then-place-eq0-clause-above : goal.returns-then-place-eq0-clause-above
returns-then-place-eq0-clause-above g c = c.next.ensures.above c.args.page c.requires.low c.begun-place.ensures.back

pub returns-then-place-eq0-clause-goes_on : goal.returns-then-place-eq0-clause-goes_on
returns-then-place-eq0-clause-goes_on g c =
    let rs = c.args.runs.now in
    let none =
    none_first g.V.Advance.advance g.V.Advance.CanAdvance g.V.PartialEq.eq g.met.V.Advance.laws rs
    c.requires.coarsest c.requires.reach c.args.page c.begun-place.result c.begun-place.ensures
    c.if-place-eq0.true in
    goes_outside g.V.Advance.advance g.V.Advance.CanAdvance g.V.PartialEq.eq g.met.V.Advance.laws rs
    c.requires.coarsest c.requires.reach c.args.page c.begun-place.result c.begun-place.ensures
    c.next.result c.next.ensures.from none (c.next.ensures.above c.args.page c.requires.low c.begun-place.ensures.back)

pub returns-then-place-eq0-clause-reach : goal.returns-then-place-eq0-clause-reach
returns-then-place-eq0-clause-reach g c =
    let rs = c.args.runs.now in
    let none =
    none_first g.V.Advance.advance g.V.Advance.CanAdvance g.V.PartialEq.eq g.met.V.Advance.laws rs
    c.requires.coarsest c.requires.reach c.args.page c.begun-place.result c.begun-place.ensures
    c.if-place-eq0.true in
    λ n h. reach_outside g.V.Advance.advance g.V.Advance.CanAdvance g.V.PartialEq.eq g.met.V.Advance.laws rs
    c.requires.coarsest c.requires.reach c.args.page c.begun-place.result c.begun-place.ensures
    c.next.result c.next.ensures.from none
    (c.next.ensures.above c.args.page c.requires.low c.begun-place.ensures.back) n

pub overflow_sub-page : goal.overflow_sub-page
overflow_sub-page g c =
    begun_read c.args.page c.begun-place.result c.args.runs.now c.index-runs-place.result c.index-runs-place.is
    c.begun-place.ensures
    (omega (arith, c.if-place-eq0.false))

pub returns-then-run-page-clause-above : goal.returns-then-run-page-clause-above
returns-then-run-page-clause-above g c =
    c.next-then-run-page.ensures.above c.args.page c.requires.low c.begun-place.ensures.back

pub returns-then-run-page-clause-goes_on : goal.returns-then-run-page-clause-goes_on
returns-then-run-page-clause-goes_on g c =
    let rs = c.args.runs.now in
    let x = c.index-runs-place.result in
    let b : x.pages.first.0 ≤ c.args.page =
    begun_read c.args.page c.begun-place.result rs x c.index-runs-place.is c.begun-place.ensures
    (omega (arith, c.if-place-eq0.false)) in
    let past : run_end x ≤ c.args.page = omega (arith, b, c.if-run-page.true) in
    let none =
    none_past g.V.Advance.advance g.V.Advance.CanAdvance g.V.PartialEq.eq g.met.V.Advance.laws rs c.requires.coarsest
    c.requires.reach c.args.page c.begun-place.result c.begun-place.ensures
    x c.index-runs-place.is (omega (arith, c.if-place-eq0.false)) past in
    goes_outside g.V.Advance.advance g.V.Advance.CanAdvance g.V.PartialEq.eq g.met.V.Advance.laws rs
    c.requires.coarsest c.requires.reach c.args.page c.begun-place.result c.begun-place.ensures
    c.next-then-run-page.result c.next-then-run-page.ensures.from none
    (c.next-then-run-page.ensures.above c.args.page c.requires.low c.begun-place.ensures.back)

pub returns-then-run-page-clause-reach : goal.returns-then-run-page-clause-reach
returns-then-run-page-clause-reach g c =
    let rs = c.args.runs.now in
    let x = c.index-runs-place.result in
    let b : x.pages.first.0 ≤ c.args.page =
    begun_read c.args.page c.begun-place.result rs x c.index-runs-place.is c.begun-place.ensures
    (omega (arith, c.if-place-eq0.false)) in
    let past : run_end x ≤ c.args.page = omega (arith, b, c.if-run-page.true) in
    let none =
    none_past g.V.Advance.advance g.V.Advance.CanAdvance g.V.PartialEq.eq g.met.V.Advance.laws rs c.requires.coarsest
    c.requires.reach c.args.page c.begun-place.result c.begun-place.ensures
    x c.index-runs-place.is (omega (arith, c.if-place-eq0.false)) past in
    λ n h. reach_outside g.V.Advance.advance g.V.Advance.CanAdvance g.V.PartialEq.eq g.met.V.Advance.laws rs
    c.requires.coarsest c.requires.reach c.args.page c.begun-place.result c.begun-place.ensures
    c.next-then-run-page.result c.next-then-run-page.ensures.from none
    (c.next-then-run-page.ensures.above c.args.page c.requires.low c.begun-place.ensures.back) n

pub overflow_add-result : goal.overflow_add-result
overflow_add-result g c =
    let place_in : c.begun-place.result - 1 < length c.args.runs.now =
    omega (arith, c.begun-place.ensures.within, c.if-place-eq0.false) in
    let reach =
    (reach_read g.V.Advance.CanAdvance
    (c.begun-place.result - 1) c.args.runs.now c.index-runs-place.result c.index-runs-place.is c.requires.reach
    place_in).pages in
    omega (arith, reach)

pub returns-clause-below : goal.returns-clause-below
returns-clause-below g c =
    let place_in : c.begun-place.result - 1 < length c.args.runs.now =
    omega (arith, c.begun-place.ensures.within, c.if-place-eq0.false) in
    (reach_read g.V.Advance.CanAdvance
    (c.begun-place.result - 1) c.args.runs.now c.index-runs-place.result c.index-runs-place.is c.requires.reach
    place_in).pages

pub returns-clause-goes_on : goal.returns-clause-goes_on
returns-clause-goes_on g c =
    let x = c.index-runs-place.result in
    let inside : c.args.page < run_end x = omega (arith, c.if-run-page.false) in
    goes_inside g.V.Advance.advance g.V.Advance.CanAdvance g.V.PartialEq.eq g.met.V.Advance.laws c.args.runs.now
    c.requires.coarsest c.requires.reach c.args.page c.begun-place.result c.begun-place.ensures
    x c.index-runs-place.is (omega (arith, c.if-place-eq0.false)) inside

pub returns-clause-reach : goal.returns-clause-reach
returns-clause-reach g c =
    let x = c.index-runs-place.result in
    let inside : c.args.page < run_end x = omega (arith, c.if-run-page.false) in
    reach_inside g.V.Advance.advance g.V.Advance.CanAdvance g.V.PartialEq.eq g.met.V.Advance.laws c.args.runs.now
    c.requires.coarsest c.requires.reach c.args.page c.begun-place.result c.begun-place.ensures
    x c.index-runs-place.is (omega (arith, c.if-place-eq0.false)) inside
