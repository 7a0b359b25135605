use Rattle.std.proofs.Common.{◌≡◌, ◌-◌, sym, ap, subst, arith, ◌∙◌, true}
use Rattle.page_state.specs.LayoutFaults.{IsAccepted}
use Rattle.page_state.specs.Regions.{is_memory_kind}
use Rattle.page_state.proofs.Regions.{region_low, region_holds, memory_within, memory_past}
use Rattle.page_state.proofs.layout.MemoryMap.+are_memory.Goals as goal

pub overflow_sub-rest : goal.overflow_sub-rest
overflow_sub-rest t c =
    let a = subst IsAccepted c.self.view_is c.self.invariant in
    let at = sym c.in-Some.ensures in
    let r = c.in-Some.region in
    let h = region_holds c.args.self.now a c.args.page r at in
    h.0

pub overflow_sub-rest-in-Memory : goal.overflow_sub-rest-in-Memory
overflow_sub-rest-in-Memory t c =
    let a = subst IsAccepted c.self.view_is c.self.invariant in
    let at = sym c.in-Some.ensures in
    let r = c.in-Some.region in
    let h = region_holds c.args.self.now a c.args.page r at in
    omega (arith, h)

pub returns-then-count-rest-clause-value : goal.returns-then-count-rest-clause-value
returns-then-count-rest-clause-value t c =
    let a = subst IsAccepted c.self.view_is c.self.invariant in
    let at = sym c.in-Some.ensures in
    let r = c.in-Some.region in
    let h = region_holds c.args.self.now a c.args.page r at in
    let m : is_memory_kind r.kind ≡ true = ap is_memory_kind c.in-Memory.is in
    sym (memory_within c.args.self.now a c.args.page r at m c.args.count (omega (arith, h, c.if-count-rest.true)))

pub returns-then-count-rest-clause-low : goal.returns-then-count-rest-clause-low
returns-then-count-rest-clause-low t c =
    let a = subst IsAccepted c.self.view_is c.self.invariant in
    let at = sym c.in-Some.ensures in
    let r = c.in-Some.region in
    let h = region_holds c.args.self.now a c.args.page r at in
    let l = region_low c.args.self.now a c.args.page r at in
    λ k n. omega (arith, h, l, c.if-count-rest.true)

pub overflow_add-page : goal.overflow_add-page
overflow_add-page t c =
    let a = subst IsAccepted c.self.view_is c.self.invariant in
    let at = sym c.in-Some.ensures in
    let r = c.in-Some.region in
    let h = region_holds c.args.self.now a c.args.page r at in
    let l = region_low c.args.self.now a c.args.page r at in
    omega (arith, h, l)

pub are_memory-requires : goal.are_memory-requires
are_memory-requires t c =
    let a = subst IsAccepted c.self.view_is c.self.invariant in
    let at = sym c.in-Some.ensures in
    let r = c.in-Some.region in
    let h = region_holds c.args.self.now a c.args.page r at in
    (omega (arith, h, c.if-count-rest.false, c.decreases), tt)

pub returns-else-count-rest-clause-value : goal.returns-else-count-rest-clause-value
returns-else-count-rest-clause-value t c =
    let a = subst IsAccepted c.self.view_is c.self.invariant in
    let at = sym c.in-Some.ensures in
    let r = c.in-Some.region in
    let h = region_holds c.args.self.now a c.args.page r at in
    let m : is_memory_kind r.kind ≡ true = ap is_memory_kind c.in-Memory.is in
    c.are_memory.ensures.value
    ∙ memory_past c.args.self.now a c.args.page r at m c.args.count
    (r.pages.count - (c.args.page - r.pages.first.0)) (omega (arith, h))
    (omega (arith, h, c.if-count-rest.false))
