use Rattle.std.proofs.Common.{◌≡◌, ◌^◌, ◌≤◌, refl, sym, subst, ◌∙◌, drop, arith}
use Rattle.std.proofs.lemmas.Result.{IfOk-from_err, IfOk-at_ok}
use Rattle.descriptor.specs.declared.Prot.{Prot}
use Rattle.descriptor.specs.declared.State.{State}
use Rattle.page_state.specs.declared.entry.Entry.{Entry}
use Rattle.page_state.specs.declared.entry.PageRange.{PageRange}
use Rattle.page_state.specs.EntryTests.{leaf}
use Rattle.page_state.specs.Layouts.{Layout, hyp_page}
use Rattle.page_state.specs.Regions.{end_of}
use Rattle.page_state.specs.Rows.{HasPageBelow}
use Rattle.page_state.specs.Tables.{edited}
use Rattle.reference_model.specs.model.Boot.{host_root, host_edit, host_need, hyp_root, hyp_edit, hyp_need, spare}
use Rattle.run_list.specs.Runs.{AreInReach}
use Rattle.ghost_trees.specs.Small.{HasLowFrames}
use Rattle.ghost_trees.specs.Trees.{tree_in_lists}
use Rattle.ghost_spec.specs.Views.{layout_with}
use Rattle.ghost_spec.proofs.BootLists.{booted}
use Rattle.ghost_spec.proofs.shared_at_boot.boot.Goals as goal

-- the carve-out ends low, and so do the hypervisor's pages of it and their frames
carve_end : (a b : PageRange) → a ≡ b → end_of b ≤ 2 ^ 26 → end_of a ≤ 2 ^ 26
carve_end a b e low = subst (λ (r : PageRange). end_of r ≤ 2 ^ 26) (sym e) low

carve_low : (a b : PageRange) → a ≡ b → end_of b ≤ 2 ^ 26 → end_of a ≤ 2 ^ 63
carve_low a b e low = let h = carve_end a b e low in omega arith

hyp_low : (a b hyp : PageRange)
    → a ≡ b
    → end_of b ≤ 2 ^ 26
    → hyp ≡ record { first = record { 0 = hyp_page a.first.0 }; count = a.count }
    → end_of hyp ≤ 2 ^ 63
hyp_low a b hyp e low is = let h = carve_end a b e low in
    subst (λ (r : PageRange). end_of r ≤ 2 ^ 63) (sym is) (omega arith)

frames_low : (a b hyp : PageRange) (entry : Entry) (p : Prot) (s : State)
    → a ≡ b
    → end_of b ≤ 2 ^ 26
    → hyp ≡ record { first = record { 0 = hyp_page a.first.0 }; count = a.count }
    → entry ≡ leaf p a.first.0 s
    → HasLowFrames entry hyp.count
frames_low a b hyp entry p s e low is leaf_is =
    subst (λ (r : PageRange). HasLowFrames entry r.count) (sym is)
    (subst (λ (x : Entry). HasLowFrames x a.count) (sym leaf_is) (carve_low a b e low))

pub need_at_boot-requires-clause-pages : goal.need_at_boot-requires-clause-pages
need_at_boot-requires-clause-pages c =
    carve_low c.carve-carve.result c.args.memory.now.carve c.carve-carve.ensures.value c.carve-carve.ensures.low

pub need_at_boot-requires-clause-frames : goal.need_at_boot-requires-clause-frames
need_at_boot-requires-clause-frames c =
    subst (λ (e : Entry). HasLowFrames e c.carve-carve.result.count) (sym c.host_entry.ensures) tt

pub tree_at_boot-host-requires-clause-pages : goal.tree_at_boot-host-requires-clause-pages
tree_at_boot-host-requires-clause-pages c =
    carve_low c.carve-carve.result c.args.memory.now.carve c.carve-carve.ensures.value c.carve-carve.ensures.low

pub tree_at_boot-host-requires-clause-frames : goal.tree_at_boot-host-requires-clause-frames
tree_at_boot-host-requires-clause-frames c =
    subst (λ (e : Entry). HasLowFrames e c.carve-carve.result.count) (sym c.host_entry-2.ensures) tt

pub need_at_boot-requires-2-clause-pages : goal.need_at_boot-requires-2-clause-pages
need_at_boot-requires-2-clause-pages c =
    hyp_low c.carve-carve.result c.args.memory.now.carve c.hyp_range-hyp_pages.result c.carve-carve.ensures.value
    c.carve-carve.ensures.low c.hyp_range-hyp_pages.ensures

pub need_at_boot-requires-2-clause-frames : goal.need_at_boot-requires-2-clause-frames
need_at_boot-requires-2-clause-frames c =
    frames_low c.carve-carve.result c.args.memory.now.carve c.hyp_range-hyp_pages.result c.hyp_entry.result _ _
    c.carve-carve.ensures.value c.carve-carve.ensures.low c.hyp_range-hyp_pages.ensures c.hyp_entry.ensures

pub tree_at_boot-hyp-requires-clause-pages : goal.tree_at_boot-hyp-requires-clause-pages
tree_at_boot-hyp-requires-clause-pages c =
    hyp_low c.carve-carve.result c.args.memory.now.carve c.hyp_range-hyp_pages.result c.carve-carve.ensures.value
    c.carve-carve.ensures.low c.hyp_range-hyp_pages.ensures

pub tree_at_boot-hyp-requires-clause-frames : goal.tree_at_boot-hyp-requires-clause-frames
tree_at_boot-hyp-requires-clause-frames c =
    frames_low c.carve-carve.result c.args.memory.now.carve c.hyp_range-hyp_pages.result c.hyp_entry-2.result _ _
    c.carve-carve.ensures.value c.carve-carve.ensures.low c.hyp_range-hyp_pages.ensures c.hyp_entry-2.ensures

pub frames_from-requires : goal.frames_from-requires
frames_from-requires c =
    carve_low c.carve-carve.result c.args.memory.now.carve c.carve-carve.ensures.value c.carve-carve.ensures.low

pub returns-then-not-is_enough-clause-enough : goal.returns-then-not-is_enough-clause-enough
returns-then-not-is_enough-clause-enough c =
    let host : c.in_ok-host_need.host_need ≡ host_need (layout_with c.args.memory.now c.args.config c.args.depth) =
    rw (c.host_entry.ensures, c.carve-carve.ensures.value) at c.in_ok-host_need.ensures in
    let hyp : c.in_ok-hyp_need.hyp_need ≡ hyp_need (layout_with c.args.memory.now c.args.config c.args.depth) =
    rw
    (c.hyp_range-hyp_pages.ensures, c.hyp_entry.ensures, c.carve-carve.ensures.value) at
    c.in_ok-hyp_need.ensures in
    let enough = rw (host, hyp, c.carve-carve.ensures.value) at c.is_enough.ensures in
    (λ e. cc, λ h. sym c.if-not-is_enough.true ∙ enough.1 h)

pub returns-clause-enough : goal.returns-clause-enough
returns-clause-enough c =
    let host : c.in_ok-host_need.host_need ≡ host_need (layout_with c.args.memory.now c.args.config c.args.depth) =
    rw (c.host_entry.ensures, c.carve-carve.ensures.value) at c.in_ok-host_need.ensures in
    let hyp : c.in_ok-hyp_need.hyp_need ≡ hyp_need (layout_with c.args.memory.now c.args.config c.args.depth) =
    rw
    (c.hyp_range-hyp_pages.ensures, c.hyp_entry.ensures, c.carve-carve.ensures.value) at
    c.in_ok-hyp_need.ensures in
    let enough = rw (host, hyp, c.carve-carve.ensures.value) at c.is_enough.ensures in
    (λ e. enough.0 c.if-not-is_enough.false, λ h. refl)

pub returns-clause-shared : goal.returns-clause-shared
returns-clause-shared c =
    let l : Layout = layout_with c.args.memory.now c.args.config c.args.depth in
    let host_n : c.in_ok-host_need.host_need ≡ host_need l =
    rw (c.host_entry.ensures, c.carve-carve.ensures.value) at c.in_ok-host_need.ensures in
    let hyp_n : c.in_ok-hyp_need.hyp_need ≡ hyp_need l =
    rw
    (c.hyp_range-hyp_pages.ensures, c.hyp_entry.ensures, c.carve-carve.ensures.value) at
    c.in_ok-hyp_need.ensures in
    let trees = c.in_ok-free.ensures.second in
    let first : c.behind-spare.result.now ≡ spare l =
    rw (c.as_slice.ensures.value, c.in_ok-frames.ensures, c.carve-carve.ensures.value) at c.behind-spare.ensures in
    let rest : c.behind-rest.result.now ≡ drop (host_need l) (spare l) = rw (first, host_n) at c.behind-rest.ensures in
    let left : c.in_ok-free.free.items ≡ drop (hyp_need l) (drop (host_need l) (spare l)) =
    rw (c.behind.ensures, rest, hyp_n) at
    (IfOk-at_ok _ c.in_ok-free.ensures.first c.from_slice-free.ensures.items) in
    let host : tree_in_lists c.in_ok-free.host ≡ edited l.depth (host_root l) (host_edit l) (spare l) =
    rw (c.host_entry-2.ensures, first, c.carve-carve.ensures.value) at
    (IfOk-at_ok _ (IfOk-at_ok _ trees c.both.ensures.first) c.tree_at_boot-host.ensures.tree) in
    let hyp : tree_in_lists c.in_ok-free.hyp ≡ edited l.depth (hyp_root l) (hyp_edit l) (drop (host_need l) (spare l)) =
    rw (c.hyp_range-hyp_pages.ensures, c.hyp_entry-2.ensures, rest, c.carve-carve.ensures.value) at
    (IfOk-at_ok _ (IfOk-at_ok _ trees c.both.ensures.second) c.tree_at_boot-hyp.ensures.tree) in
    booted l
    (record {
      host = c.in_ok-free.host;
      hyp = c.in_ok-free.hyp;
      free = c.in_ok-free.free;
      rows = c.new.result;
    }) host hyp left c.new.ensures

pub returns-clause-kept : goal.returns-clause-kept
returns-clause-kept c = record {
  host = IfOk-at_ok _ (IfOk-at_ok _ c.in_ok-free.ensures.second c.both.ensures.first) c.tree_at_boot-host.ensures.kept;
  hyp = IfOk-at_ok _ (IfOk-at_ok _ c.in_ok-free.ensures.second c.both.ensures.second) c.tree_at_boot-hyp.ensures.kept;
  rows = subst (AreInReach HasPageBelow) (sym c.new.ensures) tt;
}

pub returns-in_err-host_need-clause-enough : goal.returns-in_err-host_need-clause-enough
returns-in_err-host_need-clause-enough c = IfOk-from_err _ _ c.from_residual.ensures.0

pub returns-in_err-host_need-clause-shared : goal.returns-in_err-host_need-clause-shared
returns-in_err-host_need-clause-shared c = IfOk-from_err _ _ c.from_residual.ensures.0

pub returns-in_err-host_need-clause-kept : goal.returns-in_err-host_need-clause-kept
returns-in_err-host_need-clause-kept c = IfOk-from_err _ _ c.from_residual.ensures.0

pub returns-in_err-hyp_need-clause-enough : goal.returns-in_err-hyp_need-clause-enough
returns-in_err-hyp_need-clause-enough c = IfOk-from_err _ _ c.from_residual-in_err-hyp_need.ensures.0

pub returns-in_err-hyp_need-clause-shared : goal.returns-in_err-hyp_need-clause-shared
returns-in_err-hyp_need-clause-shared c = IfOk-from_err _ _ c.from_residual-in_err-hyp_need.ensures.0

pub returns-in_err-hyp_need-clause-kept : goal.returns-in_err-hyp_need-clause-kept
returns-in_err-hyp_need-clause-kept c = IfOk-from_err _ _ c.from_residual-in_err-hyp_need.ensures.0

pub returns-in_err-frames-clause-enough : goal.returns-in_err-frames-clause-enough
returns-in_err-frames-clause-enough c = IfOk-from_err _ _ c.from_residual-in_err-frames.ensures.0

pub returns-in_err-frames-clause-shared : goal.returns-in_err-frames-clause-shared
returns-in_err-frames-clause-shared c = IfOk-from_err _ _ c.from_residual-in_err-frames.ensures.0

pub returns-in_err-frames-clause-kept : goal.returns-in_err-frames-clause-kept
returns-in_err-frames-clause-kept c = IfOk-from_err _ _ c.from_residual-in_err-frames.ensures.0

pub returns-in_err-free-clause-enough : goal.returns-in_err-free-clause-enough
returns-in_err-free-clause-enough c = IfOk-from_err _ _ c.from_residual-in_err-free.ensures.0

pub returns-in_err-free-clause-shared : goal.returns-in_err-free-clause-shared
returns-in_err-free-clause-shared c = IfOk-from_err _ _ c.from_residual-in_err-free.ensures.0

pub returns-in_err-free-clause-kept : goal.returns-in_err-free-clause-kept
returns-in_err-free-clause-kept c = IfOk-from_err _ _ c.from_residual-in_err-free.ensures.0

pub returns-then-not-is_enough-clause-shared : goal.returns-then-not-is_enough-clause-shared
returns-then-not-is_enough-clause-shared c = tt

pub returns-then-not-is_enough-clause-kept : goal.returns-then-not-is_enough-clause-kept
returns-then-not-is_enough-clause-kept c = tt
