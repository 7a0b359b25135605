use Rattle.std.proofs.Common.{◌≡◌, ℕ, ◌+◌, ◌<◌, ◌&&◌, ◌∙◌, true, false, List, None, get_or, length, ap, refl, subst, sym, arith}
use Rattle.std.proofs.lemmas.List.{get_or_default}
use Rattle.std.proofs.lemmas.Result.{IfOk-from_err}
use Rattle.page_state.specs.declared.entry.PageRange.{PageRange}
use Rattle.page_state.specs.declared.layout.Region.{Region}
use Rattle.page_state.specs.declared.row.Row.{Row}
use Rattle.page_state.specs.Layouts.{Layout, is_memory}
use Rattle.page_state.specs.LayoutView.{layout_of}
use Rattle.page_state.specs.Regions.{is_in_range}
use Rattle.page_state.proofs.Cases.{by_lt, by_test}
use Rattle.reference_model.specs.model.State.{no_cpu, no_guest}
use Rattle.ghost_trees.specs.KeptTrees.{IsKeptTree}
use Rattle.ghost_spec.specs.declared.shared.Shared.{Shared as SharedOfLists}
use Rattle.ghost_spec.specs.RowsFound.{row_found}
use Rattle.ghost_spec.specs.Views.{row_in, shared_in_lists}
use Rattle.ghost_spec.proofs.Starts.{region-of-memory}
use Rattle.ghost_spec.proofs.rows.find_all.Goals as goal

-- the row doesn't hang on rows
same-row : (l : Layout) (s t : SharedOfLists) (f : ℕ)
    → s.host ≡ t.host
    → s.hyp ≡ t.hyp
    → s.free ≡ t.free
    → row_found l (shared_in_lists s) None no_guest f 0 no_cpu
    ≡ row_found l (shared_in_lists t) None no_guest f 0 no_cpu
same-row l s t f host hyp free = rw (host, hyp, free) refl

-- one region more
found-more : (l : Layout) (rs : List Region) (i : ℕ) (r : PageRange) (after before told found : ℕ → Row)
    → ((k : ℕ) (d : Region) → k ≡ i → (get_or rs k d).pages ≡ r)
    → ((f : ℕ) → after f ≡ elim (is_memory l f && is_in_range r f) [ true ↦ told f | false ↦ before f ])
    → ((f : ℕ) → told f ≡ found f)
    → ((f k : ℕ) (d : Region)
    → k < i
    → is_in_range (get_or rs k d).pages f ≡ true
    → is_memory l f ≡ true
    → before f ≡ found f)
    → (f k : ℕ) (d : Region)
    → k < i + 1
    → is_in_range (get_or rs k d).pages f ≡ true
    → is_memory l f ≡ true
    → after f ≡ found f
found-more l rs i r after before told found range rows same front f k d less holds memory = by_test (is_in_range r f)
    (λ t. rows f ∙ rw (memory, t) (same f))
    (λ t. rows f ∙ rw (memory, t) (by_lt k i (λ x. front f k d x holds memory)
    (λ x. let differs : true ≡ false =
    sym holds ∙ ap (λ (p : PageRange). is_in_range p f) (range k d (omega (arith, less, x))) ∙ t in
    cc)))

pub returns-clause-rows : goal.returns-clause-rows
returns-clause-rows c = λ f. by_test (is_memory (layout_of c.args.layout.now) f)
    (λ t. let r = region-of-memory c.args.layout.now.map f t in
    let within = r.within in
    let len = ap length c.regions-regions.ensures.value in
    rw t (c.loop-i.invariant.found f r.place r.region (omega (arith, within, c.loop-i-test.false, len)) r.holds t))
    (λ t. rw t (c.loop-i.invariant.same f t))

pub find_first-requires-clause-kept : goal.find_first-requires-clause-kept
find_first-requires-clause-kept c = record {
  host = subst IsKeptTree (sym c.loop-i.invariant.host) c.requires.kept.host;
  hyp = subst IsKeptTree (sym c.loop-i.invariant.hyp) c.requires.kept.hyp;
  rows = c.loop-i.invariant.reach;
}

pub returns-in_err-find_first-clause-rows : goal.returns-in_err-find_first-clause-rows
returns-in_err-find_first-clause-rows c = IfOk-from_err _ _ c.from_residual.ensures.0

pub returns-in_err-find_first-clause-host : goal.returns-in_err-find_first-clause-host
returns-in_err-find_first-clause-host c = c.find_first.ensures.host ∙ c.loop-i.invariant.host

pub returns-in_err-find_first-clause-hyp : goal.returns-in_err-find_first-clause-hyp
returns-in_err-find_first-clause-hyp c = c.find_first.ensures.hyp ∙ c.loop-i.invariant.hyp

pub returns-in_err-find_first-clause-free : goal.returns-in_err-find_first-clause-free
returns-in_err-find_first-clause-free c = c.find_first.ensures.free ∙ c.loop-i.invariant.free

pub returns-in_err-find_first-clause-kept : goal.returns-in_err-find_first-clause-kept
returns-in_err-find_first-clause-kept c = c.find_first.ensures.kept

pub returns-clause-host : goal.returns-clause-host
returns-clause-host c = c.loop-i.invariant.host

pub returns-clause-hyp : goal.returns-clause-hyp
returns-clause-hyp c = c.loop-i.invariant.hyp

pub returns-clause-free : goal.returns-clause-free
returns-clause-free c = c.loop-i.invariant.free

pub returns-clause-kept : goal.returns-clause-kept
returns-clause-kept c = record {
  host = subst IsKeptTree (sym c.loop-i.invariant.host) c.requires.kept.host;
  hyp = subst IsKeptTree (sym c.loop-i.invariant.hyp) c.requires.kept.hyp;
  rows = c.loop-i.invariant.reach;
}

pub loop-i-init : goal.loop-i-init
loop-i-init c = record {
  host = refl;
  hyp = refl;
  free = refl;
  reach = c.requires.kept.rows;
  same = λ f e. refl;
  found = λ f k d less holds memory. absurd (omega (arith, less));
}

pub loop-i-preserved : goal.loop-i-preserved
loop-i-preserved c = record {
  host = c.find_first.ensures.host ∙ c.loop-i.invariant.host;
  hyp = c.find_first.ensures.hyp ∙ c.loop-i.invariant.hyp;
  free = c.find_first.ensures.free ∙ c.loop-i.invariant.free;
  reach = c.find_first.ensures.kept.rows;
  same = λ f e. c.in_ok-find_first.ensures.rows f ∙ rw e (c.loop-i.invariant.same f e);
  found =
      found-more (layout_of c.args.layout.now) c.args.layout.now.map.regions c.loop-i.i _
      (λ f. row_in c.find_first.new.shared.rows.runs f) (λ f. row_in c.loop-i.shared.rows.runs f)
      (λ f. row_found (layout_of c.args.layout.now) (shared_in_lists c.loop-i.shared) None no_guest f 0 no_cpu)
      (λ f. row_found (layout_of c.args.layout.now)
      (shared_in_lists c.args.shared.now) None no_guest f 0 no_cpu)
      (λ k d e. rw (e, sym c.regions-regions.ensures.value)
      (ap (λ (x : Region). x.pages)
      (get_or_default c.regions-regions.result.now c.loop-i.i d _ c.loop-i-test.true)))
      (λ f. c.in_ok-find_first.ensures.rows f)
      (λ f. same-row
      (layout_of c.args.layout.now) c.loop-i.shared c.args.shared.now f c.loop-i.invariant.host
      c.loop-i.invariant.hyp c.loop-i.invariant.free) c.loop-i.invariant.found;
}
