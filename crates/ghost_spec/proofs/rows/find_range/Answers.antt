use Rattle.std.proofs.Common.{◌≡◌, ℕ, ◌+◌, ◌&&◌, true, false, Option, refl, ap, ◌∙◌}
use Rattle.page_state.specs.declared.row.Row.{Row}
use Rattle.page_state.specs.LayoutView.{layout_of}
use Rattle.page_state.specs.Layouts.{Layout, is_memory}
use Rattle.page_state.specs.Map.{is_within}
use Rattle.reference_model.specs.model.State.{Guest, Cpu}
use Rattle.ghost_spec.specs.declared.shared.Shared.{Shared as SharedOfLists}
use Rattle.ghost_spec.specs.RowsFound.{row_found}
use Rattle.ghost_spec.specs.States.{guest_in}
use Rattle.ghost_spec.specs.Views.{cpu_in, row_in, shared_in_lists}
use Rattle.ghost_spec.proofs.RowsKept.{rows-more}
use Rattle.ghost_spec.proofs.rows.find_range.Goals as goal

-- the row doesn't hang on rows
same-row : (l : Layout) (s t : SharedOfLists) (slot : Option ℕ) (g : Guest) (f cpu : ℕ) (k : Cpu)
    → s.host ≡ t.host
    → s.hyp ≡ t.hyp
    → s.free ≡ t.free
    → row_found l (shared_in_lists s) slot g f cpu k ≡ row_found l (shared_in_lists t) slot g f cpu k
same-row l s t slot g f cpu k host hyp free = rw (host, hyp, free) refl

pub loop-i-preserved : goal.loop-i-preserved
loop-i-preserved c =
    let l = layout_of c.args.layout.now in
    let found : ℕ → Row =
    λ f. row_found l (shared_in_lists c.args.shared.now) c.args.slot (guest_in c.args.guest.now) f c.args.cpu
    (cpu_in c.args.own.now) in
    record {
      host = c.in_ok-find_row.ensures.host ∙ c.loop-i.invariant.host;
      hyp = c.in_ok-find_row.ensures.hyp ∙ c.loop-i.invariant.hyp;
      free = c.in_ok-find_row.ensures.free ∙ c.loop-i.invariant.free;
      reach = c.in_ok-find_row.ensures.kept.rows;
      rows =
          rows-more l c.args.range.first.0 c.loop-i.i found (λ f. row_in c.find_row.new.shared.rows.runs f)
          (λ f. row_in c.loop-i.shared.rows.runs f) (λ f. row_in c.args.shared.now.rows.runs f)
          (λ f. c.in_ok-find_row.ensures.rows f
          ∙ ap
          (λ (r : Row). elim (is_memory l f && is_within (c.args.range.first.0 + c.loop-i.i) 1 f)
          [ true ↦ r | false ↦ row_in c.loop-i.shared.rows.runs f ])
          (same-row l c.loop-i.shared c.args.shared.now c.args.slot (guest_in c.args.guest.now)
          (c.args.range.first.0 + c.loop-i.i) c.args.cpu
          (cpu_in c.args.own.now) c.loop-i.invariant.host c.loop-i.invariant.hyp c.loop-i.invariant.free))
          c.loop-i.invariant.rows;
    }
