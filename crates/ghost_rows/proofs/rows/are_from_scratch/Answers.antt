use Rattle.std.proofs.Common.{◌≡◌, ◌∙◌, ℕ, true, sym}
use Rattle.page_state.specs.Layouts.{is_memory}
use Rattle.page_state.specs.LayoutView.{layout_of}
use Rattle.reference_model.specs.model.Owner.{row_of}
use Rattle.ghost_spec.specs.States.{contents_in}
use Rattle.ghost_rows.specs.ListedRows.{told}
use Rattle.ghost_rows.proofs.RowsKept.{map-told, told-map, rows-from, told-from}
use Rattle.ghost_rows.proofs.rows.are_from_scratch.Goals as goal

pub returns : goal.returns
returns c =
    let s = c.args.state.now in
    let l = layout_of s.layout in
    let same : (f : ℕ) → is_memory l f ≡ true → told c.in_ok-lists.lists f ≡ row_of l (contents_in s) f =
    λ f memory. c.in_ok-lists.ensures.told f (c.is_low_memory.ensures f memory) in (
      λ h f. rows-from (is_memory l f) _ _ _ (c.requires.frames f)
          (told-map c.in_ok-lists.lists c.args.rows.now (c.are_listed.ensures.0 h) f) (same f),
      λ h. c.are_listed.ensures.1
          (map-told c.in_ok-lists.lists c.args.rows.now c.requires.coarsest
          (λ f some. told-from (is_memory l f) _ _ _ (sym (c.requires.frames f) ∙ some) (h f) (same f))),
    )
