-- Why a state isn't legal, told of its contents.
use Rattle.std.proofs.Common.{Option, Some, None, Result, Ok, Err, refl, true}
use Rattle.std.specs.Prelude.{IfOk, IfSome}
use Rattle.std.specs.declared.alloc.AllocError.{AllocError}
use Rattle.page_state.specs.LayoutView.{layout_of}
use Rattle.ghost_spec.specs.declared.lists.GhostLists.{GhostLists}
use Rattle.ghost_spec.specs.States.{contents_in, IsKept}
use Rattle.ghost_legal.specs.declared.finding.Illegal.{Illegal}
use Rattle.ghost_legal.specs.Blocks.{TreesHaveFirstBlocks}
use Rattle.ghost_legal.specs.Illegals.{IsIllegal}
use Rattle.ghost_legal.specs.Told.{IsWhyIllegal}

module _ (g : GhostLists) (kept : IsKept g) (blocks : TreesHaveFirstBlocks g) where
  why_some : (o : Option Illegal)
      → IfSome o (IsIllegal g)
      → IfSome o (IsWhyIllegal true (layout_of g.layout) (contents_in g))
  why_some None h = tt
  why_some (Some why) h =
      record { lists = g; kept = kept; blocks = blocks; layout = refl; contents = refl; told = h }

  pub why_illegal : (r : Result (Option Illegal) AllocError)
      → IfOk r (λ o. IfSome o (IsIllegal g))
      → IfOk r (λ o. IfSome o (IsWhyIllegal true (layout_of g.layout) (contents_in g)))
  why_illegal (Ok o) h = why_some o h
  why_illegal (Err e) h = tt
