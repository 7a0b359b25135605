use Rattle.std.proofs.Common.{ap, sym, subst, length, ◌∙◌, ◌<◌, List, ℕ}
use Rattle.std.specs.Prelude.{All}
use Rattle.std.proofs.lemmas.List.Elements.{All-more}
use Rattle.page_state.specs.LayoutView.{layout_of}
use Rattle.page_state.specs.declared.entry.Run.{Run}
use Rattle.ghost_spec.specs.declared.parts.GhostGuest.{GhostGuest}
use Rattle.ghost_legal.specs.Pages.{IsGoodRun}
use Rattle.ghost_legal.proofs.Found.{guest-of, page-fault}
use Rattle.ghost_legal.proofs.Lows.{good-runs, pages-fit}
use Rattle.ghost_legal.proofs.Steady.{all_taken}
use Rattle.ghost_legal.proofs.guests.first_guest_page.Goals as goal

pub returns-in-Some : goal.returns-in-Some
returns-in-Some c =
    let g = c.args.state.now in
    let gs = c.as_slice-guests.result.now in
    let e = c.as_slice-guests.ensures.value in
    let less = subst (λ (hs : List GhostGuest). c.loop-v.v < length hs) e c.loop-v-test.true in (
      c.requires.tables,
      page-fault
          (layout_of g.layout) g c.loop-v.v _ c.pages-pages.result c.index-guests-v.result c.as_slice.result.now
          (guest-of g gs c.loop-v.v _ e c.index-guests-v.is less) c.pages-pages.ensures
          (c.as_slice.ensures.value
          ∙ ap (λ (x : GhostGuest). x.tree.runs.items) (sym c.index-guests-v.is)) c.in-Some.ensures,
    )

pub loop-v-preserved : goal.loop-v-preserved
loop-v-preserved c =
    All-more
    (λ (x : GhostGuest). All (IsGoodRun c.pages-pages.result) x.tree.runs.items) c.as_slice-guests.result.now
    c.loop-v.v c.index-guests-v.result c.loop-v-test.true c.loop-v.invariant
    (subst (λ (rs : List Run). All (IsGoodRun c.pages-pages.result) rs) c.as_slice.ensures.value c.in_default.ensures)

pub returns : goal.returns
returns c =
    let g = c.args.state.now in
    let all =
    all_taken
    (λ (x : GhostGuest). All (IsGoodRun c.pages-pages.result) x.tree.runs.items) c.as_slice-guests.result.now
    c.loop-v.v c.loop-v-test.false c.loop-v.invariant in
    let here =
    subst
    (λ (gs : List GhostGuest). All
    (λ x. All (IsGoodRun c.pages-pages.result) x.tree.runs.items) gs) c.as_slice-guests.ensures.value all in (
      good-runs c.pages-pages.result g.guests.items c.requires.kept.guests here,
      pages-fit (layout_of g.layout) g.guests.items c.requires.kept.guests_count
          (subst (λ (n : ℕ). All (λ x. All (IsGoodRun n) x.tree.runs.items) g.guests.items) c.pages-pages.ensures here),
    )
