use Rattle.std.proofs.Common.{◌≡◌, ℕ, Bool, true, false, not, Option, Some, Ok, refl, sym, ap, ◌∙◌, arith, rules}
use Rattle.page_state.specs.declared.entry.Entry.{Entry}
use Rattle.page_state.specs.declared.layout.Region.{Region}
use Rattle.page_state.specs.Blocks.{block_at, first_page, span}
use Rattle.page_state.specs.EntryTests.{is_annotated, is_mapped, is_unmapped}
use Rattle.page_state.specs.Map.{Map}
use Rattle.page_state.specs.Regions.{region_of}
use Rattle.page_state.specs.Runs.{map_of}
use Rattle.reference_model.specs.declared.changes.MapChange.{MapChange}
use Rattle.reference_model.specs.model.Changes.{change, no_changes}
use Rattle.reference_model.specs.model.Rules.{rule}
use Rattle.reference_model.specs.model.SharedRules.{abort_depth, abort_edit, abort_leaf}
use Rattle.page_state.proofs.Regions.{region_low, region_holds}
use Rattle.ghost_spec.proofs.rules.host_abort.Goals as goal

not-not : (b : Bool) → not (not b) ≡ b
not-not true = refl
not-not false = refl

-- the change of the block that holds the page
same-edit : (m : Map) (o : Option Region) (r : Region) (page d first count : ℕ) (e : Entry)
    → o ≡ Some r
    → d ≡ abort_depth m r page
    → first ≡ first_page (block_at d page)
    → count ≡ span (block_at d page)
    → e ≡ abort_leaf r first
    → is_mapped (m page) ≡ false
    → change first count e ≡ abort_edit m o page
unfolding abort_edit
same-edit m o r page d first count e there depth start long leaf mapped =
    rw (there, leaf, start, long, depth, sym (not-not (is_unmapped (m page))) ∙ ap not mapped) refl

pub abort_depth-requires-clause-page : goal.abort_depth-requires-clause-page
abort_depth-requires-clause-page c =
    let there : region_of c.args.layout.now.map c.args.page ≡ Some c.in-Some.region =
    sym c.region_of.ensures ∙ c.in-Some.is in
    let low = region_low c.args.layout.now.map c.regions-regions.ensures.accepted c.args.page c.in-Some.region there in
    let holds =
    (region_holds c.args.layout.now.map c.regions-regions.ensures.accepted c.args.page c.in-Some.region there).1 in
    omega (arith, low, holds)

pub abort_leaf-requires : goal.abort_leaf-requires
abort_leaf-requires c =
    let there : region_of c.args.layout.now.map c.args.page ≡ Some c.in-Some.region =
    sym c.region_of.ensures ∙ c.in-Some.is in
    let low = region_low c.args.layout.now.map c.regions-regions.ensures.accepted c.args.page c.in-Some.region there in
    let holds =
    (region_holds c.args.layout.now.map c.regions-regions.ensures.accepted c.args.page c.in-Some.region there).1 in
    omega (arith, low, holds, c.block_of-pages.ensures.low)

pub returns-in_default-clause-decided : goal.returns-in_default-clause-decided
unfolding rule
returns-in_default-clause-decided c = λ cpu slot. rw (sym c.region_of.ensures ∙ c.in_default.is) refl

pub returns-then-is_annotated-clause-decided : goal.returns-then-is_annotated-clause-decided
unfolding rule
returns-then-is_annotated-clause-decided c =
    λ cpu slot. rw (
      sym c.region_of.ensures ∙ c.in-Some.is,
      ap is_annotated (sym c.host_entry-entry.ensures.value)
          ∙ sym c.is_annotated.ensures ∙ c.if-is_annotated.true,
    ) refl

pub returns-then-is_mapped-clause-decided : goal.returns-then-is_mapped-clause-decided
unfolding rule abort_edit
returns-then-is_mapped-clause-decided c =
    λ cpu slot. rw (
      sym c.region_of.ensures ∙ c.in-Some.is,
      ap is_annotated (sym c.host_entry-entry.ensures.value)
          ∙ sym c.is_annotated.ensures ∙ c.if-is_annotated.false,
    )
    (search rules)

pub returns-clause-decided : goal.returns-clause-decided
unfolding rule
returns-clause-decided c =
    let there = sym c.region_of.ensures ∙ c.in-Some.is in
    let m = map_of c.args.used.now.shared.host.runs.items in
    let mapped = ap is_mapped (sym c.host_entry-entry.ensures.value) ∙ sym c.is_mapped.ensures ∙ c.if-is_mapped.false in
    λ cpu slot. rw (
      there,
      ap is_annotated (sym c.host_entry-entry.ensures.value) ∙ sym c.is_annotated.ensures
          ∙ c.if-is_annotated.false,
    )
    (ap (λ (h : Option MapChange). Ok (record no_changes { host = h }))
    (c.change.ensures
    ∙ same-edit m _ c.in-Some.region c.args.page c.abort_depth.result c.block_of-pages.result.first.0
    c.block_of-pages.result.count c.abort_leaf.result there c.abort_depth.ensures.value
    c.block_of-pages.ensures.first c.block_of-pages.ensures.count c.abort_leaf.ensures.value mapped))
