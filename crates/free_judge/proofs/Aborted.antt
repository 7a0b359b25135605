-- A page that the model's host touched is mapped.
use Rattle.std.proofs.Common.{◌≡◌, ℕ, ◌+◌, ◌*◌, ◌-◌, ◌/◌, ◌%◌, ◌<◌, ◌≤◌, refl, ap, sym, ◌∙◌, subst, arith, inl, inr}
use Rattle.std.specs.Prelude.{Bool, true, false, is_some, Option, Some, None, if◌then◌else◌}
use Rattle.std.proofs.lemmas.Bool.Decides.{nat_tests}
use Rattle.std.proofs.lemmas.Nat.{div-add-mod'}
use Rattle.call_table.specs.declared.reply.Reply.{Reply}
use Rattle.call_table.specs.declared.step.Step.{Step}
use Rattle.call_table.specs.declared.step.Step.TheVariants.{HostAbort}
use Rattle.descriptor.specs.declared.Prot.TheVariants.{RWX}
use Rattle.descriptor.specs.declared.State.TheVariants.{Owned}
use Rattle.page_state.proofs.Common.{both}
use Rattle.page_state.proofs.Sizes.{size_some}
use Rattle.page_state.specs.Blocks.{block_at, first_page, span}
use Rattle.page_state.specs.declared.entry.Entry.{Entry}
use Rattle.page_state.specs.declared.layout.Region.{Region}
use Rattle.page_state.specs.Entries.{advance}
use Rattle.page_state.specs.EntryTests.{is_unmapped, leaf, device_leaf}
use Rattle.page_state.specs.Geometries.{block_pages}
use Rattle.page_state.specs.Layouts.{Layout}
use Rattle.page_state.specs.Map.{Map, is_within}
use Rattle.page_state.specs.Regions.{region_of, is_memory_kind}
use Rattle.page_state.specs.Tables.{edited, edited_map}
use Rattle.reference_model.proofs.conditions.Tests.{tested}
use Rattle.reference_model.specs.model.Changes.{change, edit_of}
use Rattle.reference_model.specs.model.Parts.{shared, lacks_slot}
use Rattle.reference_model.specs.model.Rules.{rule}
use Rattle.reference_model.specs.model.SharedRules.{abort_depth, abort_edit, abort_leaf}
use Rattle.reference_model.specs.model.State.{Contents}
use Rattle.reference_model.specs.model.Step.{changed, made, rule_of, shared_after, with_rows}
use Rattle.reference_model.specs.model.Used.{Used, put_back, used_of}
use Rattle.freedoms.specs.Ample.{StepsAmply, is_done, rule_fails}
use Rattle.freedoms.specs.Freedoms.{Touches}

in-block : (n page : ℕ) → 1 ≤ n → is_within (page / n * n) n page ≡ true
in-block n page h =
    let e : page / n * n + page % n ≡ page = div-add-mod' page n in
    let low : page % n < n = omega arith in
    at (page / n * n) (page % n) n page e low
  where
    at : (a b n p : ℕ) → a + b ≡ p → b < n → is_within a n p ≡ true
    at a b n p e h = grind (arith, nat_tests)

leaf-mapped : (b : Bool) (a k : ℕ) → is_unmapped (advance (if b then leaf RWX a Owned else device_leaf a) k) ≡ false
leaf-mapped true a k = refl
leaf-mapped false a k = refl

mapped-in : (c : Bool) (r : Region) (a k : ℕ) (e : Entry)
    → c ≡ true
    → is_unmapped (if c then advance (abort_leaf r a) k else e) ≡ false
mapped-in true r a k e h = leaf-mapped (is_memory_kind r.kind) a k
mapped-in false r a k e h = cc

by-mapped : (m : Map) (r : Region) (page : ℕ) (u : Bool)
    → is_unmapped (m page) ≡ u
    → abort_edit m (Some r) page
    ≡ (let b = block_at (abort_depth m r page) page in
    if u then change (first_page b) (span b) (abort_leaf r (first_page b)) else None)
unfolding abort_edit
by-mapped m r page u e =
    ap
    (λ (t : Bool). let b = block_at (abort_depth m r page) page in
    if t then change (first_page b) (span b) (abort_leaf r (first_page b)) else None) e

pub aborted : (m : Map) (o : Option Region) (page : ℕ)
    → is_some o ≡ true
    → is_unmapped (edited_map m (edit_of (abort_edit m o page)) page) ≡ false
aborted m None page h = cc
aborted m (Some r) page h = elim (both (is_unmapped (m page))) [
  | inl t ↦
      let b = block_at (abort_depth m r page) page in
      ap (λ c. is_unmapped (edited_map m (edit_of c) page)) (by-mapped m r page true t)
      ∙ mapped-in (is_within (first_page b) (span b) page) r (first_page b) (page - first_page b) (m page)
      (in-block (block_pages (abort_depth m r page)) page (size_some (abort_depth m r page)))
  | inr t ↦ ap (λ c. is_unmapped (edited_map m (edit_of c) page)) (by-mapped m r page false t) ∙ t
]

module _ (l : Layout) (s : Contents) (cpu page : ℕ) where
  abbrev x : Used
  x = used_of shared None cpu s

  made-mapped : rule_fails l cpu None (HostAbort page) x ≡ None
      → is_unmapped ((put_back shared None cpu s (made l cpu None (HostAbort page) x)).shared.host.map page) ≡ false
  unfolding made with_rows changed shared_after edited rule used_of put_back
  made-mapped passes =
      aborted s.shared.host.map (region_of l.memory page) page
      (tested (rule_of l cpu None (HostAbort page) x) (lacks_slot shared None) passes).valid

  pub abort-mapped : (reply : Reply) (t : Contents)
      → StepsAmply l s cpu (HostAbort page) reply t
      → is_done reply ≡ true
      → is_unmapped (t.shared.host.map page) ≡ false
  abort-mapped reply t p done = elim (p.answers) [
    | inl a ↦ ap (λ (u : Contents). is_unmapped (u.shared.host.map page))
        (p.next ∙ ap (put_back shared None cpu s) a.next)
        ∙ made-mapped a.passes
    | inr (inl a) ↦ let bad : false ≡ true = sym (ap is_done a.reply_is) ∙ done in cc
    | inr (inr a) ↦ elim (a.reply_is) [
      | inl e ↦ let bad : false ≡ true = sym (ap is_done e) ∙ done in cc
      | inr e ↦ let bad : false ≡ true = sym (ap is_done e) ∙ done in cc
    ]
  ]

pub steps-touch : (l : Layout) (s t : Contents) (cpu : ℕ) (step : Step) (reply : Reply)
    → StepsAmply l s cpu step reply t
    → Touches step reply t
steps-touch l s t cpu step reply p page e done =
    abort-mapped l s cpu page reply t (subst (λ (k : Step). StepsAmply l s cpu k reply t) e p) done
