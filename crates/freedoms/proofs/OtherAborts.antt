-- The abort of a host that isn't lazy: its rule asks which pages are unmapped, and no kind.
use Rattle.std.proofs.Common.{◌≡◌, ℕ, ◌+◌, refl, ap, sym, ◌∙◌, subst}
use Rattle.std.specs.Prelude.{Bool, true, false, not, ◌&&◌, nat_le, Option, Some, None, if◌then◌else◌}
use mathlib.Core.Path.{fun_ext}
use Rattle.call_table.specs.declared.step.Step.TheVariants.{HostAbort}
use Rattle.page_state.proofs.Common.{same2}
use Rattle.page_state.specs.declared.entry.Entry.{Entry}
use Rattle.page_state.specs.declared.entry.Entry.TheVariants.{Unmapped, Malformed, Annotated, Leaf}
use Rattle.page_state.specs.declared.layout.Region.{Region}
use Rattle.page_state.specs.Blocks.{block_at, first_page, is_empty, span}
use Rattle.page_state.specs.EntryTests.{is_annotated, is_unmapped}
use Rattle.page_state.specs.Layouts.{Layout}
use Rattle.page_state.specs.Map.{Map}
use Rattle.page_state.specs.Regions.{end_of, region_of}
use Rattle.page_state.specs.Search.{all_below}
use Rattle.page_state.specs.Trees.{Block}
use Rattle.reference_model.specs.declared.changes.MapChange.{MapChange}
use Rattle.reference_model.specs.model.Changes.{change, no_changes}
use Rattle.reference_model.specs.model.Rule.{reads}
use Rattle.reference_model.specs.model.Rules.{rule}
use Rattle.reference_model.specs.model.SharedRules.{host_abort, abort_depth, abort_edit, abort_leaf, may_map}
use Rattle.reference_model.specs.model.Used.{Used}
use Rattle.freedoms.proofs.Aborts.{annotated-leaves}
use Rattle.freedoms.proofs.Judged.{alike}
use Rattle.freedoms.proofs.More.{viewed}
use Rattle.freedoms.proofs.ViewRows.{RuleIsSeen, steps-seen}
use Rattle.freedoms.proofs.Views.{view-test}
use Rattle.freedoms.specs.declared.Freedoms.{Freedoms}
use Rattle.freedoms.specs.Ample.{StepsAmply}
use Rattle.freedoms.specs.Freedoms.{as_device, is_device, own_entry, view_entry}
use Rattle.freedoms.specs.Laws.{AbortOfAnyKind}

-- what such a host's view says of unmapped pages

device-unmapped : (e : Entry) → is_unmapped (as_device e) ≡ is_unmapped e
device-unmapped Unmapped = refl
device-unmapped Malformed = refl
device-unmapped (Annotated o) = refl
device-unmapped (Leaf f q k s) = refl

by-tests : (a d c : Bool) (own e : Entry)
    → c ≡ false
    → is_unmapped
    (let k = if a then (if d then as_device e else e) else e in if c then (if is_unmapped k then own else k) else k)
    ≡ is_unmapped e
by-tests true true false own e h = device-unmapped e
by-tests true false false own e h = refl
by-tests false d false own e h = refl
by-tests a d true own e h = cc

unlazy-unmapped : (w : Freedoms) (l : Layout) (p : ℕ) (e : Entry)
    → w.lazy_host ≡ false
    → is_unmapped (view_entry w l p e) ≡ is_unmapped e
unlazy-unmapped w l p e lazy = by-tests w.any_kind (is_device l p) w.lazy_host (own_entry l p) e lazy

-- an abort's edit, by which pages are unmapped

abbrev edit_by : Region → ℕ → ℕ → Bool → Option MapChange
edit_by r page d unmapped = let b = block_at d page in
    if unmapped then change (first_page b) (span b) (abort_leaf r (first_page b)) else None

abbrev depth_by : Bool → Bool → ℕ
depth_by two one = if two then 2 else if one then 1 else 0

module _ (m n : Map) (same : (p : ℕ) → is_unmapped (m p) ≡ is_unmapped (n p)) where
  empty-same : (b : Block) → is_empty m b ≡ is_empty n b
  unfolding is_empty
  empty-same b = ap (all_below (span b)) (fun_ext (λ i. same (first_page b + i)))

  may-same : (r : Region) (d page : ℕ) → may_map m r d page ≡ may_map n r d page
  may-same r d page = let b = block_at d page in
      ap (λ t. nat_le r.pages.first.0 (first_page b) && nat_le (first_page b + span b) (end_of r.pages) && t)
      (empty-same b)

  depth-same : (r : Region) (page : ℕ) → abort_depth m r page ≡ abort_depth n r page
  depth-same r page = same2 depth_by (may-same r 2 page) (may-same r 1 page)

  edit-same : (o : Option Region) (page : ℕ) → abort_edit m o page ≡ abort_edit n o page
  unfolding abort_edit
  edit-same None page = refl
  edit-same (Some r) page = same2 (edit_by r page) (depth-same r page) (same page)

-- so its rule reads what is seen

rule-seen : (w : Freedoms) (l : Layout) (cpu p : ℕ) → w.lazy_host ≡ false → RuleIsSeen w l cpu (HostAbort p)
unfolding rule
rule-seen w l cpu p lazy slot x z e =
    let at : (q : ℕ) → is_unmapped (x.shared.host.map q) ≡ is_unmapped (z.shared.host.map q) =
    λ q. sym (unlazy-unmapped w l q (x.shared.host.map q) lazy)
    ∙ ap (λ (u : Used). is_unmapped (u.shared.host.map q)) e
    ∙ unlazy-unmapped w l q (z.shared.host.map q) lazy in
    let kept : is_annotated (x.shared.host.map p) ≡ is_annotated (z.shared.host.map p) =
    sym (view-test w l is_annotated (annotated-leaves l) p (x.shared.host.map p))
    ∙ ap (λ (u : Used). is_annotated (u.shared.host.map p)) e
    ∙ view-test w l is_annotated (annotated-leaves l) p (z.shared.host.map p) in
    same2
    (λ (t : Bool) (c : Option MapChange). let r = host_abort p (reads l cpu slot x) in
    record r { allowed = record r.allowed { passes = not t }; changes = record no_changes { host = c } }) kept
    (edit-same x.shared.host.map z.shared.host.map at (region_of l.memory p) p)

pub abort_of_any_kind : AbortOfAnyKind
abort_of_any_kind w l before legal cpu p reply after lazy begins is = (
  λ j.
      let d = (alike l j.state cpu (HostAbort p) j.told j.legal refl).down j.next j.steps in
      let v = (steps-seen w l j.state cpu (HostAbort p) j.told (rule-seen w l cpu p lazy)).down d.0 d.1 in
      record {
        next = v.0;
        told = j.told;
        steps =
            subst (λ s. StepsAmply l s cpu (HostAbort p) j.told v.0) (sym j.begins) v.1;
        says = j.says;
        ends = sym v.2
            ∙ sym (viewed w l j.next d.0 d.2) ∙ j.ends;
      },
  λ j.
      let v =
      (steps-seen w l legal cpu (HostAbort p) j.told (rule-seen w l cpu p lazy)).up j.next
      (subst (λ s. StepsAmply l s cpu (HostAbort p) j.told j.next) begins j.steps) in
      let u = (alike l legal cpu (HostAbort p) j.told is refl).up v.0 v.1 in
      record {
        state = legal;
        next = u.0;
        told = j.told;
        begins = begins;
        itself = λ r. cc;
        legal = is;
        steps = u.1;
        says = j.says;
        ends = viewed w l u.0 v.0 u.2 ∙ v.2 ∙ j.ends;
        mapped = λ z. let bad : false ≡ true =
            sym lazy ∙ z in
            cc;
      },
)
