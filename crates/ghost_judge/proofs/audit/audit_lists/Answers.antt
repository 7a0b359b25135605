use Rattle.std.proofs.Common.{◌≡◌, ℕ, sym, refl, ◌∙◌}
use Rattle.page_state.specs.Runs.{map_of}
use Rattle.ghost_spec.specs.States.{contents_in}
use Rattle.ghost_judge.specs.declared.disagreement.TreeOf.TheVariants.{Host, Hyp}
use Rattle.ghost_judge.specs.inner.Found.{IsMapDifference, IsGuestDifference, guest_map}
use Rattle.ghost_judge.proofs.Audited.{isnt_found, answer_host, answer_hyp, answer_guest, answer_rows}
use Rattle.ghost_judge.proofs.audit.audit_lists.Goals as goal

pub returns-then-is_some-clause-none : goal.returns-then-is_some-clause-none
returns-then-is_some-clause-none c =
    (answer_host (contents_in c.args.kept.now) (contents_in c.args.walked.now) c.in_trees-host.result
    (sym c.is_some.ensures ∙ c.if-is_some.true) c.in_trees-host.ensures).0

pub returns-then-is_some-clause-first : goal.returns-then-is_some-clause-first
returns-then-is_some-clause-first c =
    (answer_host (contents_in c.args.kept.now) (contents_in c.args.walked.now) c.in_trees-host.result
    (sym c.is_some.ensures ∙ c.if-is_some.true) c.in_trees-host.ensures).1

pub returns-then-is_some-2-clause-none : goal.returns-then-is_some-2-clause-none
returns-then-is_some-2-clause-none c =
    let host =
    isnt_found (map_of c.args.kept.now.shared.host.runs.items ≡ map_of c.args.walked.now.shared.host.runs.items)
    (IsMapDifference Host (map_of c.args.kept.now.shared.host.runs.items)
    (map_of c.args.walked.now.shared.host.runs.items)) c.in_trees-host.result
    (sym c.is_some.ensures ∙ c.if-is_some.false) c.in_trees-host.ensures in
    (answer_hyp (contents_in c.args.kept.now) (contents_in c.args.walked.now) c.in_trees-hyp.result host
    (sym c.is_some-2.ensures ∙ c.if-is_some-2.true) c.in_trees-hyp.ensures).0

pub returns-then-is_some-2-clause-first : goal.returns-then-is_some-2-clause-first
returns-then-is_some-2-clause-first c =
    let host =
    isnt_found (map_of c.args.kept.now.shared.host.runs.items ≡ map_of c.args.walked.now.shared.host.runs.items)
    (IsMapDifference Host (map_of c.args.kept.now.shared.host.runs.items)
    (map_of c.args.walked.now.shared.host.runs.items)) c.in_trees-host.result
    (sym c.is_some.ensures ∙ c.if-is_some.false) c.in_trees-host.ensures in
    (answer_hyp (contents_in c.args.kept.now) (contents_in c.args.walked.now) c.in_trees-hyp.result host
    (sym c.is_some-2.ensures ∙ c.if-is_some-2.true) c.in_trees-hyp.ensures).1

pub returns-then-is_some-3-clause-none : goal.returns-then-is_some-3-clause-none
returns-then-is_some-3-clause-none c =
    let host =
    isnt_found (map_of c.args.kept.now.shared.host.runs.items ≡ map_of c.args.walked.now.shared.host.runs.items)
    (IsMapDifference Host (map_of c.args.kept.now.shared.host.runs.items)
    (map_of c.args.walked.now.shared.host.runs.items)) c.in_trees-host.result
    (sym c.is_some.ensures ∙ c.if-is_some.false) c.in_trees-host.ensures in
    let hyp =
    isnt_found (map_of c.args.kept.now.shared.hyp.runs.items ≡ map_of c.args.walked.now.shared.hyp.runs.items)
    (IsMapDifference Hyp (map_of c.args.kept.now.shared.hyp.runs.items)
    (map_of c.args.walked.now.shared.hyp.runs.items)) c.in_trees-hyp.result
    (sym c.is_some-2.ensures ∙ c.if-is_some-2.false) c.in_trees-hyp.ensures in
    (answer_guest (contents_in c.args.kept.now)
    (contents_in c.args.walked.now) c.args.kept.now.guests.items c.args.walked.now.guests.items (λ v. refl)
    (λ v. refl) host hyp c.in_guests-guest.result (sym c.is_some-3.ensures ∙ c.if-is_some-3.true)
    (rw (c.as_slice.ensures.value, c.as_slice-2.ensures.value) at c.in_guests-guest.ensures)).0

pub returns-then-is_some-3-clause-first : goal.returns-then-is_some-3-clause-first
returns-then-is_some-3-clause-first c =
    let host =
    isnt_found (map_of c.args.kept.now.shared.host.runs.items ≡ map_of c.args.walked.now.shared.host.runs.items)
    (IsMapDifference Host (map_of c.args.kept.now.shared.host.runs.items)
    (map_of c.args.walked.now.shared.host.runs.items)) c.in_trees-host.result
    (sym c.is_some.ensures ∙ c.if-is_some.false) c.in_trees-host.ensures in
    let hyp =
    isnt_found (map_of c.args.kept.now.shared.hyp.runs.items ≡ map_of c.args.walked.now.shared.hyp.runs.items)
    (IsMapDifference Hyp (map_of c.args.kept.now.shared.hyp.runs.items)
    (map_of c.args.walked.now.shared.hyp.runs.items)) c.in_trees-hyp.result
    (sym c.is_some-2.ensures ∙ c.if-is_some-2.false) c.in_trees-hyp.ensures in
    (answer_guest (contents_in c.args.kept.now)
    (contents_in c.args.walked.now) c.args.kept.now.guests.items c.args.walked.now.guests.items (λ v. refl)
    (λ v. refl) host hyp c.in_guests-guest.result (sym c.is_some-3.ensures ∙ c.if-is_some-3.true)
    (rw (c.as_slice.ensures.value, c.as_slice-2.ensures.value) at c.in_guests-guest.ensures)).1

pub returns-clause-none : goal.returns-clause-none
returns-clause-none c =
    let host =
    isnt_found (map_of c.args.kept.now.shared.host.runs.items ≡ map_of c.args.walked.now.shared.host.runs.items)
    (IsMapDifference Host (map_of c.args.kept.now.shared.host.runs.items)
    (map_of c.args.walked.now.shared.host.runs.items)) c.in_trees-host.result
    (sym c.is_some.ensures ∙ c.if-is_some.false) c.in_trees-host.ensures in
    let hyp =
    isnt_found (map_of c.args.kept.now.shared.hyp.runs.items ≡ map_of c.args.walked.now.shared.hyp.runs.items)
    (IsMapDifference Hyp (map_of c.args.kept.now.shared.hyp.runs.items)
    (map_of c.args.walked.now.shared.hyp.runs.items)) c.in_trees-hyp.result
    (sym c.is_some-2.ensures ∙ c.if-is_some-2.false) c.in_trees-hyp.ensures in
    let guests =
    isnt_found ((v : ℕ) → guest_map c.args.kept.now.guests.items v ≡ guest_map c.args.walked.now.guests.items v)
    (IsGuestDifference c.args.kept.now.guests.items c.args.walked.now.guests.items) c.in_guests-guest.result
    (sym c.is_some-3.ensures ∙ c.if-is_some-3.false)
    (rw (c.as_slice.ensures.value, c.as_slice-2.ensures.value) at c.in_guests-guest.ensures) in
    (answer_rows (contents_in c.args.kept.now)
    (contents_in c.args.walked.now) c.args.kept.now.guests.items c.args.walked.now.guests.items (λ v. refl)
    (λ v. refl) host hyp c.in_rows.result guests c.in_rows.ensures).0

pub returns-clause-first : goal.returns-clause-first
returns-clause-first c =
    let host =
    isnt_found (map_of c.args.kept.now.shared.host.runs.items ≡ map_of c.args.walked.now.shared.host.runs.items)
    (IsMapDifference Host (map_of c.args.kept.now.shared.host.runs.items)
    (map_of c.args.walked.now.shared.host.runs.items)) c.in_trees-host.result
    (sym c.is_some.ensures ∙ c.if-is_some.false) c.in_trees-host.ensures in
    let hyp =
    isnt_found (map_of c.args.kept.now.shared.hyp.runs.items ≡ map_of c.args.walked.now.shared.hyp.runs.items)
    (IsMapDifference Hyp (map_of c.args.kept.now.shared.hyp.runs.items)
    (map_of c.args.walked.now.shared.hyp.runs.items)) c.in_trees-hyp.result
    (sym c.is_some-2.ensures ∙ c.if-is_some-2.false) c.in_trees-hyp.ensures in
    let guests =
    isnt_found ((v : ℕ) → guest_map c.args.kept.now.guests.items v ≡ guest_map c.args.walked.now.guests.items v)
    (IsGuestDifference c.args.kept.now.guests.items c.args.walked.now.guests.items) c.in_guests-guest.result
    (sym c.is_some-3.ensures ∙ c.if-is_some-3.false)
    (rw (c.as_slice.ensures.value, c.as_slice-2.ensures.value) at c.in_guests-guest.ensures) in
    (answer_rows (contents_in c.args.kept.now)
    (contents_in c.args.walked.now) c.args.kept.now.guests.items c.args.walked.now.guests.items (λ v. refl)
    (λ v. refl) host hyp c.in_rows.result guests c.in_rows.ensures).1
