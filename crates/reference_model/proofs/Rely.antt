-- What a step may rely on.
use Rattle.std.proofs.Common.{◌≡◌, ℕ, ◌<◌, Option, Some, None, refl, sym, subst, ◌∙◌, ap}
use Rattle.std.proofs.Props.{props}
use Rattle.std.proofs.Math.Logic.{∥∥₁_elim}
use Rattle.std.specs.Coded.{×_prop, le_prop}
use Rattle.page_state.specs.declared.entry.Entry.{Entry}
use Rattle.page_state.specs.declared.entry.Entry.TheVariants.{Unmapped, Malformed, Annotated, Leaf}
use Rattle.page_state.specs.declared.row.Lent.{Lent}
use Rattle.call_table.specs.declared.step.Step.{Step}
use Rattle.page_state.specs.Entries.{IsRangeEntry}
use Rattle.page_state.specs.Layouts.{Layout}
use Rattle.page_state.specs.Rows.{HasLentBelow}
use Rattle.reference_model.specs.declared.changes.Changes.{Changes}
use Rattle.reference_model.specs.declared.changes.GuestChange.{GuestChange}
use Rattle.reference_model.specs.declared.changes.GuestChange.TheVariants.{Keep as KeepGuest, Install, Gain, LoseLowest, Die, Empty}
use Rattle.reference_model.specs.declared.changes.MapChange.{MapChange}
use Rattle.reference_model.specs.declared.changes.SlotChange.{SlotChange}
use Rattle.reference_model.specs.declared.changes.SlotChange.TheVariants.{Keep as KeepSlots, Reserve, Open, Close, Release, Load, Unload}
use Rattle.reference_model.specs.help.Answers.{CarriesOut}
use Rattle.reference_model.specs.help.ChangeLaws.{FitsPart, FitsTable, FitsWhere, AllFit, PartsFit, TouchedFits}
use Rattle.reference_model.specs.model.Parts.{lacks_slot}
use Rattle.reference_model.specs.model.Rules.{names, guest_slot}
use Rattle.reference_model.specs.help.Rely.{CanRely, ReachedRelies, RelyingAnswers}
use Rattle.reference_model.specs.model.Reached.{IsReached}
use Rattle.reference_model.specs.help.RowChanges.{first_row}
use Rattle.reference_model.specs.model.State.{Contents, Guest}
use Rattle.reference_model.specs.model.Step.{rule_of}
use Rattle.reference_model.specs.model.Used.{Used, used_of}
use Rattle.reference_model.proofs.Answers.{told-ok, carried-by}
use Rattle.reference_model.proofs.Held.{slot-low}
use Rattle.reference_model.proofs.conditions.ChangesFit.{changes_fit, touched_whole}
use Rattle.reference_model.proofs.conditions.Bounding.{run_bounded}
use Rattle.reference_model.proofs.conditions.Keeps.{touched_rows}
use Rattle.reference_model.proofs.conditions.PartsFit.{part_changes_fit}
use Rattle.reference_model.proofs.conditions.RunsLegal.{ready-usable, run_legal}

-- equality of what a call uses is a proposition
pub used_prop : (x y : Used) → IsProp (x ≡ y)
used_prop x y = hlevel props

-- what a truncated fact tells of entries, changes and rows
module _ {P : Type 0} (h : ∥ P ∥₁) where
  range_from : (n : ℕ) (e : Entry) → (P → IsRangeEntry n e) → IsRangeEntry n e
  range_from n Unmapped f = tt
  range_from n Malformed f = ∥∥₁_elim h (hlevel props) f
  range_from n (Annotated owner) f = ∥∥₁_elim h (×_prop le_prop le_prop) f
  range_from n (Leaf frame prot kind state) f = ∥∥₁_elim h le_prop f

  fits_from : (d : ℕ) (o : Option MapChange) → (P → FitsWhere d o) → FitsWhere d o
  fits_from d None f = tt
  fits_from d (Some c) f = record {
    some = ∥∥₁_elim h le_prop (λ p. (f p).some);
    within = ∥∥₁_elim h le_prop (λ p. (f p).within);
    entry = range_from c.range.count c.entry (λ p. (f p).entry);
  }

  lent_from : (o : Option Lent) (n : ℕ) → (P → HasLentBelow o n) → HasLentBelow o n
  lent_from None n f = tt
  lent_from (Some l) n f = ∥∥₁_elim h le_prop f

  all_from : (d : ℕ) (c : Changes) → (P → AllFit d c) → AllFit d c
  all_from d c f = record {
    host = fits_from d c.host (λ p. (f p).host);
    hyp = fits_from d c.hyp (λ p. (f p).hyp);
    guest = fits_from d c.guest (λ p. (f p).guest);
  }

  table_from : (h : SlotChange) → (P → FitsTable h) → FitsTable h
  table_from KeepSlots f = tt
  table_from (Reserve v kind vcpus) f = ∥∥₁_elim h le_prop f
  table_from (Open v) f = ∥∥₁_elim h le_prop f
  table_from (Close v) f = ∥∥₁_elim h le_prop f
  table_from (Release vm) f = ∥∥₁_elim h (×_prop le_prop le_prop) f
  table_from (Load v i c) f = ∥∥₁_elim h (×_prop le_prop le_prop) f
  table_from (Unload v i) f = ∥∥₁_elim h (×_prop le_prop le_prop) f

  part_from : (l : Layout) (g : Guest) (c : GuestChange) → (P → FitsPart l g c) → FitsPart l g c
  part_from l g KeepGuest f = tt
  part_from l g (Install kind generation hand) f = record {
    vacant = ∥∥₁_elim h (hlevel props) (λ p. (f p).vacant);
    some = ∥∥₁_elim h le_prop (λ p. (f p).some);
    few = ∥∥₁_elim h le_prop (λ p. (f p).few);
    low = ∥∥₁_elim h le_prop (λ p. (f p).low);
  }
  part_from l g (Gain r) f = record {
    made = λ e. ∥∥₁_elim h (λ u. absurd u) (λ p. (f p).made e);
    apart = λ n e. ∥∥₁_elim h (hlevel props) (λ p. (f p).apart n e);
    few = ∥∥₁_elim h le_prop (λ p. (f p).few);
    low = ∥∥₁_elim h le_prop (λ p. (f p).low);
  }
  part_from l g LoseLowest f = tt
  part_from l g Die f = λ e. ∥∥₁_elim h (λ u. absurd u) (λ p. f p e)
  part_from l g Empty f = tt

  parts_from : (l : Layout) (c : Changes) (g : Guest) → (P → PartsFit l c g) → PartsFit l c g
  parts_from l c g f = record {
    slot = table_from c.slot (λ p. (f p).slot);
    mapped = λ e u. ∥∥₁_elim h (λ v. absurd v) (λ p. (f p).mapped e u);
    part = part_from l g c.part (λ p. (f p).part);
  }

  touched_from : (l : Layout) (cpu : ℕ) (slot : Option ℕ) (c : Changes)
      → (P → TouchedFits l cpu slot c)
      → TouchedFits l cpu slot c
  touched_from l cpu slot c f = record {
    whole = λ g t. ∥∥₁_elim h (hlevel props) (λ p. (f p).whole g t);
    small = λ r e. ∥∥₁_elim h le_prop (λ p. (f p).small r e);
    row = λ r e. lent_from (first_row cpu slot c).lent r.count (λ p. (f p).row r e);
  }

-- a step of a state that a run leaves
module _ (l : Layout) (cpu : ℕ) (slot : Option ℕ) (step : Step) (x : Used) (known : cpu < l.config.cpus)
    (named : slot ≡ guest_slot x.cpu step) where
  used_cpu : (s : Contents) → guest_slot (used_of (names step) slot cpu s).cpu step ≡ guest_slot (s.cpu cpu) step
  unfolding used_of
  used_cpu s = refl

  relies_at : IsReached l (names step) slot cpu x → CanRely l cpu slot step x
  relies_at r =
      let s = r.state.contents in
      let legal = run_legal l r.log r.state r.ready r.run in
      let named_at : slot ≡ guest_slot (s.cpu cpu) step =
      named ∙ ap (λ (u : Used). guest_slot u.cpu step) r.used ∙ used_cpu s in
      subst (CanRely l cpu slot step) (sym r.used) (record {
        slot_low = λ v e. slot-low l s legal cpu v step (sym named_at ∙ e);
        fit = λ h e. changes_fit l s cpu slot step h r.ready.accepted legal known named_at e;
        parts =
            λ h e. part_changes_fit l r.state cpu slot step h r.ready.accepted legal
            (run_bounded l r.log r.state r.ready r.run) known named_at e;
        touched = λ h e. touched_whole l s cpu slot step h r.ready.accepted legal known named_at e;
        rows = touched_rows l s cpu slot step (ready-usable l r.ready) known legal named_at;
      })

  relies : ∥ IsReached l (names step) slot cpu x ∥₁ → CanRely l cpu slot step x
  relies h = record {
    slot_low = λ v e. ∥∥₁_elim h le_prop (λ r. (relies_at r).slot_low v e);
    fit = λ c e. all_from h l.depth c (λ r. (relies_at r).fit c e);
    parts = λ c e. parts_from h l c x.guest (λ r. (relies_at r).parts c e);
    touched = λ c e. touched_from h l cpu slot c (λ r. (relies_at r).touched c e);
    rows = λ e. ∥∥₁_elim h (used_prop _ _) (λ r. (relies_at r).rows e);
  }

pub reached_relies : ReachedRelies
reached_relies l cpu slot step x known named = relies l cpu slot step x known named

pub relying_answers : RelyingAnswers
relying_answers l cpu slot step x wants h reply y can k out =
    let t = told-ok (rule_of l cpu slot step x) (lacks_slot (names step) slot) h k in
    carried-by l cpu slot step wants reply x y t.0 can.rows
    (subst (λ c. CarriesOut l cpu slot step wants c x reply y) (sym t.1) out)
