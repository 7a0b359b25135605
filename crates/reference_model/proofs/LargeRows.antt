-- The rows of LargeRows. The emptiness of a block of 262,144 pages isn't searched, but follows from the update that
-- lies behind it, and that of such a guest's map from the map.
use Rattle.reference_model.specs.model.Rule.{reads}
use Rattle.std.proofs.Common.{◌≡◌, ℕ, ◌+◌, refl, ap, ◌∙◌, arith, inl}
use Rattle.std.specs.Prelude.{Bool, true, false, not, ◌||◌, List, [], ◌∷◌, length, Option, Some, None, if◌then◌else◌, ◌&&◌, ◌==◌}
use Rattle.page_state.specs.declared.entry.Entry.{Entry}
use Rattle.page_state.specs.declared.entry.Entry.TheVariants.{Unmapped}
use Rattle.call_table.specs.declared.reply.Refusal.{Refusal}
use Rattle.call_table.specs.declared.reply.Refusal.TheVariants.{NoPool, LogFull}
use Rattle.call_table.specs.declared.reply.Reply.{Reply}
use Rattle.call_table.specs.declared.reply.Reply.TheVariants.{Done, Refused}
use Rattle.call_table.specs.declared.step.Step.TheVariants.{FinishGuest}
use Rattle.page_state.specs.Blocks.{is_empty}
use Rattle.page_state.specs.EntryTests.{annotation, is_unmapped}
use Rattle.page_state.specs.Geometries.{pages_below}
use Rattle.page_state.specs.Map.{empty_map}
use Rattle.page_state.specs.Search.{all_below}
use Rattle.reference_model.specs.model.GuestRules.{finish_guest}
use Rattle.reference_model.specs.model.Parts.{lacks_slot}
use Rattle.reference_model.specs.model.Rules.{rule, names, guest_slot}
use Rattle.reference_model.specs.rows.Scene.{small, at}
use Rattle.reference_model.specs.rows.SceneState.{scene, with_free}
use Rattle.reference_model.specs.model.SharedRules.{abort_edit}
use Rattle.reference_model.specs.model.State.{Reference}
use Rattle.reference_model.specs.model.Step.{stored, is_full, refusal, fails, made, answer, predict, predict_step}
use Rattle.reference_model.specs.model.Used.{Used, UsedRooms, used_of, rooms_of, put_back, put_rooms}
use Rattle.reference_model.specs.rows.LargeRows.{behind, HostAbortLargest, HostAbortSmaller, FinishGuestShort, FinishGuestSplits}
use Rattle.page_state.proofs.Blocks.{all_from-by, empty_means}
use Rattle.reference_model.proofs.Predictions.{computing, refuses}
use Rattle.page_state.proofs.Updates.{update_outside}

large-empty : is_empty behind (2, 1) ≡ true
large-empty =
    (empty_means behind (2, 1)).1
    (λ i less. update_outside empty_map 0x80000 64 (annotation 1) (0x40000 + i) (inl (omega arith)))

small-empty : is_empty behind (1, 0x289) ≡ true
small-empty =
    (empty_means behind (1, 0x289)).1
    (λ i less. update_outside empty_map 0x80000 64 (annotation 1) (0x51200 + i) (inl (omega arith)))

pub host_abort_largest : HostAbortLargest
unfolding abort_edit
host_abort_largest = (rw (large-empty) refl, rw (small-empty) refl, rw (small-empty) refl)

pub host_abort_smaller : HostAbortSmaller
unfolding computing
host_abort_smaller = refl

-- what is predicted of a guest's end, by the first test that fails, and that by the test of the guest's map and pool
module _ (s : Reference) where
  abbrev slot : Option ℕ
  slot = guest_slot (s.contents.cpu 6) FinishGuest

  abbrev x : Used
  x = used_of (names FinishGuest) slot 6 s.contents

  abbrev rooms : UsedRooms
  rooms = rooms_of (names FinishGuest) slot 6 s.rooms

  abbrev entry : ℕ → Entry
  entry g = x.guest.tree.map g

  predicted_by : Option Refusal → Reply × Reference
  predicted_by o =
      let a : Reply × Used =
      elim o [
        | Some why ↦ (Refused why, x)
        | None ↦ (
          Done (rule (small 1) 6 slot FinishGuest x).changes.value,
          made (small 1) 6 slot FinishGuest x,
        )
      ] in
      let r : Reply × Used × UsedRooms =
      if is_full (names FinishGuest) slot rooms then (Refused LogFull, x, rooms) else (a.0, a.1, stored rooms) in (
        r.0,
        record {
          contents = put_back (names FinishGuest) slot 6 s.contents r.1;
          rooms = put_rooms (names FinishGuest) slot 6 s.rooms r.2;
        },
      )

  refusal_by : Bool → Option Refusal
  refusal_by allowed =
      refusal 1
      (record (finish_guest (reads (small 1) 6 slot x))
      { allowed = record (finish_guest (reads (small 1) 6 slot x)).allowed { passes = allowed } })
      (lacks_slot (names FinishGuest) slot) x

  by_fail : predict_step (small 1) s 6 FinishGuest ≡ predicted_by (fails (small 1) 6 slot FinishGuest x)
  unfolding predict_step predict answer predicted_by
  by_fail = refl

  by_perm : fails (small 1) 6 slot FinishGuest x
      ≡ refusal_by (all_below (pages_below 1) (λ g. is_unmapped (entry g)) && length x.guest.free == 0)
  unfolding fails rule refusal_by
  by_perm = refl

  predicted : ((g : ℕ) → entry g ≡ Unmapped)
      → x.guest.free ≡ []
      → (o : Option Refusal)
      → refusal_by true ≡ o
      → predict_step (small 1) s 6 FinishGuest ≡ predicted_by o
  predicted none free o h =
      let empty : all_below (pages_below 1) (λ g. is_unmapped (entry g)) ≡ true =
      all_from-by 0 (pages_below 1) (λ g. is_unmapped (entry g)) (λ i low high. ap is_unmapped (none i)) in
      let passes = ap (λ b. b && length x.guest.free == 0) empty ∙ ap (λ (fs : List ℕ). length fs == 0) free in
      by_fail ∙ ap predicted_by (by_perm ∙ ap refusal_by passes ∙ h)

abbrev short : Reference
short = with_free (0x1610 ∷ []) scene

short-empty : (g : ℕ) → entry short g ≡ Unmapped
unfolding used_of
short-empty g = refl

short-pool : (x short).guest.free ≡ []
unfolding used_of
short-pool = refl

short-fails : refusal_by short true ≡ Some NoPool
unfolding computing refusal_by
short-fails = refl

short-predicted : predict_step (small 1) short 6 FinishGuest ≡ predicted_by short (Some NoPool)
short-predicted = predicted short short-empty short-pool (Some NoPool) short-fails

short-reply : (predicted_by short (Some NoPool)).0 ≡ Refused NoPool
unfolding computing predicted_by
short-reply = refl

pub finish_guest_short : FinishGuestShort
finish_guest_short = refuses (ap (λ (r : Reply × Reference). r.0) short-predicted ∙ short-reply)

splits-empty : (g : ℕ) → entry scene g ≡ Unmapped
unfolding used_of
splits-empty g = refl

splits-pool : (x scene).guest.free ≡ []
unfolding used_of
splits-pool = refl

splits-fails : refusal_by scene true ≡ None
unfolding computing refusal_by
splits-fails = refl

splits-predicted : predict_step (small 1) scene 6 FinishGuest ≡ predicted_by scene None
splits-predicted = predicted scene splits-empty splits-pool None splits-fails

abbrev host_after : Reply × Reference → List Entry
host_after r = at r.1.contents.shared.host.map (0x1740 ∷ 0x1741 ∷ 0x1742 ∷ [])

abbrev free_after : Reply × Reference → List ℕ
free_after r = r.1.contents.shared.free

splits-host : host_after (predicted_by scene None) ≡ annotation 1 ∷ Unmapped ∷ annotation 1 ∷ []
unfolding computing predicted_by
splits-host = refl

splits-free : free_after (predicted_by scene None) ≡ 0x1620 ∷ []
unfolding computing predicted_by
splits-free = refl

pub finish_guest_splits : FinishGuestSplits
finish_guest_splits = (ap host_after splits-predicted ∙ splits-host, ap free_after splits-predicted ∙ splits-free)
