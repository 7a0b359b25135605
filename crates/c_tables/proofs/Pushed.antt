-- Runs with one behind them, or none.
use Rattle.std.proofs.Common.{◌≡◌, ℕ, ◌+◌, ◌<◌, ◌≤◌, ◌^◌, List, Option, ap, subst, ◌∙◌, arith}
use Rattle.std.specs.Prelude.{IfSome}
use Rattle.std.specs.Option.{ForSome}
use Rattle.page_state.specs.declared.entry.Entry.{Entry}
use Rattle.page_state.specs.declared.entry.Entry.TheVariants.{Unmapped, Malformed, Annotated, Leaf}
use Rattle.page_state.specs.declared.entry.PageRange.{PageRange}
use Rattle.page_state.specs.declared.entry.Target.{Target}
use Rattle.page_state.specs.Entries.{advance_target, entry_of, target_of}
use Rattle.page_state.specs.Map.{update}
use Rattle.run_list.specs.declared.run.Run.{Run}
use Rattle.run_list.specs.Parts.{glue, one_run, run_of}
use Rattle.run_list.specs.Runs.{EndBefore, run_map}
use Rattle.run_list.specs.Targets.{HasFrameBelow, target_eq, target_laws}
use Rattle.run_list.specs.View.{IsKept}
use Rattle.run_list.proofs.Behind.{behind_edited}
use Rattle.run_list.proofs.Changed.{changed_coarsest, changed_map, changed_reach, run_of_ends}
use Rattle.run_list.proofs.Glue.{glue_ends}
use Rattle.run_list.proofs.Maps.{ends_later}
use Rattle.maplets.proofs.TargetRuns.{update_targets}
use Rattle.c_tables.specs.ByFrames.{HasSmallFrame}
use Rattle.c_tables.specs.Laid.{target_map}

pub record IsPushed (range : PageRange) (value : Option Target) (old new : List (Run Target)) : Type 0 where
  pub map : target_map new ≡ update (target_map old) range.first.0 range.count (entry_of value)
  pub kept : IsKept advance_target HasFrameBelow new
  pub behind : EndBefore (range.first.0 + range.count + 1) new

module _ (range : PageRange) (value : Option Target) (old new : List (Run Target))
    (low : range.first.0 + range.count ≤ 2 ^ 63) (some : 0 < range.count)
    (small : ForSome value (λ v. HasFrameBelow v range.count)) (kept : IsKept advance_target HasFrameBelow old)
    (behind : EndBefore (range.first.0 + 1) old) where
  pub pushed : new ≡ glue advance_target target_eq old (one_run (run_of range value)) → IsPushed range value old new
  pushed same =
      let end = range.first.0 + range.count + 1 in
      let edited =
      same
      ∙ behind_edited advance_target HasFrameBelow target_eq target_laws range value old kept.coarsest behind in
      record {
        map =
            update_targets old new range.first.0 range.count value
            (ap (run_map advance_target) edited
            ∙ changed_map advance_target HasFrameBelow target_eq target_laws range value old kept some);
        kept = rw edited (record {
          coarsest = changed_coarsest advance_target HasFrameBelow target_eq target_laws range value old kept some;
          in_reach =
              changed_reach advance_target HasFrameBelow target_eq target_laws range value old kept some low small;
        });
        behind =
            rw same
            (glue_ends advance_target HasFrameBelow target_eq target_laws end old _
            (ends_later (range.first.0 + 1) end old (omega arith) behind) (run_of_ends range value));
      }

by_entry : (e : Entry) (n : ℕ) → HasSmallFrame e → n ≤ 2 ^ 36 → IfSome (target_of e) (λ v. HasFrameBelow v n)
by_entry Unmapped n h l = tt
by_entry Malformed n h l = tt
by_entry (Annotated owner) n h l = tt
by_entry (Leaf frame prot kind state) n h l = omega arith

-- a frame of a word stays small along a block
pub small_target : (e : Entry) (n : ℕ) → HasSmallFrame e → n ≤ 2 ^ 36 → ForSome (target_of e) (λ v. HasFrameBelow v n)
small_target e n h l t is = subst (λ o. IfSome o (λ v. HasFrameBelow v n)) is (by_entry e n h l)
