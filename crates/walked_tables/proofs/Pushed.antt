-- Runs with one behind them, or none.
use Rattle.std.proofs.Common.{◌≡◌, ℕ, ◌+◌, ◌<◌, ◌≤◌, ◌^◌, List, Option, ap, ◌∙◌, arith}
use Rattle.std.specs.Option.{ForSome}
use Rattle.page_state.specs.declared.entry.PageRange.{PageRange}
use Rattle.run_list.specs.declared.run.Run.{Run}
use Rattle.run_list.specs.Parts.{glue, one_run, run_of}
use Rattle.run_list.specs.Runs.{EndBefore, map_updated, run_map}
use Rattle.run_list.specs.View.{IsKept}
use Rattle.run_list.proofs.Behind.{behind_edited}
use Rattle.run_list.proofs.Changed.{changed_coarsest, changed_map, changed_reach, run_of_ends}
use Rattle.run_list.proofs.Glue.{glue_ends}
use Rattle.run_list.proofs.Maps.{ends_later}
use Rattle.table_words.specs.declared.word.Decoded.{Decoded}
use Rattle.table_words.specs.declared.word.Decoded.TheVariants.{Malformed, Unmapped, Annotated, Poisoned, Locked, Cleared, Leaf, Table}
use Rattle.walked_tables.specs.declared.said.Said.{Said}
use Rattle.walked_tables.specs.Values.{advance_said, CanGo, CanGoOn, HasSmallFrame, IsSmall}
use Rattle.walked_tables.specs.Advancing.{said_eq, said_laws}

pub record IsPushed (range : PageRange) (value : Option Said) (old new : List (Run Said)) : Type 0 where
  pub map : run_map advance_said new
      ≡ map_updated advance_said (run_map advance_said old) range.first.0 range.count value
  pub kept : IsKept advance_said CanGoOn new
  pub behind : EndBefore (range.first.0 + range.count + 1) new

module _ (range : PageRange) (value : Option Said) (old new : List (Run Said))
    (low : range.first.0 + range.count ≤ 2 ^ 63) (some : 0 < range.count)
    (small : ForSome value (λ v. CanGoOn v range.count)) (kept : IsKept advance_said CanGoOn old)
    (behind : EndBefore (range.first.0 + 1) old) where
  pub pushed : new ≡ glue advance_said said_eq old (one_run (run_of range value)) → IsPushed range value old new
  pushed same =
      let end = range.first.0 + range.count + 1 in
      let edited = same ∙ behind_edited advance_said CanGoOn said_eq said_laws range value old kept.coarsest behind in
      record {
        map =
            ap (run_map advance_said) edited
            ∙ changed_map advance_said CanGoOn said_eq said_laws range value old kept some;
        kept = rw edited (record {
          coarsest = changed_coarsest advance_said CanGoOn said_eq said_laws range value old kept some;
          in_reach = changed_reach advance_said CanGoOn said_eq said_laws range value old kept some low small;
        });
        behind =
            rw same
            (glue_ends advance_said CanGoOn said_eq said_laws end old _
            (ends_later (range.first.0 + 1) end old (omega arith) behind) (run_of_ends range value));
      }

by_decoded : (d : Decoded) (n : ℕ) → IsSmall d → n ≤ 2 ^ 40 → CanGo d n
by_decoded (Leaf m) n h l = omega arith
by_decoded Malformed n h l = tt
by_decoded Unmapped n h l = tt
by_decoded (Annotated o g) n h l = tt
by_decoded Poisoned n h l = tt
by_decoded Locked n h l = tt
by_decoded (Cleared m) n h l = tt
by_decoded (Table f) n h l = tt

-- a frame of a word stays small along a block
pub small_value : (o : Option Said) (n : ℕ) → ForSome o HasSmallFrame → n ≤ 2 ^ 40 → ForSome o (λ v. CanGoOn v n)
small_value o n h l v is = by_decoded v.0 n (h v is) l
