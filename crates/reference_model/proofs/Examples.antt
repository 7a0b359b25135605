-- The worked rows, computed. That a block of 262,144 pages on which nothing is mapped is one word isn't searched, but
-- follows from the map.
use Rattle.std.proofs.Common.{◌≡◌, ℕ, zero, suc, ◌^◌, ◌≤◌, Bool, true, false, cond, refl, ap, sym, ◌∙◌, arith, List, [], ◌∷◌, length, All, AllPairs}
use Rattle.std.specs.Prelude.{◌+◌, not, is_some, filter}
use Rattle.std.proofs.lemmas.Bool.Decides.{nat_tests}
use Rattle.descriptor.specs.declared.Prot.TheVariants.{RWX}
use Rattle.descriptor.specs.declared.State.TheVariants.{Owned}
use Rattle.page_state.specs.declared.layout.Region.{Region}
use Rattle.page_state.specs.LayoutFaults.{IsAccepted, AreDisjoint}
use Rattle.page_state.specs.Regions.{end_of}
use Rattle.page_state.specs.declared.entry.Entry.{Entry}
use Rattle.page_state.specs.declared.entry.Entry.TheVariants.{Unmapped}
use Rattle.page_state.specs.Blocks.{fits_word, first_page, is_one_word, is_empty, blocks_on}
use Rattle.page_state.specs.Entries.{advance}
use Rattle.page_state.specs.EntryTests.{leaf}
use Rattle.page_state.specs.Map.{Map, empty_map, is_within, update}
use Rattle.page_state.specs.Tables.{put, edit_blocks, needs}
use Rattle.page_state.specs.Trees.{Block, root_tree}
use Rattle.page_state.proofs.Blocks.{one_word_means}
use Rattle.page_state.proofs.Cases.{by_test}
use Rattle.reference_model.specs.rows.Examples.{layout, need_of, NeedRow, SplitRow, RemovalRow, FoldRow, UnalignedRow, CanBootRow, BootRow, WideBootRow, ShareRow, BesideRow, NearRow, AgainRow, CarveRow, DeviceRow, PastRow, NoFrameRow, OneFrameRow, FullLogRow, FullSharedRow, RoomRow, OwnerRow}
use Rattle.reference_model.proofs.Predictions.{computing}

-- where nothing is mapped, no block needs a table
one-word : (m : Map) (b : Block) → ((p : ℕ) → m p ≡ Unmapped) → is_one_word m b ≡ true
one-word m b none =
    (one_word_means m b).1 (
      ap (fits_word b.0) (none (first_page b)),
      λ i less. none (first_page b + i)
          ∙ sym (ap (λ (e : Entry). advance e i) (none (first_page b))),
    )

no-block : (test : Block → Bool) (bs : List Block) → ((b : Block) → test b ≡ false) → length (filter test bs) ≡ 0
no-block test [] none = refl
no-block test (b ∷ bs) none =
    ap (λ (t : Bool). length (cond t (b ∷ filter test bs) (filter test bs))) (none b) ∙ no-block test bs none

left-out : (has : Bool) {one : Bool} → one ≡ true → (elim has [ true ↦ false | false ↦ not one ]) ≡ false
left-out true e = refl
left-out false e = ap not e

need-none : need_of 0x401ff 2 Unmapped ≡ 0
unfolding needs
need-none =
    no-block
    (λ b. elim (is_some ((root_tree 2 0).table b))
    [ true ↦ false | false ↦ not (is_one_word (update empty_map 0x401ff 2 Unmapped) b) ])
    (edit_blocks 2 (put 0x401ff 2 Unmapped))
    (λ b. left-out (is_some ((root_tree 2 0).table b))
    (one-word (update empty_map 0x401ff 2 Unmapped) b
    (λ p. by_test (is_within 0x401ff 2 p) (λ t. rw t refl) (λ t. rw t refl))))

needs-three : need_of 0x401ff 2 (leaf RWX 0x401ff Owned) ≡ 3
unfolding computing
needs-three = refl

needs-one : need_of 0x40200 512 (leaf RWX 0x40200 Owned) ≡ 1
unfolding computing
needs-one = refl

needs-two : need_of 0x40200 512 (leaf RWX 0x50001 Owned) ≡ 2
unfolding computing
needs-two = refl

pub need_row : NeedRow
need_row = (needs-three, needs-one, needs-two, need-none)

pub split_row : SplitRow
unfolding computing
split_row = (refl, refl, refl, refl)

pub removal_row : RemovalRow
unfolding computing
removal_row = (refl, refl, refl, refl)

pub fold_row : FoldRow
unfolding computing
fold_row = (refl, refl, refl, refl, refl, refl)

pub unaligned_row : UnalignedRow
unfolding computing
unaligned_row = refl

-- what holds of two regions
two-regions : (P : Region → Type 0) (a b : Region) → P a → P b → All P (a ∷ (b ∷ []))
two-regions P a b p q zero d h = p
two-regions P a b p q (suc zero) d h = q
two-regions P a b p q (suc (suc k)) d h = absurd (omega arith)

one-pair : (Q : Region → Region → Type 0) (a b : Region) → Q a b → AllPairs Q (a ∷ (b ∷ []))
one-pair Q a b q zero zero d less in_list = absurd (omega arith)
one-pair Q a b q zero (suc zero) d less in_list = q
one-pair Q a b q zero (suc (suc j)) d less in_list = absurd (omega arith)
one-pair Q a b q (suc i) j d less in_list = absurd (omega arith)

accepted-memory : IsAccepted (layout 64 64).memory
accepted-memory = record {
  few = omega arith;
  pages = (two-regions (λ r. 1 ≤ r.pages.count) _ _ (omega arith) (omega arith), omega arith);
  limits = (two-regions (λ r. end_of r.pages ≤ 2 ^ 26) _ _ (omega arith) (omega arith), omega arith);
  disjoint = one-pair (λ r s. AreDisjoint r.pages s.pages) _ _ (λ page a b. apart page a b);
  carve = refl;
}
  where
    apart : (page : ℕ) → is_within 0x40000 0x800 page ≡ true → is_within 0x9000 0x10 page ≡ true → ⊥
    apart page a b = grind (arith, nat_tests)

pub can_boot_row : CanBootRow
unfolding needs is_one_word is_empty blocks_on
can_boot_row = (
  record {
    accepted = record {
      memory = accepted-memory;
      config =
          record {
            some_cpus = omega arith;
            cpus = omega arith;
            some_calls = omega arith;
            calls = omega arith;
            known = refl;
          };
      depth = refl;
    };
    enough = omega arith;
  },
  λ h. let few : 6 ≤ 5 = h.enough in omega arith,
)

pub boot_row : BootRow
unfolding computing
boot_row = refl

pub wide_boot_row : WideBootRow
unfolding computing
wide_boot_row = refl

pub share_row : ShareRow
unfolding computing
share_row = (refl, refl, refl, refl)

pub beside_row : BesideRow
unfolding computing
beside_row = (refl, refl, refl)

pub near_row : NearRow
unfolding computing
near_row = (refl, refl)

pub again_row : AgainRow
unfolding computing
again_row = (refl, refl)

pub carve_row : CarveRow
unfolding computing
carve_row = refl

pub device_row : DeviceRow
unfolding computing
device_row = refl

pub past_row : PastRow
unfolding computing
past_row = refl

pub no_frame_row : NoFrameRow
unfolding computing
no_frame_row = (refl, refl, refl)

pub one_frame_row : OneFrameRow
unfolding computing
one_frame_row = (refl, refl)

pub full_log_row : FullLogRow
unfolding computing
full_log_row = refl

pub full_shared_row : FullSharedRow
unfolding computing
full_shared_row = refl

pub room_row : RoomRow
unfolding computing
room_row = (refl, refl, refl)

pub owner_row : OwnerRow
unfolding computing
owner_row = refl
