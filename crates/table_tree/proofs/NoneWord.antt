-- The only word that maps none of its pages.
use Rattle.std.proofs.Common.{◌≡◌, ℕ, ◌/◌, ◌%◌, arith, Bool, true, false, Some, None, Option, ◌&&◌, ◌==◌, nat_le}
use Rattle.std.proofs.lemmas.Bool.Decides.{nat_tests}
use Rattle.descriptor.specs.Word.{field, desc_of, leaf_or_malformed, is_upper}
use Rattle.descriptor.specs.declared.Level.{Level}
use Rattle.descriptor.specs.declared.Kind.{Kind}
use Rattle.descriptor.specs.declared.Prot.{Prot}
use Rattle.descriptor.specs.declared.State.{State}
use Rattle.descriptor.specs.declared.Desc.{Desc}
use Rattle.descriptor.proofs.Unique.{cond_ind}
use Rattle.page_state.specs.declared.entry.Entry.TheVariants.{Unmapped}
use Rattle.page_state.specs.Entries.{entry_of_word}

leaf_maps : (b : Bool) (k : Option Kind) (p : Option Prot) (s : Option State) (f : ℕ)
    → entry_of_word (leaf_or_malformed b k p s f) ≡ Unmapped
    → ⊥
leaf_maps true (Some k) (Some p) (Some s) f h = cc
leaf_maps false k p s f h = cc
leaf_maps true None p s f h = cc
leaf_maps true (Some k) None s f h = cc
leaf_maps true (Some k) (Some p) None f h = cc

-- a word that maps none of its pages is 0
pub none_word : (l : Level) (w : ℕ) → entry_of_word (desc_of l w) ≡ Unmapped → w ≡ 0
unfolding desc_of
none_word l w =
    let P : Desc → Type 0 = λ d. entry_of_word d ≡ Unmapped → w ≡ 0 in
    cond_ind P (w == 0) _ _ (λ z _. grind (arith, nat_tests))
    (λ _. cond_ind P (w % 4 == 0 && nat_le (w / 4) 255) _ _ (λ _ h. absurd (cc))
    (λ _. cond_ind P ((is_upper l && field w 0 12 == 3) && field w 48 16 == 0) _ _ (λ _ h. absurd (cc))
    (λ _ h. absurd (leaf_maps _ _ _ _ _ h))))
