-- Searches through all numbers of a range.
use Rattle.std.proofs.Common.{◌≡◌, ℕ, zero, suc, ◌+◌, ◌<◌, ◌≤◌, Bool, true, false, refl, sym, ap, ◌∙◌, arith}
use Rattle.page_state.specs.Search.{all_from, all_below}
use Rattle.page_state.specs.declared.entry.Entry.{Entry}
use Rattle.page_state.specs.declared.entry.Entry.TheVariants.{Unmapped, Malformed, Annotated, Leaf}
use Rattle.page_state.specs.EntryTests.{entry_eq, is_unmapped}
use Rattle.page_state.proofs.Cases.{by_test, by_eq}
use Rattle.page_state.proofs.Blocks.{all_from-by}

all_from_false : (from n k : ℕ) (test : ℕ → Bool)
    → from ≤ k
    → k < from + n
    → test k ≡ false
    → all_from from n test ≡ false
all_from_false from zero k test l m h = absurd (omega arith)
all_from_false from (suc n) k test l m h = by_test (test from)
    (λ t. rw (t, all_from)
    (all_from_false (suc from) n k test
    (by_eq from k (λ e. let c : true ≡ false = sym t ∙ ap test e ∙ h in cc) (λ e. omega arith))
    (omega arith) h))
    (λ t. rw (t, all_from) refl)

pub all_below_true : (n : ℕ) (test : ℕ → Bool) → ((k : ℕ) → k < n → test k ≡ true) → all_below n test ≡ true
all_below_true n test h = all_from-by 0 n test (λ k l m. h k (omega arith))

pub all_below_false : (n k : ℕ) (test : ℕ → Bool) → k < n → test k ≡ false → all_below n test ≡ false
all_below_false n k test m h = all_from_false 0 n k test (omega arith) (omega arith) h

-- nothing is mapped: equality with Unmapped
pub same_as_unmapped : (e : Entry) → entry_eq e Unmapped ≡ is_unmapped e
same_as_unmapped Unmapped = refl
same_as_unmapped Malformed = refl
same_as_unmapped (Annotated o) = refl
same_as_unmapped (Leaf f p k s) = refl
