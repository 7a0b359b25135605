-- At most one word gives its first page an entry.
use Rattle.std.proofs.Common.{◌≡◌, ℕ, ◌*◌, ◌/◌, ◌%◌, ◌^◌, ◌<◌, refl, sym, arith, ◌∙◌, Bool, true, false, Some, None, Option, ◌&&◌, ◌==◌, nat_le}
use Rattle.std.proofs.lemmas.Bool.Decides.{nat_tests}
use Rattle.descriptor.specs.Word.{field, page_bit, kind_bits, access_bits, execute_never_bit, state_bits, leaf_word, desc_of, kind_of_bits, state_of_bits, prot_of_bits, has_leaf_form, leaf_or_malformed, level_pages, is_upper}
use Rattle.descriptor.specs.declared.Level.{Level}
use Rattle.descriptor.specs.declared.Kind.{Kind}
use Rattle.descriptor.specs.declared.Prot.{Prot}
use Rattle.descriptor.specs.declared.State.{State}
use Rattle.descriptor.specs.declared.Desc.{Desc}
use Rattle.descriptor.proofs.Unique.{both, cond_ind, kind_right, state_right, prot_right, form_right}
use Rattle.page_state.specs.declared.entry.Entry.{Entry}
use Rattle.page_state.specs.declared.entry.Entry.TheVariants.{Unmapped, Malformed, Annotated, Leaf}
use Rattle.page_state.specs.Entries.{entry_of_word}
use Rattle.table_tree.specs.Shape.{IsWellFormed}

-- the word of an entry
word_for : Level → Entry → ℕ
word_for l Unmapped = 0
word_for l Malformed = 0
word_for l (Annotated o) = 4 * o.0
word_for l (Leaf f p k s) =
    leaf_word (page_bit l) (kind_bits k) (access_bits p) f.0 (execute_never_bit p) (state_bits s)

-- the word is that of the entry that it gives, if it gives one
IsWordFor : Level → ℕ → Desc → Type 0
IsWordFor l w d = IsWellFormed (entry_of_word d) → w ≡ word_for l (entry_of_word d)

-- a word from its fields
whole : (w p k a f x s : ℕ)
    → w < 2 ^ 64
    → field w 0 1 ≡ 1
    → field w 1 1 ≡ p
    → field w 2 4 ≡ k
    → field w 6 2 ≡ a
    → field w 8 2 ≡ 3
    → field w 10 1 ≡ 1
    → field w 11 1 ≡ 0
    → field w 12 36 ≡ f
    → field w 48 6 ≡ 0
    → field w 54 1 ≡ x
    → field w 55 2 ≡ s
    → field w 57 7 ≡ 0
    → w ≡ leaf_word p k a f x s
whole w p k a f x s r f0 f1 f2 f6 f8 f10 f11 f12 f48 f54 f55 f57 = omega arith

leaf_for : (l : Level) (w : ℕ) → w < 2 ^ 64 → (b : Bool) (k : Option Kind) (p : Option Prot) (s : Option State)
    → has_leaf_form l w && field w 12 36 % level_pages l == 0 ≡ b
    → kind_of_bits (field w 2 4) ≡ k
    → prot_of_bits (field w 6 2) (field w 54 1) ≡ p
    → state_of_bits (field w 55 2) ≡ s
    → IsWordFor l w (leaf_or_malformed b k p s (field w 12 36))
unfolding IsWordFor word_for
leaf_for l w r true (Some k) (Some p) (Some s) eb ek ep es = λ _.
    let form = form_right l w (both (has_leaf_form l w) (field w 12 36 % level_pages l == 0) eb).0 in
    let x = prot_right (field w 6 2) (field w 54 1) p ep in
    whole w (page_bit l) (kind_bits k) (access_bits p) (field w 12 36) (execute_never_bit p)
    (state_bits s) r form.valid form.page (sym (kind_right (field w 2 4) k ek))
    (sym x.0) form.shareable form.accessed form.zero_11 refl form.zero_48 (sym x.1)
    (sym (state_right (field w 55 2) s es)) form.zero_57
leaf_for l w r false k p s eb ek ep es = λ h. absurd h
leaf_for l w r true None p s eb ek ep es = λ h. absurd h
leaf_for l w r true (Some k) None s eb ek ep es = λ h. absurd h
leaf_for l w r true (Some k) (Some p) None eb ek ep es = λ h. absurd h

is_word_for : (l : Level) (w : ℕ) → w < 2 ^ 64 → IsWordFor l w (desc_of l w)
unfolding desc_of IsWordFor word_for
is_word_for l w r =
    cond_ind (IsWordFor l w) (w == 0) _ _ (λ z _. grind (arith, nat_tests))
    (λ nz. cond_ind (IsWordFor l w) (w % 4 == 0 && nat_le (w / 4) 255) _ _ (λ a _. grind (arith, nat_tests))
    (λ na. cond_ind (IsWordFor l w) ((is_upper l && field w 0 12 == 3) && field w 48 16 == 0) _ _ (λ t h. absurd h)
    (λ nt. leaf_for l w r _ _ _ _ refl refl refl refl)))

-- two words that give one entry are one
pub one_word : (l : Level) (w v : ℕ)
    → w < 2 ^ 64
    → v < 2 ^ 64
    → IsWellFormed (entry_of_word (desc_of l w))
    → entry_of_word (desc_of l v) ≡ entry_of_word (desc_of l w)
    → v ≡ w
unfolding IsWordFor
one_word l w v r s h e = is_word_for l v s (rw e h) ∙ rw e (sym (is_word_for l w r h))
