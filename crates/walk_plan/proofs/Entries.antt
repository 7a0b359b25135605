-- Entries: how they advance, when they are one, and which a word can say.
use Rattle.std.proofs.Common.{◌≡◌, ℕ, zero, suc, ◌+◌, ◌*◌, ◌/◌, ◌%◌, ◌^◌, ◌<◌, ◌≤◌, refl, ap, arith, Bool, true, false, ◌&&◌, ◌==◌, nat_le, if◌then◌else◌, Option, Some}
use Rattle.std.specs.Prelude.{IsTrue}
use Rattle.std.proofs.lemmas.Bool.Decides.{nat_tests}
use Rattle.descriptor.specs.declared.Frame.{Frame}
use Rattle.descriptor.specs.declared.Prot.{Prot}
use Rattle.descriptor.specs.declared.Kind.{Kind}
use Rattle.descriptor.specs.declared.State.{State}
use Rattle.descriptor.specs.declared.Level.{Level}
use Rattle.descriptor.specs.declared.Desc.{Desc}
use Rattle.descriptor.specs.declared.Desc.TheVariants.{Table as table_word}
use Rattle.descriptor.specs.Word.{desc_of, IsEncodable, level_pages, field, has_leaves, is_upper, has_leaf_form, leaf_or_malformed, kind_of_bits, prot_of_bits, state_of_bits}
use Rattle.descriptor.proofs.Unique.{form_right}
use Rattle.page_state.specs.declared.entry.Entry.{Entry}
use Rattle.page_state.specs.declared.entry.Entry.TheVariants.{Unmapped, Malformed, Annotated, Leaf}
use Rattle.page_state.specs.Entries.{advance, entry_of_word, word_of_entry}
use Rattle.page_state.specs.Blocks.{fits_word}
use Rattle.page_state.specs.Laws.{FitsWord}
use Rattle.page_state.specs.Geometries.{block_pages}
use Rattle.page_state.proofs.Blocks.{fits_each_word}
use Rattle.page_state.proofs.Common.{eq-same, and-both, eq-made}
use Rattle.page_state.proofs.Entries.{leaf-same}
use Rattle.table_tree.specs.Meaning.{level_at}
use Rattle.table_tree.specs.Shape.{IsWellFormed, IsEntryWord}

-- tests

pub eq_differ : (m n : ℕ) → (m == n) ≡ false → m ≡ n → ⊥
eq_differ m n h e = let x = eq-made m n e in cc

-- how entries advance

-- two entries that are one so far on are one
pub advance_back : (x y : Entry) (n : ℕ) → advance x n ≡ advance y n → x ≡ y
advance_back (Leaf f p k s) (Leaf g q j t) n h =
    let wrap : ℕ → Frame = λ a. record { 0 = a } in
    let e : wrap (f.0 + n) ≡ wrap (g.0 + n) = cc in
    let d : f.0 + n ≡ g.0 + n = ap (λ (z : Frame). z.0) e in
    leaf-same (omega arith) (cc) (cc) (cc)
advance_back (Annotated o) (Annotated q) n h = h
advance_back Unmapped Unmapped n h = refl
advance_back Malformed Malformed n h = refl
advance_back x y n h = cc

-- what words of trees say

record IsSayable (l : Level) (x : Desc) : Type 0 where
  says : IsWellFormed (entry_of_word x) → IsEncodable l (word_of_entry (entry_of_word x))

either : (l : Level) (b : Bool) (x y : Desc)
    → (b ≡ true → IsSayable l x)
    → (b ≡ false → IsSayable l y)
    → IsSayable l (if b then x else y)
either l true x y f g = f refl
either l false x y f g = g refl

leaf_from_c : (l : Level) (form : Bool) (k : Option Kind) (p : Option Prot) (s : Option State) (f : ℕ)
    → (form ≡ true → IsTrue (has_leaves l) × (f < 2 ^ 36) × (f % level_pages l ≡ 0))
    → IsSayable l (leaf_or_malformed form k p s f)
leaf_from_c l true (Some k) (Some p) (Some s) f h = record { says = λ e. h refl }
leaf_from_c l form k p s f h = record { says = λ e. absurd e }

aligned : (a : Bool) (f s : ℕ) → a && (f % s == 0) ≡ true → f % s ≡ 0
aligned a f s h = eq-same (f % s) 0 (and-both a (f % s == 0) h).1

owner_said : (w : ℕ) → (w == 0) ≡ false → w % 4 == 0 && nat_le (w / 4) 255 ≡ true → (1 ≤ w / 4) × (w / 4 ≤ 255)
owner_said w p q =
    let x = and-both (w % 4 == 0) (nat_le (w / 4) 255) q in
    let y = eq-same (w % 4) 0 x.0 in
    let z : w / 4 ≤ 255 = let u : nat_le (w / 4) 255 ≡ true = x.1 in grind (arith, nat_tests) in
    let v : w ≡ 0 → ⊥ = λ e. let u = eq-made w 0 e in cc in
    (omega arith, z)

abbrev leaf_of : Level → ℕ → Desc
leaf_of l w =
    leaf_or_malformed (has_leaf_form l w && field w 12 36 % level_pages l == 0) (kind_of_bits (field w 2 4))
    (prot_of_bits (field w 6 2) (field w 54 1)) (state_of_bits (field w 55 2)) (field w 12 36)

word_said : (l : Level) (w : ℕ) → IsSayable l (desc_of l w)
unfolding desc_of
word_said l w =
    either l (w == 0) _ _ (λ _. record { says = λ _. tt })
    (λ p. either l _ _ _ (λ q. record { says = λ e. owner_said w p q })
    (λ _. either l (is_upper l && field w 0 12 == 3 && field w 48 16 == 0) (table_word (record { 0 = field w 12 36 }))
    (leaf_of l w) (λ _. record { says = λ e. absurd e })
    (λ _. leaf_from_c l _ (kind_of_bits (field w 2 4)) (prot_of_bits (field w 6 2) (field w 54 1))
    (state_of_bits (field w 55 2)) (field w 12 36)
    (λ t. (
      (form_right l w (and-both (has_leaf_form l w) (field w 12 36 % level_pages l == 0) t).0).leaves,
      omega arith,
      aligned (has_leaf_form l w) (field w 12 36) (level_pages l) t,
    )))))

pub fits : (d : ℕ) → d < 4 → FitsWord d (level_at d)
fits zero p = fits_each_word.0
fits (suc zero) p = fits_each_word.1
fits (suc (suc zero)) p = fits_each_word.2
fits (suc (suc (suc zero))) p = fits_each_word.3
fits (suc (suc (suc (suc d)))) p = absurd (omega arith)

-- what a word of a tree gives fits a word of its depth
pub word_fits : (d w : ℕ) → d < 4 → IsEntryWord d w → fits_word d (entry_of_word (desc_of (level_at d) w)) ≡ true
word_fits d w p h = (fits d p (entry_of_word (desc_of (level_at d) w))).1 ((word_said (level_at d) w).says h.1)
