-- The words that continue a run from a word on.
use Rattle.std.proofs.Common.{◌≡◌, ℕ, zero, suc, ◌+◌, ◌-◌, ◌*◌, ◌%◌, ◌^◌, ◌<◌, ◌≤◌, refl, sym, ap, subst, ◌∙◌, arith}
use Rattle.std.specs.Prelude.{true, false}
use Rattle.std.proofs.Math.Nat.{mul-le-mul_right}
use Rattle.descriptor.specs.declared.Level.{Level}
use Rattle.descriptor.specs.declared.Frame.{Frame}
use Rattle.descriptor.specs.declared.Owner.{Owner}
use Rattle.descriptor.specs.declared.Prot.{Prot}
use Rattle.descriptor.specs.declared.Kind.{Kind}
use Rattle.descriptor.specs.declared.State.{State}
use Rattle.descriptor.specs.declared.Desc.{Desc}
use Rattle.descriptor.specs.declared.Desc.TheVariants.{Malformed as malformed_word, Unmapped as unmapped_word, Annotated as annotated_word, Leaf as leaf_word, Table as table_word}
use Rattle.descriptor.specs.Word.{level_pages, desc_of, IsEncodable, IsLeaf, DecodesTo}
use Rattle.descriptor.proofs.Unique.{desc_of_said, value_from_c}
use Rattle.page_state.specs.declared.entry.Entry.{Entry}
use Rattle.page_state.specs.declared.entry.Entry.TheVariants.{Unmapped, Malformed, Annotated, Leaf}
use Rattle.page_state.specs.Entries.{advance, entry_of_word, word_of_entry}
use Rattle.page_state.specs.Geometries.{block_pages}
use Rattle.table_tree.specs.Meaning.{level_at}
use Rattle.table_tree.specs.Ahead.{gives, GoesAhead}
use Rattle.table_tree.specs.Shape.{IsEntryWord, IsWellFormed}

-- a word with a frame further on
leaf_more : (l : Level) (w m f : ℕ) (p : Prot) (k : Kind) (s : State)
    → w < 2 ^ 64
    → IsLeaf l w f p k s
    → f + m < 2 ^ 36
    → (f + m) % level_pages l ≡ 0
    → IsLeaf l (w + 4096 * m) (f + m) p k s
leaf_more l w m f p k s r x h a =
    let form = x.form in
    let e0 = x.form.valid in
    let e1 = x.form.page in
    let e2 = x.kind_is in
    let e6 = x.access_is in
    let e8 = x.form.shareable in
    let e10 = x.form.accessed in
    let e11 = x.form.zero_11 in
    let e12 = x.frame_is in
    let e48 = x.form.zero_48 in
    let e54 = x.execute_never_is in
    let e55 = x.state_is in
    let e57 = x.form.zero_57 in
    record {
      form =
          record {
            leaves = x.form.leaves;
            valid = omega (arith, e0);
            page = omega (arith, e1);
            shareable =
                omega (arith, e8);
            accessed =
                omega (arith, e10);
            zero_11 =
                omega (arith, e11);
            zero_48 =
                omega (arith, e12, e48);
            zero_57 = omega (arith, e12, e48, e57);
          };
      kind_is = omega (arith, e2);
      access_is = omega (arith, e6);
      execute_never_is = omega (arith, e12, e48, e54);
      state_is = omega (arith, e12, e48, e55);
      frame_is = omega (arith, e12, e48);
      aligned = a;
    }

leaf_desc : (e : Desc) (f : Frame) (p : Prot) (k : Kind) (s : State)
    → entry_of_word e ≡ Leaf f p k s
    → e ≡ leaf_word f p k s
leaf_desc (leaf_word g q l t) f p k s e = cc
leaf_desc malformed_word f p k s e = absurd (cc)
leaf_desc unmapped_word f p k s e = absurd (cc)
leaf_desc (annotated_word o) f p k s e = absurd (cc)
leaf_desc (table_word g) f p k s e = absurd (cc)

leaf_of_word : (l : Level) (w : ℕ) (f : Frame) (p : Prot) (k : Kind) (s : State)
    → w < 2 ^ 64
    → entry_of_word (desc_of l w) ≡ Leaf f p k s
    → IsLeaf l w f.0 p k s
leaf_of_word l w f p k s r e = subst (DecodesTo l w) (leaf_desc (desc_of l w) f p k s e) (desc_of_said l w r)

leaf_room : (l : Level) (w m f : ℕ) (p : Prot) (k : Kind) (s : State)
    → w < 2 ^ 64
    → IsLeaf l w f p k s
    → f + m ≤ 2 ^ 36
    → w + 4096 * m < 2 ^ 64
leaf_room l w m f p k s r x h =
    let e12 = x.frame_is in
    let e57 = x.form.zero_57 in
    omega (arith, e12, e57)

leaf_ahead : (l : Level) (w m : ℕ) (f : Frame) (p : Prot) (k : Kind) (s : State)
    → w < 2 ^ 64
    → entry_of_word (desc_of l w) ≡ Leaf f p k s
    → f.0 + m < 2 ^ 36
    → (f.0 + m) % level_pages l ≡ 0
    → entry_of_word (desc_of l (w + 4096 * m)) ≡ advance (Leaf f p k s) m
leaf_ahead l w m f p k s r e h a =
    let x : IsLeaf l w f.0 p k s = leaf_of_word l w f p k s r e in
    let g : Frame = record { 0 = f.0 + m } in
    let y : IsLeaf l (w + 4096 * m) g.0 p k s = leaf_more l w m f.0 p k s r x h a in
    ap entry_of_word (value_from_c l (w + 4096 * m) (leaf_word g p k s) (leaf_room l w m f.0 p k s r x (omega arith)) y)

-- blocks of `P` pages of a level
record AreSized (l : Level) (P : ℕ) : Type 0 where
  aligned : (f k : ℕ) → f % level_pages l ≡ 0 → (f + k * P) % level_pages l ≡ 0
  inside : (k : ℕ) → k < 512 → k * P < 512 * P
  few : P ≤ 2 ^ 27

sized : (d : ℕ) → d < 4 → AreSized (level_at d) (block_pages d)
sized zero h = record { aligned = λ f k e. omega arith; inside = λ k l. omega arith; few = omega arith }
sized (suc zero) h = record { aligned = λ f k e. omega arith; inside = λ k l. omega arith; few = omega arith }
sized (suc (suc zero)) h = record { aligned = λ f k e. omega arith; inside = λ k l. omega arith; few = omega arith }
sized (suc (suc (suc zero))) h =
    record { aligned = λ f k e. omega arith; inside = λ k l. omega arith; few = omega arith }
sized (suc (suc (suc (suc d)))) h = absurd (omega arith)

pub leaf_goes : (d pages : ℕ) (f : Frame) (p : Prot) (k : Kind) (s : State)
    → d < 4
    → pages ≡ block_pages d
    → f.0 ≤ 2 ^ 36 - 512 * pages
    → GoesAhead d (Leaf f p k s) (4096 * pages)
leaf_goes d pages f p k s dd e h =
    let z = sized d dd in
    let few : block_pages d ≤ 2 ^ 27 = z.few in
    let below : f.0 + 512 * block_pages d ≤ 2 ^ 36 = omega (arith, few, h, e) in
    rw e (record {
      ahead = λ w n r g l.
          let x : IsLeaf (level_at d) w f.0 p k s = leaf_of_word (level_at d) w f p k s r g in
          let i : n * block_pages d < 512 * block_pages d = z.inside n l in
          let small : f.0 + n * block_pages d < 2 ^ 36 = omega (arith, i, below) in
          let same : w + n * (4096 * block_pages d) ≡ w + 4096 * (n * block_pages d) = omega arith in
          ap (λ v. entry_of_word (desc_of (level_at d) v)) same
          ∙ leaf_ahead (level_at d) w (n * block_pages d) f p k s r g small (z.aligned f.0 n x.aligned);
      room = λ w r g.
          let x : IsLeaf (level_at d) w f.0 p k s = leaf_of_word (level_at d) w f p k s r g in
          let same : w + 512 * (4096 * block_pages d) ≡ w + 4096 * (512 * block_pages d) = omega arith in
          let y = leaf_room (level_at d) w (512 * block_pages d) f.0 p k s r x below in
          omega (arith, same, y);
    })

flat_goes : (d : ℕ) (e : Entry) → ((n : ℕ) → advance e n ≡ e) → GoesAhead d e 0
flat_goes d e a = record {
  ahead = λ w n r g l. ap (λ v. entry_of_word (desc_of (level_at d) v)) (omega arith) ∙ g ∙ sym (a (n * block_pages d));
  room = λ w r g. omega arith;
}

pub unmapped_goes : (d : ℕ) → GoesAhead d Unmapped 0
unmapped_goes d = flat_goes d Unmapped (λ n. refl)

pub malformed_goes : (d : ℕ) → GoesAhead d Malformed 0
malformed_goes d = flat_goes d Malformed (λ n. refl)

pub annotated_goes : (d : ℕ) (o : Owner) → GoesAhead d (Annotated o) 0
annotated_goes d o = flat_goes d (Annotated o) (λ n. refl)

pub zero_gives : (d : ℕ) → gives d 0 ≡ Unmapped
unfolding desc_of
zero_gives d = refl

-- a leaf that a word one level up can say goes on to the end of its block
leaf_below : (d : ℕ) (f : Frame) (p : Prot) (k : Kind) (s : State)
    → d + 1 < 4
    → IsEncodable (level_at (d + 1)) (leaf_word f p k s)
    → f.0 ≤ 2 ^ 36 - 512 * block_pages d
leaf_below zero f p k s h c = let x = c.1 in let y = c.2 in omega (arith, x, y)
leaf_below (suc zero) f p k s h c = let x = c.1 in let y = c.2 in omega (arith, x, y)
leaf_below (suc (suc zero)) f p k s h c = let no : false ≡ true = c.0 in absurd (cc)
leaf_below (suc (suc (suc d))) f p k s h c = absurd (omega (arith, h))

pub said_leaf_goes : (d pages : ℕ) (f : Frame) (p : Prot) (k : Kind) (s : State)
    → d + 1 < 4
    → pages ≡ block_pages d
    → IsEncodable (level_at (d + 1)) (word_of_entry (Leaf f p k s))
    → GoesAhead d (Leaf f p k s) (4096 * pages)
said_leaf_goes d pages f p k s h e c = leaf_goes d pages f p k s (omega (arith, h)) e (rw e (leaf_below d f p k s h c))

-- such words are of a tree
formed_on : (e : Entry) (n : ℕ) → IsWellFormed e → IsWellFormed (advance e n)
formed_on Malformed n h = h
formed_on Unmapped n h = tt
formed_on (Annotated o) n h = tt
formed_on (Leaf f p k s) n h = tt

pub goes_said : (d w k step : ℕ) (e : Entry)
    → IsEntryWord d w
    → gives d w ≡ e
    → GoesAhead d e step
    → k < 512
    → IsEntryWord d (w + k * step)
goes_said d w k step e h g a l =
    let room = a.room w h.0 g in
    let some : k * step ≤ 512 * step = mul-le-mul_right step (omega (arith, l)) in (
      omega (arith, room, some),
      subst (λ x. IsWellFormed x) (sym (a.ahead w k h.0 g l))
          (formed_on e (k * block_pages d) (subst (λ x. IsWellFormed x) g h.1)),
    )
