use Rattle.std.proofs.Common.{rules, arith, refl, ◌≡◌, ℕ, ◌^◌, ◌<◌, ◌↔◌, Some, inl, inr}
use Rattle.descriptor.specs.Word.{Says}
use Rattle.descriptor.proofs.Unique.{value_from_c}
use Rattle.descriptor.proofs.encode.Goals as goal

pub returns-in-Unmapped-clause-value : goal.returns-in-Unmapped-clause-value
returns-in-Unmapped-clause-value c =
    value_from_c c.args.level 0 c.args.desc.now (omega arith) (rw c.in-Unmapped.is refl)

pub returns-then-owner-le255-clause-value : goal.returns-then-owner-le255-clause-value
returns-then-owner-le255-clause-value c =
    value_from_c c.args.level _ c.args.desc.now (omega (arith, c.if-owner-le255.true))
    (rw c.in-Annotated.is
    (record {
      from_one = c.if-owner-ge1.true;
      byte = c.if-owner-le255.true;
      low = omega arith;
      owner_is = omega (arith, c.if-owner-le255.true);
      top = omega (arith, c.if-owner-le255.true);
    }))

pub returns-then-frame-block_pages_of-eq0-clause-value : goal.returns-then-frame-block_pages_of-eq0-clause-value
returns-then-frame-block_pages_of-eq0-clause-value c =
    let h : (w : ℕ) → w < 2 ^ 64 → (Some c.leaf_word_of.result ≡ Some w) ↔ Says c.args.level w c.args.desc.now =
    search rules in
    value_from_c c.args.level c.leaf_word_of.result c.args.desc.now c.leaf_word_of.type_inv
    ((h c.leaf_word_of.result c.leaf_word_of.type_inv).0 refl)

pub returns-then-frame-2-clause-value : goal.returns-then-frame-2-clause-value
returns-then-frame-2-clause-value c =
    value_from_c c.args.level _ c.args.desc.now (omega (arith, c.if-frame-2.true))
    (rw c.in-Table.is
    (record {
      upper = λ e. elim c.in-Zero.is as (λ _. ⊥)
          [ inl a ↦ cc | inr b ↦ elim b as (λ _. ⊥) [ inl a ↦ cc | inr a ↦ cc ] ];
      valid =
          omega arith;
      middle =
          omega arith;
      frame_is = omega (arith, c.if-frame-2.true);
      top = omega (arith, c.if-frame-2.true);
    }))
