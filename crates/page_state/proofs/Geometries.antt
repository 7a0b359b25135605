-- What is so of each geometry: all that looks at which one it is stands here.
use Rattle.std.proofs.Common.{◌≡◌, ℕ, ◌+◌, ◌*◌, ◌^◌, ◌≤◌, refl, ap, ◌∙◌, arith, inl, inr}
use Rattle.std.specs.Prelude.{true, false, ◌==◌, ◌⊎◌, Some, None}
use Rattle.page_state.specs.declared.layout.Geometry.{Geometry}
use Rattle.page_state.specs.declared.layout.Geometry.TheVariants.{Bits39, Bits48}
use Rattle.page_state.specs.Geometries.{geometry_of, levels_below, block_pages, input_pages}
use Rattle.page_state.proofs.Common.{both, eq-same}
use Rattle.page_state.proofs.Sizes.{size_next}

-- three or four levels
pub levels_least : (g : Geometry) → 2 ≤ levels_below g
levels_least Bits39 = omega arith
levels_least Bits48 = omega arith

pub levels_most : (g : Geometry) → levels_below g ≤ 3
levels_most Bits39 = omega arith
levels_most Bits48 = omega arith

-- the pages of memory, the hypervisor's too, are input pages
pub pages_least : (g : Geometry) → 2 ^ 27 ≤ input_pages g
pages_least Bits39 = omega arith
pages_least Bits48 = omega arith

-- an input page has a number of 36 bits
pub pages_most : (g : Geometry) → input_pages g ≤ 2 ^ 36
pages_most Bits39 = omega arith
pages_most Bits48 = omega arith

-- the input pages are those of the root's 512 words
pub root_pages : (g : Geometry) → input_pages g ≡ 512 * block_pages (levels_below g)
root_pages g = size_next (levels_below g)

-- each known width is that of the offset in a page and of the levels
pub width_is : (bits : ℕ) (g : Geometry) → geometry_of bits ≡ Some g → bits ≡ 12 + 9 * (levels_below g + 1)
width_is bits g h = go (both (bits == 39)) (both (bits == 48)) h
  where
    known : (w : ℕ) (k : Geometry) → w ≡ 12 + 9 * (levels_below k + 1) → k ≡ g → w ≡ 12 + 9 * (levels_below g + 1)
    known w k p e = p ∙ ap (λ x. 12 + 9 * (levels_below x + 1)) e

    go : ((bits == 39) ≡ true) ⊎ ((bits == 39) ≡ false)
        → ((bits == 48) ≡ true) ⊎ ((bits == 48) ≡ false)
        → geometry_of bits ≡ Some g
        → bits ≡ 12 + 9 * (levels_below g + 1)
    go (inl e) f h = let here : Some Bits39 ≡ Some g = rw e at h in eq-same bits 39 e ∙ known 39 Bits39 refl cc
    go (inr e) (inl f) h = let here : Some Bits48 ≡ Some g = rw (e, f) at h in
        eq-same bits 48 f ∙ known 48 Bits48 refl cc
    go (inr e) (inr f) h = let none : None ≡ Some g = rw (e, f) at h in cc
