-- Past all pages and frames nothing is said, and frames that something has are those of a list.
use Rattle.std.proofs.Common.{◌≡◌, ℕ, ◌-◌, ◌^◌, ◌≤◌, Bool, true, false, List, [], ◌∷◌, Option, Some, None, refl, ap, inl, arith}
use Rattle.std.specs.Prelude.{All}
use Rattle.std.proofs.lemmas.List.Elements.{All-head, All-tail}
use Rattle.page_state.specs.declared.entry.Entry.TheVariants.{Unmapped}
use Rattle.page_state.specs.declared.entry.Run.{Run}
use Rattle.page_state.specs.Layouts.{hyp_page}
use Rattle.page_state.specs.Regions.{has_memory, is_in_range}
use Rattle.page_state.specs.Runs.{map_of}
use Rattle.page_state.proofs.Accepted.{memory_below}
use Rattle.page_state.proofs.Cases.{by_test}
use Rattle.page_state.proofs.Common.{not-holds}
use Rattle.page_state.specs.LayoutFaults.{IsAccepted}
use Rattle.ghost_trees.specs.Small.{AreSmall, IsSmall}
use Rattle.ghost_spec.specs.declared.lists.GhostLists.{GhostLists}
use Rattle.ghost_spec.specs.Kept.{IsKeptShared}
use Rattle.ghost_legal.specs.declared.finding.Facts.{Facts}
use Rattle.ghost_legal.specs.declared.finding.Holder.{Holder}
use Rattle.ghost_legal.specs.declared.finding.Holder.TheVariants.{SharedPool, VmPool, Table, Hand, Guest}
use Rattle.ghost_legal.specs.declared.held.Held.{Held}
use Rattle.ghost_legal.specs.Facts.{later, IsCondition, IsLowHolder}
use Rattle.ghost_legal.specs.Frames.{held_frames, held_at, holder_of, facts_in, IsHeldList, IsSmallHeld, IsSmallHolder}
use Rattle.ghost_legal.specs.Ranges.{at}
use Rattle.ghost_legal.proofs.InOrder.{outside_behind}

past-runs : (rs : List Run) (p : ℕ) → AreSmall rs → 2 ^ 63 ≤ p → map_of rs p ≡ Unmapped
past-runs [] p s h = refl
past-runs (r ∷ rs) p s h = let low : IsSmall r = All-head IsSmall r rs s in
    rw (outside_behind r.pages.first.0 r.pages.count p (omega (arith, low.0, h)))
    (past-runs rs p (All-tail IsSmall r rs s) h)

past-held : (hs : List Held) (p : ℕ) → All IsSmallHeld hs → 2 ^ 63 ≤ p → at held_frames hs p ≡ None
past-held [] p s h = refl
past-held (x ∷ hs) p s h = let low : IsSmallHeld x = All-head IsSmallHeld x hs s in
    rw (outside_behind x.frames.first.0 x.frames.count p (omega (arith, low.frames, h)))
    (past-held hs p (All-tail IsSmallHeld x hs s) h)

low-small : (h : Holder) (n : ℕ) → IsSmallHolder h n → IsLowHolder (Some h)
low-small SharedPool n k = tt
low-small (VmPool v) n k = tt
low-small (Table at) n k = tt
low-small (Hand c) n k = tt
low-small (Guest slot page state) n k = k.0

low-later : (h : Holder) (n : ℕ) → IsLowHolder (Some h) → IsLowHolder (Some (later h n))
low-later SharedPool n k = tt
low-later (VmPool v) n k = tt
low-later (Table at) n k = tt
low-later (Hand c) n k = tt
low-later (Guest slot page state) n k = k

-- the guest that has a frame is one of the 64
pub low-at : (hs : List Held) (f : ℕ) → All IsSmallHeld hs → IsLowHolder (held_at hs f)
low-at [] f s = tt
low-at (x ∷ hs) f s = by_test (is_in_range x.frames f)
    (λ t. rw t
    (low-later x.holder (f - x.frames.first.0)
    (low-small x.holder x.frames.count (All-head IsSmallHeld x hs s).holder)))
    (λ t. rw t (low-at hs f (All-tail IsSmallHeld x hs s)))

nothing : (f : ℕ) (x : Facts)
    → x.memory ≡ false
    → x.host ≡ Unmapped
    → x.hyp ≡ Unmapped
    → x.holder ≡ None
    → IsCondition f x
nothing f x m e h o = by x.memory x.holder m o
  where
    by : (b : Bool) (p : Option Holder) → b ≡ false → p ≡ None → IsCondition f (record x { memory = b; holder = p })
    by true p k l = cc
    by false (Some q) k l = cc
    by false None k l = record { inside = λ q r. cc; fits = record { host = inl e; hyp = h; row = λ r. cc } }

-- past all of them a frame is outside
pub past : (g : GhostLists) (hs : List Held) (f : ℕ)
    → IsAccepted g.layout.map
    → IsKeptShared g.shared
    → IsHeldList hs
    → 2 ^ 63 ≤ f
    → IsCondition f (facts_in g hs f)
past g hs f a k h less = nothing f (facts_in g hs f)
    (not-holds (has_memory g.layout.map f) (λ t. let low = memory_below g.layout.map f a t in omega (arith, low, less)))
    (past-runs g.shared.host.runs.items f k.host.small less)
    (past-runs g.shared.hyp.runs.items (hyp_page f) k.hyp.small (omega (arith, less)))
    (ap (λ o. holder_of o f) (past-held hs f h.small less))
