-- What holds of every pool, after each change.
use Rattle.std.proofs.Common.{Option, Some, None, IfSome, ◌++◌, subst, ◌≡◌, ℕ, ◌+◌, ◌-◌, ◌<◌, ◌≤◌, List, length, take, drop, ap, ◌∙◌, arith}
use Rattle.std.specs.Prelude.{option_to_list, [], ◌∷◌, All, Contains, reverse}
use Rattle.std.proofs.lemmas.List.{length-drop}
use Rattle.std.specs.List.Sorted.{IsStrictlyIncreasing}
use Rattle.page_state.specs.declared.Frame.{Frame}
use Rattle.page_state.specs.Trees.{Pool, frames_from}
use Rattle.page_state.specs.Tables.{given}
use Rattle.hyp_pool.specs.Pools.{StoredFrames, IsPool, lowest_first}
use Rattle.hyp_pool.proofs.Given.{given_length}
use Rattle.hyp_pool.proofs.Order.{rising_drop, rising_given, rising_frames, length-frames_from, least_first, least_taken}
use Rattle.hyp_pool.proofs.Views.{lowest_first-append, lowest_first-take, lowest_first-drop, all_kept}

-- a pool of these frames, kept with the highest first
abbrev pub kept : List Frame → ℕ → StoredFrames
kept fs room = record { frames = lowest_first fs; room = room }

pub pool_of : (first n : ℕ) → IsPool (record { frames = frames_from first n; room = n })
pool_of first n = record { rising = rising_frames first n; covered = omega (arith, length-frames_from first n) }

pool_drop : (n : ℕ) (fs : Pool) (room : ℕ)
    → IsPool (record { frames = fs; room = room })
    → IsPool (record { frames = drop n fs; room = room })
pool_drop n fs room p = record {
  rising = rising_drop n fs p.rising;
  covered = omega (arith, length-drop n fs, p.covered);
}

-- the first frames of the list alone
pub pool_take : (k room : ℕ) (fs : List Frame) → k ≤ length fs → IsPool (kept fs room) → IsPool (kept (take k fs) room)
pool_take k room fs l p =
    rw (lowest_first-take k (length fs - k) fs (omega arith)) (pool_drop (length fs - k) (lowest_first fs) room p)

pub pool_given : (f room : ℕ) (fs : Pool)
    → (Contains fs f → ⊥)
    → length fs < room
    → IsPool (record { frames = fs; room = room })
    → IsPool (record { frames = given f fs; room = room })
pool_given f room fs new l p = record {
  rising = rising_given f fs new p.rising;
  covered = omega (arith, given_length f fs);
}

-- the last frame of the list is below all others
pub least_popped : (o : Option Frame) (fs gs : List Frame)
    → fs ≡ gs ++ option_to_list o
    → IsStrictlyIncreasing (lowest_first fs)
    → IfSome o (λ f. All (λ g. f.0 < g) (lowest_first gs))
least_popped None fs gs e r = tt
least_popped (Some f) fs gs e r =
    least_first f.0 (lowest_first gs)
    (subst IsStrictlyIncreasing (ap lowest_first e ∙ lowest_first-append gs (f ∷ [])) r)

-- each of the last frames of the list is below all that stay
pub least_moved : (k n : ℕ) (fs : List Frame)
    → k + n ≡ length fs
    → IsStrictlyIncreasing (lowest_first fs)
    → All (λ (f : Frame). All (λ g. f.0 < g) (lowest_first (take k fs))) (reverse (drop k fs))
least_moved k n fs h r =
    rw (lowest_first-take k n fs h)
    (all_kept (λ f. All (λ g. f < g) (drop n (lowest_first fs))) (reverse (drop k fs))
    (rw (lowest_first-drop k n fs h) (least_taken n (lowest_first fs) r)))

-- all frames from the first on, once none is left to make
pub all_made : (first i k n : ℕ) → i ≤ 0 → k + i ≡ n → frames_from (first + i) k ≡ frames_from first n
all_made first i k n h e =
    let start : first + i ≡ first = omega arith in
    let count : k ≡ n = omega arith in
    cc

pub same_pool : (p q : StoredFrames) → p.frames ≡ q.frames → p.room ≡ q.room → p ≡ q
same_pool p q a b = let wrap : Pool → ℕ → StoredFrames = λ fs n. record { frames = fs; room = n } in
    ap (λ fs. wrap fs p.room) a ∙ ap (λ n. wrap q.frames n) b
