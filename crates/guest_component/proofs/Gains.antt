-- Frames that come to a guest.
use Rattle.std.proofs.Common.{◌≡◌, ℕ, suc, ◌+◌, ◌-◌, ◌≤◌, ◌<◌, ◌∷◌, sym, ap, ◌∙◌, arith, true, length}
use Rattle.std.proofs.lemmas.Bool.Decides.{nat_tests}
use Rattle.page_state.specs.declared.entry.PageRange.{PageRange}
use Rattle.page_state.specs.Counts.{frame_count, is_one}
use Rattle.page_state.specs.Regions.{is_in_range}
use Rattle.page_state.specs.Tables.{given, all_given}
use Rattle.page_state.specs.Trees.{Pool, frames_from}
use Rattle.page_state.proofs.Counts.{count_next}
use Rattle.page_state.proofs.Cases.{by_lt, by_test}
use Rattle.hyp_pool.specs.Pools.{StoredFrames}
use Rattle.hyp_pool.proofs.Counts.{count_contains, count_once, all_given_count, all_given_length}
use Rattle.hyp_pool.proofs.Order.{rising_frames, length-frames_from}
use Rattle.reference_model.specs.model.Changes.{frames_in}
use Rattle.reference_model.proofs.Frames.{contains-frames}
use Rattle.table_tree.specs.declared.tree.Tree.{Tree as TableTree}
use Rattle.table_tree.specs.View.{uses, tables_of}
use Rattle.guest_component.specs.Changing.{CanGainFrames}
use Rattle.guest_component.specs.Own.{HoldsOwn}

-- a frame outside isn't counted
count_out : (first n f : ℕ) → (first ≤ f → f < first + n → ⊥) → frame_count f (frames_from first n) ≡ 0
count_out first n f out = by_lt 0 (frame_count f (frames_from first n))
    (λ some. let h = contains-frames first n f ((count_contains f (frames_from first n)).1 some) in
    absurd (out h.0 h.1))
    (λ none. omega (arith, none))

-- each once at most
pub count_frames : (first n f : ℕ) → frame_count f (frames_from first n) ≤ 1
count_frames first n f = count_once f (frames_from first n) (rising_frames first n)

inside : (r : PageRange) (f : ℕ) → r.first.0 ≤ f → f < r.first.0 + r.count → is_in_range r f ≡ true
inside r f low high = grind (arith, nat_tests)

-- one more frame, from the last down
pub given_next : (first count i : ℕ) (old : Pool)
    → 1 ≤ i
    → i ≤ count
    → given (first + (i - 1)) (all_given (frames_from (first + i) (count - i)) old)
    ≡ all_given (frames_from (first + (i - 1)) (count - (i - 1))) old
given_next first count i old some most =
    let n : count - (i - 1) ≡ suc (count - i) = omega (arith, some, most) in
    let k : first + (i - 1) + 1 ≡ first + i = omega (arith, some) in
    ap (λ m. given (first + (i - 1)) (all_given (frames_from m (count - i)) old)) (sym k)
    ∙ sym (ap (λ m. all_given (frames_from (first + (i - 1)) m) old) n)

-- it isn't there yet
pub not_given : (r : PageRange) (i : ℕ) (old : Pool)
    → 1 ≤ i
    → i ≤ r.count
    → ((f : ℕ) → is_in_range r f ≡ true → frame_count f old ≡ 0)
    → frame_count (r.first.0 + (i - 1)) (all_given (frames_from (r.first.0 + i) (r.count - i)) old) ≡ 0
not_given r i old some most apart =
    let f = r.first.0 + (i - 1) in
    let a = all_given_count f (frames_from (r.first.0 + i) (r.count - i)) old in
    let b = count_out (r.first.0 + i) (r.count - i) f (λ low high. omega (arith, low, some)) in
    let c = apart f (inside r f (omega arith) (omega (arith, some, most))) in
    omega (arith, a, b, c)

-- a tree with a pool that got frames, which neither had
pub gained : {A : Type 0} (t : TableTree A) (p q : StoredFrames) (r : PageRange)
    → HoldsOwn t p
    → CanGainFrames t p r
    → q.frames ≡ all_given (frames_in r) p.frames
    → q.room ≡ p.room
    → HoldsOwn t q
gained t p q r own can frames room = (
  λ f.
      let a = ap (frame_count f) frames ∙ all_given_count f (frames_in r) p.frames in
      by_test (is_in_range r f)
      (λ e. omega (arith, a, can.apart f e, count_frames r.first.0 r.count f))
      (λ e. omega
      (arith, a, own.0 f, count_out r.first.0 r.count f (λ low high. let k = inside r f low high in absurd (cc)))),
  (
    let a = ap length frames ∙ all_given_length (frames_in r) p.frames in
        omega (arith, a, can.few, length-frames_from r.first.0 r.count),
    omega (arith, own.1.1, room),
  ),
)

-- a tree of the first frame of a hand, and a pool of the others
pub parted : {A : Type 0} (t : TableTree A) (p : StoredFrames) (root first n : ℕ)
    → frames_from first n ≡ root ∷ p.frames
    → ((f : ℕ) → uses t f ≡ is_one root f)
    → tables_of t ≡ 1
    → n ≤ 512
    → 511 ≤ p.room
    → HoldsOwn t p
parted t p root first n all used one few room = (
  λ f. let a = ap (frame_count f) all ∙ count_next f root p.frames in omega (arith, a, used f, count_frames first n f),
  (let a = ap length (sym all) in omega (arith, a, one, few, length-frames_from first n), room),
)
