-- The free frames of each pool are in order in each state of a run.
use Rattle.std.proofs.Common.{◌≡◌, ℕ, zero, suc, ◌+◌, ◌≤◌, ◌<◌, ap, sym, ◌∙◌, subst, arith, inl, inr, List, [], ◌∷◌, AllPairs, ◌++◌, length, drop, slice_index_or}
use Rattle.std.specs.Prelude.{Bool, true, false, ◌==◌, nat_lt, ◌⊎◌, Option, Some, None, if◌then◌else◌}
use Rattle.std.proofs.lemmas.Bool.Decides.{nat_tests}
use Rattle.reference_model.specs.declared.changes.Changes.{Changes}
use Rattle.reference_model.specs.declared.changes.GuestChange.{GuestChange}
use Rattle.reference_model.specs.declared.changes.GuestChange.TheVariants.{Keep as KeepGuest, Install as Begin, Gain as Grow, LoseLowest, Die, Empty}
use Rattle.call_table.specs.declared.reply.Call.{Call}
use Rattle.call_table.specs.declared.step.Step.{Step}
use Rattle.page_state.specs.Trees.{frames_from, Pool}
use Rattle.reference_model.specs.model.Boot.{boot, booted}
use Rattle.reference_model.specs.model.Changes.{edit_of, guest_by, rest, frames_in}
use Rattle.reference_model.specs.help.Conditions.{one, in_shared, in_vm}
use Rattle.page_state.specs.Counts.{is_one, frame_count}
use Rattle.page_state.specs.Layouts.{Layout}
use Rattle.reference_model.specs.model.Parts.{uses_shared}
use Rattle.reference_model.specs.model.Rules.{names}
use Rattle.reference_model.specs.help.PoolOrder.{IsInOrder, RunInOrder}
use Rattle.reference_model.specs.model.Run.{Runs}
use Rattle.reference_model.specs.model.State.{Shared, Guest, Contents, Reference, no_shared}
use Rattle.reference_model.specs.model.Step.{shared_need, guest_need, shared_after, guest_after, changed, with_rows, made, rule_of, Answered, used_by, Steps}
use Rattle.page_state.specs.Tables.{returned, given, all_given}
use Rattle.reference_model.specs.model.Used.{Used, used_of, put_back, guest_at, put_guest}
use Rattle.page_state.proofs.Common.{both, eq-self}
use Rattle.page_state.proofs.Counts.{count_next}
use Rattle.reference_model.proofs.Steps.{used-self}
use Rattle.reference_model.proofs.conditions.RunsLegal.{run_legal}
use Rattle.reference_model.proofs.conditions.Slots.{put-fact}

-- no frame is lower than one before it, nor than a bound
Rises : ℕ → Pool → Type 0
Rises low [] = Unit {0}
Rises low (f ∷ fs) = (low ≤ f) × Rises f fs

rises-from : (a b : ℕ) (fs : Pool) → a ≤ b → Rises b fs → Rises a fs
unfolding Rises
rises-from a b [] less h = tt
rises-from a b (f ∷ fs) less h = let more : b ≤ f = h.0 in (omega arith, h.1)

rises-given : (low f : ℕ) (fs : Pool) → low ≤ f → Rises low fs → Rises low (given f fs)
unfolding Rises
rises-given low f [] less h = (less, tt)
rises-given low f (g ∷ gs) less h = go (both (nat_lt f g)) (rises-given g f gs)
  where
    go : ((nat_lt f g) ≡ true) ⊎ ((nat_lt f g) ≡ false)
        → (g ≤ f → Rises g gs → Rises g (given f gs))
        → Rises low (if nat_lt f g then f ∷ (g ∷ gs) else g ∷ given f gs)
    go (inl e) more = let under : f ≤ g = grind (arith, nat_tests) in rw e (less, (under, h.1))
    go (inr e) more = let over : g ≤ f = grind (arith, nat_tests) in rw e (h.0, more over h.1)

rises-all : (fs free : Pool) → Rises 0 free → Rises 0 (all_given fs free)
rises-all [] free h = h
rises-all (f ∷ fs) free h = rises-given 0 f (all_given fs free) (omega arith) (rises-all fs free h)

rises-drop : (low n : ℕ) (fs : Pool) → Rises low fs → Rises low (drop n fs)
unfolding Rises
rises-drop low zero fs h = h
rises-drop low (suc n) [] h = h
rises-drop low (suc n) (f ∷ fs) h = rises-drop low n fs (rises-from low f fs h.0 h.1)

rises-rest : (fs : Pool) → Rises 0 fs → Rises 0 (rest fs)
unfolding Rises
rises-rest [] h = h
rises-rest (f ∷ fs) h = rises-from 0 f fs h.0 h.1

rises-frames : (low first n : ℕ) → low ≤ first → Rises low (frames_from first n)
unfolding Rises
rises-frames low first zero less = tt
rises-frames low first (suc n) less = (less, rises-frames first (first + 1) n (omega arith))

-- where each frame is there once, it is higher than those before it

Climbs : ℕ → Pool → Type 0
Climbs low [] = Unit {0}
Climbs low (f ∷ fs) = (low < f) × Climbs f fs

climbs : (low : ℕ) (fs : Pool)
    → Rises low fs
    → frame_count low fs ≡ 0
    → ((f : ℕ) → frame_count f fs ≤ 1)
    → Climbs low fs
unfolding Rises Climbs
climbs low [] h none once = tt
climbs low (f ∷ fs) h none once = (
  above (both (f == low)),
  climbs f fs h.1
      (let n = count_next f f fs in let k = once f in let e : is_one f f ≡ 1 = ap one (eq-self f) in omega arith)
      (λ g. let n = count_next g f fs in let k = once g in omega arith),
)
  where
    above : ((f == low) ≡ true) ⊎ ((f == low) ≡ false) → low < f
    above (inl e) = absurd (let n = count_next low f fs in let k : is_one f low ≡ 1 = ap one e in omega arith)
    above (inr e) = let more : low ≤ f = h.0 in grind (arith, nat_tests)

climbs-at : (low : ℕ) (fs : Pool) → Climbs low fs → (k d : ℕ) → k < length fs → low < slice_index_or fs k d
unfolding Climbs
climbs-at low [] h k d less = absurd (omega arith)
climbs-at low (f ∷ fs) h zero d less = h.0
climbs-at low (f ∷ fs) h (suc k) d less = let more : low < f = h.0 in
    let next = climbs-at f fs h.1 k d (omega arith) in
    omega arith

pairs-from : (f : ℕ) (fs : Pool) → Climbs f fs → AllPairs (λ a b. a < b) (f ∷ fs)
unfolding Climbs
pairs-from f fs h i zero d less in_list = absurd (omega arith)
pairs-from f fs h zero (suc j) d less in_list = climbs-at f fs h j d (omega arith)
pairs-from f [] h (suc i) (suc j) d less in_list = absurd (omega arith)
pairs-from f (g ∷ gs) h (suc i) (suc j) d less in_list = pairs-from g gs h.1 i j d (omega arith) (omega arith)

in-order : (fs : Pool) → Rises 0 fs → ((f : ℕ) → frame_count f fs ≤ 1) → IsInOrder fs
unfolding Rises
in-order [] h once = λ i j d less in_list. absurd (omega arith)
in-order (f ∷ fs) h once =
    pairs-from f fs
    (climbs f fs h.1
    (let n = count_next f f fs in let k = once f in let e : is_one f f ≡ 1 = ap one (eq-self f) in omega arith)
    (λ g. let n = count_next g f fs in let k = once g in omega arith))

-- all pools
record Rising (s : Contents) : Type 0 where
  shared : Rises 0 s.shared.free
  guest : (v : ℕ) → Rises 0 (s.guest v).free

either : (P : Shared → Type 0) (b : Bool) (x y : Shared) → P x → P y → P (if b then x else y)
either P true x y p q = p
either P false x y p q = q

guest-rises : (depth : ℕ) (h : GuestChange) (g : Guest) → Rises 0 g.free → Rises 0 (guest_by depth h g).free
unfolding Rises
guest-rises depth KeepGuest g r = r
guest-rises depth (Begin kind generation hand) g r =
    rises-rest (frames_in hand) (rises-frames 0 hand.first.0 hand.count (omega arith))
guest-rises depth (Grow range) g r = rises-all (frames_in range) g.free r
guest-rises depth LoseLowest g r = rises-rest g.free r
guest-rises depth Die g r = r
guest-rises depth Empty g r = tt

after-rises : (depth : ℕ) (h : Changes) (g : Guest) → Rises 0 g.free → Rises 0 (guest_after depth h g).free
unfolding guest_after
after-rises depth h g r =
    guest-rises depth h.part _
    (rises-all (returned depth g.tree (edit_of h.guest)) _ (rises-drop 0 (guest_need depth h g) g.free r))

shared-rises : (depth : ℕ) (h : Changes) (x : Shared) → Rises 0 x.free → Rises 0 (shared_after depth h x).free
unfolding shared_after
shared-rises depth h x r =
    rises-all (returned depth x.host (edit_of h.host) ++ returned depth x.hyp (edit_of h.hyp)) _
    (rises-drop 0 (shared_need depth h x) x.free r)

guests-rise : (depth : ℕ) (h : Changes) (gs : ℕ → Guest) (slot : Option ℕ)
    → ((v : ℕ) → Rises 0 (gs v).free)
    → (v : ℕ)
    → Rises 0 (put_guest gs slot (guest_after depth h (guest_at gs slot)) v).free
guests-rise depth h gs None r = r
guests-rise depth h gs (Some u) r =
    put-fact (λ v (g : Guest). Rises 0 g.free) gs u (guest_after depth h (gs u)) (after-rises depth h (gs u) (r u))
    (λ v e. r v)

-- what a made step leaves
made-rises : (l : Layout) (s : Contents) (cpu : ℕ) (slot : Option ℕ) (step : Step)
    → Rising s
    → Rising (put_back (names step) slot cpu s (made l cpu slot step (used_of (names step) slot cpu s)))
unfolding put_back made with_rows changed used_of Rises
made-rises l s cpu slot step r = record {
  shared =
      either (λ x. Rises 0 x.free) (uses_shared (names step) slot) _ s.shared
      (shared-rises l.depth (rule_of l cpu slot step (used_of (names step) slot cpu s)).changes _
      (either (λ x. Rises 0 x.free) (uses_shared (names step) slot) s.shared no_shared r.shared tt)) r.shared;
  guest = guests-rise l.depth (rule_of l cpu slot step (used_of (names step) slot cpu s)).changes s.guest slot r.guest;
}

step-rises : (l : Layout) (s t : Reference) (c : Call) → Steps l s c t → Rising s.contents → Rising t.contents
step-rises l s t c steps r =
    subst Rising (sym (ap (λ (u : Reference). u.contents) steps.next)) (elim (steps.on.answers) [
      | inl p ↦ stays steps.after p.next
      | inr p ↦ answered steps.after p.answered
    ])
  where
    stays : (y : Used) → y ≡ used_by c s → Rising (put_back (names c.step) c.slot c.cpu s.contents y)
    stays y e = subst Rising (sym (ap (put_back (names c.step) c.slot c.cpu s.contents) e ∙ used-self c s)) r

    answered : (y : Used)
        → Answered l c.cpu c.slot c.step true (used_by c s) c.reply y
        → Rising (put_back (names c.step) c.slot c.cpu s.contents y)
    answered y (inl p) =
        subst (λ z. Rising (put_back (names c.step) c.slot c.cpu s.contents z)) (sym p.next)
        (made-rises l s.contents c.cpu c.slot c.step r)
    answered y (inr (inl p)) = stays y p.next
    answered y (inr (inr p)) = stays y p.next

boot-rises : (l : Layout) → Rising (boot l).contents
unfolding booted Rises
boot-rises l =
    record {
      shared = rises-drop 0 _ _ (rises-drop 0 2 _ (rises-frames 0 _ l.memory.carve.count (omega arith)));
      guest = λ v. tt;
    }

run-rises : (l : Layout) (cs : List Call) (s t : Reference)
    → Rising s.contents
    → Runs (Steps l) s cs t
    → Rising t.contents
run-rises l [] s t r run = subst (λ (u : Reference). Rising u.contents) run r
run-rises l (c ∷ cs) s t r run = run-rises l cs run.0 t (step-rises l s run.0 c run.1 r) run.2

one-most : (b : Bool) → one b ≤ 1
one-most true = omega arith
one-most false = omega arith

pub run_in_order : RunInOrder
run_in_order l cs t ready run =
    let legal = run_legal l cs t ready run in
    let r = run-rises l cs (boot l) t (boot-rises l) run.leads in
    record {
      shared =
          in-order t.contents.shared.free r.shared
          (λ f. let n = legal.held.shared f in let m = one-most (in_shared (legal.condition f)) in omega arith);
      guest =
          λ v. in-order (t.contents.guest v).free (r.guest v)
          (λ f. let n = legal.held.vm v f in let m = one-most (in_vm v (legal.condition f)) in omega arith);
    }
