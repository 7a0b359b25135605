-- The made steps on the Shared part keep the invariant.
use Rattle.std.proofs.Common.{◌≡◌, ℕ, ◌+◌, ◌-◌, ◌≤◌, ◌<◌, refl, ap, sym, ◌∙◌, subst, arith, inl, inr, length}
use Rattle.std.specs.Prelude.{Bool, true, false, not, ◌&&◌, ◌==◌, is_some, Option, Some, None, is_none}
use Rattle.std.proofs.lemmas.Bool.Decides.{nat_tests}
use Rattle.descriptor.specs.declared.Prot.TheVariants.{RW, RWX}
use Rattle.descriptor.specs.declared.State.TheVariants.{Owned, SharedOwned, SharedBorrowed}
use Rattle.page_state.specs.declared.entry.PageRange.{PageRange}
use Rattle.call_table.specs.declared.reply.Value.TheVariants.{Nothing}
use Rattle.page_state.specs.declared.row.Row.{Row}
use Rattle.page_state.specs.declared.row.Usage.TheVariants.{Plain, SharedPool, VmPool, InHand}
use Rattle.call_table.specs.declared.step.Step.{Step}
use Rattle.call_table.specs.declared.step.Step.TheVariants.{ShareHyp, UnshareHyp, DonateHyp, HypDonateHost, Fund, Unfund}
use Rattle.page_state.specs.EntryTests.{is_unmapped, is_in, is_free_page}
use Rattle.page_state.specs.Layouts.{Layout, is_memory, is_good_range, hyp_page}
use Rattle.page_state.specs.Map.{is_within}
use Rattle.page_state.specs.Search.{all_below}
use Rattle.reference_model.specs.model.Rule.{reads}
use Rattle.reference_model.specs.declared.changes.Changes.{Changes}
use Rattle.reference_model.specs.declared.changes.GuestChange.TheVariants.{Keep as KeepGuest}
use Rattle.reference_model.specs.model.Changes.{cpu_by, same_cpu}
use Rattle.reference_model.specs.help.Conditions.{Condition, outside, hosts, with_hyp, hyps, with_guest, guests, lent_back, hyp_entry_by, Legal, IsUsable, row_in, in_hand}
use Rattle.reference_model.specs.model.Owner.{is_in_hand, lent_at}
use Rattle.reference_model.specs.model.Parts.{shared}
use Rattle.reference_model.specs.model.Rules.{names}
use Rattle.reference_model.specs.model.SharedRules.{share_hyp, unshare_hyp, donate_hyp, hyp_donate_host, fund, unfund, may_donate, may_return, is_plain, hand_of, hand_becomes}
use Rattle.reference_model.specs.model.State.{Cpu, Contents, put_at, plain_row}
use Rattle.reference_model.specs.model.Step.{refusal, shared_need}
use Rattle.reference_model.specs.model.Used.{used_of}
use Rattle.page_state.proofs.Common.{both, eq-same, eq-self, if-true, if-false, and-both, and-left, and-right}
use Rattle.reference_model.proofs.conditions.FrameMoves.{StepKept, FramesMove}
use Rattle.reference_model.proofs.conditions.Moves.{moved_to, always, is_calm, moved-in, moved-out, moved-fact}
use Rattle.reference_model.proofs.conditions.RangeMoves.{within-is, one-frame, range-all, advance-leaf, good-range, hand-some, free-is, hand-was, hands-stay, hands-emptied, range-frames, given-frames, back-frames}
use Rattle.reference_model.proofs.conditions.SharedMoves.{x_of, shared-keeps}
use Rattle.reference_model.proofs.conditions.Tests.{passed}

hyp-advance : (f n q : ℕ) → is_within f n q ≡ true → hyp_page q ≡ hyp_page f + (q - f)
hyp-advance f n q w = let at = within-is f n q w in let low : f ≤ q = at.0 in omega arith

-- conditions told by tests

borrowed-with : (f : ℕ) (c : Condition) → is_in SharedBorrowed (hyp_entry_by f c) ≡ true → c ≡ with_hyp
borrowed-with f with_hyp h = refl
borrowed-with f c h = cc

plain-hyps : (f : ℕ) (c : Condition)
    → ((row_in f c).owner.0 == 1) ≡ true
    → is_plain (row_in f c).usage ≡ true
    → c ≡ hyps Plain
plain-hyps f (hyps Plain) a b = refl
plain-hyps f (hyps SharedPool) a b = cc
plain-hyps f (hyps (VmPool v)) a b = cc
plain-hyps f (hyps (InHand d)) a b = cc
plain-hyps f outside a b = cc
plain-hyps f hosts a b = cc
plain-hyps f with_hyp a b = cc
plain-hyps f (with_guest v g) a b = cc
plain-hyps f (guests v g) a b = let e : 2 + v ≡ 1 = eq-same (2 + v) 1 a in absurd (omega arith)
plain-hyps f (lent_back v g) a b = let e : 2 + v ≡ 1 = eq-same (2 + v) 1 a in absurd (omega arith)

three-and : (a b c : Bool) → (a && b && c) ≡ true → (a ≡ true) × (b ≡ true) × (c ≡ true)
three-and true true c h = (refl, refl, h)
three-and true false c h = cc
three-and false b c h = cc

is_some-false : {X : Type 0} (o : Option X) → is_none o ≡ true → o ≡ None
is_some-false None h = refl
is_some-false (Some x) h = cc

-- two numbers that differ, the other way round
eq-turned : (c d : ℕ) → (d == c) ≡ false → (c == d) ≡ false
eq-turned c d h = grind (arith, nat_tests)

module _ (l : Layout) (s : Contents) (legal : Legal l s) (usable : IsUsable l) (cpu : ℕ) where
  -- the range's frames go from a condition that names no guest to another, and the CPU keeps all but its hand
  calm-keeps : (step : Step)
      → names step ≡ shared
      → {r : Changes} {first n : ℕ} (old : Condition) {c : Condition}
      → FramesMove l s legal.condition cpu None r first n (always c)
      → is_calm old ≡ true
      → is_calm c ≡ true
      → ((q : ℕ) → is_within first n q ≡ true → legal.condition q ≡ old)
      → (cpu_by r.cpu (s.cpu cpu)).loaded ≡ (s.cpu cpu).loaded
      → (cpu_by r.cpu (s.cpu cpu)).ticket ≡ (s.cpu cpu).ticket
      → ((h : PageRange) → (cpu_by r.cpu (s.cpu cpu)).hand ≡ Some h → 1 ≤ h.count)
      → shared_need l.depth r s.shared ≤ length s.shared.free → StepKept l s legal.condition shared None cpu step r
  calm-keeps step named {r} {first} {n} old {c} m before new was loaded ticket some enough =
      shared-keeps l s legal usable cpu step named r first n c (record {
        frames = m;
        calm = record { calm = new; was_calm = λ q w. ap is_calm (was q w) ∙ before };
        loaded = loaded;
        ticket = ticket;
        some_hand = some;
      }) enough

  pub share_hyp-keeps : (f : ℕ)
      → refusal l.depth (share_hyp f (reads l cpu None (x_of cpu s))) false (x_of cpu s) ≡ None
      → StepKept l s legal.condition shared None cpu (ShareHyp f) (share_hyp f (reads l cpu None (x_of cpu s))).changes
  unfolding used_of
  share_hyp-keeps f h =
      let p = passed l.depth (share_hyp f (reads l cpu None (x_of cpu s))) false (x_of cpu s) h in
      let mem : is_memory l f ≡ true = p.valid in
      let free : is_free_page (s.shared.host.map f) ≡ true =
      and-left (is_free_page (s.shared.host.map f)) (is_unmapped (s.shared.hyp.map (hyp_page f))) p.allowed in
      let was = one-frame f (λ q. legal.condition q ≡ hosts) (free-is legal f mem free) in
      calm-keeps (ShareHyp f) refl hosts (range-frames legal usable cpu None KeepGuest same_cpu Nothing (record {
        some = omega arith;
        memory = one-frame f (λ q. is_memory l q ≡ true) mem;
        was = was;
        inside = refl;
        good = tt;
        same_use = refl;
        host = λ q w. advance-leaf RWX f 1 q SharedOwned w;
        hyp = λ q w. advance-leaf RW f 1 q SharedBorrowed w;
        told = λ q w. ap (λ p. record plain_row { lent = Some (lent_at 1 p) }) (hyp-advance f 1 q w);
        goes = λ q w. refl;
        hand = hands-stay legal cpu same_cpu (always with_hyp) f 1 refl (λ d q w. ap (in_hand d) (was q w));
        own_hand = λ d h. cc;
      })) refl refl was refl refl (legal.slots.some_hand cpu) p.shared_enough

  pub unshare_hyp-keeps : (f : ℕ)
      → refusal l.depth (unshare_hyp f (reads l cpu None (x_of cpu s))) false (x_of cpu s) ≡ None
      → StepKept l s legal.condition shared None cpu (UnshareHyp f)
      (unshare_hyp f (reads l cpu None (x_of cpu s))).changes
  unfolding used_of
  unshare_hyp-keeps f h =
      let p = passed l.depth (unshare_hyp f (reads l cpu None (x_of cpu s))) false (x_of cpu s) h in
      let borrowed : is_in SharedBorrowed (s.shared.hyp.map (hyp_page f)) ≡ true =
      and-right (is_in SharedOwned (s.shared.host.map f))
      (is_in SharedBorrowed (s.shared.hyp.map (hyp_page f))) p.allowed in
      let was =
      one-frame f (λ q. legal.condition q ≡ with_hyp)
      (borrowed-with f (legal.condition f) (sym (ap (is_in SharedBorrowed) (legal.maps.hyp f)) ∙ borrowed)) in
      calm-keeps (UnshareHyp f) refl with_hyp (range-frames legal usable cpu None KeepGuest same_cpu Nothing (record {
        some = omega arith;
        memory = one-frame f (λ q. is_memory l q ≡ true) p.valid;
        was = was;
        inside = refl;
        good = tt;
        same_use = refl;
        host = λ q w. inr (advance-leaf RWX f 1 q Owned w);
        hyp = λ q w. refl;
        told = λ q w. refl;
        goes = λ q w. refl;
        hand = hands-stay legal cpu same_cpu (always hosts) f 1 refl (λ d q w. ap (in_hand d) (was q w));
        own_hand = λ d h. cc;
      })) refl refl was refl refl (legal.slots.some_hand cpu) p.shared_enough

  module _ (f n : ℕ) where
    -- the frames of a range that may be donated are the host's
    donated : may_donate (x_of cpu s) f n ≡ true
        → ((q : ℕ) → is_within f n q ≡ true → is_memory l q ≡ true)
        → (q : ℕ)
        → is_within f n q ≡ true
        → legal.condition q ≡ hosts
    unfolding used_of
    donated h all q w =
        free-is legal q (all q w)
        (and-both (is_free_page (s.shared.host.map q)) (is_unmapped (s.shared.hyp.map (hyp_page q)))
        (range-all f n
        (λ p. is_free_page (s.shared.host.map p) && is_unmapped (s.shared.hyp.map (hyp_page p))) h q w)).0

    pub donate_hyp-keeps : refusal l.depth (donate_hyp f n (reads l cpu None (x_of cpu s))) false (x_of cpu s) ≡ None
        → StepKept l s legal.condition shared None cpu (DonateHyp f n)
        (donate_hyp f n (reads l cpu None (x_of cpu s))).changes
    unfolding used_of
    donate_hyp-keeps h =
        let p = passed l.depth (donate_hyp f n (reads l cpu None (x_of cpu s))) false (x_of cpu s) h in
        let good = good-range l f n p.valid in
        let was = donated p.allowed good.1 in
        let frames =
        given-frames legal usable cpu None KeepGuest same_cpu Nothing f n Plain good.0 was refl refl tt
        (hands-stay legal cpu same_cpu (always (hyps Plain)) f n refl (λ d q w. ap (in_hand d) (was q w)))
        (λ d h. cc) in
        calm-keeps (DonateHyp f n) refl hosts frames refl refl was refl refl (legal.slots.some_hand cpu) p.shared_enough

    -- the frames of a range that may go back are the hypervisor's, in no other use
    returned : all_below n (λ i. may_return (x_of cpu s) (f + i)) ≡ true
        → ((q : ℕ) → is_within f n q ≡ true → is_memory l q ≡ true)
        → (q : ℕ)
        → is_within f n q ≡ true
        → legal.condition q ≡ hyps Plain
    unfolding used_of
    returned h all q w =
        let t =
        three-and ((s.shared.row q).owner.0 == 1) (is_plain (s.shared.row q).usage)
        (is_in Owned (s.shared.hyp.map (hyp_page q)))
        (range-all f n
        (λ p. (s.shared.row p).owner.0 == 1 && is_plain (s.shared.row p).usage
        && is_in Owned (s.shared.hyp.map (hyp_page p))) h q w) in
        let row = legal.rows q (all q w) in
        plain-hyps q (legal.condition q) (sym (ap (λ (r : Row). r.owner.0 == 1) row) ∙ t.0)
        (sym (ap (λ (r : Row). is_plain r.usage) row) ∙ t.1)

    pub hyp_donate_host-keeps : refusal l.depth (hyp_donate_host f n (reads l cpu None (x_of cpu s))) false (x_of cpu s)
        ≡ None
        → StepKept l s legal.condition shared None cpu (HypDonateHost f n)
        (hyp_donate_host f n (reads l cpu None (x_of cpu s))).changes
    unfolding used_of
    hyp_donate_host-keeps h =
        let p = passed l.depth (hyp_donate_host f n (reads l cpu None (x_of cpu s))) false (x_of cpu s) h in
        let good = good-range l f n p.valid in
        let was = returned p.allowed good.1 in
        let frames =
        back-frames legal usable cpu None KeepGuest same_cpu Nothing f n Plain good.0 was refl
        (hands-stay legal cpu same_cpu (always hosts) f n refl (λ d q w. ap (in_hand d) (was q w))) in
        calm-keeps (HypDonateHost f n) refl (hyps Plain) frames refl refl was refl refl
        (legal.slots.some_hand cpu) p.shared_enough

    -- the hands after a range of the host's went into an empty one
    hands-filled : (s.cpu cpu).hand ≡ None
        → ((q : ℕ) → is_within f n q ≡ true → legal.condition q ≡ hosts)
        → (d q : ℕ)
        → is_in_hand
        (put_at s.cpu cpu
        (record (s.cpu cpu) { hand = Some (record { first = record { 0 = f }; count = n }) }) d).hand q
        ≡ in_hand d (moved_to (always (hyps (InHand cpu))) f n legal.condition q)
    hands-filled none at d q = elim (both (d == cpu)) [
      | inl e ↦
          let same : d ≡ cpu = eq-same d cpu e in
          let new : Cpu = record (s.cpu cpu) { hand = Some (record { first = record { 0 = f }; count = n }) } in
          ap (λ (k : Cpu). is_in_hand k.hand q) (if-true (d == cpu) new (s.cpu d) e) ∙ elim (both (is_within f n q)) [
            | inl w ↦ w
                ∙ sym
                (ap (in_hand d) (moved-in (always (hyps (InHand cpu))) f n legal.condition q w)
                ∙ ap (λ k. cpu == k) same ∙ eq-self cpu)
            | inr w ↦ w
                ∙ sym
                (ap (in_hand d) (moved-out (always (hyps (InHand cpu))) f n legal.condition q w)
                ∙ sym (legal.held.hand d q) ∙ ap (λ k. is_in_hand (s.cpu k).hand q) same
                ∙ ap (λ o. is_in_hand o q) none)
          ]
      | inr e ↦
          let new : Cpu = record (s.cpu cpu) { hand = Some (record { first = record { 0 = f }; count = n }) } in
          ap (λ (k : Cpu). is_in_hand k.hand q) (if-false (d == cpu) new (s.cpu d) e) ∙ legal.held.hand d q
          ∙ moved-fact (in_hand d) (always (hyps (InHand cpu))) f n legal.condition q
          (λ w. ap (in_hand d) (at q w) ∙ sym (eq-turned cpu d e))
    ]

    pub fund-keeps : cpu < l.config.cpus
        → refusal l.depth (fund f n (reads l cpu None (x_of cpu s))) false (x_of cpu s) ≡ None
        → StepKept l s legal.condition shared None cpu (Fund f n) (fund f n (reads l cpu None (x_of cpu s))).changes
    unfolding used_of
    fund-keeps known h =
        let p = passed l.depth (fund f n (reads l cpu None (x_of cpu s))) false (x_of cpu s) h in
        let good = good-range l f n p.valid in
        let was = donated p.allowed good.1 in
        let k = hand_becomes (Some (record { first = record { 0 = f }; count = n })) in
        let frames =
        given-frames legal usable cpu None KeepGuest k Nothing f n (InHand cpu) good.0 was refl refl known
        (hands-filled (is_some-false (s.cpu cpu).hand p.ready) was) (λ d h. sym (eq-same cpu d h)) in
        calm-keeps (Fund f n) refl hosts frames refl refl was refl refl (λ h e. some-count n h e good.0) p.shared_enough
      where
        some-count : (n : ℕ) (h : PageRange)
            → Some (record { first = record { 0 = f }; count = n }) ≡ Some h
            → 1 ≤ n
            → 1 ≤ h.count
        some-count n h e some = let made : PageRange = record { first = record { 0 = f }; count = n } in
            let same : made ≡ h = cc in
            subst (λ (r : PageRange). 1 ≤ r.count) same some

  pub unfund-keeps : refusal l.depth (unfund (reads l cpu None (x_of cpu s))) false (x_of cpu s) ≡ None
      → StepKept l s legal.condition shared None cpu Unfund (unfund (reads l cpu None (x_of cpu s))).changes
  unfolding used_of
  unfund-keeps h =
      let p = passed l.depth (unfund (reads l cpu None (x_of cpu s))) false (x_of cpu s) h in
      let hand = hand_of (s.cpu cpu) in
      let was = hand-was legal cpu p.allowed in
      let frames =
      back-frames legal usable cpu None KeepGuest (hand_becomes None) Nothing hand.first.0 hand.count (InHand cpu)
      (hand-some (s.cpu cpu).hand p.allowed (legal.slots.some_hand cpu)) was refl
      (hands-emptied legal cpu (hand_becomes None) hosts refl p.allowed (λ d. refl)) in
      calm-keeps Unfund refl (hyps (InHand cpu)) frames refl refl was refl refl (λ h e. cc) p.shared_enough
