-- A walk that goes on by a call, and calls that are surely as wanted.
use Rattle.std.proofs.Common.{◌≡◌, ℕ, ◌+◌, ◌<◌, Bool, true, false, List, [], ◌∷◌, ◌++◌, length, refl, arith, sym, ap, ◌∙◌, subst, inr, Option, Some, None}
use Rattle.std.specs.Prelude.{codes, if◌then◌else◌}
use Rattle.std.proofs.lemmas.List.{append_assoc, append-nil, length-append}
use Rattle.page_state.proofs.Accepted.{memory_below}
use Rattle.page_state.proofs.Cases.{by_test}
use Rattle.page_state.specs.LayoutFaults.{IsAccepted}
use Rattle.page_state.specs.Layouts.{Layout, is_memory}
use Rattle.reference_model.specs.model.Rules.{rule, guest_slot, names}
use Rattle.reference_model.specs.model.Step.{answer, fails, predict_step, is_full, predict, refusal}
use Rattle.reference_model.specs.declared.changes.Ticket.{Ticket}
use Rattle.reference_model.specs.model.State.{Reference}
use Rattle.reference_model.specs.model.Used.{Used, UsedRooms, rooms_of, used_of}
use Rattle.call_table.specs.declared.reply.Refusal.{Refusal}
use Rattle.call_table.specs.declared.reply.Refusal.TheVariants.{Invalid}
use Rattle.call_table.specs.declared.reply.Reply.{Reply}
use Rattle.call_table.specs.declared.reply.Reply.TheVariants.{Done, Refused}
use Rattle.call_table.specs.declared.reply.Value.{Value}
use Rattle.call_table.specs.declared.step.Step.{Step}
use Rattle.call_table.specs.declared.step.Step.TheVariants.{ShareHyp, OwnerOf}
use Rattle.ghost_spec.specs.Kept.{HasNextGeneration}
use Rattle.trace_generate.specs.declared.line.StepLine.{StepLine}
use Rattle.trace_generate.specs.Lines.{text_of_line}
use Rattle.trace_generate.specs.Made.{IsSoFar, text_of_calls}
use Rattle.trace_generate.specs.Reading.{IsIn64Bits}
use Rattle.trace_generate.specs.Walks.{IsAsWanted, IsCallOf, IsWalk, after, is_hostile, is_refusal, is_refused}

walk_more : (l : Layout) (hostile number : ℕ) (s : Reference) (cs : List StepLine) (t : Reference) (c : StepLine)
    → IsWalk l hostile number s cs t
    → IsCallOf l (is_hostile hostile (number + length cs)) t c
    → IsWalk l hostile number s (cs ++ (c ∷ [])) (after l t c)
walk_more l hostile number s [] t c w h =
    let at : number + 0 ≡ number = omega arith in
    let here : IsCallOf l (is_hostile hostile number) t c = subst (λ n. IsCallOf l (is_hostile hostile n) t c) at h in
    (subst (λ r. IsCallOf l (is_hostile hostile number) r c) (sym w) here, ap (λ r. after l r c) w)
walk_more l hostile number s (d ∷ ds) t c w h =
    let at : number + length (d ∷ ds) ≡ number + 1 + length ds = omega arith in (
      w.0,
      walk_more l hostile (number + 1) (after l s d) ds t c w.1
          (subst (λ n. IsCallOf l (is_hostile hostile n) t c) at h),
    )

calls_more : (cs : List StepLine) (c : StepLine)
    → text_of_calls (cs ++ (c ∷ [])) ≡ text_of_calls cs ++ (text_of_line c ++ codes "\n")
calls_more [] c = append-nil (text_of_line c ++ codes "\n")
calls_more (d ∷ ds) c =
    ap (λ more. text_of_line d ++ codes "\n" ++ more) (calls_more ds c)
    ∙ sym (append_assoc (text_of_line d ++ codes "\n") (text_of_calls ds) (text_of_line c ++ codes "\n"))

-- no call yet
pub none_so_far : (l : Layout) (hostile : ℕ) (s : Reference) (bytes : List ℕ) → IsSoFar l hostile s bytes 0 s bytes
none_so_far l hostile s bytes = record { calls = []; count = refl; walk = refl; text = sym (append-nil bytes) }

-- one more
pub one_more : (l : Layout) (hostile : ℕ) (start : Reference) (begun : List ℕ) (number : ℕ) (s : Reference)
    (bytes : List ℕ) (c : StepLine) (t : Reference) (all : List ℕ)
    → IsSoFar l hostile start begun number s bytes
    → IsCallOf l (is_hostile hostile number) s c
    → t ≡ after l s c
    → all ≡ bytes ++ (text_of_line c ++ codes "\n")
    → IsSoFar l hostile start begun (number + 1) t all
one_more l hostile start begun number s bytes c t all so h e f =
    let at : 0 + length so.calls ≡ number = omega (arith, so.count) in
    let here = subst (λ n. IsCallOf l (is_hostile hostile n) s c) (sym at) h in
    record {
      calls = so.calls ++ (c ∷ []);
      count = omega (arith, length-append so.calls (c ∷ []), so.count);
      walk =
          subst (λ r. IsWalk l hostile 0 start (so.calls ++ (c ∷ [])) r) (sym e)
          (walk_more l hostile 0 start so.calls s c so.walk here);
      text =
          f ∙ ap (λ b. b ++ (text_of_line c ++ codes "\n")) so.text
          ∙ append_assoc begun (text_of_calls so.calls) (text_of_line c ++ codes "\n")
          ∙ ap (λ more. begun ++ more) (sym (calls_more so.calls c));
    }

-- a share of no memory frame fails, whatever it uses
share_fails : (l : Layout) (cpu : ℕ) (slot : Option ℕ) (f : ℕ) (x : Used)
    → is_memory l f ≡ false
    → fails l cpu slot (ShareHyp f) x ≡ Some Invalid
unfolding fails refusal rule
share_fails l cpu slot f x e = rw e refl

either : (b : Bool) (p q : Reply × Used × UsedRooms)
    → is_refusal p.0 ≡ true
    → is_refusal q.0 ≡ true
    → is_refusal (if b then p else q).0 ≡ true
either true p q e f = e
either false p q e f = f

answered : (o : Option Refusal) (x y : Used) (v : Value)
    → o ≡ Some Invalid
    → is_refusal (elim o as (λ _. Reply × Used) [ Some why ↦ (Refused why, x) | None ↦ (Done v, y) ]).0 ≡ true
answered o x y v e =
    ap (λ p. is_refusal (elim p as (λ _. Reply × Used) [ Some why ↦ (Refused why, x) | None ↦ (Done v, y) ]).0) e

share_predicted : (l : Layout) (cpu : ℕ) (slot : Option ℕ) (f : ℕ) (x : Used) (r : UsedRooms)
    → is_memory l f ≡ false
    → is_refusal (predict l cpu slot (ShareHyp f) x r).0 ≡ true
unfolding predict answer
share_predicted l cpu slot f x r e =
    either (is_full (names (ShareHyp f)) slot r) _ _ refl
    (answered (fails l cpu slot (ShareHyp f) x) x _ _ (share_fails l cpu slot f x e))

pub share_refused : (l : Layout) (s : Reference) (cpu f : ℕ)
    → is_memory l f ≡ false
    → is_refused l s (record { cpu = cpu; step = ShareHyp f }) ≡ true
unfolding predict_step
share_refused l s cpu f e =
    let step = ShareHyp f in
    let slot = guest_slot (s.contents.cpu cpu) step in
    share_predicted l cpu slot f (used_of (names step) slot cpu s.contents) (rooms_of (names step) slot cpu s.rooms) e

pub no_memory : (l : Layout) → IsAccepted l.memory → is_memory l 0xffff_ffff_ffff_ffff ≡ false
no_memory l a =
    by_test (is_memory l 0xffff_ffff_ffff_ffff)
    (λ t. absurd (omega (arith, memory_below l.memory 0xffff_ffff_ffff_ffff a t))) (λ f. f)

sure_numbers : (hostile : Bool) → IsIn64Bits (if hostile then ShareHyp 0xffff_ffff_ffff_ffff else OwnerOf 0x40000)
sure_numbers true = (omega arith, tt)
sure_numbers false = (omega arith, tt)

sure_wanted : (l : Layout) (s : Reference) (cpu : ℕ) (hostile : Bool)
    → IsAccepted l.memory
    → IsAsWanted l hostile s
    (record { cpu = cpu; step = if hostile then ShareHyp 0xffff_ffff_ffff_ffff else OwnerOf 0x40000 })
sure_wanted l s cpu true a = share_refused l s cpu 0xffff_ffff_ffff_ffff (no_memory l a)
sure_wanted l s cpu false a = inr refl

-- a sure call is as wanted
pub sure_call : (l : Layout) (s : Reference) (cpu : ℕ) (hostile : Bool) (step : Step)
    → IsAccepted l.memory
    → cpu < l.config.cpus
    → step ≡ (if hostile then ShareHyp 0xffff_ffff_ffff_ffff else OwnerOf 0x40000)
    → IsCallOf l hostile s (record { cpu = cpu; step = step })
sure_call l s cpu hostile step a h e =
    let P : Step → Type 0 = λ p. IsCallOf l hostile s (record { cpu = cpu; step = p }) in
    subst P (sym e) (record { cpu = h; numbers = sure_numbers hostile; wanted = sure_wanted l s cpu hostile a })

-- these calls release no VM
pub sure_generation : (hostile : Bool) (step : Step) (ticket : Option Ticket)
    → step ≡ (if hostile then ShareHyp 0xffffffffffffffff else OwnerOf 0x40000)
    → HasNextGeneration ticket step
sure_generation true step ticket is release = absurd (let e = sym is ∙ release in cc)
sure_generation false step ticket is release = absurd (let e = sym is ∙ release in cc)
