-- What a maker told, from the views that a call's exchanges leave.
use Rattle.std.proofs.Common.{◌≡◌, ◌≢◌, ℕ, ◌++◌, ◌∷◌, [], true, sym, ap, ◌∙◌, subst}
use Rattle.std.specs.Prelude.{List, map, Option, Some, option_map}
use Rattle.page_state.specs.declared.layout.Layout.{Layout as TheLayout}
use Rattle.page_state.specs.LayoutView.{layout_of}
use Rattle.call_table.specs.declared.reply.Call.{Call}
use Rattle.call_table.specs.declared.reply.Reply.{Reply}
use Rattle.call_table.specs.declared.step.Step.{Step}
use Rattle.reference_model.specs.model.History.{IsStored}
use Rattle.part_types.specs.declared.parts.CpuState.{CpuState}
use Rattle.part_table.specs.declared.slot.Slot.{Slot}
use Rattle.part_table.specs.declared.tries.Tried.{Tried}
use Rattle.part_table.specs.declared.tries.Tried.TheVariants.{Stored, Contended, LogFull}
use Rattle.part_table.specs.Answered.{next_call, used_by}
use Rattle.part_table.specs.Does.{Does, IsCalled, IsLeft, both_at, only_at}
use Rattle.part_table.specs.Made.{IsMade}
use Rattle.part_table.specs.Parts.{numbers_for, log_of, uses}
use Rattle.part_table.specs.Rule.{Seated, known_of}
use Rattle.part_table.specs.Known.{AddsTries, Known, Try}
use Rattle.part_table.specs.Trying.{Makes, MakesFor, MakesOf, reply_of}
use Rattle.part_table.proofs.Added.{timed}
use Rattle.part_table.proofs.Holding.{only_here, at_first, at_second}

-- a step's call with this reply is the pass's next call
pub called_next : (step : Step) (reply : Reply) (v : Known) (c : Call)
    → reply ≡ c.reply
    → IsCalled v.cpu v.own step c
    → c ≡ next_call v step reply
called_next step reply v c e called =
    λ i. record {
      cpu = called.by i;
      number = called.number i;
      step = called.asked i;
      reply = sym e i;
      slot = called.slot i;
    }

module _ {A T : Type 0}
    (tells : TheLayout
    → (ℕ → Option (Slot A))
    → CpuState
    → Call
    → (ℕ → Option (Slot A))
    → CpuState
    → T
    → T
    → Type 0) where
  -- by the seat z that the call left, of which what was tried is told by itself
  pub made_by : {step : Step} {c : Call} {l : TheLayout} {own owned : CpuState} {from to : T}
      {before after : ℕ → Option (Slot A)} {z n : Seated A} (ks : List ℕ) (m : Seated A)
      → n ≡ z
      → z.0.own ≡ owned
      → AddsTries (map (λ k. (k, option_map log_of (before k))) ks) (known_of m.0) (known_of z.0)
      → (m.0.layout ≡ l) × (m.0.cpu ≡ own.id) × (m.0.own ≡ own)
      → IsLeft (layout_of l) own.id own before
      → ((k : ℕ) (x : Slot A) → before k ≡ Some x → uses c k ≡ true)
      → IsCalled own.id own step c
      → Does (layout_of l) c before own after owned
      → tells l before own c after owned from to
      → Makes tells step ks (known_of m.0) (known_of n.0) c from to
  made_by {step = step} {c = c} {own = own} {owned = owned} {from = from} {to = to} {before = before} {after = after}
      {n = n} ks m e o t q left only called does told =
      let is : n.0.own ≡ owned = ap (λ (s : Seated A). s.0.own) e ∙ o in
      record {
        before = before;
        after = after;
        called = subst (λ (s : ℕ × CpuState). IsCalled s.0 s.1 step c) (λ i. (sym q.1 i, sym q.2 i)) called;
        left =
            subst (λ (s : TheLayout × (ℕ × CpuState)). IsLeft (layout_of s.0) s.1.0 s.1.1 before)
            (λ i. (sym q.0 i, (sym q.1 i, sym q.2 i))) left;
        only = only;
        does =
            subst (λ (s : TheLayout × (CpuState × CpuState)). Does (layout_of s.0) c before s.1.0 after s.1.1)
            (λ i. (sym q.0 i, (sym q.2 i, sym is i))) does;
        tried = ap (λ (s : Seated A). s.0.tries) e ∙ t;
        told =
            subst (λ (s : TheLayout × (CpuState × CpuState)). tells s.0 before s.1.0 c after s.1.1 from to)
            (λ i. (sym q.0 i, (sym q.2 i, sym is i))) told;
      }

  pub makes_for : (step : Step) (t : Tried) (reply : Reply) (u v w : Known) (own : CpuState) (from to : T)
      → u ≡ v
      → v.own ≡ own
      → reply ≡ reply_of t
      → MakesOf tells step (numbers_for own step) t v w from to → MakesFor tells step reply u w from to
  makes_for step t reply u v w own from to same is told makes =
      let at : own ≡ u.own = sym is ∙ ap (λ (z : Known). z.own) (sym same) in (
        t,
        told,
        subst (λ (z : Known × CpuState). MakesOf tells step (numbers_for z.1 step) t z.0 w from to)
            (λ i. (sym same i, at i)) makes,
      )

  -- what the reply of a try tells of the maker
  pub made_of : (step : Step) (reply : Reply) (v w : Known) (from to : T)
      → MakesFor tells step reply v w from to
      → IsStored reply
      → IsMade tells step reply v w from to
  made_of step reply v w from to a s = of a.0 a.1 a.2
    where
      of : (t : Tried)
          → reply ≡ reply_of t
          → MakesOf tells step (used_by step v) t v w from to
          → IsMade tells step reply v w from to
      of (Stored c) e h = record {
        call = c;
        call_is = called_next step reply v c e h.called;
        before = h.before;
        after = h.after;
        left = h.left;
        only = h.only;
        does = h.does;
        tried = h.tried;
        told = h.told;
      }
      of Contended e h = absurd (subst IsStored e s)
      of LogFull e h = absurd (subst IsStored e s)

  pub untold_of : (step : Step) (reply : Reply) (v w : Known) (from to : T)
      → MakesFor tells step reply v w from to
      → (IsStored reply → ⊥)
      → to ≡ from
  untold_of step reply v w from to a s = of a.0 a.1 a.2
    where
      of : (t : Tried) → reply ≡ reply_of t → MakesOf tells step (used_by step v) t v w from to → to ≡ from
      of (Stored c) e h = absurd (s (subst IsStored (sym e) h.does.stored))
      of Contended e h = h
      of LogFull e h = h

-- what was tried, as the logs of the parts that were taken
module _ {A : Type 0} (tries : List (ℕ × Try)) (n : ℕ) where
  pub tried_one : (k : ℕ) (x : Slot A)
      → tries ++ (n, (k, Some (log_of x))) ∷ []
      ≡ tries ++ timed n (map (λ j. (j, option_map log_of (only_at k x j))) (k ∷ []))
  tried_one k x = ap (λ (o : Option (Slot A)). tries ++ (n, (k, option_map log_of o)) ∷ []) (sym (only_here k x))

  pub tried_two : (g : ℕ) (x y : Slot A) → 1 ≢ g
      → tries ++ (n, (1, Some (log_of x))) ∷ (n, (g, Some (log_of y))) ∷ []
      ≡ tries ++ timed n (map (λ j. (j, option_map log_of (both_at g y 1 x j))) (1 ∷ g ∷ []))
  tried_two g x y ne =
      ap
      (λ (o : Option (Slot A) × Option (Slot A)). tries ++ (n, (1, option_map log_of o.0))
      ∷ (n, (g, option_map log_of o.1))
      ∷ [])
      (λ i. (sym (at_second g 1 y x ne) i, sym (at_first g 1 y x) i))
