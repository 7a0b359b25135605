-- What a CPU had called where a log was found full.
use Rattle.std.proofs.Common.{◌≡◌, refl, sym, ap, subst, ◌∙◌, inl, inr, List, [], ◌∷◌, ◌++◌, append-nil, filter, map}
use Rattle.std.proofs.lemmas.List.{append_assoc}
use Rattle.page_state.specs.LayoutView.{layout_of}
use Rattle.page_state.specs.Layouts.{Layout}
use Rattle.call_table.specs.declared.reply.Call.{Call}
use Rattle.call_table.specs.declared.reply.Refusal.TheVariants.{LogFull}
use Rattle.call_table.specs.declared.reply.Reply.{Reply}
use Rattle.call_table.specs.declared.reply.Reply.TheVariants.{Refused}
use Rattle.call_table.specs.declared.step.Step.{Step}
use Rattle.part_table.specs.Known.{Known, StartsWith}
use Rattle.cpu_threads.specs.Machines.{StoresInTheEnd}
use Rattle.trace_race.specs.Laws.{FullAfter}
use Rattle.trace_race.specs.Made.{CallsIn, FindsFull, MakeAll, is_stored, known_with}
use Rattle.trace_race.proofs.Ends.{one_stored, told}
use Rattle.trace_race.proofs.Kept.{kept_cases}

abbrev kept : List (Step × Reply) → List (Step × Reply)
kept answers = filter (λ a. is_stored a.1) answers

-- a pass with the calls of these answers more
record HasMore (v w : Known) (answers : List (Step × Reply)) : Type 0 where
  cpu : w.cpu ≡ v.cpu
  calls : StartsWith w.own.log.calls v.own.log.calls
  told_is : map told w.own.log.calls ≡ map told v.own.log.calls ++ kept answers

module _ (l : Layout) (log : List Call) where
  one_more : (a : Step × Reply) (v w : Known) → CallsIn l log a.0 a.1 v w → HasMore v w (a ∷ [])
  one_more a v w c = elim (kept_cases a.1 c.answered) [
    | inl k ↦
        let s : StoresInTheEnd a.0 a.1 v w = c.stored k.0 in
        record {
          cpu = s.stores.cpu ∙ ap (λ (k : Known). k.cpu) s.met.same;
          calls = (
            s.stores.call ∷ [],
            ap (λ g. g.calls) s.stores.own
                ∙ ap (λ (k : Known). k.own.log.calls ++ s.stores.call ∷ []) s.met.same,
          );
          told_is = let one : kept (a ∷ []) ≡ a ∷ [] = rw k.1 refl in
              one_stored a.0 a.1 v w s ∙ ap (λ xs. map told v.own.log.calls ++ xs) (sym one);
        }
    | inr k ↦
        let same = (c.full k.0).0 in
        let own : w.own.log.calls ≡ v.own.log.calls = ap (λ (k : Known). k.own.log.calls) same in
        record {
          cpu = ap (λ (k : Known). k.cpu) same;
          calls = ([], own ∙ sym (append-nil v.own.log.calls));
          told_is = let none : kept (a ∷ []) ≡ [] = rw k.1 refl in
              ap (map told) own
              ∙ (sym (append-nil (map told v.own.log.calls))
              ∙ ap (λ xs. map told v.own.log.calls ++ xs) (sym none));
        }
  ]

  kept_more : (a : Step × Reply) (more : List (Step × Reply)) → kept (a ∷ more) ≡ kept (a ∷ []) ++ kept more
  kept_more a more = by (is_stored a.1) refl
    where
      by : (b : Rattle.std.specs.Prelude.Bool) → is_stored a.1 ≡ b → kept (a ∷ more) ≡ kept (a ∷ []) ++ kept more
      by Rattle.std.specs.Prelude.true e = rw e refl
      by Rattle.std.specs.Prelude.false e = rw e refl

  more_on : (u v w : Known) (a : Step × Reply) (more : List (Step × Reply))
      → HasMore u v (a ∷ [])
      → HasMore v w more
      → HasMore u w (a ∷ more)
  more_on u v w a more f g = record {
    cpu = g.cpu ∙ f.cpu;
    calls = (
      f.calls.0 ++ g.calls.0,
      g.calls.1
          ∙ (ap (λ cs. cs ++ g.calls.0) f.calls.1 ∙ append_assoc u.own.log.calls f.calls.0 g.calls.0),
    );
    told_is =
        g.told_is
        ∙ (ap (λ xs. xs ++ kept more) f.told_is
        ∙ (append_assoc (map told u.own.log.calls) (kept (a ∷ [])) (kept more)
        ∙ ap (λ xs. map told u.own.log.calls ++ xs) (sym (kept_more a more))));
  }

  all_more : (v w : Known) (answers : List (Step × Reply)) → MakeAll (CallsIn l log) v answers w → HasMore v w answers
  all_more v w [] made =
      subst (λ (k : Known). HasMore v k []) (sym made)
      (record {
        cpu = refl;
        calls = ([], sym (append-nil v.own.log.calls));
        told_is = sym (append-nil (map told v.own.log.calls));
      })
  all_more v w (a ∷ more) made = more_on v made.0 w a more (one_more a v made.0 made.1) (all_more made.0 w more made.2)

  full_here : (v last : Known) (before after : List (Step × Reply)) (step : Step)
      → MakeAll (CallsIn l log) v (before ++ (step, Refused LogFull) ∷ after) last
      → (u : Known) × HasMore v u before × StartsWith last.own.log.calls u.own.log.calls × FindsFull l log step u
  full_here v last [] after step made = (
    v,
    record {
      cpu = refl;
      calls = ([], sym (append-nil v.own.log.calls));
      told_is = sym (append-nil (map told v.own.log.calls));
    },
    (all_more v last ((step, Refused LogFull) ∷ after) made).calls,
    (made.1.full refl).1,
  )
  full_here v last (a ∷ before) after step made =
      let r = full_here made.0 last before after step made.2 in
      (r.0, more_on v made.0 r.0 a before (one_more a v made.0 made.1) r.1, r.2, r.3)

pub full_after : FullAfter
full_after key cpu before after step at first log is =
    let r = full_here (layout_of key) (first ++ log) (known_with key cpu is.first) is.last before after step is.makes in (
      r.0,
      r.1.cpu,
      r.1.told_is ∙ ap (λ cs. map told cs ++ kept before) is.first_calls,
      subst (λ (cs : List Call). StartsWith cs r.0.own.log.calls) (sym is.own) r.2,
      r.3,
    )
