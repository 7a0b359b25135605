-- What is told of a race whose first steps are made.
use Rattle.std.proofs.Common.{◌≡◌, ℕ, ◌+◌, ◌<◌, arith, ap, refl, subst, sym, true, ◌∙◌, inl, inr, ◌⊎◌, List, ◌∷◌, drop, get_or, length, take, Option, Some, None, Vec, Global}
use Rattle.std.specs.Prelude.{MatchOption, option_map}
use Rattle.std.proofs.lemmas.List.{drop_more}
use Rattle.page_state.specs.declared.entry.PageRange.{PageRange}
use Rattle.page_state.specs.LayoutView.{layout_of}
use Rattle.call_table.specs.declared.reply.Reply.{Reply}
use Rattle.call_table.specs.Texts.{text_of_reply}
use Rattle.reference_model.specs.model.State.{Reference}
use Rattle.ghost_spec.specs.States.{ghost_state}
use Rattle.race_outcomes.specs.declared.finding.Outcome.{Outcome}
use Rattle.race_outcomes.specs.declared.finding.OutcomesFault.{OutcomesFault}
use Rattle.race_outcomes.specs.declared.finding.OutcomesFault.TheVariants.{TooMany}
use Rattle.race_outcomes.specs.declared.node.Turn.{Turn}
use Rattle.race_outcomes.specs.Orders.{AllOutcomes, GivesWanted, HasMorePoints, IsOutcomesFault, NoneWanted}
use Rattle.trace_race.specs.Courses.{Asking, in_order_of}
use Rattle.trace_text.specs.Worlds.{Machine}
use Rattle.trace_race.specs.declared.course.Asked.{Asked}
use Rattle.trace_outcomes.specs.declared.finding.Found.{Found}
use Rattle.trace_outcomes.specs.declared.finding.Found.TheVariants as founds
use Rattle.trace_outcomes.specs.declared.finding.Outcomes.{Outcomes}
use Rattle.trace_outcomes.specs.declared.making.Race.{Race}
use Rattle.trace_outcomes.specs.declared.telling.Told.{Told}
use Rattle.trace_outcomes.specs.Finds.{FindsAll, FindsOn}
use Rattle.trace_outcomes.specs.Made.{HasMade}
use Rattle.trace_outcomes.specs.Races.{Texts, first_of, no_replies, nothing_wanted, raced_of, texts_in, first_replies, turns_raced}
use Rattle.trace_outcomes.specs.Texts.{none_text, order_text, otherwise_text, too_many_text}
use Rattle.trace_outcomes.specs.Told.{ReportsBehind, ReportsClean, ReportsObserved, ReportsTooMany, ReportsUnclean, first_apart, is_read}
use Rattle.trace_outcomes.proofs.Noting.{no_step}
use Rattle.trace_outcomes.proofs.Turns.{moved, texts_before, texts_behind, texts_nothing, wanted_behind}

module _ (m : Machine) (a : Asking) (r : Race) (turns : List Turn) (same : turns ≡ r.turns.items) where
  many : (texts : Texts) (wanted : List (Option (Vec ℕ Global))) (limit : ℕ) (fault : OutcomesFault) (t : Told)
      → HasMade m a texts r
      → IsOutcomesFault (layout_of r.state.layout) (ghost_state r.state) turns wanted limit fault
      → (made : ℕ) × (fault ≡ TooMany made) × ReportsUnclean (too_many_text made) t
      → ReportsTooMany m a texts wanted limit t
  many texts wanted limit fault t made why (n, is, tells) = record {
    made = n;
    more =
        moved (λ l s ts. HasMorePoints l s ts wanted limit n) m a texts r made
        (subst (λ ts. HasMorePoints (layout_of r.state.layout) (ghost_state r.state) ts wanted limit n) same
        (subst (IsOutcomesFault (layout_of r.state.layout) (ghost_state r.state) turns wanted limit) is why));
    tells = tells;
  }

  module _ (texts : List (Option (Vec ℕ Global))) (n : ℕ) (order : n ≡ in_order_of a) where
    module _ (nothing : texts ≡ nothing_wanted a.steps) (made : HasMade m a (texts_in texts) r) where
      none_made : HasMade m a (no_replies a.steps) r
      none_made = subst (λ ts. HasMade m a ts r) (ap texts_in nothing ∙ texts_nothing a.steps) made

      none_wanted : drop n texts ≡ nothing_wanted (raced_of a)
      none_wanted = ap (drop n) nothing ∙ wanted_behind n a.steps ∙ ap (λ k. nothing_wanted (drop k a.steps)) order

      pub all_found : (found : List Outcome) (o : Outcomes)
          → o.replies.items ≡ r.replies.items
          → o.found.items ≡ found
          → length r.replies.items ≡ length (first_of a)
          → AllOutcomes (layout_of r.state.layout) (ghost_state r.state) turns (drop n texts) found → FindsAll m a o
      all_found found o replies is count all = record {
        replies = replies ∙ ap (λ (x : List Reply × Reference). x.0) none_made.told;
        count = ap length replies ∙ count;
        all =
            subst
            (AllOutcomes m.layout (first_replies m a (no_replies a.steps)).1 (turns_raced a (no_replies a.steps))
            (nothing_wanted (raced_of a)))
            (sym is)
            (moved (λ l s ts. AllOutcomes l s ts (nothing_wanted (raced_of a)) found) m a
            (no_replies a.steps) r none_made
            (subst (λ w. AllOutcomes (layout_of r.state.layout) (ghost_state r.state) r.turns.items w found) none_wanted
            (subst
            (λ ts. AllOutcomes (layout_of r.state.layout) (ghost_state r.state) ts (drop n texts) found) same
            all)));
      }

      pub many_found : (limit : ℕ) (fault : OutcomesFault) (f : Found)
          → IsOutcomesFault (layout_of r.state.layout) (ghost_state r.state) turns (drop n texts) limit fault
          → (k : ℕ) × (fault ≡ TooMany k) × (f ≡ founds.TooMany k) → FindsOn limit a m f
      many_found limit fault f why (k, is, found) =
          subst (FindsOn limit a m) (sym found)
          (moved (λ l s ts. HasMorePoints l s ts (nothing_wanted (raced_of a)) limit k) m a
          (no_replies a.steps) r none_made
          (subst
          (λ w. HasMorePoints (layout_of r.state.layout) (ghost_state r.state) r.turns.items w limit k) none_wanted
          (subst (λ ts. HasMorePoints (layout_of r.state.layout) (ghost_state r.state) ts (drop n texts) limit k) same
          (subst
          (IsOutcomesFault (layout_of r.state.layout) (ghost_state r.state) turns (drop n texts) limit) is
          why))))

    module _ (made : HasMade m a (texts_in texts) r) (limit : ℕ) (t : Told) where
      behind : texts_in (drop n texts) ≡ drop (in_order_of a) (texts_in texts)
      behind = texts_behind n texts ∙ ap (λ k. drop k (texts_in texts)) order

      pub order_tells : (found seen : List ℕ)
          → seen ≡ found
          → GivesWanted (layout_of r.state.layout) (ghost_state r.state) turns (drop n texts) found
          → ReportsClean (order_text (raced_of a) seen) t
          → ReportsBehind m a (texts_in texts) limit t
      order_tells found seen is gives tells = record {
        wanted = drop n texts;
        wanted_is = behind;
        tells = inl (inl (
          found,
          moved (λ l s ts. GivesWanted l s ts (drop n texts) found) m a (texts_in texts) r made
              (subst
              (λ ts. GivesWanted (layout_of r.state.layout) (ghost_state r.state) ts (drop n texts) found) same
              gives),
          subst (λ xs. ReportsClean (order_text (raced_of a) xs) t) is tells,
        ));
      }

      pub none_tells : NoneWanted (layout_of r.state.layout) (ghost_state r.state) turns (drop n texts)
          → ReportsUnclean none_text t
          → ReportsBehind m a (texts_in texts) limit t
      none_tells none tells = record {
        wanted = drop n texts;
        wanted_is = behind;
        tells =
            inl
            (inr (
              moved (λ l s ts. NoneWanted l s ts (drop n texts)) m a (texts_in texts) r made
                  (subst
                  (λ ts. NoneWanted (layout_of r.state.layout) (ghost_state r.state) ts (drop n texts)) same
                  none),
              tells,
            ));
      }

      pub behind_many : (fault : OutcomesFault)
          → IsOutcomesFault (layout_of r.state.layout) (ghost_state r.state) turns (drop n texts) limit fault
          → (k : ℕ) × (fault ≡ TooMany k) × ReportsUnclean (too_many_text k) t
          → ReportsBehind m a (texts_in texts) limit t
      behind_many fault why tells =
          record {
            wanted = drop n texts;
            wanted_is = behind;
            tells = inr (many (texts_in texts) (drop n texts) limit fault t made why tells);
          }

-- what the report tells of the steps before `start`, beside their replies
module _ (m : Machine) (a : Asking) (r : Race) (texts : List (Option (Vec ℕ Global))) (n : ℕ)
    (order : n ≡ in_order_of a) (made : HasMade m a (texts_in texts) r) where
  apart : first_apart (take n a.steps) r.replies.items (texts_in (take n texts))
      ≡ first_apart (first_of a) (first_replies m a (texts_in texts)).0 (take (in_order_of a) (texts_in texts))
  apart =
      ap (λ rs. first_apart (take n a.steps) rs (texts_in (take n texts)))
      (ap (λ (x : List Reply × Reference). x.0) made.told)
      ∙ ap (first_apart (take n a.steps) (first_replies m a (texts_in texts)).0) (texts_before n texts)
      ∙ ap (λ k. first_apart (take k a.steps) (first_replies m a (texts_in texts)).0 (take k (texts_in texts))) order

  pub observed : (limit : ℕ) (t : Told) (o : Option (ℕ × Reply))
      → o ≡ first_apart (take n a.steps) r.replies.items (texts_in (take n texts))
      → MatchOption o (ReportsBehind m a (texts_in texts) limit t)
      (λ x. ReportsUnclean (otherwise_text x.0 (text_of_reply x.1)) t)
      → ReportsObserved m a (texts_in texts) limit t
  observed limit t o e h =
      subst
      (λ (x : Option (ℕ × Reply)). MatchOption x (ReportsBehind m a (texts_in texts) limit t)
      (λ x. ReportsUnclean (otherwise_text x.0 (text_of_reply x.1)) t))
      (e ∙ apart) h

-- nothing boots, or a machine does
pub on_none : (X : Type 0) (Y : ℕ → PageRange → Type 0) (b : Option ℕ) (k : Option PageRange)
    → (b ≡ None) ⊎ (k ≡ None)
    → X
    → MatchOption b X (λ number. MatchOption k X (λ carve. Y number carve))
on_none X Y None k none x = x
on_none X Y (Some number) None none x = x
on_none X Y (Some number) (Some carve) (inl e) x = cc
on_none X Y (Some number) (Some carve) (inr e) x = cc

pub on_some : (X : Type 0) (Y : ℕ → PageRange → Type 0) (b : Option ℕ) (k : Option PageRange) (number : ℕ)
    (carve : PageRange)
    → b ≡ Some number
    → k ≡ Some carve
    → Y number carve
    → MatchOption b X (λ number. MatchOption k X (λ carve. Y number carve))
on_some X Y b k number carve e f y =
    subst (λ o. MatchOption o X (λ number. MatchOption k X (λ carve. Y number carve))) (sym e)
    (subst (λ o. MatchOption o X (λ carve. Y number carve)) (sym f) y)

-- a step that reads as it was told
pub apart_next : (steps : List Asked) (replies : List Reply) (texts : List (Option (Vec ℕ Global))) (place : ℕ)
    (d : Reply) (o : Option (Vec ℕ Global))
    → place < length steps
    → length replies ≡ length steps
    → length texts ≡ length steps
    → o ≡ get_or texts place o
    → is_read (text_of_reply (get_or replies place d)) (option_map (λ (v : Vec ℕ Global). v.items) o) ≡ true
    → first_apart (drop place steps) (drop place replies) (texts_in (drop place texts))
    ≡ first_apart (drop (place + 1) steps) (drop (place + 1) replies) (texts_in (drop (place + 1) texts))
apart_next steps replies texts place d o less r t at e =
    ap (λ x. first_apart x (drop place replies) (texts_in (drop place texts))) (drop_more steps place no_step less)
    ∙ ap (λ x. first_apart (get_or steps place no_step ∷ drop (place + 1) steps) x (texts_in (drop place texts)))
    (drop_more replies place d (omega (arith, less, r)))
    ∙ ap
    (λ x. first_apart (get_or steps place no_step ∷ drop (place + 1) steps)
    (get_or replies place d ∷ drop (place + 1) replies) (texts_in x))
    (drop_more texts place o (omega (arith, less, t)) ∙ ap (λ x. x ∷ drop (place + 1) texts) (sym at))
    ∙ rw e refl
