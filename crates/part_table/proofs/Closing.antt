-- What a table ends with, once all passes are joined.
use Rattle.std.proofs.Common.{◌≡◌, ℕ, zero, suc, ◌+◌, ◌<◌, List, [], ◌∷◌, ◌++◌, arith, length, length-append, true, refl, sym, ap, ◌∙◌, subst}
use Rattle.std.specs.Prelude.{Option, Some, slice_get}
use mathlib.Core.Option.{some, some-injective}
use mathlib.Core.Logic.{dite}
use native.Mathlib.Decide.{ℕ_discrete}
use lib.ListN.{get_elem?}
use Rattle.atomic_table.specs.Table.{Final, Seen}
use Rattle.page_state.specs.declared.layout.Layout.{Layout as TheLayout}
use Rattle.call_table.specs.declared.reply.Call.{Call}
use Rattle.page_state.specs.LayoutView.{layout_of}
use Rattle.reference_model.specs.model.History.{calls_by, calls_on}
use Rattle.part_types.specs.declared.parts.CpuState.{CpuState}
use Rattle.part_table.specs.declared.rule.Begun.{Begun}
use Rattle.part_table.specs.declared.rule.View.{View}
use Rattle.part_table.specs.declared.slot.Slot.{Slot}
use Rattle.part_table.specs.Endings.{ForEach, Gives, HasEnd, HaveEnded, IsEndFor, IsEndOf, KeepsOwn, KeepsSeen, KeepsTried, ended_of}
use Rattle.part_table.specs.Parts.{parts, part_of, log_of, IsPart, IsOwn}
use Rattle.part_table.specs.Passes.{AreHomeFrom, Opened, Pass}
use Rattle.part_table.specs.Rule.{Ended, IsLawful}
use Rattle.part_table.specs.Known.{AreFronts, StartsWith, seen_at}
use Rattle.part_table.proofs.Left.{left_by, stands}
use Rattle.part_table.proofs.Lists.{elem_of_get, from, get_front, get_last}
use Rattle.part_table.proofs.Pairs.{at_bound, part_same}
use Rattle.part_table.proofs.Root.{Ends, finals}

pub ended_with : (A : Type 0) (key : TheLayout) (b : Begun) (id n : ℕ) (v : View A) (ws : List ℕ)
    (xs : List (Option (Slot A)))
    → v.begun ≡ b
    → id ≡ 0
    → v.root ≡ true
    → length v.ended ≡ n
    → v.made ≡ n
    → Final (Seen (IsLawful key) id v) ws xs
    → Ends A key b v.ended xs
ended_with A key b id n v ws xs same first is long made f =
    subst (λ (c : Begun). Ends A key c v.ended xs) same
    (finals A key v ws xs is (long ∙ sym made) (subst (λ (m : ℕ). Final (Seen (IsLawful key) m v) ws xs) first f))

bound : {X : Type 0} (l : List X) (c : ℕ) (x : X) (n : ℕ) → length l ≡ n → slice_get l c ≡ Some x → c < n
bound l c x n long e = subst (λ (m : ℕ). c < m) long (at_bound l c x (elem_of_get l c x e))

module _ {A : Type 0} (t : Opened) (n : ℕ) (ended : List Ended) (xs : List (Option (Slot A)))
    (passes : List (Option Pass)) (cpus : List CpuState) (found : List (Slot A))
    (f : Ends A t.layout t.begun ended xs) (have : HaveEnded n passes ended cpus) (gives : Gives parts xs found)
    (home : AreHomeFrom t.table n 0 passes) (all : n ≡ t.layout.config.cpus) (long : length passes ≡ n) where
  abbrev key : TheLayout
  key = t.layout

  abbrev is_end : IsEndOf key found cpus
  is_end = record {
    all = gives.0;
    count = have.1 ∙ all;
    left = record {
      ready = f.ready;
      whole = left_by f.state f.log;
      log = f.log;
      history = stands (layout_of key) f.state f.log f.run f.stored;
      cpus = λ k e at.
          let less : k < n = bound cpus k e n have.1 at in
          let h = home k (omega arith) less in
          let b = have.2 k h.0 less h.1 in
          let same : h.0.knows.own ≡ e = ap (from h.0.knows.own) (sym b.1 ∙ at) in
          subst (λ (z : CpuState). (z.log.calls ≡ calls_by k f.log) × IsOwn (layout_of key) f.state k z) same
          (f.each_cpu k (ended_of h.0) b.0);
      parts = λ k x at.
          let less : k < parts = bound found k x parts gives.0 at in
          let h = f.each_part k less in
          let same : h.0 ≡ x = part_same h.0 x (sym (gives.1 k h.0 less h.1) ∙ at) in
          subst
          (λ (z : Slot A). IsPart (layout_of key) f.state k z
          × ((log_of z).calls ≡ calls_on (part_of k) f.log)) same
          (h.2, h.3);
    };
  }

  cpu_there : (c : ℕ) (p : Pass) → slice_get passes c ≡ Some (Some p) → p.knows.cpu ≡ c
  cpu_there c p there =
      let inside : c < n = bound passes c (Some p) n long there in
      let h = home c (omega arith) inside in
      let same : h.0 ≡ p = ap (from h.0) (ap (from (Some h.0)) (sym h.1 ∙ there)) in
      ap (λ (z : Pass). z.knows.cpu) (sym same) ∙ h.3

  keeps_own : ForEach passes (KeepsOwn cpus)
  keeps_own c p there =
      ap (slice_get cpus) (cpu_there c p there) ∙ (have.2 c p (bound passes c (Some p) n long there) there).1

  keeps_seen : ForEach passes (KeepsSeen found)
  keeps_seen c p there k x at =
      let ends = (have.2 c p (bound passes c (Some p) n long there) there).0 in
      let less : k < parts = bound found k x parts gives.0 at in
      let h = f.each_part k less in
      let same : h.0 ≡ x = part_same h.0 x (sym (gives.1 k h.0 less h.1) ∙ at) in
      let log : (log_of x).calls ≡ _ = ap (λ (z : Slot A). (log_of z).calls) (sym same) ∙ h.3 in
      subst (λ (l : List Call). StartsWith l (seen_at p.knows.seen k)) (sym log) (f.seen c (ended_of p) ends k)

  keeps_tried : ForEach passes (KeepsTried key f.log)
  keeps_tried c p there =
      let ends = (have.2 c p (bound passes c (Some p) n long there) there).0 in
      subst (λ (k : ℕ). AreFronts key.config.log k f.log p.knows.tries) (sym (cpu_there c p there))
      (f.tried c (ended_of p) ends)

  pub end_for : IsEndFor t found cpus (ForEach passes)
  end_for = record { end = is_end; goes_on = f.goes_on; own = keeps_own; seen = keeps_seen; tried = keeps_tried }

-- the parts of the first n places
parts_of : {A : Type 0} (xs : List (Option (Slot A))) (n : ℕ)
    → ((k : ℕ) → k < n → (x : Slot A) × (get_elem? xs k ≡ some (Some x)))
    → (found : List (Slot A)) × Gives n xs found
parts_of xs zero home = ([], (refl, λ k x lt e. absurd (omega arith)))
parts_of {A = A} xs (suc n) home =
    let rest = parts_of xs n (λ k lt. home k (omega arith)) in
    let last = home n (omega arith) in (
      rest.0 ++ last.0 ∷ [],
      (
        length-append rest.0 (last.0 ∷ []) ∙ (ap (λ m. m + 1) rest.1.0 ∙ omega arith),
        λ k x lt e. dite (ℕ_discrete k n)
            (λ is. get_last rest.0 last.0 k (is ∙ sym rest.1.0)
            ∙ some-injective (Some last.0) (Some x) (sym last.1 ∙ (ap (get_elem? xs) (sym is) ∙ e)))
            (λ ne. get_front rest.0 (last.0 ∷ []) x k (rest.1.1 k x (omega arith) e)),
      ),
    )

pub has_end : {A : Type 0} (t : Opened) (n : ℕ) (ended : List Ended) (xs : List (Option (Slot A)))
    (passes : List (Option Pass)) (cpus : List CpuState)
    → Ends A t.layout t.begun ended xs
    → HaveEnded n passes ended cpus
    → AreHomeFrom t.table n 0 passes
    → n ≡ t.layout.config.cpus
    → length passes ≡ n
    → HasEnd A t passes
has_end t n ended xs passes cpus f have home all long =
    let found = parts_of xs parts (λ k lt. let h = f.each_part k lt in (h.0, h.1)) in (
      found.0,
      cpus,
      end_for t n ended xs passes cpus found.0 f have found.1 home all long,
    )
