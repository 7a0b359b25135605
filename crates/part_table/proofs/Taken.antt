-- A call was made on the parts as the tries of them took them.
use Rattle.std.proofs.Common.{◌≡◌, ℕ, List, [], ◌∷◌, ◌++◌, map, All, sym, ap, ◌∙◌}
use Rattle.std.specs.Prelude.{Option, Some, None, option_map}
use Rattle.std.proofs.lemmas.List.Elements.{All-cons, All-nil}
use Rattle.page_state.specs.declared.layout.Layout.{Layout as TheLayout}
use Rattle.call_table.specs.declared.reply.Call.{Call}
use Rattle.part_types.specs.declared.parts.CpuState.{CpuState}
use Rattle.part_types.specs.Logs.{StoredCalls}
use Rattle.part_table.specs.declared.slot.Slot.{Slot}
use Rattle.part_table.specs.Answered.{used_by}
use Rattle.part_table.specs.Known.{Known, Try, seen_at}
use Rattle.part_table.specs.Laws.{MadeAsTaken}
use Rattle.part_table.specs.Parts.{log_of}
use Rattle.part_table.specs.Tried.{AllTaken}
use Rattle.part_table.proofs.Added.{same_tries}

abbrev first_log : List Try → Option StoredCalls
first_log [] = None
first_log (t ∷ ts) = t.1

abbrev later : List Try → List Try
later [] = []
later (t ∷ ts) = ts

module _ {A : Type 0} (before : ℕ → Option (Slot A)) where
  abbrev tries_of : List ℕ → List Try
  tries_of ks = map (λ k. (k, option_map log_of (before k))) ks

  there : (k : ℕ) (log : StoredCalls) (o : Option (Slot A))
      → before k ≡ o
      → Some log ≡ option_map log_of o
      → (x : Slot A) × (before k ≡ Some x) × (log_of x ≡ log)
  there k log None is e = absurd (let no : Some log ≡ None = e in cc)
  there k log (Some x) is e = let same : log_of x ≡ log = cc in (x, is, same)

  module _ (c : Call) (v w : Known) where
    abbrev IsSeen : ℕ → Type 0
    IsSeen k = (x : Slot A) × (before k ≡ Some x) × (seen_at w.seen k ≡ (log_of x).calls ++ c ∷ [])

    as_taken : (ks : List ℕ) (ts : List Try) → AllTaken c v w ks ts → ts ≡ tries_of ks → All IsSeen ks
    as_taken [] ts a e = All-nil IsSeen
    as_taken (k ∷ ks) ts a e =
        let both : (k, Some a.0) ∷ a.1 ≡ tries_of (k ∷ ks) = sym a.2 ∙ e in
        let x = there k a.0 (before k) (λ i. before k) (ap first_log both) in
        All-cons IsSeen k ks (x.0, x.1, a.5 ∙ ap (λ (g : StoredCalls). g.calls ++ c ∷ []) (sym x.2))
        (as_taken ks a.1 a.6 (ap later both))

pub made_as_taken : {A T : Type 0}
    (tells : TheLayout → (ℕ → Option (Slot A)) → CpuState → Call → (ℕ → Option (Slot A)) → CpuState → T → T → Type 0)
    → MadeAsTaken tells
made_as_taken tells step reply v w from to s m =
    as_taken m.before s.call v w (used_by step v) s.tries s.taken
    (same_tries v w s.tries (tries_of m.before (used_by step v)) s.tried m.tried)
