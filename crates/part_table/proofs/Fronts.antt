-- Logs as tries took them, in a history that goes on.
use Rattle.std.proofs.Common.{◌≡◌, ℕ, zero, suc, ◌<◌, List, [], ◌∷◌, ◌++◌, length, append-nil, sym, ap, subst, ◌∙◌, arith}
use Rattle.std.specs.Prelude.{Some, None}
use Rattle.std.proofs.lemmas.List.Elements.{All-nil, All-push}
use Rattle.page_state.specs.declared.layout.Layout.{Layout as TheLayout}
use Rattle.page_state.specs.LayoutView.{layout_of}
use Rattle.page_state.specs.Layouts.{Layout}
use Rattle.call_table.specs.declared.reply.Call.{Call}
use Rattle.reference_model.specs.model.History.{calls_by, calls_on}
use Rattle.reference_model.specs.model.Rules.{call_uses}
use Rattle.reference_model.specs.model.State.{Reference}
use Rattle.part_types.specs.Logs.{IsOfSize, StoredCalls}
use Rattle.part_table.specs.declared.slot.Slot.{Slot}
use Rattle.part_table.specs.declared.slot.Slot.TheVariants.{Vm as VmSlot, Shared as SharedSlot, Guest as GuestSlot}
use Rattle.part_table.specs.Before.{before_own}
use Rattle.part_table.specs.Known.{AreFronts, StartsWith, Try}
use Rattle.part_table.specs.Parts.{parts, part_of, log_of, IsPart}
use Rattle.part_table.proofs.Before.{own_all, own_longer, picked_front, starts_on}

-- what a try of the CPU is to have found, where it took a part
abbrev IsFront : ℕ → ℕ → List Call → ℕ × Try → Type 0
IsFront most cpu log t =
    (found : StoredCalls)
    → t.1.1 ≡ Some found
    → (t.1.0 < parts)
    × IsOfSize most found
    × StartsWith (calls_on (part_of t.1.0) (before_own cpu t.0 log)) found.calls

log_same : (x y : StoredCalls) → Some x ≡ Some y → x ≡ y
log_same x y e = let same = e in cc

-- the log of a part is of the layout's size
pub part_size : {A : Type 0} (l : Layout) (s : Reference) (k : ℕ) (x : Slot A)
    → IsPart l s k x
    → IsOfSize l.config.log (log_of x)
part_size l s zero (VmSlot p) h = h.size
part_size l s zero (SharedSlot p) h = absurd h
part_size l s zero (GuestSlot p) h = absurd h
part_size l s (suc zero) (VmSlot p) h = absurd h
part_size l s (suc zero) (SharedSlot p) h = h.suits.log
part_size l s (suc zero) (GuestSlot p) h = absurd h
part_size l s (suc (suc v)) (VmSlot p) h = absurd h
part_size l s (suc (suc v)) (SharedSlot p) h = absurd h
part_size l s (suc (suc v)) (GuestSlot p) h = h.suits.log

pub fronts_none : (key : TheLayout) (cpu : ℕ) (log : List Call) → AreFronts key.config.log cpu log []
fronts_none key cpu log = All-nil (IsFront key.config.log cpu log)

-- one part more was taken, which is as after the history, by a CPU whose list is as after it
pub fronts_took : {A : Type 0} (key : TheLayout) (cpu : ℕ) (log own : List Call) (tries : List (ℕ × Try))
    (state : Reference) (k : ℕ) (x : Slot A)
    → own ≡ calls_by cpu log
    → AreFronts key.config.log cpu log tries
    → k < parts
    → IsPart (layout_of key) state k x
    → (log_of x).calls ≡ calls_on (part_of k) log
    → AreFronts key.config.log cpu log (tries ++ (length own, (k, Some (log_of x))) ∷ [])
fronts_took key cpu log own tries state k x mine old inside stands is =
    let n : ℕ = length own in
    let long : n ≡ length (calls_by cpu log) = ap (λ (cs : List Call). length cs) mine in
    let whole : calls_on (part_of k) (before_own cpu n log) ≡ (log_of x).calls =
    ap (calls_on (part_of k)) (own_all cpu n log (omega (arith, long))) ∙ sym is in
    All-push (IsFront key.config.log cpu log) tries (n, (k, Some (log_of x))) old
    (λ g e. let same : log_of x ≡ g = log_same (log_of x) g e in (
      inside,
      subst (IsOfSize key.config.log) same (part_size (layout_of key) state k x stands),
      subst (λ (z : StoredCalls). StartsWith (calls_on (part_of k) (before_own cpu n log)) z.calls) same
          ([], whole ∙ sym (append-nil (log_of x).calls)),
    ))

-- or was found with another pass
pub fronts_missed : (key : TheLayout) (cpu : ℕ) (log : List Call) (n : ℕ) (tries : List (ℕ × Try)) (k : ℕ)
    → AreFronts key.config.log cpu log tries
    → AreFronts key.config.log cpu log (tries ++ (n, (k, None)) ∷ [])
fronts_missed key cpu log n tries k old =
    All-push (IsFront key.config.log cpu log) tries (n, (k, None)) old (λ g e. absurd cc)

-- one call more was stored
pub fronts_longer : (key : TheLayout) (cpu : ℕ) (log : List Call) (c : Call) (tries : List (ℕ × Try))
    → AreFronts key.config.log cpu log tries
    → AreFronts key.config.log cpu (log ++ c ∷ []) tries
fronts_longer key cpu log c tries old i t less g e = let h = old i t less g e in (
  h.0,
  h.1,
  starts_on _ _ g.calls (picked_front (call_uses (part_of _)) _ _ (own_longer cpu _ log (c ∷ []))) h.2,
)
