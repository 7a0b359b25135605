-- What a run leaves, by its parts.
use Rattle.std.proofs.Common.{◌≡◌, ◌≢◌, ℕ, zero, suc, ◌<◌, List, [], ◌∷◌, length, true, false, cond, eqb, refl, sym, ap, ◌∙◌, subst, arith, eq-eqb, ne_eqb}
use Rattle.std.specs.Prelude.{All, Option, Some, None, slice_get}
use mathlib.Core.Logic.{dite}
use native.Mathlib.Decide.{ℕ_discrete}
use Rattle.page_state.specs.declared.layout.Layout.{Layout as TheLayout}
use Rattle.page_state.specs.LayoutView.{layout_of}
use Rattle.page_state.specs.Layouts.{Layout}
use Rattle.call_table.specs.declared.reply.Call.{Call}
use Rattle.reference_model.specs.model.History.{IsHistory, IsStored, Kept, calls_by, calls_on}
use Rattle.reference_model.specs.model.Parts.{guest_part, shared_part, vm_part}
use Rattle.reference_model.specs.model.Run.{IsRun}
use Rattle.reference_model.specs.model.State.{Reference}
use Rattle.part_types.specs.declared.parts.CpuState.{CpuState}
use Rattle.part_table.specs.declared.slot.Slot.{Slot}
use Rattle.part_table.specs.Does.{AreLeft, IsLeft, only_cpu}
use Rattle.part_table.specs.Endings.{IsEndOf}
use Rattle.part_table.specs.Parts.{parts, part_of, log_of, IsPart, IsOwn}

-- the parts, the CPUs and their logs as after a run, and the run as their history
abbrev pub left_by : Reference → List Call → Kept
left_by s log = record {
  vms = (s.contents.vms, calls_on vm_part log);
  shared = (s.contents.shared, calls_on shared_part log);
  guest = λ v. (s.contents.guest v, calls_on (guest_part v) log);
  cpu = λ c. (s.contents.cpu c, calls_by c log);
}

abbrev pub stands : (l : Layout) (s : Reference) (log : List Call)
    → IsRun l log s
    → All (λ c. IsStored c.reply) log
    → IsHistory l (left_by s log) log
stands l s log run stored = record {
  end = s;
  run = run;
  stored = stored;
  vms = refl;
  shared = refl;
  guest = λ v less. refl;
  cpu = λ c less. refl;
}

abbrev own_or : CpuState → Option CpuState → CpuState
own_or d None = d
own_or d (Some k) = k

only_here : (cpu : ℕ) (own : CpuState) → only_cpu cpu own cpu ≡ Some own
only_here cpu own = ap (λ b. cond b (Some own) None) (eq-eqb cpu cpu refl)

-- what holds of the one CPU's own state holds of each that is kept
pub one_cpu : (F : ℕ → CpuState → Type 0) (cpu : ℕ) (own : CpuState)
    → F cpu own
    → (c : ℕ) (k : CpuState)
    → only_cpu cpu own c ≡ Some k
    → F c k
one_cpu F cpu own here c k e = dite (ℕ_discrete c cpu)
    (λ is. let same : own ≡ k = ap (own_or own) (sym (only_here cpu own) ∙ (ap (only_cpu cpu own) (sym is) ∙ e)) in
    subst (λ (z : ℕ × CpuState). F z.0 z.1) (λ i. (sym is i, same i)) here)
    (λ ne. let never : None ≡ Some k = sym (ap (λ b. cond b (Some own) None) (ne_eqb c cpu ne)) ∙ e in absurd cc)

module _ {A : Type 0} {l : Layout} {f : ℕ → Option (Slot A)} (cpu : ℕ) (own : CpuState) (h : IsLeft l cpu own f) where
  pub own_left : IsOwn l h.history.end cpu own
  own_left = (h.cpus cpu own (only_here cpu own)).1

  pub list_left : own.log.calls ≡ calls_by cpu h.log
  list_left = (h.cpus cpu own (only_here cpu own)).0

pub part_left : {A : Type 0} {l : Layout} {owns : ℕ → Option CpuState} {f : ℕ → Option (Slot A)} (h : AreLeft l owns f)
    (k : ℕ) (x : Slot A)
    → f k ≡ Some x
    → IsPart l h.history.end k x
part_left h k x e = (h.parts k x e).0

pub there : {X : Type 0} (xs : List X) (k : ℕ) → k < length xs → (x : X) × (slice_get xs k ≡ Some x)
there [] k less = absurd (omega arith)
there (x ∷ xs) zero less = (x, refl)
there (x ∷ xs) (suc k) less = there xs k (omega arith)

-- each of the 66 parts at the end
pub each_part : {A : Type 0} {l : TheLayout} {found : List (Slot A)} {cpus : List CpuState} (e : IsEndOf l found cpus)
    (k : ℕ)
    → k < parts
    → (x : Slot A)
    × (slice_get found k ≡ Some x)
    × IsPart (layout_of l) e.left.history.end k x
    × ((log_of x).calls ≡ calls_on (part_of k) e.left.log)
each_part {found = found} e k less =
    let all = e.all in
    let x = there found k (omega arith) in
    let h = e.left.parts k x.0 x.1 in
    (x.0, x.1, h.0, h.1)
