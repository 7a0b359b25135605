-- The call that opens a VM answers its VmId.
use Rattle.std.proofs.Common.{◌≡◌, ◌⊎◌, ℕ, List, [], ◌∷◌, ◌++◌, refl, sym, ap, ◌∙◌, subst, ⊎_elim}
use Rattle.std.specs.Prelude.{Option, true}
use Rattle.call_table.specs.declared.reply.Call.{Call}
use Rattle.call_table.specs.declared.reply.Refusal.TheVariants.{LogFull, NoMemory}
use Rattle.call_table.specs.declared.reply.Reply.{Reply}
use Rattle.call_table.specs.declared.reply.Reply.TheVariants.{Done, Refused}
use Rattle.call_table.specs.declared.reply.Value.{Value}
use Rattle.call_table.specs.declared.reply.Value.TheVariants.{Vm}
use Rattle.call_table.specs.declared.step.Step.{Step}
use Rattle.call_table.specs.declared.step.Step.TheVariants.{VmOpen}
use Rattle.call_table.specs.declared.step.VmId.{VmId}
use Rattle.page_state.specs.LayoutView.{layout_of}
use Rattle.page_state.specs.Layouts.{Layout}
use Rattle.reference_model.specs.model.Boot.{boot}
use Rattle.reference_model.specs.model.Rules.{rule}
use Rattle.reference_model.specs.model.Run.{Runs}
use Rattle.reference_model.specs.model.State.{Reference}
use Rattle.reference_model.specs.model.Step.{FindsFull, IsMade, IsRefused, IsStoredAnswer, IsWanting, Steps, used_by, rooms_by}
use Rattle.reference_model.specs.model.Used.{Used}
use Rattle.part_table.specs.Known.{Known}
use Rattle.cpu_threads.specs.Machines.{StoresInTheEnd}

runs_last : {R : Type 0}
    → (Go : R → Call → R → Type 0) (cs : List Call) (s t : R) (c : Call)
    → Runs Go s (cs ++ c ∷ []) t
    → (m : R) × Go m c t
runs_last Go [] s t c r = (s, subst (λ z. Go s c z) r.2 r.1)
runs_last Go (d ∷ cs) s t c r = runs_last Go cs r.0 t c r.2

abbrev value_of : Value → Reply → Value
value_of v (Done w) = w
value_of v (Refused why) = v

done_same : (v w : Value) → Done v ≡ Done w → v ≡ w
done_same v w e = ap (value_of v) e

abbrev no_vm : VmId
no_vm = record { slot = 0; generation = 0 }

abbrev vm_in : Value → VmId
vm_in (Vm vm) = vm
vm_in other = no_vm

opened_value : (l : Layout) (cpu : ℕ) (slot : Option ℕ) (x : Used)
    → (rule l cpu slot VmOpen x).changes.value ≡ Vm (vm_in (rule l cpu slot VmOpen x).changes.value)
unfolding rule
opened_value l cpu slot x = refl

module _ (l : Layout) (s t : Reference) (c : Call) (v : Value) (opens : c.step ≡ VmOpen) (told : c.reply ≡ Done v) where
  by_full : (y : Used)
      → (q : Rattle.reference_model.specs.model.Used.UsedRooms)
      → FindsFull c (used_by c s) (rooms_by c s) y q
      → (vm : VmId) × (v ≡ Vm vm)
  by_full y q f = let never : Done v ≡ Refused LogFull = sym told ∙ f.reply in cc

  by_answer : (y : Used)
      → IsMade l c.cpu c.slot c.step (used_by c s) c.reply y
      ⊎ (IsRefused l c.cpu c.slot c.step (used_by c s) c.reply y
      ⊎ IsWanting l c.cpu c.slot c.step true (used_by c s) c.reply y)
      → (vm : VmId) × (v ≡ Vm vm)
  by_answer y h = ⊎_elim
      (λ (m : IsMade l c.cpu c.slot c.step (used_by c s) c.reply y). (
        vm_in (rule l c.cpu c.slot VmOpen (used_by c s)).changes.value,
        done_same v (rule l c.cpu c.slot c.step (used_by c s)).changes.value (sym told ∙ m.reply_is)
            ∙ (ap (λ (st : Step). (rule l c.cpu c.slot st (used_by c s)).changes.value) opens
            ∙ opened_value l c.cpu c.slot (used_by c s)),
      ))
      (λ
      (n : IsRefused l c.cpu c.slot c.step (used_by c s) c.reply y
      ⊎ IsWanting l c.cpu c.slot c.step true (used_by c s) c.reply y). ⊎_elim
      (λ (r : IsRefused l c.cpu c.slot c.step (used_by c s) c.reply y). let never : Done v ≡ Refused r.why =
      sym told ∙ r.reply_is in
      cc)
      (λ (w : IsWanting l c.cpu c.slot c.step true (used_by c s) c.reply y). let never : Done v ≡ Refused NoMemory =
      sym told ∙ w.reply_is in
      cc)
      n)
      h

  step_opens : Steps l s c t → (vm : VmId) × (v ≡ Vm vm)
  step_opens h =
      ⊎_elim (λ f. by_full h.after h.left f)
      (λ
      (a : IsStoredAnswer l c (used_by c s) (rooms_by c s) h.after h.left). by_answer h.after
      a.answered) h.on.answers

pub open_answers : (v : Value) (u w : Known) → StoresInTheEnd VmOpen (Done v) u w → (vm : VmId) × (v ≡ Vm vm)
open_answers v u w h =
    let c : Call = h.stores.call in
    let e = h.stores in
    let l : Layout = layout_of w.layout in
    let leads =
    subst (λ (cs : List Call). Runs (Steps l) (boot l) cs e.left.history.end) e.ends.1 e.left.history.run.leads in
    let last = runs_last (Steps l) e.ends.0 (boot l) e.left.history.end c leads in
    step_opens l last.0 e.left.history.end c v (ap (λ (d : Call). d.step) e.call_is)
    (ap (λ (d : Call). d.reply) e.call_is) last.1
