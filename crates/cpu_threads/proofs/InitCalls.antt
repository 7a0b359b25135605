-- What making a VM adds to the CPU's list.
use Rattle.std.proofs.Common.{◌≡◌, ℕ, List, [], ◌∷◌, ◌++◌, append_assoc, map, refl, ap, ◌∙◌}
use Rattle.std.specs.Prelude.{Ok}
use Rattle.call_table.specs.declared.reply.Call.{Call}
use Rattle.call_table.specs.declared.reply.Refusal.{Refusal}
use Rattle.call_table.specs.declared.reply.Reply.{Reply}
use Rattle.call_table.specs.declared.reply.Reply.TheVariants.{Done, Refused}
use Rattle.call_table.specs.declared.reply.Value.TheVariants.{Vm}
use Rattle.call_table.specs.declared.step.Step.{Step}
use Rattle.call_table.specs.declared.step.Step.TheVariants.{VmReserve, Fund, Install, VmOpen}
use Rattle.call_table.specs.declared.step.VmId.{VmId}
use Rattle.call_table.specs.declared.step.VmKind.{VmKind}
use Rattle.reference_model.specs.model.History.{IsStored}
use Rattle.part_types.specs.Logs.{StoredCalls}
use Rattle.part_table.specs.Known.{Known}
use Rattle.cpu_threads.specs.Inits.{InitsVm, IsCallOf, IsMade, IsRefusedAt}
use Rattle.cpu_threads.specs.Laws.{AddsTo, HasMore, InitAdds, MissingOne}
use Rattle.cpu_threads.specs.declared.init.InitStage.{InitStage}
use Rattle.cpu_threads.specs.declared.init.InitStage.TheVariants.{Reserve, Fund as FundStage, Install as InstallStage, Open}

-- a stored call adds itself
one_more : (step : Step) (reply : Reply) (v w : Known)
    → IsStored reply
    → IsCallOf step reply v w
    → HasMore ((step, reply) ∷ []) v w
one_more step reply v w stored is =
    let h = is.stored stored in
    let c : Call = h.stores.call in (
      c ∷ [],
      ap (λ (g : StoredCalls). g.calls) h.stores.own
          ∙ ap (λ (k : Known). k.own.log.calls ++ c ∷ []) h.met.same,
      λ i. ((h.stores.call_is i).step, (h.stores.call_is i).reply) ∷ [],
    )

map_two : {X Y : Type 0} (f : X → Y) (xs ys : List X) → map f (xs ++ ys) ≡ map f xs ++ map f ys
map_two f [] ys = refl
map_two f (x ∷ xs) ys = ap (λ l. f x ∷ l) (map_two f xs ys)

-- calls after calls
then_more : (ts us : List (Step × Reply)) (v w x : Known) → HasMore ts v w → HasMore us w x → HasMore (ts ++ us) v x
then_more ts us v w x a b = (
  a.0 ++ b.0,
  b.1 ∙ (ap (λ (l : List Call). l ++ b.0) a.1 ∙ append_assoc v.own.log.calls a.0 b.0),
  map_two (λ (c : Call). (c.step, c.reply)) a.0 b.0 ∙ λ i. a.2 i ++ b.2 i,
)

made_more : (step : Step) (v w : Known) (m : IsMade step v w) → HasMore ((step, Done m.0) ∷ []) v w
made_more step v w m = one_more step (Done m.0) v w tt m.1

module _ (kind : VmKind) (vcpus pfn n : ℕ) where
  all_four : (vm : VmId) (v w : Known)
      → InitsVm kind vcpus pfn n (Ok vm) v w
      → AddsTo kind vcpus pfn n Open (Done (Vm vm)) v w
  all_four vm v w h =
      let first = made_more (VmReserve kind vcpus) v h.0 h.3 in
      let second = then_more _ _ v h.0 h.1 first (made_more (Fund pfn n) h.0 h.1 h.4) in
      let third = then_more _ _ v h.1 h.2 second (made_more Install h.1 h.2 h.5) in (
        h.3.0,
        h.4.0,
        h.5.0,
        then_more _ _ v h.2 w third (one_more VmOpen (Done (Vm vm)) h.2 w tt h.6),
      )

  up_to : (stage : InitStage) (why : Refusal) (v w : Known)
      → IsStored (Refused why)
      → IsRefusedAt kind vcpus pfn n stage why v w
      → AddsTo kind vcpus pfn n stage (Refused why) v w
  up_to Reserve why v w stored h = one_more (VmReserve kind vcpus) (Refused why) v w stored h
  up_to FundStage why v w stored h = (
    h.1.0,
    then_more _ _ v h.0 w (made_more (VmReserve kind vcpus) v h.0 h.1)
        (one_more (Fund pfn n) (Refused why) h.0 w stored h.2),
  )
  up_to InstallStage why v w stored h =
      let first = made_more (VmReserve kind vcpus) v h.0 h.2 in
      let second = then_more _ _ v h.0 h.1 first (made_more (Fund pfn n) h.0 h.1 h.3) in (
        h.2.0,
        h.3.0,
        then_more _ _ v h.1 w second (one_more Install (Refused why) h.1 w stored h.4),
      )
  up_to Open why v w stored h =
      let first = made_more (VmReserve kind vcpus) v h.0 h.3 in
      let second = then_more _ _ v h.0 h.1 first (made_more (Fund pfn n) h.0 h.1 h.4) in
      let third = then_more _ _ v h.1 h.2 second (made_more Install h.1 h.2 h.5) in (
        h.3.0,
        h.4.0,
        h.5.0,
        then_more _ _ v h.2 w third (one_more VmOpen (Refused why) h.2 w stored h.6),
      )

pub init_adds : InitAdds
init_adds kind vcpus pfn n v w =
    (λ vm h. all_four kind vcpus pfn n vm v w h, λ stage why stored h. up_to kind vcpus pfn n stage why v w stored h)

pub missing_one : MissingOne
missing_one passes given l all = let h = all l.cpu l.below l.out in l.none h.place h.pass h.there h.cpu
