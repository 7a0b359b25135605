-- One legal history begins empty, and grows by each stored call.
use Rattle.std.proofs.Common.{◌≡◌, ◌<◌, refl, ap, sym, ◌∙◌, subst, List, [], ◌∷◌, ◌++◌, filter, append-nil}
use Rattle.std.specs.Prelude.{Bool, true, false, ◌==◌}
use Rattle.std.proofs.lemmas.List.Elements.{All-nil, All-push, filter-append}
use Rattle.call_table.specs.declared.reply.Call.{Call}
use Rattle.reference_model.specs.model.Parts.{vm_part, shared_part, guest_part}
use Rattle.reference_model.specs.model.Rules.{call_uses}
use Rattle.reference_model.specs.model.Step.{Steps}
use Rattle.reference_model.specs.model.Boot.{boot}
use Rattle.reference_model.specs.model.Run.{Runs}
use Rattle.reference_model.specs.model.History.{IsStored}
use Rattle.reference_model.specs.claims.Laws.{AgreeBeside, HistoryBegins, HistoryGrows}
use Rattle.reference_model.specs.model.Stored.{Stores}
use Rattle.reference_model.proofs.Steps.{step_changes, first-same}
use Rattle.reference_model.proofs.Ends.{filter-true, filter-false, eq-unlike}

-- a run goes on by a step
runs-append : {S : Type 0} (Go : S → Call → S → Type 0) (cs : List Call) (s m t : S) (c : Call)
    → Runs Go s cs m
    → Go m c t
    → Runs Go s (cs ++ c ∷ []) t
runs-append Go [] s m t c h k = (t, subst (λ x. Go x c t) (sym h) k, refl)
runs-append Go (d ∷ cs) s m t c h k = (h.0, h.1, runs-append Go cs h.0 m t c h.2 k)

-- what stores a call has the content of the next state, and the calls of the longer list
stored-as : {X : Type 0} (f : Call → Bool) (used : Bool) (log : List Call) (c : Call) (old next : X)
    (before after : X × List Call)
    → f c ≡ used
    → before ≡ (old, filter f log)
    → (used ≡ false → next ≡ old)
    → Stores used c next before after
    → after ≡ (next, filter f (log ++ c ∷ []))
stored-as f true log c old next before after u b n s =
    let more : filter f (log ++ c ∷ []) ≡ filter f log ++ c ∷ [] =
    filter-append f log (c ∷ []) ∙ ap (λ zs. filter f log ++ zs) (filter-true f c [] u) in
    s ∙ ap (λ zs. (next, zs ++ c ∷ [])) (ap (λ p. p.1) b) ∙ ap (λ zs. (next, zs)) (sym more)
stored-as f false log c old next before after u b n s =
    let same : filter f (log ++ c ∷ []) ≡ filter f log =
    filter-append f log (c ∷ []) ∙ ap (λ zs. filter f log ++ zs) (filter-false f c [] u)
    ∙ append-nil (filter f log) in
    s ∙ b ∙ ap (λ x. (x, filter f log)) (sym (n refl)) ∙ ap (λ zs. (next, zs)) (sym same)

pub history_begins : HistoryBegins
history_begins l = record {
  end = boot l;
  run = record { cpus = All-nil (λ (c : Call). c.cpu < l.config.cpus); leads = refl };
  stored = All-nil (λ (c : Call). IsStored c.reply);
  vms = refl;
  shared = refl;
  guest = λ v less. refl;
  cpu = λ c less. refl;
}

pub history_grows : HistoryGrows
history_grows l before after log c t h step stored own s =
    let beside : AgreeBeside c h.end t = step_changes l h.end t c step in
    record {
      end = t;
      run =
          record {
            cpus = All-push (λ (d : Call). d.cpu < l.config.cpus) log c h.run.cpus own;
            leads = runs-append (Steps l) log (boot l) h.end t c h.run.leads step;
          };
      stored = All-push (λ (d : Call). IsStored d.reply) log c h.stored stored;
      vms =
          stored-as (call_uses vm_part)
          (call_uses vm_part c) log c h.end.contents.vms t.contents.vms before.vms after.vms refl h.vms
          (λ e. first-same (beside.vms e)) s.vms;
      shared =
          stored-as (call_uses shared_part)
          (call_uses shared_part c) log c h.end.contents.shared t.contents.shared before.shared after.shared refl
          h.shared
          (λ e. first-same (beside.shared e)) s.shared;
      guest =
          λ v less. stored-as (call_uses (guest_part v)) (call_uses (guest_part v) c) log c (h.end.contents.guest v)
          (t.contents.guest v) (before.guest v) (after.guest v) refl (h.guest v less)
          (λ e. first-same (beside.guest v e)) (s.guest v);
      cpu =
          λ k less. stored-as (λ (d : Call). d.cpu == k) (c.cpu == k) log c (h.end.contents.cpu k) (t.contents.cpu k)
          (before.cpu k) (after.cpu k) refl (h.cpu k less)
          (λ e. first-same (beside.cpu k (λ same. eq-unlike c.cpu k e (sym same)))) (s.cpu k);
    }
