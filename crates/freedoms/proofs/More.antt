-- A judge with more freedoms than own tables.
use Rattle.std.proofs.Common.{◌≡◌, refl, ap, sym, ◌∙◌, subst, inl, inr}
use Rattle.std.specs.Prelude.{true, false}
use Rattle.call_table.specs.declared.reply.Reply.{Reply}
use Rattle.call_table.specs.declared.step.Step.{Step}
use Rattle.freedoms.proofs.Judged.{alike}
use Rattle.freedoms.proofs.ViewRows.{view_steps}
use Rattle.page_state.specs.Layouts.{Layout}
use Rattle.reference_model.specs.model.State.{Contents}
use Rattle.freedoms.specs.Ample.{is_done, StepsAmply}
use Rattle.freedoms.specs.declared.Freedoms.{Freedoms}
use Rattle.freedoms.specs.Freedoms.{view, Alike, CountsAs, Touches, reads_host, no_more}
use Rattle.freedoms.specs.Laws.{NoMoreIsOwn, MoreLetsThrough, JudgedInView, RefusalsStay}
use Rattle.freedoms.specs.OwnTables.{OwnTables}

-- what the freedoms leave of a state is left of it without tables
pub viewed : (w : Freedoms) (l : Layout) (s t : Contents) → OwnTables s t → Alike w l s t
viewed w l s t e = ap (view w l) e

said-same : (told said : Reply) → CountsAs no_more told said → said ≡ told
said-same told said (inl e) = e
said-same told said (inr h) = let bad = h.0 in cc

pub no_more_is_own : NoMoreIsOwn
no_more_is_own l before cpu step reply after = (
  λ j. record {
    state = j.state;
    next = j.next;
    begins = j.begins;
    legal = j.legal;
    steps =
        subst (λ r. StepsAmply l j.state cpu step r j.next) (sym (said-same j.told reply j.says)) j.steps;
    ends =
        j.ends;
  },
  λ j. record {
    state = j.state;
    next = j.next;
    told = reply;
    begins = j.begins;
    itself = λ r. j.begins;
    legal = j.legal;
    steps = j.steps;
    says = inl refl;
    ends = j.ends;
    mapped = λ lazy. cc;
  },
)

pub more_lets_through : MoreLetsThrough
more_lets_through w l before cpu step reply after touches j =
    record {
      state = j.state;
      next = j.next;
      told = reply;
      begins = viewed w l before j.state j.begins;
      itself =
          λ r. j.begins;
      legal =
          j.legal;
      steps =
          j.steps;
      says = inl refl;
      ends = viewed w l j.next after j.ends;
      mapped = λ lazy. touches;
    }

no-abort : (step : Step) (reply : Reply) (after : Contents) → reads_host step ≡ false → Touches step reply after
no-abort step reply after reads p e done = let bad : false ≡ true = sym reads ∙ ap reads_host e in cc

pub judged_in_view : JudgedInView
judged_in_view w l before legal cpu step reply after begins is asks reads read = (
  λ j.
      let d = (alike l j.state cpu step j.told j.legal asks).down j.next j.steps in
      let v = (view_steps w l j.state cpu step j.told asks reads).down d.0 d.1 in
      record {
        next = v.0;
        told = j.told;
        steps = subst (λ s. StepsAmply l s cpu step j.told v.0) (sym j.begins) v.1;
        says = j.says;
        ends = sym v.2
            ∙ sym (viewed w l j.next d.0 d.2) ∙ j.ends;
      },
  λ j.
      let v =
      (view_steps w l legal cpu step j.told asks reads).up j.next
      (subst (λ s. StepsAmply l s cpu step j.told j.next) begins j.steps) in
      let u = (alike l legal cpu step j.told is asks).up v.0 v.1 in
      record {
        state = legal;
        next = u.0;
        told = j.told;
        begins = begins;
        itself = λ r. let bad : false ≡ true =
            sym read ∙ r in
            cc;
        legal =
            is;
        steps =
            u.1;
        says =
            j.says;
        ends =
            viewed w l u.0 v.0 u.2 ∙ v.2 ∙ j.ends;
        mapped = λ lazy. no-abort step reply after reads;
      },
)

pub refusals_stay : RefusalsStay
refusals_stay w told said (inl e) = ap is_done e
refusals_stay w told said (inr h) = ap is_done h.2.1 ∙ sym (ap is_done h.1.1)
