-- What is found of a call by what its reply says, and why there is none.
use Rattle.std.proofs.Common.{◌≡◌, inl, inr, refl, sym, subst}
use Rattle.std.specs.Prelude.{true, List, Option, Some, None, IsSome, Result, Ok, Err, IfOk, IfErr}
use Rattle.call_table.specs.declared.step.Step.{Step}
use Rattle.page_state.specs.Layouts.{Layout}
use Rattle.page_state.specs.LayoutView.{layout_of}
use Rattle.reference_model.specs.model.State.{Contents}
use Rattle.freedoms.specs.declared.Freedoms.{Freedoms}
use Rattle.ghost_spec.specs.declared.state.Ghost.{Ghost}
use Rattle.ghost_spec.specs.States.{contents_in}
use Rattle.c_states.specs.declared.judge.PlainCall.{PlainCall}
use Rattle.c_states.specs.declared.judge.Unjudged.{Unjudged}
use Rattle.c_states.specs.declared.judge.Unjudged.TheVariants as unjudged
use Rattle.c_states.specs.declared.layout.PlainLayout.{PlainLayout}
use Rattle.c_states.specs.declared.layout.PlainRegion.{PlainRegion}
use Rattle.c_states.specs.Judged.{IsUnjudgedAfter, IsUnpredicted}
use Rattle.c_states.specs.Layouts.{layout_from_c}
use Rattle.c_states.specs.States.{Lists}
use Rattle.c_judge.specs.declared.found.Found.{Found}
use Rattle.c_judge.specs.declared.reply.Said.{Said}
use Rattle.c_judge.specs.declared.found.Unfound.TheVariants.{Call}
use Rattle.c_judge.specs.Found.{is_compared, IsFound, IsFoundBy, IsFoundFreely, IsFoundOf, IsUncompared, IsUnfound, IsUnfoundBy, IsUnfoundFreely}
use Rattle.c_judge.specs.Ready.{IsCallable}
use Rattle.c_judge.specs.Replies.{said_of}
use Rattle.c_judge.proofs.Callable.{contents-are}

some-said : (o : Option Said) (s : Said) → o ≡ Some s → IsSome o
some-said (Some x) s e = refl
some-said None s e = cc

module _ (w : Freedoms) (l : PlainLayout) (regions : List PlainRegion) (before : Lists) (call : PlainCall)
    (after : Lists) (step : Step) (g : Ghost) (h : IsCallable l regions before call.cpu call.step step g) (says : Said)
    (says_is : said_of call.reply ≡ Some says) where
  pub found-freely : (r : Result (Option Found) Unjudged)
      → IfOk r (IsFoundOf w (layout_of g.layout) l.cpus (contents_in g) call.cpu step says after)
      → IfOk r (IsFoundFreely w l regions before call after)
  found-freely (Ok found) k = record {
    step = step;
    can = h.can;
    says = says;
    says_is = says_is;
    found_is =
        subst (λ (s : Contents). IsFoundOf w (layout_from_c l regions) l.cpus s call.cpu step says after found)
        (contents-are l regions before call.cpu call.step step g h)
        (subst (λ (m : Layout). IsFoundOf w m l.cpus (contents_in g) call.cpu step says after found) h.layout k);
  }
  found-freely (Err why) k = tt

  after-fault : (why : Unjudged)
      → is_compared w says ≡ true
      → IsUnjudgedAfter l regions after why
      → IsUnfoundFreely w l regions before call after why
  after-fault unjudged.Step is k = absurd k
  after-fault unjudged.Reply is k = absurd k
  after-fault unjudged.Cpu is k = absurd k
  after-fault (unjudged.Before why) is k = absurd k
  after-fault unjudged.Generation is k = absurd k
  after-fault (unjudged.After why) is k = ((says, says_is, is), (step, h.can), k)
  after-fault unjudged.NoMemory is k = tt

  uncompared : (why : Unjudged)
      → IsUncompared w says l regions after why
      → IsUnfoundFreely w l regions before call after why
  uncompared why (inl e) = subst (IsUnfoundFreely w l regions before call after) (sym e) tt
  uncompared why (inr k) = after-fault why k.0 k.1

  pub unfound-freely : (r : Result (Option Found) Unjudged)
      → IfErr r (IsUncompared w says l regions after)
      → IfErr r (IsUnfoundFreely w l regions before call after)
  unfound-freely (Ok found) k = tt
  unfound-freely (Err why) k = uncompared why k

-- why a step that is known isn't told
pub before-fault : (w : Freedoms) (l : PlainLayout) (regions : List PlainRegion) (before : Lists) (call : PlainCall)
    (after : Lists)
    (says : Said) (why : Unjudged)
    → said_of call.reply ≡ Some says
    → IsUnpredicted l regions before call.cpu call.step why
    → IsUnfoundFreely w l regions before call after why
before-fault w l regions before call after says unjudged.Step e k = k
before-fault w l regions before call after says unjudged.Reply e k = absurd k
before-fault w l regions before call after says unjudged.Cpu e k = (some-said (said_of call.reply) says e, k)
before-fault w l regions before call after says (unjudged.Before why) e k = (some-said (said_of call.reply) says e, k)
before-fault w l regions before call after says unjudged.Generation e k = (some-said (said_of call.reply) says e, k)
before-fault w l regions before call after says (unjudged.After why) e k = absurd k
before-fault w l regions before call after says unjudged.NoMemory e k = tt

-- a call of which something is found can be refused for want of memory
module _ (l : PlainLayout) (regions : List PlainRegion) (before : Lists) (call : PlainCall) (after : Lists)
    (found : Option Found) where
  wanting : (o : Option Freedoms)
      → IsFoundBy l regions before call after o found
      → IsUnfoundBy l regions before call after o unjudged.NoMemory
  wanting None j = (some-said (said_of call.reply) j.says j.says_is, inl tt)
  wanting (Some w) j = tt

  pub no-memory : IsFound l regions before call after found
      → IsUnfound l regions before call after (Call unjudged.NoMemory)
  no-memory f = (f.freedoms, f.taken, wanting f.freedoms f.judged)
