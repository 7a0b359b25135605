use Rattle.std.proofs.Common.{◌∙◌, Some, None, sym, subst}
use Rattle.page_state.specs.LayoutView.{layout_of}
use Rattle.part_types.specs.Lent.{Lent, Suits, lent_alone, lent_both, lent_guest, lent_shared, lent_vms}
use Rattle.part_types.specs.View.{cpu_of}
use Rattle.hypercalls.proofs.Lends.{alone_anywhere, vms_anywhere}
use Rattle.hypercalls.proofs.Using.{both, guest, shared, vms}
use Rattle.world.proofs.LentSteps.{alone_given, alone_left, both_given, both_left, guest_given, guest_left, reached_there, reply_given, shared_given, shared_left, step_given, vms_given, vms_left}
use Rattle.world.proofs.lent.step_on.Goals as goal

pub returns-in-Nothing-clause-step : goal.returns-in-Nothing-clause-step
returns-in-Nothing-clause-step g c =
    let uses = sym c.uses.ensures ∙ c.in-Nothing.is in
    step_given (layout_of c.args.layout.now) c.args.step.now
    (alone_given c.args.vms c.args.shared c.args.guest c.args.cpu.now c.args.step.now c.requires.lent
    uses) c.step_alone.result c.reply_of.result c.reply_of.ensures
    (lent_alone c.step_alone.new.cpu)
    (alone_anywhere _ c.args.step.now c.args.cpu.now c.step_alone.new.cpu c.step_alone.result
    c.step_alone.ensures.step) _
    (alone_left c.args.vms c.args.shared c.args.guest c.args.cpu.now c.args.step.now c.requires.lent uses
    c.step_alone.new.cpu _ _ _)

pub returns-in-Nothing-clause-reply : goal.returns-in-Nothing-clause-reply
returns-in-Nothing-clause-reply g c =
    let uses = sym c.uses.ensures ∙ c.in-Nothing.is in
    reply_given (layout_of c.args.layout.now) c.args.step.now
    (alone_given c.args.vms c.args.shared c.args.guest c.args.cpu.now c.args.step.now c.requires.lent
    uses) c.step_alone.result c.reply_of.result c.reply_of.ensures
    (lent_alone c.step_alone.new.cpu)
    (alone_anywhere _ c.args.step.now c.args.cpu.now c.step_alone.new.cpu c.step_alone.result
    c.step_alone.ensures.step)

pub returns-in-Nothing-clause-suits : goal.returns-in-Nothing-clause-suits
returns-in-Nothing-clause-suits g c =
    let uses = sym c.uses.ensures ∙ c.in-Nothing.is in
    subst (λ (z : Lent g.row.A.Denot). Suits (layout_of c.args.layout.now) z)
    (sym
    (alone_left c.args.vms c.args.shared c.args.guest c.args.cpu.now c.args.step.now c.requires.lent uses
    c.step_alone.new.cpu _ _ _))
    (record { vms = tt; shared = tt; guest = tt; cpu = c.step_alone.ensures.own })

pub step_on_vms-requires-clause-suits : goal.step_on_vms-requires-clause-suits
step_on_vms-requires-clause-suits g c =
    let uses = sym c.uses.ensures ∙ c.in-Vms.is in
    (subst (λ (z : Lent g.row.A.Denot). Suits (layout_of c.args.layout.now) z)
    (vms_given c.args.vms c.args.shared c.args.guest c.args.cpu.now c.args.step.now c.requires.lent uses
    c.in-Some.vms c.in-Some.is) c.requires.suits).vms

pub step_on_vms-requires-clause-reached : goal.step_on_vms-requires-clause-reached
step_on_vms-requires-clause-reached g c =
    let uses = sym c.uses.ensures ∙ c.in-Vms.is in
    reached_there (layout_of c.args.layout.now) c.args.step.now
    (vms_given c.args.vms c.args.shared c.args.guest c.args.cpu.now c.args.step.now c.requires.lent uses
    c.in-Some.vms c.in-Some.is) None
    (vms (cpu_of c.args.cpu.now) c.args.step.now uses).slot c.requires.reached

pub returns-in-Some-clause-step : goal.returns-in-Some-clause-step
returns-in-Some-clause-step g c =
    let uses = sym c.uses.ensures ∙ c.in-Vms.is in
    step_given (layout_of c.args.layout.now) c.args.step.now
    (vms_given c.args.vms c.args.shared c.args.guest c.args.cpu.now c.args.step.now c.requires.lent uses
    c.in-Some.vms c.in-Some.is) c.step_on_vms.result c.reply_of-in-Vms.result c.reply_of-in-Vms.ensures
    (lent_vms c.step_on_vms.new.vms c.step_on_vms.new.cpu)
    (vms_anywhere _ c.args.step.now c.in-Some.vms.now c.step_on_vms.new.vms c.args.cpu.now
    c.step_on_vms.new.cpu c.step_on_vms.result c.step_on_vms.ensures.step) _
    (vms_left c.args.vms c.args.shared c.args.guest c.args.cpu.now c.args.step.now c.requires.lent uses c.in-Some.vms
    c.in-Some.is c.step_on_vms.new.vms c.step_on_vms.new.cpu _ _)

pub returns-in-Some-clause-reply : goal.returns-in-Some-clause-reply
returns-in-Some-clause-reply g c =
    let uses = sym c.uses.ensures ∙ c.in-Vms.is in
    reply_given (layout_of c.args.layout.now) c.args.step.now
    (vms_given c.args.vms c.args.shared c.args.guest c.args.cpu.now c.args.step.now c.requires.lent uses
    c.in-Some.vms c.in-Some.is) c.step_on_vms.result c.reply_of-in-Vms.result c.reply_of-in-Vms.ensures
    (lent_vms c.step_on_vms.new.vms c.step_on_vms.new.cpu)
    (vms_anywhere _ c.args.step.now c.in-Some.vms.now c.step_on_vms.new.vms c.args.cpu.now
    c.step_on_vms.new.cpu c.step_on_vms.result c.step_on_vms.ensures.step)

pub returns-in-Some-clause-suits : goal.returns-in-Some-clause-suits
returns-in-Some-clause-suits g c =
    let uses = sym c.uses.ensures ∙ c.in-Vms.is in
    subst (λ (z : Lent g.row.A.Denot). Suits (layout_of c.args.layout.now) z)
    (sym
    (vms_left c.args.vms c.args.shared c.args.guest c.args.cpu.now c.args.step.now c.requires.lent uses
    c.in-Some.vms c.in-Some.is c.step_on_vms.new.vms c.step_on_vms.new.cpu _ _))
    (record { vms = c.step_on_vms.ensures.suits; shared = tt; guest = tt; cpu = c.step_on_vms.ensures.own })

pub step_on_shared-requires-clause-suits : goal.step_on_shared-requires-clause-suits
step_on_shared-requires-clause-suits g c =
    let uses = sym c.uses.ensures ∙ c.in-Shared.is in
    (subst (λ (z : Lent g.row.A.Denot). Suits (layout_of c.args.layout.now) z)
    (shared_given c.args.vms c.args.shared c.args.guest c.args.cpu.now c.args.step.now c.requires.lent uses
    c.in-Some-shared.shared c.in-Some-shared.is) c.requires.suits).shared

pub step_on_shared-requires-clause-reached : goal.step_on_shared-requires-clause-reached
step_on_shared-requires-clause-reached g c =
    let uses = sym c.uses.ensures ∙ c.in-Shared.is in
    reached_there (layout_of c.args.layout.now) c.args.step.now
    (shared_given c.args.vms c.args.shared c.args.guest c.args.cpu.now c.args.step.now c.requires.lent uses
    c.in-Some-shared.shared c.in-Some-shared.is) None
    (shared (cpu_of c.args.cpu.now) c.args.step.now uses).slot c.requires.reached

pub returns-in-Some-shared-clause-step : goal.returns-in-Some-shared-clause-step
returns-in-Some-shared-clause-step g c =
    let uses = sym c.uses.ensures ∙ c.in-Shared.is in
    step_given (layout_of c.args.layout.now) c.args.step.now
    (shared_given c.args.vms c.args.shared c.args.guest c.args.cpu.now c.args.step.now c.requires.lent uses
    c.in-Some-shared.shared c.in-Some-shared.is) c.step_on_shared.result c.reply_of-in-Shared.result
    c.reply_of-in-Shared.ensures
    (lent_shared c.step_on_shared.new.shared c.step_on_shared.new.cpu) c.step_on_shared.ensures.step _
    (shared_left c.args.vms c.args.shared c.args.guest c.args.cpu.now c.args.step.now c.requires.lent uses
    c.in-Some-shared.shared c.in-Some-shared.is c.step_on_shared.new.shared c.step_on_shared.new.cpu _ _)

pub returns-in-Some-shared-clause-reply : goal.returns-in-Some-shared-clause-reply
returns-in-Some-shared-clause-reply g c =
    let uses = sym c.uses.ensures ∙ c.in-Shared.is in
    reply_given (layout_of c.args.layout.now) c.args.step.now
    (shared_given c.args.vms c.args.shared c.args.guest c.args.cpu.now c.args.step.now c.requires.lent uses
    c.in-Some-shared.shared c.in-Some-shared.is) c.step_on_shared.result c.reply_of-in-Shared.result
    c.reply_of-in-Shared.ensures
    (lent_shared c.step_on_shared.new.shared c.step_on_shared.new.cpu) c.step_on_shared.ensures.step

pub returns-in-Some-shared-clause-suits : goal.returns-in-Some-shared-clause-suits
returns-in-Some-shared-clause-suits g c =
    let uses = sym c.uses.ensures ∙ c.in-Shared.is in
    subst (λ (z : Lent g.row.A.Denot). Suits (layout_of c.args.layout.now) z)
    (sym
    (shared_left c.args.vms c.args.shared c.args.guest c.args.cpu.now c.args.step.now c.requires.lent uses
    c.in-Some-shared.shared c.in-Some-shared.is c.step_on_shared.new.shared c.step_on_shared.new.cpu _ _))
    (record { vms = tt; shared = c.step_on_shared.ensures.suits; guest = tt; cpu = c.step_on_shared.ensures.own })

pub step_on_guest-requires-clause-suits : goal.step_on_guest-requires-clause-suits
step_on_guest-requires-clause-suits g c =
    let uses = sym c.uses.ensures ∙ c.in-Guest.is in
    (subst (λ (z : Lent g.row.A.Denot). Suits (layout_of c.args.layout.now) z)
    (guest_given c.args.vms c.args.shared c.args.guest c.args.cpu.now c.args.step.now c.requires.lent
    c.in-Guest.slot uses c.in-Some-guest.guest c.in-Some-guest.is) c.requires.suits).guest

pub step_on_guest-requires-clause-reached : goal.step_on_guest-requires-clause-reached
step_on_guest-requires-clause-reached g c =
    let uses = sym c.uses.ensures ∙ c.in-Guest.is in
    reached_there (layout_of c.args.layout.now) c.args.step.now
    (guest_given c.args.vms c.args.shared c.args.guest c.args.cpu.now c.args.step.now c.requires.lent
    c.in-Guest.slot uses c.in-Some-guest.guest c.in-Some-guest.is)
    (Some c.in-Guest.slot)
    (guest (cpu_of c.args.cpu.now) c.args.step.now c.in-Guest.slot uses).slot c.requires.reached

pub returns-in-Some-guest-clause-step : goal.returns-in-Some-guest-clause-step
returns-in-Some-guest-clause-step g c =
    let uses = sym c.uses.ensures ∙ c.in-Guest.is in
    step_given (layout_of c.args.layout.now) c.args.step.now
    (guest_given c.args.vms c.args.shared c.args.guest c.args.cpu.now c.args.step.now c.requires.lent
    c.in-Guest.slot uses c.in-Some-guest.guest c.in-Some-guest.is) c.step_on_guest.result
    c.reply_of-in-Guest.result c.reply_of-in-Guest.ensures
    (lent_guest c.step_on_guest.new.part c.step_on_guest.new.cpu) c.step_on_guest.ensures.step _
    (guest_left c.args.vms c.args.shared c.args.guest c.args.cpu.now c.args.step.now c.requires.lent c.in-Guest.slot
    uses c.in-Some-guest.guest c.in-Some-guest.is c.step_on_guest.new.part c.step_on_guest.new.cpu _ _)

pub returns-in-Some-guest-clause-reply : goal.returns-in-Some-guest-clause-reply
returns-in-Some-guest-clause-reply g c =
    let uses = sym c.uses.ensures ∙ c.in-Guest.is in
    reply_given (layout_of c.args.layout.now) c.args.step.now
    (guest_given c.args.vms c.args.shared c.args.guest c.args.cpu.now c.args.step.now c.requires.lent
    c.in-Guest.slot uses c.in-Some-guest.guest c.in-Some-guest.is) c.step_on_guest.result
    c.reply_of-in-Guest.result c.reply_of-in-Guest.ensures
    (lent_guest c.step_on_guest.new.part c.step_on_guest.new.cpu) c.step_on_guest.ensures.step

pub returns-in-Some-guest-clause-suits : goal.returns-in-Some-guest-clause-suits
returns-in-Some-guest-clause-suits g c =
    let uses = sym c.uses.ensures ∙ c.in-Guest.is in
    subst (λ (z : Lent g.row.A.Denot). Suits (layout_of c.args.layout.now) z)
    (sym
    (guest_left c.args.vms c.args.shared c.args.guest c.args.cpu.now c.args.step.now c.requires.lent
    c.in-Guest.slot uses c.in-Some-guest.guest c.in-Some-guest.is c.step_on_guest.new.part
    c.step_on_guest.new.cpu _ _))
    (record { vms = tt; shared = tt; guest = c.step_on_guest.ensures.suits; cpu = c.step_on_guest.ensures.own })

pub step_on_both-requires-clause-suits : goal.step_on_both-requires-clause-suits
step_on_both-requires-clause-suits g c =
    let uses = sym c.uses.ensures ∙ c.in-Both.is in
    subst (λ (z : Lent g.row.A.Denot). Suits (layout_of c.args.layout.now) z)
    (both_given c.args.vms c.args.shared c.args.guest c.args.cpu.now c.args.step.now c.requires.lent c.in-Both.slot
    uses c.in-Some-shared-2.shared c.in-Some-shared-2.is c.in-Some-guest-2.guest
    c.in-Some-guest-2.is) c.requires.suits

pub step_on_both-requires-clause-reached : goal.step_on_both-requires-clause-reached
step_on_both-requires-clause-reached g c =
    let uses = sym c.uses.ensures ∙ c.in-Both.is in
    reached_there (layout_of c.args.layout.now) c.args.step.now
    (both_given c.args.vms c.args.shared c.args.guest c.args.cpu.now c.args.step.now c.requires.lent c.in-Both.slot
    uses c.in-Some-shared-2.shared c.in-Some-shared-2.is c.in-Some-guest-2.guest c.in-Some-guest-2.is)
    (Some c.in-Both.slot)
    (both (cpu_of c.args.cpu.now) c.args.step.now c.in-Both.slot uses).slot c.requires.reached

pub returns-in-Some-guest-2-clause-step : goal.returns-in-Some-guest-2-clause-step
returns-in-Some-guest-2-clause-step g c =
    let uses = sym c.uses.ensures ∙ c.in-Both.is in
    step_given (layout_of c.args.layout.now) c.args.step.now
    (both_given c.args.vms c.args.shared c.args.guest c.args.cpu.now c.args.step.now c.requires.lent c.in-Both.slot
    uses c.in-Some-shared-2.shared c.in-Some-shared-2.is c.in-Some-guest-2.guest
    c.in-Some-guest-2.is) c.step_on_both.result c.reply_of-in-Both.result c.reply_of-in-Both.ensures
    (lent_both c.step_on_both.new.shared c.step_on_both.new.part
    c.step_on_both.new.cpu) c.step_on_both.ensures.step _
    (both_left c.args.vms c.args.shared c.args.guest c.args.cpu.now c.args.step.now c.requires.lent c.in-Both.slot uses
    c.in-Some-shared-2.shared c.in-Some-shared-2.is c.in-Some-guest-2.guest c.in-Some-guest-2.is
    c.step_on_both.new.shared c.step_on_both.new.part c.step_on_both.new.cpu _)

pub returns-in-Some-guest-2-clause-reply : goal.returns-in-Some-guest-2-clause-reply
returns-in-Some-guest-2-clause-reply g c =
    let uses = sym c.uses.ensures ∙ c.in-Both.is in
    reply_given (layout_of c.args.layout.now) c.args.step.now
    (both_given c.args.vms c.args.shared c.args.guest c.args.cpu.now c.args.step.now c.requires.lent c.in-Both.slot
    uses c.in-Some-shared-2.shared c.in-Some-shared-2.is c.in-Some-guest-2.guest
    c.in-Some-guest-2.is) c.step_on_both.result c.reply_of-in-Both.result c.reply_of-in-Both.ensures
    (lent_both c.step_on_both.new.shared c.step_on_both.new.part
    c.step_on_both.new.cpu) c.step_on_both.ensures.step

pub returns-in-Some-guest-2-clause-suits : goal.returns-in-Some-guest-2-clause-suits
returns-in-Some-guest-2-clause-suits g c =
    let uses = sym c.uses.ensures ∙ c.in-Both.is in
    subst (λ (z : Lent g.row.A.Denot). Suits (layout_of c.args.layout.now) z)
    (sym
    (both_left c.args.vms c.args.shared c.args.guest c.args.cpu.now c.args.step.now c.requires.lent
    c.in-Both.slot uses c.in-Some-shared-2.shared c.in-Some-shared-2.is c.in-Some-guest-2.guest
    c.in-Some-guest-2.is c.step_on_both.new.shared c.step_on_both.new.part c.step_on_both.new.cpu _))
    c.step_on_both.ensures.suits
