use Rattle.std.proofs.Common.{refl}
use Rattle.ghost_spec.specs.States.{contents_in}
use Rattle.ghost_sound.specs.declared.finding.Unsound.TheVariants.{TwoOwners, TwoBorrowers, NoShare}
use Rattle.ghost_sound.proofs.Telling.{borrowers-are, one-borrower, one-owner, owners-are, stray-is, told-of}
use Rattle.ghost_sound.proofs.sound.unsound.Goals as goal

pub returns-in-Some-clause-none : goal.returns-in-Some-clause-none
returns-in-Some-clause-none c = let p = c.in-Some.field-0 in
    told-of (contents_in c.args.state.now) (TwoOwners p.frame p.one p.other)
    (owners-are (contents_in c.args.state.now) p c.in-Some.ensures)

pub returns-in-Some-twice-clause-none : goal.returns-in-Some-twice-clause-none
returns-in-Some-twice-clause-none c = let p = c.in-Some-twice.field-0 in
    told-of (contents_in c.args.state.now) (TwoBorrowers p.frame p.one p.other)
    (borrowers-are (contents_in c.args.state.now) p c.in_default.ensures c.in-Some-twice.ensures)

pub returns-in-Some-twice-clause-told : goal.returns-in-Some-twice-clause-told
returns-in-Some-twice-clause-told c =
    borrowers-are (contents_in c.args.state.now) c.in-Some-twice.field-0 c.in_default.ensures c.in-Some-twice.ensures

pub returns-in-Some-first_stray-clause-none : goal.returns-in-Some-first_stray-clause-none
returns-in-Some-first_stray-clause-none c = let a = c.in-Some-first_stray.field-0 in
    told-of (contents_in c.args.state.now) (NoShare a.frame a.borrower)
    (stray-is
    (contents_in c.args.state.now) a.frame a.borrower c.in_default.ensures c.in_default-twice.ensures
    c.in-Some-first_stray.ensures)

pub returns-in-Some-first_stray-clause-told : goal.returns-in-Some-first_stray-clause-told
returns-in-Some-first_stray-clause-told c = let a = c.in-Some-first_stray.field-0 in
    stray-is
    (contents_in c.args.state.now) a.frame a.borrower c.in_default.ensures c.in_default-twice.ensures
    c.in-Some-first_stray.ensures

pub returns-in-None-clause-none : goal.returns-in-None-clause-none
returns-in-None-clause-none c = (
  λ e. record {
    one_owner = one-owner (contents_in c.args.state.now) c.in_default.ensures;
    one_borrower = one-borrower (contents_in c.args.state.now) c.in_default-twice.ensures;
    shares = c.in-None.ensures;
  },
  λ k. refl,
)
