use Rattle.std.proofs.Common.{refl, subst, sym, ◌<◌}
use Rattle.std.proofs.lemmas.List.Sorted.{All-permutation, Contains-permutation, IsPermutation-sym, IsPermutation-trans}
use Rattle.ghost_legal.specs.Frames.{IsSmallHeld}
use Rattle.ghost_legal.specs.Illegals.{IsIllegalButForTrees}
use Rattle.ghost_legal.specs.Listed.{all_held_in}
use Rattle.ghost_legal.proofs.Found.{all-some}
use Rattle.ghost_legal.proofs.state.first_of.Goals as goal

pub returns-in-Some : goal.returns-in-Some
returns-in-Some c =
    let g = c.args.state.now in
    let f = c.in-Some.ensures in
    subst (IsIllegalButForTrees g) (sym c.far_frame.ensures) (
      c.requires.pages,
      record {
        piece = _;
        held =
            Contains-permutation c.args.held.now (all_held_in g) _
            (IsPermutation-sym (all_held_in g) c.args.held.now c.requires.all) f.0;
        frame = refl;
        holder = refl;
        far = f.1;
      },
    )

pub first_twice-requires-clause-some : goal.first_twice-requires-clause-some
first_twice-requires-clause-some c =
    All-permutation (λ h. 0 < h.frames.count) (all_held_in c.args.state.now) c.args.held.now c.requires.all
    (all-some c.args.state.now c.requires.kept c.requires.pages.tables.parts.slots)

pub returns-in-Some-first_twice : goal.returns-in-Some-first_twice
returns-in-Some-first_twice c =
    let g = c.args.state.now in
    let t = c.in-Some-first_twice.ensures in
    let hs = c.args.held.now in
    subst (IsIllegalButForTrees g) (sym c.held_twice.ensures) (
      c.requires.pages,
      All-permutation IsSmallHeld hs (all_held_in g)
          (IsPermutation-sym (all_held_in g) hs c.requires.all) c.in_default.ensures,
      record {
        first = c.in-Some-first_twice.one;
        second = c.in-Some-first_twice.other;
        rest = t.rest;
        held = IsPermutation-trans (all_held_in g) hs _ c.requires.all t.two;
        has = t.has;
        has_too = t.has_too;
        holder = refl;
        holder_too = refl;
      },
    )
