use Rattle.std.proofs.Common.{◌≡◌, ◌∙◌, ◌+◌, ◌++◌, ℕ, Bool, true, false, List, [], Bor, Option, None, ap, map, subst, sym, arith}
use Rattle.std.proofs.lemmas.List.{get_or-map, length-map}
use Rattle.trace_cover.proofs.Going.{ends_at_fault, ends_at_poke, ends_clean, one_further}
use Rattle.trace_cover.specs.Steps.{is_poke, line_read}
use Rattle.trace_cover.specs.View.{AddsAll, IsCountedAt}
use Rattle.trace_text.specs.ByPlace.{lines_in}
use Rattle.trace_faults.specs.Spots.{place_line}
use Rattle.trace_reader.specs.declared.outcome.Outcome.TheVariants.{Clean}
use Rattle.trace_text.specs.declared.fault.Fault.{Fault}
use Rattle.trace_text.specs.View.{standing_of}
use Rattle.trace_cover.proofs.steps.count_lines.Goals as goal

pub returns-then-is_poke : goal.returns-then-is_poke
returns-then-is_poke g c =
    let at = get_or-map (λ (l : Bor (List ℕ)). l.now) c.args.lines.now c.loop-place.place _ [] c.loop-place-test.true in
    subst
    (λ (t : List ℕ). AddsAll c.args.name.now
    (lines_in c.args.lines.now) c.args.seen.now.items c.args.text.now.items c.loop-place.seen.items t Clean)
    (sym c.loop-place.invariant.said)
    (ends_at_poke c.args.name.now
    (lines_in c.args.lines.now) c.args.seen.now.items c.args.text.now.items c.loop-place.place
    (standing_of c.loop-place.session) c.loop-place.seen.items
    (omega (arith, length-map c.args.lines.now (λ line. line.now), c.loop-place-test.true)) c.loop-place.invariant.ahead
    (subst (λ (x : List ℕ). is_poke (line_read (standing_of c.loop-place.session) x) ≡ true) (sym at)
    (sym c.if-is_poke.ensures)))

pub returns-in-Some : goal.returns-in-Some
returns-in-Some g c =
    let at = get_or-map (λ (l : Bor (List ℕ)). l.now) c.args.lines.now c.loop-place.place _ [] c.loop-place-test.true in
    let counted =
    subst
    (λ
    (f : Option Fault). IsCountedAt c.args.lines.now c.loop-place.place c.loop-place.session
    c.loop-place.seen.items c.count_line.new.session c.count_line.new.seen.items f) c.in-Some.is
    c.in_ok-stopped.ensures.done in
    ends_at_fault c.args.name.now
    (lines_in c.args.lines.now) c.args.seen.now.items c.args.text.now.items c.loop-place.place
    (standing_of c.loop-place.session) c.loop-place.seen.items
    (omega (arith, length-map c.args.lines.now (λ line. line.now), c.loop-place-test.true)) c.loop-place.invariant.ahead
    (standing_of c.count_line.new.session) c.count_line.new.seen.items c.add_place.new.text.items c.in-Some.fault
    (subst (λ (x : List ℕ). is_poke (line_read (standing_of c.loop-place.session) x) ≡ false) (sym at)
    (sym c.if-is_poke.ensures)) counted
    (c.in_ok-add_place.ensures
    ∙ ap
    (λ (t : List ℕ). t
    ++ place_line c.args.name.now
    (lines_in c.args.lines.now) c.loop-place.place c.in-Some.fault) c.loop-place.invariant.said)

pub loop-place-preserved : goal.loop-place-preserved
loop-place-preserved g c =
    let at = get_or-map (λ (l : Bor (List ℕ)). l.now) c.args.lines.now c.loop-place.place _ [] c.loop-place-test.true in
    let counted =
    subst
    (λ
    (f : Option Fault). IsCountedAt c.args.lines.now c.loop-place.place c.loop-place.session
    c.loop-place.seen.items c.count_line.new.session c.count_line.new.seen.items f) c.in_default.is
    c.in_ok-stopped.ensures.done in
    record {
      ahead =
          one_further c.args.name.now
          (lines_in c.args.lines.now) c.args.seen.now.items c.args.text.now.items c.loop-place.place
          (standing_of c.loop-place.session) c.loop-place.seen.items
          (omega (
            arith,
            length-map c.args.lines.now (λ line. line.now),
            c.loop-place-test.true,
          )) c.loop-place.invariant.ahead
          (standing_of c.count_line.new.session) c.count_line.new.seen.items
          (subst (λ (x : List ℕ). is_poke (line_read (standing_of c.loop-place.session) x) ≡ false) (sym at)
          (sym c.if-is_poke.ensures)) counted;
      said = c.loop-place.invariant.said;
      few = c.count_line.ensures.steps;
      ready = c.count_line.ensures.ready;
    }

pub returns : goal.returns
returns g c =
    subst
    (λ (t : List ℕ). AddsAll c.args.name.now
    (lines_in c.args.lines.now) c.args.seen.now.items c.args.text.now.items c.loop-place.seen.items t Clean)
    (sym c.loop-place.invariant.said)
    (ends_clean c.args.name.now
    (lines_in c.args.lines.now) c.args.seen.now.items c.args.text.now.items c.loop-place.place
    (standing_of c.loop-place.session) c.loop-place.seen.items
    (omega
    (arith, length-map c.args.lines.now (λ line. line.now), c.loop-place-test.false)) c.loop-place.invariant.ahead)
