use Rattle.std.proofs.Common.{arith, ◌≡◌, ap, ◌∙◌, sym, length, map, take, ◌-◌}
use Rattle.std.proofs.lemmas.Bool.Decides.{nat_tests}
use Rattle.trace_reader.specs.Reading.{lines_of, without_empty_last}
use Rattle.trace_reader.proofs.Cut.{cut_none, keeps_some, drops_last}
use Rattle.trace_reader.proofs.whole.lines.Goals as goal

pub returns-then-count-eq0 : goal.returns-then-count-eq0
unfolding lines_of
returns-then-count-eq0 c =
    let held : length c.in_ok-lines.lines.items ≡ 0 = grind arith in
    cut_none (λ line. line.now) c.in_ok-lines.lines.items held ∙ ap without_empty_last c.in_ok-lines.ensures

pub returns-then-not-is_empty : goal.returns-then-not-is_empty
unfolding lines_of
returns-then-not-is_empty c =
    let held : c.len-count.result ≡ length c.in_ok-lines.lines.items = grind arith in
    let e = c.is_empty.ensures in
    let f = c.if-not-is_empty.true in
    let here = ap (λ p. length p.now) c.index.ensures in
    keeps_some
    (λ line. line.now) c.in_ok-lines.lines.items c.len-count.result c.index.result.now held c.if-count-eq0.false
    (λ k. grind (arith, nat_tests, e, f, k, here))
    ∙ ap without_empty_last c.in_ok-lines.ensures

pub returns : goal.returns
unfolding lines_of
returns c =
    let held : c.len-count.result ≡ length c.in_ok-lines.lines.items = grind arith in
    let e = c.is_empty.ensures in
    let f = c.if-not-is_empty.false in
    let here = ap (λ p. length p.now) c.index.ensures in
    ap (map (λ line. line.now))
    (c.pop-end.ensures.rest ∙ ap (λ n. take (n - 1) c.in_ok-lines.lines.items) (sym c.len-count.ensures))
    ∙ drops_last
    (λ line. line.now) c.in_ok-lines.lines.items c.len-count.result c.index.result.now held c.if-count-eq0.false
    (grind (arith, nat_tests, e, f, here))
    ∙ ap without_empty_last c.in_ok-lines.ensures
