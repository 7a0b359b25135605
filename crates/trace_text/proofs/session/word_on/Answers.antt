use Rattle.std.proofs.Common.{rules, ◌≡◌, Some, None, subst, sym}
use Rattle.trace_text.specs.View.{body_at, machine_of}
use Rattle.trace_text.specs.Worlds.{IsWordOn, named_tree}
use Rattle.trace_text.proofs.Machines.{guest_word, host_word, hyp_word, is_word_on, no_guest_word}
use Rattle.trace_text.proofs.session.word_on.Goals as goal

pub returns-in-Host : goal.returns-in-Host
returns-in-Host g c =
    let w = c.args.world.now in
    let s = w.parts.shared in
    let tree : c.tree.result.now ≡ s.host.tree = search rules in
    let word = rw tree at c.word_on.ensures in
    subst
    (λ name. IsWordOn (machine_of w).layout.depth
    (named_tree (machine_of w) name) c.args.page c.args.level c.word_on.result)
    (sym c.in-Host.is)
    (host_word w c.args.page c.args.level c.word_on.result
    (is_word_on s.host.tree c.args.page c.args.level c.word_on.result word.value word.said word.run))

pub returns-in-Hyp : goal.returns-in-Hyp
returns-in-Hyp g c =
    let w = c.args.world.now in
    let s = w.parts.shared in
    let tree : c.tree-in-Hyp.result.now ≡ s.hyp.tree = search rules in
    let word = rw tree at c.word_on-in-Hyp.ensures in
    subst
    (λ name. IsWordOn (machine_of w).layout.depth
    (named_tree (machine_of w) name) c.args.page c.args.level c.word_on-in-Hyp.result)
    (sym c.in-Hyp.is)
    (hyp_word w c.args.page c.args.level c.word_on-in-Hyp.result
    (is_word_on s.hyp.tree c.args.page c.args.level c.word_on-in-Hyp.result word.value word.said word.run))

pub returns-in_ok-body-in-Guest : goal.returns-in_ok-body-in-Guest
returns-in_ok-body-in-Guest g c =
    let w = c.args.world.now in
    let b = c.in_ok-body-in-Guest.body.now in
    let is : body_at w c.in-Guest.slot ≡ Some b = c.in_ok-body-in-Guest.ensures in
    let tree : c.tree-in-Guest.result.now ≡ b.map.tree = search rules in
    let word = rw tree at c.word_on-in-Guest.ensures in
    subst
    (λ name. IsWordOn (machine_of w).layout.depth
    (named_tree (machine_of w) name) c.args.page c.args.level c.word_on-in-Guest.result)
    (sym c.in-Guest.is)
    (guest_word w c.in-Guest.slot c.args.page c.args.level b is c.word_on-in-Guest.result
    (is_word_on b.map.tree c.args.page c.args.level c.word_on-in-Guest.result word.value word.said word.run))

pub returns-in_err-body-in-Guest : goal.returns-in_err-body-in-Guest
returns-in_err-body-in-Guest g c =
    let w = c.args.world.now in
    let none : body_at w c.in-Guest.slot ≡ None = c.in_err-body-in-Guest.ensures in
    rw c.from_residual.ensures (
    subst (λ name. IsWordOn (machine_of w).layout.depth (named_tree (machine_of w) name) c.args.page c.args.level None)
    (sym c.in-Guest.is)
    (no_guest_word w c.in-Guest.slot c.args.page c.args.level none)
    )
