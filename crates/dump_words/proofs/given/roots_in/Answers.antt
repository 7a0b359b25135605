use Rattle.std.proofs.Common.{All, [], ◌∷◌, ◌++◌, arith, ap, ap₂, subst, sym, ◌∙◌}
use Rattle.std.proofs.lemmas.List.Elements.{All-nil, All-push}
use Rattle.image_dump.specs.Dumped.{IsRoot}
use Rattle.dump_words.proofs.InTurn.{one_root, roots_done}
use Rattle.dump_words.proofs.given.roots_in.Goals as goal

pub loop-i-init : goal.loop-i-init
loop-i-init c =
    let none = c.in_ok-roots.ensures.items in
    let one = c.in_ok-push.ensures.items in
    let two = c.in_ok-push-2.ensures.items in
    let first =
    subst (All IsRoot) (sym one)
    (All-push IsRoot c.in_ok-roots.roots.items c.root.result
    (subst (All IsRoot) (sym none) (All-nil IsRoot)) c.root.ensures.root) in
    record {
      so_far =
          two ∙ ap (λ xs. xs ++ c.root-2.result ∷ []) (one ∙ ap (λ xs. xs ++ c.root.result ∷ []) none)
          ∙ ap₂ (λ a b. a ∷ b ∷ []) c.root.ensures.is c.root-2.ensures.is;
      roots =
          subst (All IsRoot) (sym two)
          (All-push IsRoot c.push.new.self.items c.root-2.result first c.root-2.ensures.root);
    }

pub loop-i-preserved : goal.loop-i-preserved
loop-i-preserved c =
    let more = c.in_ok-push-3.ensures.items in
    record {
      so_far =
          more ∙ ap₂ (λ xs x. xs ++ x ∷ []) c.loop-i.invariant.so_far c.root-in-loop-i.ensures.is
          ∙ one_root c.args.profiles.now c.args.host c.args.hyp c.args.guests.now c.loop-i.i _ c.loop-i-test.true;
      roots =
          subst (All IsRoot) (sym more)
          (All-push IsRoot c.loop-i.roots.items c.root-in-loop-i.result c.loop-i.invariant.roots
          c.root-in-loop-i.ensures.root);
    }

pub returns-clause-read : goal.returns-clause-read
returns-clause-read c =
    c.loop-i.invariant.so_far
    ∙ roots_done c.args.profiles.now c.args.host c.args.hyp c.args.guests.now c.loop-i.i
    (omega (arith, c.loop-i-test.false))

pub returns-clause-roots : goal.returns-clause-roots
returns-clause-roots c = c.loop-i.invariant.roots
