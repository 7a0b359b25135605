use Rattle.std.proofs.Common.{◌≡◌, ◌+◌, ◌*◌, ◌≤◌, sym, ap, ◌∙◌, arith, false}
use Rattle.std.proofs.Math.Nat.{mul-le-mul_right}
use Rattle.page_state.specs.Blocks.{is_empty}
use Rattle.page_state.specs.Geometries.{levels_below, input_pages, block_pages}
use Rattle.page_state.proofs.Cases.{by_eq}
use Rattle.page_state.proofs.Geometries.{root_pages}
use Rattle.table_tree.specs.View.{meaning}
use Rattle.guest_component.proofs.Pages.{all_empty, block_mapped, slot_page}
use Rattle.guest_component.proofs.body.Body.is_unmapped.Goals as goal

pub loop-slot-preserved : goal.loop-slot-preserved
loop-slot-preserved g c = λ j h.
    let t = c.args.self.now.map.tree in
    let n = c.depth-depth.result in
    by_eq j c.loop-slot.slot
    (λ e. ap (λ k. is_empty (meaning t) (n, k))
    (e ∙ sym (slot_page n c.loop-slot.slot c.depth-depth.ensures.small c.loop-slot-test.true))
    ∙ sym c.is_empty.ensures ∙ c.if-not-is_empty.false)
    (λ e. c.loop-slot.invariant j (omega arith))

pub is_empty-requires : goal.is_empty-requires
is_empty-requires g c =
    let deep : c.depth-depth.result ≡ levels_below c.args.self.now.map.tree.geometry =
    c.depth-depth.ensures.value ∙ ap levels_below (c.geometry.ensures ∙ ap (λ u. u.geometry) c.tree.ensures) in
    omega (arith, deep)

pub returns-then-not-is_empty : goal.returns-then-not-is_empty
returns-then-not-is_empty g c =
    let t = c.args.self.now.map.tree in
    let n = c.depth-depth.result in
    let j = c.loop-slot.slot in
    let deep : n ≡ levels_below t.geometry =
    c.depth-depth.ensures.value ∙ ap levels_below (c.geometry.ensures ∙ ap (λ u. u.geometry) c.tree.ensures) in
    let whole : input_pages t.geometry ≡ 512 * block_pages n =
    root_pages t.geometry ∙ ap (λ m. 512 * block_pages m) (sym deep) in
    let most : (j + 1) * block_pages n ≤ 512 * block_pages n =
    let l : j + 1 ≤ 512 = omega (arith, c.loop-slot-test.true) in
    mul-le-mul_right (block_pages n) l in
    let some : is_empty (meaning t) (n, j) ≡ false =
    ap (λ k. is_empty (meaning t) (n, k)) (sym (slot_page n j c.depth-depth.ensures.small c.loop-slot-test.true))
    ∙ sym c.is_empty.ensures ∙ c.if-not-is_empty.true in
    block_mapped (meaning t) (input_pages t.geometry) n j some (omega (arith, most, whole))

pub returns : goal.returns
returns g c =
    let t = c.args.self.now.map.tree in
    let n = c.depth-depth.result in
    let deep : n ≡ levels_below t.geometry =
    c.depth-depth.ensures.value ∙ ap levels_below (c.geometry.ensures ∙ ap (λ u. u.geometry) c.tree.ensures) in
    let whole : input_pages t.geometry ≡ 512 * block_pages n =
    root_pages t.geometry ∙ ap (λ m. 512 * block_pages m) (sym deep) in
    all_empty (meaning t) (input_pages t.geometry) n 512 whole
    (λ j less. c.loop-slot.invariant j (omega (arith, less, c.loop-slot-test.false)))
