use Rattle.std.proofs.Common.{◌≡◌, ◌≤◌, ℕ, [], sym, ap, refl, subst, ◌∙◌}
use Rattle.std.specs.Global.{Global}
use Rattle.std.specs.Prelude.{Vec}
use Rattle.atomic_table.specs.Seated.{TableId}
use Rattle.page_state.specs.declared.layout.Layout.{Layout as TheLayout}
use Rattle.part_types.specs.declared.parts.CpuState.{CpuState}
use Rattle.part_table.specs.declared.rule.Opening.{Opening}
use Rattle.part_table.specs.Beginnings.{AreLeftFirst, begun_in, logs_in}
use Rattle.part_table.specs.Endings.{IsEndIn}
use Rattle.part_table.specs.Passes.{AreFirst, opened_as}
use Rattle.part_table.specs.Rule.{Seated, rooted}
use Rattle.part_table.proofs.Root.{left_first}
use Rattle.part_table.proofs.table_of_parts.PartTable.open.Goals as goal

same_le : (a b n : ℕ) → a ≡ b → a ≤ n → b ≤ n
same_le a b n e h = subst (λ (m : ℕ). m ≤ n) e h

pub new_table-requires-clause-end : goal.new_table-requires-clause-end
new_table-requires-clause-end g c =
    subst (λ (v : Vec CpuState Global). IsEndIn c.args.layout c.args.slots.items v.items)
    (sym c.of-2.ensures) c.requires.end

pub new_table-requires-clause-slots : goal.new_table-requires-clause-slots
new_table-requires-clause-slots g c = c.of.ensures

pub new_passes-passes-requires-clause-left : goal.new_passes-passes-requires-clause-left
new_passes-passes-requires-clause-left g c =
    let k : Opening g.row.A.Denot = record { layout = c.args.layout; slots = c.of.result; owns = c.of-2.result } in
    let end =
    subst (λ (v : Vec CpuState Global). IsEndIn c.args.layout c.args.slots.items v.items)
    (sym c.of-2.ensures) c.requires.end in
    subst (λ (o : Opening g.row.A.Denot). AreLeftFirst g.row.A.Denot o.layout (begun_in o))
    (sym c.in-Ok-new_table.ensures.table.2)
    (left_first g.row.A.Denot k c.args.slots.items (ap (λ v. v.items) c.of.ensures) end)

pub new_passes-passes-requires-clause-owns : goal.new_passes-passes-requires-clause-owns
new_passes-passes-requires-clause-owns g c =
    sym c.of-2.ensures ∙ ap (λ (o : Opening g.row.A.Denot). o.owns.value) (sym c.in-Ok-new_table.ensures.table.2)

pub new_passes-passes-requires-clause-count : goal.new_passes-passes-requires-clause-count
new_passes-passes-requires-clause-count g c =
    c.args.owns.ok.0 ∙ c.requires.end.end.count
    ∙ ap (λ (o : Opening g.row.A.Denot). o.layout.config.cpus) (sym c.in-Ok-new_table.ensures.table.2)

pub new_passes-passes-requires-clause-table : goal.new_passes-passes-requires-clause-table
new_passes-passes-requires-clause-table g c = let t = c.in-Ok-new_table.ensures in (t.root.0, t.table.0)

pub new_passes-passes-requires-clause-root : goal.new_passes-passes-requires-clause-root
new_passes-passes-requires-clause-root g c = let t = c.in-Ok-new_table.ensures in
    (t.root.1, t.root.2 ∙ ap (λ (o : Opening g.row.A.Denot). (rooted o, [])) (sym t.table.2))

pub new_passes-passes-requires-clause-room : goal.new_passes-passes-requires-clause-room
new_passes-passes-requires-clause-room g c = let p = c.in-Ok.ensures in
    (p.items, same_le _ _ _ c.len-count.ensures p.capacity)

pub returns-clause-layout : goal.returns-clause-layout
returns-clause-layout g c = refl

pub returns-clause-begun : goal.returns-clause-begun
returns-clause-begun g c =
    ap begun_in c.in-Ok-new_table.ensures.table.2
    ∙ (λ i. record { logs = logs_in (c.of.ensures i).items; owns = (c.of-2.ensures i).items })

pub returns-clause-passes : goal.returns-clause-passes
returns-clause-passes g c =
    let t = c.in-Ok-new_table.ensures in
    let layout = ap (λ (o : Opening g.row.A.Denot). o.layout) t.table.2 in
    let count = c.args.owns.ok.0 ∙ c.requires.end.end.count in
    subst
    (λ (z : (TableId × TheLayout) × ℕ). AreFirst
    (opened_as z.0.0 z.0.1 (begun_in c.in-Ok-new_table.table.shared.key)) z.1 c.new_passes-passes.result.items)
    (λ i. ((t.root.0 i, layout i), count i)) c.new_passes-passes.ensures.passes

pub invariant_of-table : goal.invariant_of-table
invariant_of-table g c =
    let t = c.in-Ok-new_table.ensures in
    let r = c.new_passes-passes.ensures.root in record {
      words = t.table.0;
      slots = t.table.1;
      key_is = ap (λ (o : Opening g.row.A.Denot). o.layout) t.table.2;
      same = r.0 ∙ t.root.0;
      first = r.1;
      empty = ap (λ (m : Seated g.row.A.Denot). m.1) r.2;
      rooted = ap (λ (m : Seated g.row.A.Denot). m.0.root) r.2;
      begun = ap (λ (m : Seated g.row.A.Denot). m.0.begun) r.2;
      made =
          ap (λ (m : Seated g.row.A.Denot). m.0.made) r.2
          ∙ ap (λ (o : Opening g.row.A.Denot). o.layout.config.cpus) t.table.2;
      none = ap (λ (m : Seated g.row.A.Denot). m.0.ended) r.2;
    }

pub returns-in_default-clause-layout : goal.returns-in_default-clause-layout
returns-in_default-clause-layout g c = tt

pub returns-in_default-clause-begun : goal.returns-in_default-clause-begun
returns-in_default-clause-begun g c = tt

pub returns-in_default-clause-passes : goal.returns-in_default-clause-passes
returns-in_default-clause-passes g c = tt

pub returns-in_default-new_table-clause-layout : goal.returns-in_default-new_table-clause-layout
returns-in_default-new_table-clause-layout g c = tt

pub returns-in_default-new_table-clause-begun : goal.returns-in_default-new_table-clause-begun
returns-in_default-new_table-clause-begun g c = tt

pub returns-in_default-new_table-clause-passes : goal.returns-in_default-new_table-clause-passes
returns-in_default-new_table-clause-passes g c = tt
