use Rattle.std.proofs.Common.{rules, ◌≡◌, ◌≤◌, length, take, get_or, false}
use Rattle.std.specs.List.{list_any}
use Rattle.c_states.proofs.NoClash.{no_clash_all, no_clash_more}
use Rattle.c_states.proofs.clash.first_clash.Goals as goal

pub loop-i-preserved : goal.loop-i-preserved
loop-i-preserved g c =
    let one : list_any (g.T.Clash.clash (get_or c.args.members.now c.loop-i.i c.index-members-i.result)) (take c.loop-i.i c.args.members.now) ≡ false =
    search rules in
    no_clash_more g.T.Clash.clash c.args.members.now c.loop-i.i c.index-members-i.result c.loop-i.invariant one

pub returns : goal.returns
returns g c =
    let end : length c.args.members.now ≤ c.loop-i.i = search rules in
    no_clash_all g.T.Clash.clash c.args.members.now c.loop-i.i end c.loop-i.invariant
