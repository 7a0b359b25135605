use Rattle.std.proofs.Common.{refl}
use Rattle.table_audit.proofs.audit.by_maps_first.Goals as goal

pub returns-in-None : goal.returns-in-None
returns-in-None c = (
  c.requires.not,
  c.unsound.ensures.none.0 c.in-None.is,
  record {
    lists = c.args.state.now;
    kept = c.requires.kept;
    blocks = c.requires.blocks;
    layout = refl;
    contents = refl;
    told = c.requires.told;
  },
)
