use Rattle.std.proofs.Common.{rules}
use Rattle.page_state.proofs.text.UsageDisplay.fmt.Goals as goal

pub returns-in-Plain : goal.returns-in-Plain
returns-in-Plain c = search rules

pub returns-in-VmPool : goal.returns-in-VmPool
returns-in-VmPool c = search rules

pub returns-in-InHand : goal.returns-in-InHand
returns-in-InHand c = search rules

pub returns-in-SharedPool : goal.returns-in-SharedPool
returns-in-SharedPool c = search rules
