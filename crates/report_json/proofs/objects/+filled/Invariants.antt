use Rattle.std.proofs.Common.{length}
use Rattle.report_json.proofs.objects.+filled.Given as goal

abbrev pub decreases-filled : goal.decreases-filled
decreases-filled l = length l.fields.now
