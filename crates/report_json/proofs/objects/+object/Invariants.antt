use Rattle.std.proofs.Common.{length}
use Rattle.report_json.proofs.objects.+object.Given as goal

abbrev pub decreases-object : goal.decreases-object
decreases-object l = length l.forms.now
