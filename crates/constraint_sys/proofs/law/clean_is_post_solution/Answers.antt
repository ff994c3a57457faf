use Rattle.constraint_sys.proofs.Replaying.{IsPostSolution-clean}
use Rattle.constraint_sys.proofs.law.clean_is_post_solution.Goals as goal

pub returns : goal.returns
returns c = IsPostSolution-clean
