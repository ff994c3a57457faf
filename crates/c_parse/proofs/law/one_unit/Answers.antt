use Rattle.std.proofs.Common.{refl}
use Rattle.c_parse.proofs.UniqueUnit.{same_unit}
use Rattle.c_parse.proofs.law.one_unit.Goals as goal

pub returns : goal.returns
returns c = λ tokens a b m n d e. same_unit d e refl
