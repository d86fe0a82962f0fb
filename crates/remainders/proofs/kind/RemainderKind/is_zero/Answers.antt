use Rattle.remainders.specs.Remainders.{exact_r, rest_field}
use Rattle.remainders.proofs.ByModulus.{told_apart}
use Rattle.remainders.proofs.kind.RemainderKind.is_zero.Goals as goal

pub returns : goal.returns
returns c = told_apart (exact_r c.args.self) rest_field.zero
