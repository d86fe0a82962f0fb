use Rattle.std.proofs.Common.{refl, rules}
use Rattle.algebra.proofs.Reduced.{minus_from}
use Rattle.fractions.specs.Fractions.{exact_q}
use Rattle.fractions.proofs.Fraction.negative.Goals as goal

pub returns : goal.returns
returns c = minus_from (exact_q c.args.self) _ (search rules) refl
