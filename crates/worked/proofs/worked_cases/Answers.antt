use Rattle.std.proofs.Common.{refl}
use Rattle.std.specs.Fmt.{digits}
use Rattle.integers.specs.Divisors.{gcd}
use Rattle.algebra.specs.Fraction.{normal, plus_q, times_q, minus_q, over_by, over_q}
use Rattle.algebra.specs.Remainder.{over_r}
use Rattle.worked.proofs.worked_cases.Goals as goal

pub returns : goal.returns
unfolding digits gcd normal plus_q times_q minus_q over_by over_q over_r
returns c = record { hold = refl; count = refl }
