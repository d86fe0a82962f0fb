use Rattle.std.proofs.Common.{refl}
use Rattle.std.proofs.Math.Nat.{zero-lt-suc}
use Rattle.integers.proofs.GcdLaws.{gcd_one}
use Rattle.algebra.specs.Fraction.{zero_q}
use Rattle.algebra.proofs.FractionLaws.{Q_path}
use Rattle.fractions.proofs.Lowest.zero.Goals as goal

pub invariant_of-result : goal.invariant_of-result
invariant_of-result c = record { above = zero-lt-suc 0; lowest = gcd_one 0 }

pub returns : goal.returns
returns c = Q_path _ zero_q refl refl
