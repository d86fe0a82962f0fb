use Rattle.std.proofs.Common.{mod-eq_of_lt, arith}
use Rattle.integers.proofs.GcdLaws.{gcd_comm, gcd-mod, gcd_zero}
use Rattle.remainders.proofs.ByModulus.{rest_of}
use Rattle.remainders.proofs.modulus.Modulus.reciprocal.Goals as goal

pub loop-low-preserved : goal.loop-low-preserved
loop-low-preserved c = grind (arith, rest_of, gcd-mod, gcd_comm)

pub returns-clause-inverse : goal.returns-clause-inverse
returns-clause-inverse c = grind (arith, gcd_zero, gcd_comm, mod-eq_of_lt)
