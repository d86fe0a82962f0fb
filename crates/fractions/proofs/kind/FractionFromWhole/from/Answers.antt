use Rattle.std.proofs.Common.{nat_abs, refl, w32, to_z, of_z, rules}
use Rattle.integers.proofs.GcdLaws.{gcd_one}
use Rattle.algebra.proofs.FractionLaws.{Q_path}
use Rattle.algebra.specs.Fraction.{whole_q}
use Rattle.fractions.proofs.kind.FractionFromWhole.from.Goals as goal

pub invariant_of-result : goal.invariant_of-result
invariant_of-result c = record { above = search rules; lowest = gcd_one (nat_abs (to_z w32 (of_z w32 c.args.whole.number))); low = search rules; fine = search rules }

pub returns : goal.returns
returns c = Q_path _ (whole_q c.args.whole.number) (search rules) refl
