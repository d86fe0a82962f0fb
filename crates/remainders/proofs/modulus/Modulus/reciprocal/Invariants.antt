use Rattle.std.proofs.Common.{◌≡◌, ◌*◌, ◌%◌, ◌<◌, ◌≤◌}
use Rattle.integers.specs.Divisors.{gcd}
use Rattle.remainders.proofs.modulus.Modulus.reciprocal.Given as goal

abbrev pub invariant-loop-low : goal.invariant-loop-low
invariant-loop-low l = record {
  high_from : l.a * l.high_factor % l.self.by ≡ l.high % l.self.by;
  low_from : l.a * l.low_factor % l.self.by ≡ l.low % l.self.by;
  high_factor_below : l.high_factor < l.self.by;
  low_factor_below : l.low_factor < l.self.by;
  high_within : l.high ≤ l.self.by;
  low_below : l.low < l.self.by;
  coprime : gcd l.low l.high ≡ 1;
}

abbrev pub decreases-loop-low : goal.decreases-loop-low
decreases-loop-low l = l.low
