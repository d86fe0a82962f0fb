use Rattle.std.proofs.Common.{◌≡◌}
use Rattle.integers.specs.Divisors.{gcd}
use Rattle.fractions.proofs.divisors.gcd.Given as goal

abbrev pub invariant-loop-next : goal.invariant-loop-next
invariant-loop-next l = gcd l.last l.next ≡ gcd l.a l.b

abbrev pub decreases-loop-next : goal.decreases-loop-next
decreases-loop-next l = l.next
