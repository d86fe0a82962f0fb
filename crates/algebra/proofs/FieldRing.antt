-- A field is a commutative ring, so that the solver works in it. Assumes nothing.
use Rattle.integers.proofs.Ring.{CommRing}
use Rattle.algebra.specs.Field.{Field}

abbrev pub ring_of : {Value : Type 0} → Field Value → CommRing
ring_of {Value} F = record {
  Value = Value;
  zero = F.zero;
  one = F.one;
  plus = F.plus;
  times = F.times;
  minus = F.minus;
  plus_assoc = F.plus_assoc;
  plus_comm = F.plus_comm;
  plus_zero = F.plus_zero;
  plus_minus = F.plus_minus;
  times_assoc = F.times_assoc;
  times_comm = F.times_comm;
  times_one = F.times_one;
  times_plus = F.times_plus;
}
