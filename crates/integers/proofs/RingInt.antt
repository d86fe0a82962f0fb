-- The integers are a commutative ring, so that the solver works in them too. Assumes nothing.
use Rattle.std.proofs.Common.{◌≡◌, ℤ, pos, ◌+ℤ◌, ◌*ℤ◌, neg_ℤ, arith}
use Rattle.std.proofs.lemmas.Int.{ints}
use lib.IntN.{+ℤ_assoc, +ℤ_comm, +ℤ_idr, +ℤ_invr, *ℤ_comm}
use Rattle.integers.proofs.Equations.{parts, differences, naturals}
use Rattle.integers.proofs.Ring.{CommRing}

pub product_assoc : (a b c : ℤ) → a *ℤ b *ℤ c ≡ a *ℤ (b *ℤ c)
product_assoc a b c = rw (parts a, parts b, parts c) (simp differences (omega naturals))

pub product_one : (a : ℤ) → a *ℤ pos 1 ≡ a
product_one a = omega (arith, ints)

pub product_sum : (a b c : ℤ) → a *ℤ (b +ℤ c) ≡ a *ℤ b +ℤ a *ℤ c
product_sum a b c = rw (parts a, parts b, parts c) (simp differences (omega naturals))

abbrev pub ringℤ : CommRing
ringℤ = record {
  Value = ℤ;
  zero = pos 0;
  one = pos 1;
  plus = ◌+ℤ◌;
  times = ◌*ℤ◌;
  minus = neg_ℤ;
  plus_assoc = +ℤ_assoc;
  plus_comm = +ℤ_comm;
  plus_zero = +ℤ_idr;
  plus_minus = +ℤ_invr;
  times_assoc = product_assoc;
  times_comm = *ℤ_comm;
  times_one = product_one;
  times_plus = product_sum;
}
