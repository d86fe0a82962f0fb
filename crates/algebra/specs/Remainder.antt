-- The remainders by a number p above 1, which are a field where p is prime. Assumes nothing.
--     Rem p              a number below p
--     rem p h n          the remainder of n by p
--     plus_r, times_r    sum and product, as remainders
--     minus_r, over_r    negative and reciprocal; that of zero is zero
--     zero_r, one_r      0 and 1
--     whole_r p h z      the remainder of the integer z, from 0 to p − 1 also where z is negative
--     heavier_r p h a b  a is not zero, and b is
use Rattle.std.specs.Prelude.{ℕ, suc, ◌+◌, ◌-◌, ◌*◌, ◌%◌, ◌<◌, Bool, true, false, not, ◌&&◌, ℤ, pos, negsuc, ◌==◌}
use Prim.Native.Nat as Nat
use Rattle.std.proofs.Common.{mod-lt}
use Rattle.std.proofs.Math.Nat.{zero-lt-suc, lt_trans}

pub record Rem (p : ℕ) : Type 0 where
  pub value : ℕ
  pub below : value < p

-- the first of the k numbers from b on that times a has the remainder 1, and 0 where none has
abbrev pub first_from : (p a k b : ℕ) → ℕ
first_from p a Nat.zero b = 0
first_from p a (suc k) b = elim (a * b % p == 1) [ true ↦ b | false ↦ first_from p a k (suc b) ]

module _ (p : ℕ) (h : 1 < p) where
  pub above_zero : 0 < p
  above_zero = lt_trans (zero-lt-suc 0) h

  abbrev pub rem : ℕ → Rem p
  rem n = record { value = n % p; below = mod-lt n above_zero }

  abbrev pub zero_r : Rem p
  zero_r = record { value = 0; below = above_zero }

  abbrev pub one_r : Rem p
  one_r = record { value = 1; below = h }

  abbrev pub plus_r : Rem p → Rem p → Rem p
  plus_r a b = rem (a.value + b.value)

  abbrev pub times_r : Rem p → Rem p → Rem p
  times_r a b = rem (a.value * b.value)

  abbrev pub minus_r : Rem p → Rem p
  minus_r a = rem (p - a.value)

  -- the first number from 0 to p − 1 that times a is 1
  unfoldable pub over_r : Rem p → Rem p
  over_r a = rem (first_from p a.value p 0)

  abbrev pub whole_r : ℤ → Rem p
  whole_r (pos n) = rem n
  whole_r (negsuc n) = minus_r (rem (suc n))

  abbrev pub heavier_r : Rem p → Rem p → Bool
  heavier_r a b = not (a.value == 0) && b.value == 0
