-- The longest text of each kind, and one that is as long. Assumes nothing.
use Rattle.std.specs.Prelude.{◌≡◌, ◌≤◌, length, negsuc, refl}
use Rattle.std.specs.Fmt.{digits}
use Rattle.std.proofs.Common.{arith}
use Rattle.integers.specs.Divisors.{gcd}
use Rattle.fractions.specs.declared.Fraction.{Fraction}
use Rattle.fractions.specs.Fractions.{exact_q}
use Rattle.fractions.specs.Terms.{longest_fraction}
use Rattle.remainders.specs.declared.Remainder.{Remainder}
use Rattle.remainders.specs.Moduli.{rest_digits}
use Rattle.remainders.specs.Remainders.{exact_r}
use Rattle.texts.specs.Texts.{fraction_text, rest_text}
use Rattle.texts.proofs.Telling.{length-fraction_text}

pub fraction_no_longer : (v : Fraction) → length (fraction_text (exact_q v)) ≤ longest_fraction
fraction_no_longer v = length-fraction_text (exact_q v) v.low v.fine

pub fraction_as_long : (v : Fraction) × (length (fraction_text (exact_q v)) ≡ longest_fraction)
unfolding digits gcd
fraction_as_long = (record { numerator = negsuc 2147483646; denominator = 2147483646; above = omega arith; lowest = refl; low = omega arith; fine = omega arith }, refl)

pub rest_no_longer : (v : Remainder) → length (rest_text (exact_r v)) ≤ rest_digits
rest_no_longer v = omega arith

pub rest_as_long : (v : Remainder) × (length (rest_text (exact_r v)) ≡ rest_digits)
rest_as_long = (record { value = 0; below = omega arith }, refl)
