-- The texts of numbers. Assumes nothing.
--     padded k n          the last k decimal digits of n, zeros in front kept
--     under_text d        what stands behind a numerator over d: `/7`, or nothing where d is 1
--     fraction_text q     the exact fraction q: `-3/7`, or `5` where the denominator is 1
--     rest_text x         the remainder x, in four digits: `0042`
use Rattle.std.specs.Prelude.{ℕ, zero, suc, ◌+◌, ◌/◌, ◌%◌, cond, List, [], ◌∷◌, ◌++◌, codes, decimal, ◌==◌}
use Rattle.std.specs.Fmt.{signed_decimal}
use Rattle.algebra.specs.Fraction.{Q}
use Rattle.algebra.specs.Remainder.{Rem}
use Rattle.remainders.specs.Moduli.{modulus, rest_digits}

abbrev pub padded : ℕ → ℕ → List ℕ
padded zero n = []
padded (suc k) n = padded k (n / 10) ++ ((48 + n % 10) ∷ [])

abbrev pub under_text : ℕ → List ℕ
under_text d = cond (d == 1) [] (codes "/" ++ decimal d)

abbrev pub fraction_text : Q → List ℕ
fraction_text q = signed_decimal q.num ++ under_text q.den

abbrev pub rest_text : Rem modulus → List ℕ
rest_text x = padded rest_digits x.value
