-- Stored fractions are told apart by their parts, as what they stand for is. Assumes nothing.
--     same_num, same_den   equal exact fractions have equal parts
--     fraction_same        stored fractions with equal parts are the same
use Rattle.std.specs.Prelude.{◌≡◌, ◌<◌, ◌≤◌, unsigned_abs}
use Rattle.std.proofs.Common.{ap}
use mathlib.Core.HLevel.{is_prop→PathP}
use Rattle.std.proofs.Math.Nat.{ℕ_set}
use Rattle.std.proofs.Math.Bridge.{le_prop}
use Rattle.integers.specs.Divisors.{gcd}
use Rattle.algebra.specs.Fraction.{Q}
use Rattle.fractions.specs.Terms.{part_limit}
use Rattle.fractions.specs.declared.Fraction.{Fraction}

pub same_num : (a b : Q) → a ≡ b → a.num ≡ b.num
same_num a b e = ap (λ (q : Q). q.num) e

pub same_den : (a b : Q) → a ≡ b → a.den ≡ b.den
same_den a b e = ap (λ (q : Q). q.den) e

pub fraction_same : (a b : Fraction) → a.numerator ≡ b.numerator → a.denominator ≡ b.denominator → a ≡ b
fraction_same a b e f = λ i. record {
  numerator = e i;
  denominator = f i;
  above = is_prop→PathP (λ j. 0 < f j) (λ j. le_prop) a.above b.above i;
  lowest = is_prop→PathP (λ j. gcd (unsigned_abs (e j)) (f j) ≡ 1) (λ j. ℕ_set (gcd (unsigned_abs (e j)) (f j)) 1) a.lowest b.lowest i;
  low = is_prop→PathP (λ j. unsigned_abs (e j) ≤ part_limit) (λ j. le_prop) a.low b.low i;
  fine = is_prop→PathP (λ j. f j ≤ part_limit) (λ j. le_prop) a.fine b.fine i;
}
