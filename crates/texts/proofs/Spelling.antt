-- Digits: how many there are, and that they tell the number. Assumes nothing.
use Rattle.std.specs.Prelude.{◌≡◌, ℕ, zero, suc, ◌+◌, ◌-◌, ◌/◌, ◌%◌, ◌^◌, ◌<◌, ◌≤◌, [], ◌∷◌, ◌++◌, length, drop, replicate, decimal, refl}
use Rattle.std.proofs.Common.{◌∙◌, append_assoc, add-one, pow-suc, arith}
use Rattle.std.proofs.lemmas.Fmt.{decimal_by_steps}
use Rattle.std.proofs.lemmas.List.{length_push, same_from_push, drop-replicate, replicate_more}
use Rattle.algebra.specs.Remainder.{Rem}
use Rattle.algebra.proofs.RemainderLaws.{Rem_path}
use Rattle.remainders.specs.Moduli.{modulus, rest_digits}
use Rattle.texts.specs.Texts.{padded, rest_text}

pub length-padded : (k n : ℕ) → length (padded k n) ≡ k
length-padded zero n = refl
length-padded (suc k) n = length_push (padded k (n / 10)) (48 + n % 10) ∙ omega (arith, length-padded k (n / 10))

padded_zero : (k : ℕ) → padded k 0 ≡ replicate k 48
padded_zero zero = refl
padded_zero (suc k) = grind (arith, replicate_more, padded_zero k)

-- digits beyond those of the decimal number are zeros in front of it
zeros_in_front : (n : ℕ) → n < 2 ^ 64 → (more : ℕ) → padded (more + length (decimal n)) n ≡ replicate more 48 ++ decimal n
zeros_in_front = decimal_by_steps (λ n ds. (more : ℕ) → padded (more + length ds) n ≡ replicate more 48 ++ ds)
    (λ n lt more.
    let none : n / 10 ≡ 0 = omega arith in
    let only : n % 10 ≡ n = omega arith in
    rw add-one (grind (arith, padded_zero more)))
    (λ n ds le front more.
    let count : more + length (ds ++ ((48 + n % 10) ∷ [])) ≡ suc (more + length ds) = omega (arith, length_push ds (48 + n % 10)) in
    rw count (grind (arith, append_assoc, front more)))

pub padded_decimal : (k n : ℕ) → n < 2 ^ 64 → length (decimal n) ≤ k → padded k n ≡ drop (length (decimal n)) (replicate k 48) ++ decimal n
padded_decimal k n lt fits =
    let count : (k - length (decimal n)) + length (decimal n) ≡ k = omega arith in
    grind (arith, drop-replicate, zeros_in_front n lt (k - length (decimal n)))

pub same_from_padded : (k m n : ℕ) → m < 10 ^ k → n < 10 ^ k → padded k m ≡ padded k n → m ≡ n
same_from_padded zero m n below-m below-n e = omega arith
same_from_padded (suc k) m n below-m below-n e =
    let parts = same_from_push (padded k (m / 10)) (padded k (n / 10)) (48 + m % 10) (48 + n % 10) e in
    let fronts : m / 10 ≡ n / 10 = same_from_padded k (m / 10) (n / 10) (omega (arith, pow-suc 10 k)) (omega (arith, pow-suc 10 k)) parts.0 in
    omega (arith, parts.1)

-- two remainders of one text are the same
pub same_rest : (x y : Rem modulus) → rest_text x ≡ rest_text y → x ≡ y
same_rest x y e = Rem_path x y (same_from_padded rest_digits x.value y.value (omega (arith, x.below)) (omega (arith, y.below)) e)
