-- The text of a fraction: how long it is, and that it tells the fraction. Assumes nothing.
--     IsOther b   the byte b is no slash
--     parts q     the text of q, parted at its slash
use Rattle.std.specs.Prelude.{◌≡◌, ℕ, suc, ◌+◌, ◌%◌, ◌^◌, ◌<◌, ◌≤◌, Bool, true, false, cond, List, [], ◌∷◌, ◌++◌, length, ℤ, pos, negsuc, codes, decimal, ◌==◌, int_lt, unsigned_abs, refl}
use Rattle.std.proofs.Common.{ap, ◌∙◌, arith, length-append, append-nil}
use Rattle.std.specs.Int.Signed.{mag}
use Rattle.std.specs.List.{All, slice_split}
use Rattle.std.proofs.lemmas.Fmt.{decimal_by_steps, length-decimal-le, length_signed_le, decimal_injective, signed_decimal_injective}
use Rattle.std.proofs.lemmas.Bool.{ne_eqb, ltb-true}
use Rattle.std.proofs.lemmas.Bool.Decides.{nat_tests}
use Rattle.std.proofs.lemmas.List.Elements.{All-nil, All-cons, All-push}
use Rattle.std.proofs.lemmas.List.Splits.{slice_split_none, slice_split_at}
use Rattle.std.specs.Fmt.{signed_decimal}
use Rattle.algebra.specs.Fraction.{Q}
use Rattle.algebra.proofs.FractionLaws.{Q_path}
use Rattle.fractions.specs.Terms.{part_limit}
use Rattle.texts.specs.Texts.{under_text, fraction_text}

abbrev is_slash : ℕ → Bool
is_slash b = b == 47

abbrev IsOther : ℕ → Type 0
IsOther b = is_slash b ≡ false

digit : (d : ℕ) → IsOther (48 + d)
digit d = ne_eqb (48 + d) 47 (λ e. omega arith)

no_slash_decimal : (n : ℕ) → n < 2 ^ 64 → All IsOther (decimal n)
no_slash_decimal = decimal_by_steps (λ n ds. All IsOther ds)
    (λ n lt. All-cons IsOther (48 + n) [] (digit n) (All-nil IsOther))
    (λ n ds le others. All-push IsOther ds (48 + n % 10) others (digit (n % 10)))

no_slash_signed : (z : ℤ) → unsigned_abs z ≤ part_limit → All IsOther (signed_decimal z)
no_slash_signed (pos n) low = no_slash_decimal n (omega arith)
no_slash_signed (negsuc n) low = All-cons IsOther 45 (decimal (suc n)) refl (no_slash_decimal (suc n) (omega arith))

pub signed_below : (z : ℤ) → int_lt z (pos 0) ≡ true → signed_decimal z ≡ 45 ∷ decimal (unsigned_abs z)
signed_below (pos n) e = absurd (omega (arith, ltb-true n 0 e))
signed_below (negsuc n) e = refl

small : (z : ℤ) → unsigned_abs z ≤ part_limit → mag z ≤ part_limit
small (pos n) low = low
small (negsuc n) low = omega arith

abbrev parts : Q → List (List ℕ)
parts q = signed_decimal q.num ∷ cond (q.den == 1) [] (decimal q.den ∷ [])

same_den : (c d : ℕ) → c ≤ part_limit → d ≤ part_limit → cond (c == 1) [] (decimal c ∷ []) ≡ cond (d == 1) [] (decimal d ∷ []) → c ≡ d
same_den c d fine-c fine-d e = grind (arith, nat_tests, decimal_injective)

pub length-signed : (z : ℤ) → unsigned_abs z ≤ part_limit → length (signed_decimal z) ≤ 11
length-signed z low = let tame = small z low in length_signed_le 10 z (omega arith) (omega arith)

pub length-under_text : (d : ℕ) → d ≤ part_limit → length (under_text d) ≤ 11
length-under_text d fine = grind (arith, nat_tests, length-decimal-le 10)

module _ (a : Q) (low : unsigned_abs a.num ≤ part_limit) (fine : a.den ≤ part_limit) where
  pub length-fraction_text : length (fraction_text a) ≤ 22
  length-fraction_text = omega (arith, length-append (signed_decimal a.num) (under_text a.den), length-signed a.num low, length-under_text a.den fine)

  parted : slice_split is_slash (fraction_text a) ≡ parts a
  parted =
      let front = signed_decimal a.num in
      let back = decimal a.den in
      elim (a.den == 1) as (λ one. slice_split is_slash (front ++ cond one [] (codes "/" ++ back)) ≡ front ∷ cond one [] (back ∷ [])) [
        | true ↦ ap (slice_split is_slash) (append-nil front) ∙ slice_split_none is_slash front (no_slash_signed a.num low)
        | false ↦
            slice_split_at is_slash front 47 back (no_slash_signed a.num low) refl
            ∙ ap (λ (l : List (List ℕ)). front ∷ l) (slice_split_none is_slash back (no_slash_decimal a.den (omega arith)))
      ]

pub same_fraction : (a : Q) → unsigned_abs a.num ≤ part_limit → a.den ≤ part_limit → (b : Q) → unsigned_abs b.num ≤ part_limit → b.den ≤ part_limit → fraction_text a ≡ fraction_text b → a ≡ b
same_fraction a low fine b low-b fine-b e =
    let both : parts a ≡ parts b = cc (parted a low fine, parted b low-b fine-b) in
    let nums : signed_decimal a.num ≡ signed_decimal b.num = cc in
    let num : a.num ≡ b.num = signed_decimal_injective a.num b.num (omega (arith, small a.num low)) (omega (arith, small b.num low-b)) nums in
    Q_path a b num (same_den a.den b.den fine fine-b cc)
