-- The text of a remainder from its decimal digits. Assumes nothing.
use Rattle.std.specs.Prelude.{◌≡◌, ℕ, ◌≤◌, List, ◌++◌, [], codes, drop, length, decimal}
use Rattle.std.proofs.Common.{arith}
use Rattle.std.proofs.lemmas.Fmt.{length-decimal-le}
use Rattle.algebra.specs.Remainder.{Rem}
use Rattle.remainders.specs.Moduli.{modulus}
use Rattle.texts.specs.Texts.{rest_text}
use Rattle.texts.proofs.Spelling.{padded_decimal}

-- a remainder has at most four digits
pub digits_fit : (x : Rem modulus) {n : ℕ} {digits : List ℕ} → n ≡ x.value → digits ≡ decimal n → length digits ≤ 4
digits_fit x v d = grind (arith, x.below, length-decimal-le 4)

-- what is pushed: zeros, as many as the digits leave room for among four, and then the digits
pub rest_pushed : (x : Rem modulus) {n : ℕ} {digits zeros start front text : List ℕ}
    → n ≡ x.value → digits ≡ decimal n → zeros ≡ drop (length digits) (codes "0000") → start ≡ [] → front ≡ start ++ zeros → text ≡ front ++ digits → text ≡ rest_text x
rest_pushed x v d z s f t = let fits = digits_fit x v d in grind (arith, x.below, padded_decimal 4 x.value)
