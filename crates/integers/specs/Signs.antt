-- Integers by their sign and their size. Assumes nothing.
--     quot z g          z divided by g, the sign kept
--     with_sign z n     n with the sign of z
use Rattle.std.specs.Prelude.{ℕ, ℤ, pos, negsuc, neg_ℤ}
use Rattle.std.specs.Int.RustNames.{int_div}

abbrev pub quot : ℤ → ℕ → ℤ
quot z g = int_div z (pos g)

abbrev pub with_sign : ℤ → ℕ → ℤ
with_sign (pos n) k = pos k
with_sign (negsuc n) k = neg_ℤ (pos k)
