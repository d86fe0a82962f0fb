-- Numbers as bytes, low byte first, and the range that each has to lie in. Assumes nothing.
--     field_at bs at            the unsigned number of two bytes that begins at the byte `at` of bs
--     number_at bs at           the signed number of four bytes that begins there
--     numbers bs at count       `count` of those, one after another
--     field_bytes x             the two bytes of x
--     number_bytes z            the four bytes of z
--     in_range n at z           z may stand at the place `at` of a line or form over n unknowns, counted from 0
--     block_checks n w start zs the numbers zs, in rows of w from the byte `start` on, each in its range
use Rattle.std.specs.Prelude.{ℕ, ◌+◌, ◌*◌, ◌/◌, ◌%◌, Bool, cond, List, [], ◌∷◌, map, length, ℤ, pos, nat_le, nat_lt, slice_index, slice_index_or, unsigned_abs}
use Rattle.std.specs.Int.{w32}
use Rattle.std.proofs.Common.{to_z, of_z}
use Rattle.std.specs.List.{range_with_len}
use Rattle.sheet.specs.declared.refusal.Refusal.TheVariants.{Number}
use Rattle.sheet.specs.Checks.{Check}
use Rattle.limits.specs.Limits.{coefficient_limit, right_side_limit}

abbrev pub field_at : List ℕ → ℕ → ℕ
field_at bytes at = slice_index bytes at + slice_index bytes (at + 1) * 256

abbrev pub number_at : List ℕ → ℕ → ℤ
number_at bytes at = to_z w32 (slice_index bytes at + slice_index bytes (at + 1) * 256 + slice_index bytes (at + 2) * 65536 + slice_index bytes (at + 3) * 16777216)

abbrev pub numbers : List ℕ → ℕ → ℕ → List ℤ
numbers bytes start count = map (λ k. number_at bytes (start + 4 * k)) (range_with_len 0 count)

abbrev pub field_bytes : ℕ → List ℕ
field_bytes x = x % 256 ∷ x / 256 % 256 ∷ []

abbrev pub number_bytes : ℤ → List ℕ
number_bytes z = of_z w32 z % 256 ∷ of_z w32 z / 256 % 256 ∷ of_z w32 z / 65536 % 256 ∷ of_z w32 z / 16777216 % 256 ∷ []

-- the first n places of a row are coefficients, and the one after them is a right side
abbrev pub limit : ℕ → ℕ → ℕ
limit n at = cond (nat_lt at n) coefficient_limit right_side_limit

abbrev pub in_range : ℕ → ℕ → ℤ → Bool
in_range n at z = nat_le (unsigned_abs z) (limit n at)

-- the k-th number stands at the place k % w of its row; positions count from 1
abbrev pub block_check : ℕ → ℕ → ℕ → List ℤ → ℕ → Check
block_check n w start zs k = (in_range n (k % w) (slice_index_or zs k (pos 0)), Number (k % w + 1) (start + 4 * k))

abbrev pub block_checks : ℕ → ℕ → ℕ → List ℤ → List Check
block_checks n w start zs = map (block_check n w start zs) (range_with_len 0 (length zs))
