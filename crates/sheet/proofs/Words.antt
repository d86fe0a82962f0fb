-- Numbers to bytes and back. Assumes nothing.
use Rattle.std.proofs.Common.{◌≡◌, ℕ, zero, suc, ◌+◌, ◌*◌, ◌<◌, ◌≤◌, List, [], ◌∷◌, ◌++◌, length, get_or, take, drop, ℤ, pos, negsuc, sym, ap, ◌∙◌, add-zero, add_assoc, arith, w32, SFits, to_z, of_z}
use Rattle.std.proofs.lemmas.List.{get_or-append-add, get_or-take, get_or-drop, length-take-le, length-drop}
use Rattle.std.specs.List.{flat_map, AllByRecursion as All}
use Rattle.std.proofs.lemmas.Nat.{le_bytes_2, le_bytes_4, from_le_bytes-to_le_bytes_4}
use Rattle.std.specs.Int.{to_le_bytes}
use Rattle.std.proofs.lemmas.Int.{to_z-of_z, of_z-to_z}
use Rattle.sheet.specs.Numbers.{field_at, number_at, field_bytes, number_bytes}

module _ (p q : List ℕ) where
  later : (j i : ℕ) → get_or (p ++ q) (length p + j + i) 0 ≡ get_or q (j + i) 0
  later j i = ap (λ n. get_or (p ++ q) n 0) (add_assoc (length p) j i) ∙ get_or-append-add p q (j + i) 0

  pub field_at-append : (j : ℕ) → field_at (p ++ q) (length p + j) ≡ field_at q j
  field_at-append j = λ i. get_or-append-add p q j 0 i + later j 1 i * 256

  pub number_at-append : (j : ℕ) → number_at (p ++ q) (length p + j) ≡ number_at q j
  number_at-append j = λ i. to_z w32 (get_or-append-add p q j 0 i + later j 1 i * 256 + later j 2 i * 65536 + later j 3 i * 16777216)

of_z_lt : (z : ℤ) → SFits w32 z → of_z w32 z < 4294967296
of_z_lt (pos n) f = omega (arith, f.sfits)
of_z_lt (negsuc n) f = omega (arith, f.sfits)

-- a number that is written reads as itself
pub number_bytes_back : (z : ℤ) (rest : List ℕ) → SFits w32 z → number_at (number_bytes z ++ rest) 0 ≡ z
number_bytes_back z rest f = ap (to_z w32) (from_le_bytes-to_le_bytes_4 (of_z w32 z) (of_z_lt z f)) ∙ to_z-of_z w32 z f

-- each of the numbers that are written reads as itself
pub written_at : (zs : List ℤ) (rest : List ℕ) → All (SFits w32) zs → (k : ℕ) → k < length zs → number_at (flat_map number_bytes zs ++ rest) (4 * k) ≡ get_or zs k (pos 0)
written_at [] rest h k l = absurd (omega arith)
written_at (z ∷ zs) rest h zero l = number_bytes_back z (flat_map number_bytes zs ++ rest) h.0
written_at (z ∷ zs) rest h (suc k) l =
    ap (number_at (flat_map number_bytes (z ∷ zs) ++ rest)) (mul-suc' k) ∙ number_at-append (number_bytes z) (flat_map number_bytes zs ++ rest) (4 * k) ∙ written_at zs rest h.1 k (omega arith)
  where
    mul-suc' : (k : ℕ) → 4 * suc k ≡ 4 + 4 * k
    mul-suc' k = omega arith

-- the first w of small numbers are small
small_front : (w : ℕ) (xs : List ℕ) → ((i : ℕ) → get_or xs i 0 < 256) → (i : ℕ) → get_or (take w xs) i 0 < 256
small_front zero xs h i = omega arith
small_front (suc w) [] h i = h i
small_front (suc w) (x ∷ xs) h zero = h 0
small_front (suc w) (x ∷ xs) h (suc i) = small_front w xs (λ k. h (suc k)) i

-- bytes that are read as a number are what it is written as
module _ (bytes : List ℕ) (small : (i : ℕ) → get_or bytes i 0 < 256) where
  -- the w bytes from the byte `at` on, one by one
  byte : (w at k : ℕ) → k < w → get_or bytes (at + k) 0 ≡ get_or (take w (drop at bytes)) k 0
  byte w at k l = sym (get_or-take w (drop at bytes) k 0 l ∙ get_or-drop at bytes k 0)

  byte_small : (w at i : ℕ) → get_or (take w (drop at bytes)) i 0 < 256
  byte_small w at = small_front w (drop at bytes) (λ k. rw get_or-drop (small (at + k)))

  length-word : (w at : ℕ) → at + w ≤ length bytes → length (take w (drop at bytes)) ≡ w
  length-word w at l = length-take-le w (drop at bytes) (omega (arith, length-drop at bytes))

  pub field_bytes_at : (at : ℕ) → at + 2 ≤ length bytes → field_bytes (field_at bytes at) ≡ take 2 (drop at bytes)
  field_bytes_at at l =
      le_bytes_2 (take 2 (drop at bytes)) (field_at bytes at) (length-word 2 at l) (byte_small 2 at) (λ i. (ap (λ n. get_or bytes n 0) (sym (add-zero at)) ∙ byte 2 at 0 (omega arith)) i + byte 2 at 1 (omega arith) i * 256)

  pub number_bytes_at : (at : ℕ) → at + 4 ≤ length bytes → number_bytes (number_at bytes at) ≡ take 4 (drop at bytes)
  number_bytes_at at l =
      let x = get_or bytes at 0 + get_or bytes (at + 1) 0 * 256 + get_or bytes (at + 2) 0 * 65536 + get_or bytes (at + 3) 0 * 16777216 in
      let fits : x < 4294967296 = omega (arith, small at, small (at + 1), small (at + 2), small (at + 3)) in
      ap (to_le_bytes w32) (of_z-to_z w32 x fits)
      ∙ le_bytes_4 (take 4 (drop at bytes)) x (length-word 4 at l) (byte_small 4 at) (λ i. (ap (λ n. get_or bytes n 0) (sym (add-zero at)) ∙ byte 4 at 0 (omega arith)) i + byte 4 at 1 (omega arith) i * 256 + byte 4 at 2 (omega arith) i * 65536 + byte 4 at 3 (omega arith) i * 16777216)
