-- Equations of integers: each integer is written as a difference of two numbers, products are multiplied out, and `omega` compares what is left. Assumes nothing.
--     rw (parts a, parts b) (simp differences (omega naturals))
--                      proves an equation between sums, products and negatives of the integers a and b and of numbers
--     adding k e h     proves x ≡ y, where e : l ≡ r, from h : x + k l ≡ y + k r
use Rattle.std.proofs.Common.{◌≡◌, ℕ, ◌+◌, ◌*◌, suc, ℤ, pos, negsuc, ◌+ℤ◌, ◌*ℤ◌, neg_ℤ, ap, arith}
use Rattle.std.proofs.lemmas.Int.{ints}
use borrow.Author.Differences.{up, down, same_in, sum_is_lem, neg_is, product_is}

-- m less n; kept folded, so that the rules below find it
unfoldable pub difference : ℕ → ℕ → ℤ
difference m n = pos m +ℤ neg_ℤ (pos n)

difference_is : (m n : ℕ) → up (difference m n) + n ≡ m + down (difference m n)
unfolding difference
difference_is m n = omega (arith, ints)

pub difference_same : (a b c d : ℕ) → a + d ≡ c + b → difference a b ≡ difference c d
difference_same a b c d h = same_in (difference a b) (difference c d) (omega (arith, difference_is))

pub parts : (z : ℤ) → z ≡ difference (up z) (down z)
parts z = same_in z (difference (up z) (down z)) (omega (arith, difference_is))

pub difference_pos : (n : ℕ) → pos n ≡ difference n 0
difference_pos n = same_in (pos n) (difference n 0) (omega (arith, difference_is))

pub difference_negsuc : (n : ℕ) → negsuc n ≡ difference 0 (suc n)
difference_negsuc n = same_in (negsuc n) (difference 0 (suc n)) (omega (arith, difference_is))

-- a number's negative computes by the number, so that it has a rule of its own
pub difference-neg_ℤ_pos : (n : ℕ) → neg_ℤ (pos n) ≡ difference 0 n
difference-neg_ℤ_pos n = same_in (neg_ℤ (pos n)) (difference 0 n) (omega (arith, neg_is, difference_is))

pub difference-+ℤ : (a b c d : ℕ) → difference a b +ℤ difference c d ≡ difference (a + c) (b + d)
difference-+ℤ a b c d = same_in (difference a b +ℤ difference c d) (difference (a + c) (b + d)) (omega (arith, sum_is_lem, difference_is))

pub difference-neg_ℤ : (a b : ℕ) → neg_ℤ (difference a b) ≡ difference b a
difference-neg_ℤ a b = same_in (neg_ℤ (difference a b)) (difference b a) (omega (arith, neg_is, difference_is))

-- u - v is a - b, and w - x is c - d
products : (u v a b w x c d : ℕ) → u + b ≡ a + v → w + d ≡ c + x → u * w + v * x + (a * d + b * c) ≡ a * c + b * d + (u * x + v * w)
products u v a b w x c d e f = omega (arith, ap (λ (t : ℕ). t * w) e, ap (λ (t : ℕ). t * x) e, ap (λ (t : ℕ). a * t) f, ap (λ (t : ℕ). b * t) f)

pub difference-*ℤ : (a b c d : ℕ) → difference a b *ℤ difference c d ≡ difference (a * c + b * d) (a * d + b * c)
difference-*ℤ a b c d =
    same_in (p *ℤ q) (difference (a * c + b * d) (a * d + b * c))
    (omega (arith, product_is p q, products (up p) (down p) a b (up q) (down q) c d (difference_is a b) (difference_is c d), difference_is))
  where
    p : ℤ
    p = difference a b

    q : ℤ
    q = difference c d

pub ruleset differences = (difference_pos, difference_negsuc, difference-neg_ℤ_pos, difference-+ℤ, difference-neg_ℤ, difference-*ℤ)

pub ruleset naturals = (arith, difference_same)

-- an equation, multiplied by k and added to both sides
pub adding : {x y l r : ℤ} (k : ℤ) → l ≡ r → x +ℤ k *ℤ l ≡ y +ℤ k *ℤ r → x ≡ y
adding k e h = let f = ap (λ (t : ℤ). k *ℤ t) e in omega (arith, ints)
