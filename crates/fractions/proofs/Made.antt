-- Fractions that the code makes: what their parts are, and that they are in lowest terms. Assumes nothing.
use Rattle.std.proofs.Common.{◌≡◌, ℕ, suc, ◌*◌, ◌/◌, ◌%◌, ◌<◌, ◌≤◌, ◌≢◌, ℤ, pos, ◌+ℤ◌, ◌*ℤ◌, nat_abs, sym, refl, ap, ◌∙◌, subst, ap₂, arith, w32, w64, SFits}
use Rattle.std.proofs.lemmas.Int.{to_z-of_z}
use Prim.Native.Nat as Nat
use Rattle.integers.specs.Divisors.{gcd}
use Rattle.integers.proofs.GcdLaws.{gcd_comm}
use Rattle.integers.specs.Signs.{quot, with_sign}
use Rattle.integers.proofs.Sizes.{unsigned_abs-with_sign, unsigned_abs_zero, times_with_sign}
use Rattle.algebra.specs.Fraction.{zero_q}
use Rattle.algebra.proofs.FractionLaws.{zero_num}
use Rattle.algebra.proofs.Reduced.{joint, shared_above, shared_lowest, shared_value, cross_above, cross_lowest, cross_value}
use Rattle.fractions.specs.Terms.{part_limit}
use Rattle.fractions.specs.Fractions.{exact_q}
use Rattle.fractions.specs.declared.Fraction.{Fraction}
use Rattle.fractions.proofs.Wide.{word, wide, word_fits}

-- a stored numerator stands in a word
pub stored : (v : Fraction) → word v.numerator ≡ v.numerator
stored v = to_z-of_z w32 v.numerator (word_fits v.numerator v.low)

-- a sum over denominators that share g: n is the numerator, u its size, k its part by h, and s the share of the second denominator
module _ (p q : Fraction) (g h u s : ℕ) (n k : ℤ) (eg : g ≡ gcd p.denominator q.denominator) (en : n ≡ joint p.numerator q.numerator p.denominator q.denominator g)
    (eu : u ≡ nat_abs (wide n)) (eh : h ≡ gcd (u % g) g) (ek : k ≡ quot (wide n) h) (es : s ≡ q.denominator / h) (fn : SFits w64 n) (fk : SFits w64 k) where
  size : h ≡ gcd (nat_abs n % g) g
  size = eh ∙ ap (λ (x : ℕ). gcd (x % g) g) (eu ∙ ap nat_abs (to_z-of_z w64 n fn))

  part_is : wide k ≡ quot n h
  part_is = to_z-of_z w64 k fk ∙ ek ∙ ap (λ (z : ℤ). quot z h) (to_z-of_z w64 n fn)

  pub sum_above : 0 < p.denominator / g * s
  sum_above = subst (λ (x : ℕ). 0 < p.denominator / g * x) (sym es)
      (shared_above p.numerator q.numerator p.denominator q.denominator p.above q.above p.lowest q.lowest g h n (wide k) eg en size part_is)

  pub sum_low : gcd (nat_abs (wide k)) (p.denominator / g * s) ≡ 1
  sum_low = ap (λ (x : ℕ). gcd (nat_abs (wide k)) (p.denominator / g * x)) es
      ∙ shared_lowest p.numerator q.numerator p.denominator q.denominator p.above q.above p.lowest q.lowest g h n (wide k) eg en size part_is

  pub sum_made : (0 < p.denominator / g * s) × (gcd (nat_abs (wide k)) (p.denominator / g * s) ≡ 1)
  sum_made = (sum_above, sum_low)

  pub sum_is : wide k *ℤ pos (p.denominator * q.denominator) ≡ (p.numerator *ℤ pos q.denominator +ℤ q.numerator *ℤ pos p.denominator) *ℤ pos (p.denominator / g * s)
  sum_is = shared_value p.numerator q.numerator p.denominator q.denominator p.above q.above p.lowest q.lowest g h n (wide k) eg en size part_is
      ∙ ap (λ (x : ℕ). (p.numerator *ℤ pos q.denominator +ℤ q.numerator *ℤ pos p.denominator) *ℤ pos (p.denominator / g * x)) (sym es)

-- a product reduced crosswise: u and v are the sizes of the numerators, n the new numerator, and s and t the shares of the denominators
module _ (p q : Fraction) (g h u v s t : ℕ) (n : ℤ) (eu : u ≡ nat_abs (word p.numerator)) (eg : g ≡ gcd u q.denominator) (ev : v ≡ nat_abs (word q.numerator)) (eh : h ≡ gcd v p.denominator)
    (en : n ≡ quot (word p.numerator) g *ℤ quot (word q.numerator) h) (es : s ≡ p.denominator / h) (et : t ≡ q.denominator / g) (fn : SFits w64 n) where
  left : g ≡ gcd (nat_abs p.numerator) q.denominator
  left = eg ∙ ap (λ (x : ℕ). gcd x q.denominator) (eu ∙ ap nat_abs (stored p))

  right : h ≡ gcd (nat_abs q.numerator) p.denominator
  right = eh ∙ ap (λ (x : ℕ). gcd x p.denominator) (ev ∙ ap nat_abs (stored q))

  parts_are : wide n ≡ quot p.numerator g *ℤ quot q.numerator h
  parts_are = to_z-of_z w64 n fn ∙ en ∙ ap₂ (λ (x y : ℤ). quot x g *ℤ quot y h) (stored p) (stored q)

  shares_are : s * t ≡ p.denominator / h * (q.denominator / g)
  shares_are = ap₂ ◌*◌ es et

  pub product_above : 0 < s * t
  product_above = subst (λ (x : ℕ). 0 < x) (sym shares_are)
      (cross_above p.numerator q.numerator p.denominator q.denominator g h (wide n) p.above q.above p.lowest q.lowest left right parts_are)

  pub product_low : gcd (nat_abs (wide n)) (s * t) ≡ 1
  product_low = ap (λ (x : ℕ). gcd (nat_abs (wide n)) x) shares_are
      ∙ cross_lowest p.numerator q.numerator p.denominator q.denominator g h (wide n) p.above q.above p.lowest q.lowest left right parts_are

  pub product_made : (0 < s * t) × (gcd (nat_abs (wide n)) (s * t) ≡ 1)
  product_made = (product_above, product_low)

  pub product_is : wide n *ℤ pos (p.denominator * q.denominator) ≡ (p.numerator *ℤ q.numerator) *ℤ pos (s * t)
  product_is = cross_value p.numerator q.numerator p.denominator q.denominator g h (wide n) p.above q.above p.lowest q.lowest left right parts_are
      ∙ ap (λ (x : ℕ). (p.numerator *ℤ q.numerator) *ℤ pos x) (sym shares_are)

-- a fraction turned over: n is the denominator with the sign of the numerator, and u the numerator without it
module _ (p : Fraction) (n : ℤ) (u : ℕ) (en : n ≡ with_sign (word p.numerator) p.denominator) (eu : u ≡ nat_abs (word p.numerator)) (fn : SFits w32 n) where
  sign_is : word n ≡ with_sign p.numerator p.denominator
  sign_is = to_z-of_z w32 n fn ∙ en ∙ ap (λ (z : ℤ). with_sign z p.denominator) (stored p)

  size_of : u ≡ nat_abs p.numerator
  size_of = eu ∙ ap nat_abs (stored p)

  size_is : nat_abs (word n) ≡ p.denominator
  size_is = ap nat_abs sign_is ∙ unsigned_abs-with_sign p.numerator p.denominator

  pub turned_above : exact_q p ≢ zero_q → 0 < u
  turned_above n = go u (λ e. n (zero_num (exact_q p) (unsigned_abs_zero p.numerator (sym size_of ∙ e))))
    where
      go : (k : ℕ) → (k ≡ 0 → ⊥) → 0 < k
      go Nat.zero h = absurd (h refl)
      go (suc k) h = omega arith

  pub turned_low : gcd (nat_abs (word n)) u ≡ 1
  turned_low = ap₂ gcd size_is size_of ∙ gcd_comm p.denominator (nat_abs p.numerator) ∙ p.lowest

  pub turned_small : nat_abs (word n) ≤ part_limit
  turned_small = subst (λ (x : ℕ). x ≤ part_limit) (sym size_is) p.fine

  pub turned_fine : u ≤ part_limit
  turned_fine = subst (λ (x : ℕ). x ≤ part_limit) (sym size_of) p.low

  pub turned_is : p.numerator *ℤ word n ≡ pos (p.denominator * u)
  turned_is = ap (λ (z : ℤ). p.numerator *ℤ z) sign_is ∙ times_with_sign p.numerator p.denominator ∙ ap (λ (x : ℕ). pos (p.denominator * x)) (sym size_of)
