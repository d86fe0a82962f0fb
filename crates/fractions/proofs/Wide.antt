-- Products and sums of words in 64 bits: nothing is lost. Assumes nothing.
use Rattle.std.proofs.Common.{◌≡◌, ℕ, ◌+◌, ◌<◌, ◌≤◌, ◌^◌, ℤ, pos, negsuc, ◌+ℤ◌, ◌*ℤ◌, nat_abs, sym, ap, ◌∙◌, subst, ap₂, mul-le-mul, div-le_self, arith, w32, w64, SFits, to_z, of_z}
use mir.Facts.{sfits_widen}
use Rattle.std.specs.Int.{Width}
use mir.Val.{hbits}
use Rattle.std.proofs.lemmas.Int.{to_z-of_z, to_z_pos, unsigned_abs-mul, ints}
use Rattle.integers.specs.Signs.{quot}
use Rattle.integers.proofs.Sizes.{unsigned_abs_quot}
use Rattle.fractions.specs.Terms.{part_limit}

-- an integer as it stands in a word, or in two
abbrev pub word : ℤ → ℤ
word z = to_z w32 (of_z w32 z)

abbrev pub wide : ℤ → ℤ
wide z = to_z w64 (of_z w64 z)

-- at any width
pub size_fits : (w : Width) (z : ℤ) → nat_abs z < 2 ^ hbits w → SFits w z
size_fits w (pos n) h = record { sfits = h }
size_fits w (negsuc n) h = record { sfits = omega arith }

pub word_fits : (z : ℤ) → nat_abs z ≤ part_limit → SFits w32 z
word_fits z h = size_fits w32 z (omega arith)

pub kept : (z : ℤ) → nat_abs z < 9223372036854775808 → wide z ≡ z
kept z h = to_z-of_z w64 z (size_fits w64 z h)

-- a word, cast to 64 bits
pub widened : (z : ℤ) → SFits w32 z → wide (word z) ≡ z
widened z f = ap wide (to_z-of_z w32 z f) ∙ to_z-of_z w64 z (sfits_widen {w = w32} {w' = w64} tt f)

pub sum_size : (x y : ℤ) → nat_abs (x +ℤ y) ≤ nat_abs x + nat_abs y
sum_size x y = omega (arith, ints)

-- the square of the limit
abbrev pub square : ℕ
square = 4611686014132420609

pub product_size : (a b : ℤ) → nat_abs a ≤ part_limit → nat_abs b ≤ part_limit → nat_abs (a *ℤ b) ≤ square
product_size a b h k = subst (λ (x : ℕ). x ≤ square) (sym (unsigned_abs-mul a b)) (mul-le-mul {n₁ = nat_abs a} {m₁ = nat_abs b} {n₂ = part_limit} {m₂ = part_limit} h k)

-- a word times a word without a sign, in 64 bits
abbrev pub wide_term : ℤ → ℕ → ℤ
wide_term a x = wide (word a) *ℤ to_z w64 x

module _ (a : ℤ) (x : ℕ) (h : nat_abs a ≤ part_limit) (k : x ≤ part_limit) where
  term_is : wide_term a x ≡ a *ℤ pos x
  term_is = ap₂ ◌*ℤ◌ (widened a (word_fits a h)) (to_z_pos w64 x (omega arith))

  pub term_size : nat_abs (wide_term a x) ≤ square
  term_size = subst (λ (z : ℤ). nat_abs z ≤ square) (sym term_is) (product_size a (pos x) h k)

  pub term_kept : wide (wide_term a x) ≡ a *ℤ pos x
  term_kept = kept (wide_term a x) (let s = term_size in omega arith) ∙ term_is

-- the sum of two of these
module _ (a : ℤ) (x : ℕ) (h : nat_abs a ≤ part_limit) (k : x ≤ part_limit) (b : ℤ) (y : ℕ) (i : nat_abs b ≤ part_limit) (j : y ≤ part_limit) where
  abbrev both : ℤ
  both = wide (wide_term a x) +ℤ wide (wide_term b y)

  both_is : both ≡ a *ℤ pos x +ℤ b *ℤ pos y
  both_is = ap₂ ◌+ℤ◌ (term_kept a x h k) (term_kept b y i j)

  pub both_size : nat_abs (a *ℤ pos x +ℤ b *ℤ pos y) < 9223372036854775808
  both_size =
      let s = sum_size (a *ℤ pos x) (b *ℤ pos y) in
      let t = product_size a (pos x) h k in
      let u = product_size b (pos y) i j in
      omega arith

  pub sum_fits : SFits w64 both
  sum_fits = subst (λ (z : ℤ). SFits w64 z) (sym both_is) (size_fits w64 (a *ℤ pos x +ℤ b *ℤ pos y) both_size)

  pub sum_kept : wide both ≡ a *ℤ pos x +ℤ b *ℤ pos y
  sum_kept = ap wide both_is ∙ kept (a *ℤ pos x +ℤ b *ℤ pos y) both_size

  pub sum_small : nat_abs (wide both) < 9223372036854775808
  sum_small = subst (λ (z : ℤ). nat_abs z < 9223372036854775808) (sym sum_kept) both_size

-- dividing makes no larger
pub quot_size : (z : ℤ) (g : ℕ) → nat_abs (quot z g) ≤ nat_abs z
quot_size z g = subst (λ (x : ℕ). x ≤ nat_abs z) (sym (unsigned_abs_quot z g)) (div-le_self (nat_abs z) g)

-- the product of two parts of words
word_size : (z : ℤ) → SFits w32 z → nat_abs z ≤ 2147483648
word_size (pos n) f = let s = f.sfits in omega arith
word_size (negsuc n) f = let s = f.sfits in omega arith

module _ (a : ℤ) (g : ℕ) (c : ℤ) (h : ℕ) (x y : ℤ) (fa : SFits w32 a) (fc : SFits w32 c)
    (ex : x ≡ quot (wide (word a)) g) (ey : y ≡ quot (wide (word c)) h) (fx : SFits w64 x) (fy : SFits w64 y) where
  parts_are : wide x *ℤ wide y ≡ quot a g *ℤ quot c h
  parts_are =
      ap₂ ◌*ℤ◌ (to_z-of_z w64 x fx ∙ ex ∙ ap (λ (z : ℤ). quot z g) (widened a fa)) (to_z-of_z w64 y fy ∙ ey ∙ ap (λ (z : ℤ). quot z h) (widened c fc))

  parts_size : nat_abs (quot a g *ℤ quot c h) < 9223372036854775808
  parts_size =
      let s = quot_size a g in
      let t = quot_size c h in
      let u = word_size a fa in
      let v = word_size c fc in
      let m = mul-le-mul {n₁ = nat_abs (quot a g)} {m₁ = nat_abs (quot c h)} {n₂ = 2147483648} {m₂ = 2147483648} (omega arith) (omega arith) in
      let e = unsigned_abs-mul (quot a g) (quot c h) in
      omega arith

  pub parts_fit : SFits w64 (wide x *ℤ wide y)
  parts_fit = subst (λ (z : ℤ). SFits w64 z) (sym parts_are) (size_fits w64 (quot a g *ℤ quot c h) parts_size)

  pub parts_kept : wide (wide x *ℤ wide y) ≡ quot a g *ℤ quot c h
  parts_kept = ap wide parts_are ∙ kept (quot a g *ℤ quot c h) parts_size
