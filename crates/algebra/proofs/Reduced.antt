-- Sums and products of fractions from parts already reduced: they are in lowest terms, and they are the exact results. Assumes nothing.
--     Parts of a / b + c / d: with g common to b and d, t = a (d / g) + c (b / g) and h common to t and g,
--     it is t / h over (b / g) (d / h).
--     Parts of a / b times c / d: with g common to a and d, and h common to c and b,
--     it is (a / g) (c / h) over (b / h) (d / g).
use Rattle.std.proofs.Common.{◌≡◌, ℕ, ◌*◌, ◌/◌, ◌%◌, ◌<◌, ℤ, pos, ◌+ℤ◌, ◌*ℤ◌, neg_ℤ, nat_abs, sym, refl, ap, ◌∙◌, ap₂, mul_assoc, mul-pos, div-one}
use Prim.Native.Nat.{◌∣◌}
use lib.IntN.{+ℤ_comm}
use native.Mathlib.Nat.{mul-div_assoc, dvd_refl, div-mul_cancel, dvd_trans}
use Rattle.integers.specs.Divisors.{gcd}
use Rattle.integers.proofs.GcdLaws.{gcd-mod, gcd_comm, quot_dvd, quot_pos, divides_both, coprime_quotients}
use Rattle.integers.proofs.Coprime.{coprime_parts, coprime_times, coprime_four, coprime_plus, gcd_times_coprime, dvd_multiple}
use Rattle.integers.specs.Signs.{quot}
use Rattle.std.proofs.lemmas.Int.{unsigned_abs-mul}
use Rattle.integers.proofs.Sizes.{unsigned_abs_quot, quot_times}
use Rattle.integers.proofs.Equations.{parts, differences, naturals, adding}
use Rattle.algebra.specs.Fraction.{Q, plus_q, times_q, minus_q, over_q, zero_q, one_q}
use Rattle.algebra.proofs.FractionLaws.{normal_eq, normal_self}
use Rattle.algebra.proofs.FractionField.{field_q}
use Rattle.algebra.proofs.FieldLaws.{over_unique}

-- ---- a fraction in lowest terms that has the value of the sum is the sum, and so of the other operations
pub plus_from : (p q r : Q) → r.num *ℤ pos (p.den * q.den) ≡ (p.num *ℤ pos q.den +ℤ q.num *ℤ pos p.den) *ℤ pos r.den → r ≡ plus_q p q
unfolding plus_q
plus_from p q r e = sym (normal_self r) ∙ normal_eq _ _ _ _ _ _ e

pub times_from : (p q r : Q) → r.num *ℤ pos (p.den * q.den) ≡ (p.num *ℤ q.num) *ℤ pos r.den → r ≡ times_q p q
unfolding times_q
times_from p q r e = sym (normal_self r) ∙ normal_eq _ _ _ _ _ _ e

pub none_from : (p q : Q) → p.num *ℤ q.num ≡ pos 0 → zero_q ≡ times_q p q
none_from p q e =
    times_from p q zero_q (rw e (simp differences (omega naturals)))

pub minus_from : (p r : Q) → r.num ≡ neg_ℤ p.num → r.den ≡ p.den → r ≡ minus_q p
unfolding minus_q
minus_from p r e f = sym (normal_self r) ∙ normal_eq _ _ _ _ _ _ (ap₂ (λ (x : ℤ) (d : ℕ). x *ℤ pos d) e (sym f))

pub over_from : (p r : Q) → p.num *ℤ r.num ≡ pos (p.den * r.den) → r ≡ over_q p
over_from p r e =
    over_unique field_q p r (sym (times_from p r one_q (rw e (simp differences (omega naturals)))))

-- ---- the sum
-- the numerator of a / b + c / d over what b and d do not have in common
abbrev pub joint : ℤ → ℤ → ℕ → ℕ → ℕ → ℤ
joint a c b d g = a *ℤ pos (d / g) +ℤ c *ℤ pos (b / g)

-- it has nothing in common with the denominators' own factors
part_coprime : (a c : ℤ) (b d g : ℕ) → 0 < d → gcd (nat_abs a) b ≡ 1 → g ≡ gcd b d → gcd (nat_abs (joint a c b d g)) (b / g) ≡ 1
part_coprime a c b d g hd low e =
    coprime_plus (a *ℤ pos (d / g)) (c *ℤ pos (b / g)) (b / g)
    (rw (unsigned_abs-mul, gcd_comm)
    (coprime_times (b / g) (nat_abs a) (d / g)
    (gcd_comm _ _ ∙ coprime_parts (nat_abs a) b (nat_abs a) (b / g) low (dvd_refl (nat_abs a)) (quot_dvd b g (divides_both g b d e).0)) (coprime_quotients b d g e hd)))
    (dvd_multiple (b / g) (c *ℤ pos (b / g)) c refl)

module _ (a c : ℤ) (b d : ℕ) (hb : 0 < b) (hd : 0 < d) (low : gcd (nat_abs a) b ≡ 1) (low' : gcd (nat_abs c) d ≡ 1) where
  pub whole_coprime : (g : ℕ) → g ≡ gcd b d → gcd (nat_abs (joint a c b d g)) (b / g * (d / g)) ≡ 1
  whole_coprime g e = coprime_times (nat_abs (joint a c b d g)) (b / g) (d / g) (part_coprime a c b d g hd low e)
      (ap (λ (x : ℤ). gcd (nat_abs x) (d / g)) (+ℤ_comm (a *ℤ pos (d / g)) (c *ℤ pos (b / g))) ∙ part_coprime c a d b g hb low' (e ∙ gcd_comm b d))

  -- where b and d have nothing in common
  pub apart_lowest : gcd b d ≡ 1 → gcd (nat_abs (a *ℤ pos d +ℤ c *ℤ pos b)) (b * d) ≡ 1
  apart_lowest e = simp div-one at (whole_coprime 1 (sym e))

  pub sum_lowest : (g h : ℕ) → g ≡ gcd b d → h ≡ gcd (nat_abs (joint a c b d g)) g → gcd (nat_abs (joint a c b d g) / h) (b / g * (d / h)) ≡ 1
  sum_lowest g h e f = rw (sym (mul-div_assoc h (b / g) inner)) (coprime_quotients n (b / g * d) h (f ∙ same) (mul-pos (quot_pos b g both.0 hb) hd))
    where
      n : ℕ
      n = nat_abs (joint a c b d g)

      both : (g ∣ b) × (g ∣ d)
      both = divides_both g b d e

      inner : h ∣ d
      inner = dvd_trans h (divides_both h n g f).1 both.1

      same : gcd n g ≡ gcd n (b / g * d)
      same =
          sym (gcd_times_coprime n (b / g * (d / g)) g (whole_coprime g e))
          ∙ ap (gcd n) (mul_assoc (b / g) (d / g) g ∙ ap (λ (x : ℕ). b / g * x) (div-mul_cancel g both.1))

-- with b = x g, and d = y g as well as z h
pub joined : (n a c : ℤ) (b d g h x y z : ℕ) → x * g ≡ b → y * g ≡ d → z * h ≡ d → n *ℤ pos h ≡ a *ℤ pos y +ℤ c *ℤ pos x
    → n *ℤ pos (b * d) ≡ (a *ℤ pos d +ℤ c *ℤ pos b) *ℤ pos (x * z)
joined n a c b d g h x y z e f i j =
    adding (neg_ℤ (pos (x * g * z))) j
    (adding (neg_ℤ (a *ℤ pos (x * z))) (ap pos (f ∙ sym i)) (rw (← e, ← i, parts n, parts a, parts c) (simp differences (omega naturals))))

-- as it is worked out step by step: g is what b and d have in common, n the numerator over the rest, h what n and g have in common, and m the part of n by h
module _ (a c : ℤ) (b d : ℕ) (hb : 0 < b) (hd : 0 < d) (low : gcd (nat_abs a) b ≡ 1) (low' : gcd (nat_abs c) d ≡ 1) where
  module _ (g h : ℕ) (n m : ℤ) (eg : g ≡ gcd b d) (en : n ≡ joint a c b d g) (eh : h ≡ gcd (nat_abs n % g) g) (em : m ≡ quot n h) where
    of_both : (g ∣ b) × (g ∣ d)
    of_both = divides_both g b d eg

    of_top : (h ∣ nat_abs n) × (h ∣ g)
    of_top = divides_both h (nat_abs n) g (eh ∙ gcd-mod (nat_abs n) g)

    of_right : h ∣ d
    of_right = dvd_trans h of_top.1 of_both.1

    pub shared_above : 0 < b / g * (d / h)
    shared_above = mul-pos (quot_pos b g of_both.0 hb) (quot_pos d h of_right hd)

    pub shared_lowest : gcd (nat_abs m) (b / g * (d / h)) ≡ 1
    shared_lowest =
        rw (em, unsigned_abs_quot n h, en)
        (sum_lowest a c b d hb hd low low' g h eg (eh ∙ gcd-mod (nat_abs n) g ∙ ap (λ (x : ℤ). gcd (nat_abs x) g) en))

    pub shared_value : m *ℤ pos (b * d) ≡ (a *ℤ pos d +ℤ c *ℤ pos b) *ℤ pos (b / g * (d / h))
    shared_value =
        joined m a c b d g h (b / g) (d / g) (d / h) (div-mul_cancel g of_both.0) (div-mul_cancel g of_both.1) (div-mul_cancel h of_right)
        (ap (λ (x : ℤ). x *ℤ pos h) em ∙ quot_times n h of_top.0 ∙ en)

-- ---- the product
-- with a = m g, c = n h, b = x h and d = y g
pub crossed : (m n a c : ℤ) (b d g h x y : ℕ) → m *ℤ pos g ≡ a → n *ℤ pos h ≡ c → x * h ≡ b → y * g ≡ d → (m *ℤ n) *ℤ pos (b * d) ≡ (a *ℤ c) *ℤ pos (x * y)
crossed m n a c b d g h x y e f i j = rw (← e, ← f, ← i, ← j, parts m, parts n) (simp differences (omega naturals))

-- as it is worked out step by step: g is what a and d have in common, and h what c and b have
module _ (a c : ℤ) (b d g h : ℕ) (m : ℤ) (hb : 0 < b) (hd : 0 < d) (low : gcd (nat_abs a) b ≡ 1) (low' : gcd (nat_abs c) d ≡ 1)
    (eg : g ≡ gcd (nat_abs a) d) (eh : h ≡ gcd (nat_abs c) b) (em : m ≡ quot a g *ℤ quot c h) where
  by_g : (g ∣ nat_abs a) × (g ∣ d)
  by_g = divides_both g (nat_abs a) d eg

  by_h : (h ∣ nat_abs c) × (h ∣ b)
  by_h = divides_both h (nat_abs c) b eh

  pub cross_above : 0 < b / h * (d / g)
  cross_above = mul-pos (quot_pos b h by_h.1 hb) (quot_pos d g by_g.1 hd)

  pub cross_lowest : gcd (nat_abs m) (b / h * (d / g)) ≡ 1
  cross_lowest =
      rw (em, unsigned_abs-mul, unsigned_abs_quot a g, unsigned_abs_quot c h)
      (coprime_four (nat_abs a / g) (nat_abs c / h) (b / h) (d / g)
      (coprime_parts (nat_abs a) b (nat_abs a / g) (b / h) low (quot_dvd (nat_abs a) g by_g.0) (quot_dvd b h by_h.1)) (coprime_quotients (nat_abs a) d g eg hd)
      (coprime_quotients (nat_abs c) b h eh hb) (coprime_parts (nat_abs c) d (nat_abs c / h) (d / g) low' (quot_dvd (nat_abs c) h by_h.0) (quot_dvd d g by_g.1)))

  pub cross_value : m *ℤ pos (b * d) ≡ (a *ℤ c) *ℤ pos (b / h * (d / g))
  cross_value =
      rw em (crossed (quot a g) (quot c h) a c b d g h (b / h) (d / g) (quot_times a g by_g.0) (quot_times c h by_h.0) (div-mul_cancel h by_h.1) (div-mul_cancel g by_g.1))
