-- Remainders by a number above 1 keep the laws of a commutative ring. Assumes nothing.
--     Of p z n         n is z but for a multiple of p
use Rattle.std.proofs.Common.{◌≡◌, ℕ, zero, suc, ◌+◌, ◌-◌, ◌*◌, ◌/◌, ◌%◌, ◌<◌, ◌≢◌, ℤ, pos, negsuc, ◌+ℤ◌, ◌*ℤ◌, neg_ℤ, nat_abs, sym, ap, ◌∙◌, ap₂, add_comm, add_assoc, mul_comm, mul_assoc, mul-one, mul-add, zero-mul, arith}
use mathlib.Core.HLevel.{is_prop→PathP, hedberg}
use native.Mathlib.Nat.{add-zero, div-add-mod, zero-mod, mod_self, mod-eq_of_lt, mod-add-mod, add-mod-mod, add-mod}
use native.Mathlib.Bridge.{le_prop}
use native.Mathlib.Decide.{ℕ_discrete}
use Rattle.std.proofs.lemmas.Nat.{mul-mod_first, mul-mod_second}
use Rattle.std.proofs.lemmas.Int.{ints, unsigned_abs-mul}
use Rattle.integers.proofs.Equations.{parts, differences, naturals, adding}
use Rattle.algebra.specs.Remainder.{Rem, rem, zero_r, one_r, plus_r, times_r, minus_r, whole_r}

pub Rem_path : {p : ℕ} (a b : Rem p) → a.value ≡ b.value → a ≡ b
Rem_path {p} a b e = λ i. record { value = e i; below = is_prop→PathP (λ j. e j < p) (λ j. le_prop) a.below b.below i }

Rem_discrete : (p : ℕ) → Discrete (Rem p)
Rem_discrete p a b = go (ℕ_discrete a.value b.value)
  where
    go : Dec (a.value ≡ b.value) → Dec (a ≡ b)
    go (yes e) = yes (Rem_path a b e)
    go (no f) = no (λ h. f (ap (λ (x : Rem p). x.value) h))

pub Rem_set : (p : ℕ) → IsSet (Rem p)
Rem_set p = hedberg (Rem_discrete p)

-- ---- a number below p is the only one that differs from an integer by a multiple of p
abbrev pub Of : ℕ → ℤ → ℕ → Type 0
Of p z n = (k : ℤ) × (z ≡ pos n +ℤ pos p *ℤ k)

pub Of_unique : (p : ℕ) (z : ℤ) (u v : ℕ) → u < p → v < p → Of p z u → Of p z v → u ≡ v
Of_unique p z u v l m (j, d) (k, e) =
    let small : nat_abs (pos v +ℤ neg_ℤ (pos u)) < p = omega (arith, ints) in
    let n = none (nat_abs (j +ℤ neg_ℤ k)) (omega (arith, size)) in
    omega (arith, ints, size)
  where
    apart : pos v +ℤ neg_ℤ (pos u) ≡ (j +ℤ neg_ℤ k) *ℤ pos p
    apart = adding (neg_ℤ (pos 1)) d (adding (pos 1) e (rw (parts z, parts j, parts k) (simp differences (omega naturals))))

    size : nat_abs (pos v +ℤ neg_ℤ (pos u)) ≡ nat_abs (j +ℤ neg_ℤ k) * p
    size = ap nat_abs apart ∙ unsigned_abs-mul (j +ℤ neg_ℤ k) (pos p)

    none : (n : ℕ) → n * p < p → n * p ≡ 0
    none zero s = zero-mul p
    none (suc n) s = absurd (omega arith)

-- a remainder is what it is taken of
pub mod_of : (p n : ℕ) (z : ℤ) → Of p z n → Of p z (n % p)
mod_of p n z (k, e) = (k +ℤ pos (n / p), e ∙ adding (pos 1) (ap pos (div-add-mod n p)) (rw (parts k) (simp differences (omega naturals))))

pub self_of : (p n : ℕ) → Of p (pos n) n
self_of p n = (pos 0, simp differences (omega naturals))

module _ (p : ℕ) (h : 1 < p) where
  -- what differs from the same integer by multiples of p is the same remainder
  pub same_of : (z : ℤ) (a b : Rem p) → Of p z a.value → Of p z b.value → a ≡ b
  same_of z a b f g = Rem_path a b (Of_unique p z a.value b.value a.below b.below f g)

  pub plus_of : (z w : ℤ) (a b : Rem p) → Of p z a.value → Of p w b.value → Of p (z +ℤ w) (plus_r p h a b).value
  plus_of z w a b (j, d) (k, e) =
      mod_of p (a.value + b.value) (z +ℤ w) (j +ℤ k, ap₂ ◌+ℤ◌ d e ∙ rw (parts j, parts k) (simp differences (omega naturals)))

  pub times_of : (z w : ℤ) (a b : Rem p) → Of p z a.value → Of p w b.value → Of p (z *ℤ w) (times_r p h a b).value
  times_of z w a b (j, d) (k, e) = mod_of p (a.value * b.value) (z *ℤ w) (
    j *ℤ w +ℤ pos a.value *ℤ k,
    rw (d, e, parts j, parts k) (simp differences (omega naturals)),
  )

  pub minus_of : (z : ℤ) (a : Rem p) → Of p z a.value → Of p (neg_ℤ z) (minus_r p h a).value
  minus_of z a (j, d) = mod_of p (p - a.value) (neg_ℤ z) (
    neg_ℤ j +ℤ neg_ℤ (pos 1),
    adding (pos 1) (ap pos rest) (rw (d, parts j) (simp differences (omega naturals))),
  )
    where
      rest : p - a.value + a.value ≡ p
      rest = let l : a.value < p = a.below in omega arith

  pub whole_of : (z : ℤ) → Of p z (whole_r p h z).value
  whole_of (pos n) = mod_of p n (pos n) (self_of p n)
  whole_of (negsuc n) = minus_of (pos (suc n)) (rem p h (suc n)) (mod_of p (suc n) (pos (suc n)) (self_of p (suc n)))

  -- ---- the integers in it
  pub whole_r_zero : whole_r p h (pos 0) ≡ zero_r p h
  whole_r_zero = Rem_path (whole_r p h (pos 0)) (zero_r p h) (zero-mod p)

  pub whole_r_one : whole_r p h (pos 1) ≡ one_r p h
  whole_r_one = Rem_path (whole_r p h (pos 1)) (one_r p h) (mod-eq_of_lt h)

  pub whole_r_plus : (z w : ℤ) → whole_r p h (z +ℤ w) ≡ plus_r p h (whole_r p h z) (whole_r p h w)
  whole_r_plus z w = same_of (z +ℤ w) (whole_r p h (z +ℤ w)) (plus_r p h (whole_r p h z) (whole_r p h w)) (whole_of (z +ℤ w)) (plus_of z w (whole_r p h z) (whole_r p h w) (whole_of z) (whole_of w))

  -- ---- the laws of a commutative ring
  pub plus_r_comm : (a b : Rem p) → plus_r p h a b ≡ plus_r p h b a
  plus_r_comm a b = ap (rem p h) (add_comm a.value b.value)

  pub plus_r_assoc : (a b c : Rem p) → plus_r p h (plus_r p h a b) c ≡ plus_r p h a (plus_r p h b c)
  plus_r_assoc a b c = Rem_path _ _
      (mod-add-mod (a.value + b.value) p c.value ∙ ap (λ (x : ℕ). x % p) (add_assoc a.value b.value c.value) ∙ sym (add-mod-mod a.value (b.value + c.value) p))

  pub plus_r_zero : (a : Rem p) → plus_r p h a (zero_r p h) ≡ a
  plus_r_zero a = Rem_path (plus_r p h a (zero_r p h)) a (ap (λ (x : ℕ). x % p) (add-zero a.value) ∙ mod-eq_of_lt a.below)

  pub plus_r_minus : (a : Rem p) → plus_r p h a (minus_r p h a) ≡ zero_r p h
  plus_r_minus a = Rem_path _ _ (add-mod-mod a.value (p - a.value) p ∙ ap (λ (x : ℕ). x % p) whole ∙ mod_self p)
    where
      whole : a.value + (p - a.value) ≡ p
      whole = let l : a.value < p = a.below in omega arith

  pub times_r_comm : (a b : Rem p) → times_r p h a b ≡ times_r p h b a
  times_r_comm a b = ap (rem p h) (mul_comm a.value b.value)

  pub times_r_assoc : (a b c : Rem p) → times_r p h (times_r p h a b) c ≡ times_r p h a (times_r p h b c)
  times_r_assoc a b c = Rem_path _ _
      (mul-mod_first (a.value * b.value) c.value p ∙ ap (λ (x : ℕ). x % p) (mul_assoc a.value b.value c.value) ∙ sym (mul-mod_second a.value (b.value * c.value) p))

  pub times_r_one : (a : Rem p) → times_r p h a (one_r p h) ≡ a
  times_r_one a = Rem_path (times_r p h a (one_r p h)) a (ap (λ (x : ℕ). x % p) (mul-one a.value) ∙ mod-eq_of_lt a.below)

  pub times_r_plus : (a b c : Rem p) → times_r p h a (plus_r p h b c) ≡ plus_r p h (times_r p h a b) (times_r p h a c)
  times_r_plus a b c = Rem_path _ _
      (mul-mod_second a.value (b.value + c.value) p ∙ ap (λ (x : ℕ). x % p) (mul-add a.value b.value c.value) ∙ add-mod (a.value * b.value) (a.value * c.value) p)

  pub one_r_zero : one_r p h ≢ zero_r p h
  one_r_zero e = let f : ◌≡◌ {A = ℕ} 1 0 = ap (λ (x : Rem p). x.value) e in omega arith
