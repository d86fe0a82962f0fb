-- Counting with remainders as numbers: the step of Euclid's rule that finds a reciprocal, and what the numbers tell of the remainders. Assumes nothing.
use Rattle.std.proofs.Common.{◌≡◌, ℕ, ◌+◌, ◌-◌, ◌*◌, ◌/◌, ◌%◌, ◌<◌, ◌≢◌, ◌==◌, Decides, ℤ, pos, ◌+ℤ◌, ◌*ℤ◌, neg_ℤ, ap, ◌∙◌, mod-lt, arith}
use native.Mathlib.Nat.{div-add-mod}
use Rattle.std.proofs.Math.Bridge.{le_prop}
use Rattle.std.proofs.lemmas.Bool.Decides.{Decides-eqb, Decides-like}
use Rattle.integers.specs.Divisors.{gcd, Prime}
use Rattle.integers.proofs.Primes.{prime_coprime}
use Rattle.integers.proofs.Equations.{parts, differences, naturals, adding}
use Rattle.algebra.specs.Remainder.{Rem, zero_r, whole_r}
use Rattle.remainders.specs.Moduli.{modulus}
use Rattle.remainders.specs.Remainders.{exact_r}
use Rattle.remainders.specs.declared.Remainder.{Remainder}
use Rattle.algebra.proofs.RemainderLaws.{Of, Of_unique, Rem_path, mod_of, self_of}

-- numbers with the same remainder differ by a multiple of m, and the other way round
apart : (m x y : ℕ) → x % m ≡ y % m → Of m (pos x) y
apart m x y e = (pos (x / m) +ℤ neg_ℤ (pos (y / m)), simp differences (omega (naturals, div-add-mod x m, div-add-mod y m)))

same : (m x y : ℕ) → 0 < m → Of m (pos x) y → x % m ≡ y % m
same m x y l o = Of_unique m (pos x) (x % m) (y % m) (mod-lt x l) (mod-lt y l) (mod_of m x (pos x) (self_of m x)) (mod_of m y (pos x) o)

-- high is q low + r, and each number on the left is the one on the right but for a multiple of m: so is a f that of r
left_over : (m a hf lf high low q r s t f : ℕ) (u v x y : ℤ) → low * q + r ≡ high → t + s ≡ m → pos (hf + t) ≡ pos f +ℤ pos m *ℤ u → pos (q * lf) ≡ pos s +ℤ pos m *ℤ v
    → pos (a * hf) ≡ pos high +ℤ pos m *ℤ x → pos (a * lf) ≡ pos low +ℤ pos m *ℤ y → pos (a * f) ≡ pos r +ℤ pos m *ℤ (pos a +ℤ x +ℤ pos a *ℤ v +ℤ neg_ℤ (pos a *ℤ u) +ℤ neg_ℤ (pos q *ℤ y))
left_over m a hf lf high low q r s t f u v x y split whole e g h j =
    adding (pos a) e (adding (neg_ℤ (pos a)) (ap pos whole) (adding (neg_ℤ (pos a)) g (adding (neg_ℤ (pos 1)) h (adding (pos q) j
    (rw (← split, parts u, parts v, parts x, parts y) (simp differences (omega naturals)))))))

-- where high and low are, but for multiples of m, a times their factors, so is what low leaves of high
pub rest_of : (m a hf lf high low : ℕ) → 0 < m → a * hf % m ≡ high % m → a * lf % m ≡ low % m → a * ((hf + (m - high / low * lf % m)) % m) % m ≡ (high % low) % m
rest_of m a hf lf high low l h j = same m (a * f) (high % low) l (_, left_over m a hf lf high low q (high % low) s (m - s) f fo.0 so.0 ho.0 lo.0 (div-add-mod high low) whole fo.1 so.1 ho.1 lo.1)
  where
    -- how often low goes into high, what that takes from the factor of high, and what is left of it
    q : ℕ
    q = high / low

    s : ℕ
    s = q * lf % m

    f : ℕ
    f = (hf + (m - s)) % m

    whole : m - s + s ≡ m
    whole = let b : s < m = mod-lt (q * lf) l in omega arith

    ho : Of m (pos (a * hf)) high
    ho = apart m (a * hf) high h

    lo : Of m (pos (a * lf)) low
    lo = apart m (a * lf) low j

    so : Of m (pos (q * lf)) s
    so = mod_of m (q * lf) (pos (q * lf)) (self_of m (q * lf))

    fo : Of m (pos (hf + (m - s))) f
    fo = mod_of m (hf + (m - s)) (pos (hf + (m - s))) (self_of m (hf + (m - s)))

-- remainders are the same exactly when their numbers are
pub told_apart : {p : ℕ} (a b : Rem p) → Decides (a.value == b.value) (a ≡ b)
told_apart {p} a b = Decides-like (a.value == b.value) (Rem_path a b) (λ e. ap (λ (r : Rem p). r.value) e) (Decides-eqb a.value b.value)

-- .. and so is what two stored ones stand for
pub numbers_tell : (a b : Remainder) → Decides (a.value == b.value) (exact_r a ≡ exact_r b)
numbers_tell a b = told_apart (exact_r a) (exact_r b)

-- `Rem_path` at the modulus of REST, which the tactics do not find by themselves
pub same_value : (a b : Rem modulus) → a.value ≡ b.value → a ≡ b
same_value a b e = Rem_path a b e

-- the remainder of a whole number, whichever proof there is that the modulus is above 1
pub whole_same : (p : ℕ) (h j : 1 < p) (z w : ℤ) → z ≡ w → (whole_r p h z).value ≡ (whole_r p j w).value
whole_same p h j z w e = ap (λ (h : 1 < p). (whole_r p h z).value) (le_prop h j) ∙ ap (λ (z : ℤ). (whole_r p j z).value) e

-- a remainder by a prime that is not zero has no divisor in common with it
pub coprime_value : (p : ℕ) (P : Prime p) (b : Rem p) → b ≢ zero_r p P.0 → gcd b.value p ≡ 1
coprime_value p P b n =
    let m : b.value ≢ 0 = λ e. n (Rem_path b (zero_r p P.0) e) in prime_coprime p b.value P (omega arith) b.below
