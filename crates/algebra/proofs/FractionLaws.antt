-- Exact fractions keep the laws of a field. Assumes nothing.
use Rattle.std.proofs.Common.{◌≡◌, ℕ, suc, ◌*◌, ◌<◌, ◌≢◌, ℤ, pos, negsuc, ◌+ℤ◌, ◌*ℤ◌, neg_ℤ, nat_abs, sym, refl, ap, ◌∙◌, mul_comm, mul-pos, arith}
use mathlib.Core.HLevel.{is_prop→PathP, hedberg}
use Prim.Native.Nat as Nat
use Prim.Native.Nat.{◌∣◌}
use native.Mathlib.Nat.{div-mul_cancel, dvd_antisymm, ℕ_set}
use native.Mathlib.Bridge.{le_prop}
use native.Mathlib.Decide.{ℕ_discrete}
use Rattle.std.proofs.Math.Nat.{zero-lt-suc}
use lib.IntN.{ℤ_discrete}
use Rattle.integers.specs.Divisors.{gcd}
use Rattle.integers.proofs.GcdLaws.{gcd_left, gcd_right, coprime_dvd}
use Rattle.std.proofs.lemmas.Int.{unsigned_abs-mul}
use Rattle.integers.proofs.Sizes.{quot_times, cancel}
use Rattle.integers.proofs.Equations.{parts, differences, naturals, adding}
use Rattle.algebra.specs.Fraction.{Q, normal, plus_q, times_q, minus_q, zero_q, one_q, over_by, over_q}

pub Q_path : (p q : Q) → p.num ≡ q.num → p.den ≡ q.den → p ≡ q
Q_path p q e f = λ i. record {
  num = e i;
  den = f i;
  den_pos = is_prop→PathP (λ j. 0 < f j) (λ j. le_prop) p.den_pos q.den_pos i;
  low = is_prop→PathP (λ j. gcd (nat_abs (e j)) (f j) ≡ 1) (λ j. ℕ_set (gcd (nat_abs (e j)) (f j)) 1) p.low q.low i;
}

-- ---- equal fractions in lowest terms are the same
half : (p q : Q) → p.num *ℤ pos q.den ≡ q.num *ℤ pos p.den → p.den ∣ q.den
half p q e = coprime_dvd (nat_abs p.num) p.den q.den p.low (∣◌∣₁ (nat_abs q.num, sizes))
  where
    sizes : nat_abs p.num * q.den ≡ p.den * nat_abs q.num
    sizes = sym (unsigned_abs-mul p.num (pos q.den)) ∙ ap nat_abs e ∙ unsigned_abs-mul q.num (pos p.den) ∙ mul_comm (nat_abs q.num) p.den

pub lowest : (p q : Q) → p.num *ℤ pos q.den ≡ q.num *ℤ pos p.den → p ≡ q
lowest p q e = Q_path p q (cancel p.num q.num q.den q.den_pos (e ∙ ap (λ (d : ℕ). q.num *ℤ pos d) dens)) dens
  where
    dens : p.den ≡ q.den
    dens = dvd_antisymm (half p q e) (half q p (sym e))

-- ---- what lowest terms stand for
normal_num : (n : ℤ) (d : ℕ) (h : 0 < d) → (normal n d h).num *ℤ pos (gcd (nat_abs n) d) ≡ n
unfolding normal
normal_num n d h = quot_times n (gcd (nat_abs n) d) (gcd_left (nat_abs n) d)

normal_den : (n : ℤ) (d : ℕ) (h : 0 < d) → (normal n d h).den * gcd (nat_abs n) d ≡ d
unfolding normal
normal_den n d h = div-mul_cancel (gcd (nat_abs n) d) (gcd_right (nat_abs n) d)

pub normal_rep : (n : ℤ) (d : ℕ) (h : 0 < d) → (normal n d h).num *ℤ pos d ≡ n *ℤ pos (normal n d h).den
normal_rep n d h =
    adding q.num (ap pos (normal_den n d h)) (adding (neg_ℤ (pos q.den)) (normal_num n d h) (rw (parts q.num, parts n) (simp differences (omega naturals))))
  where
    q : Q
    q = normal n d h

pub normal_self : (q : Q) → normal q.num q.den q.den_pos ≡ q
normal_self q = lowest (normal q.num q.den q.den_pos) q (normal_rep q.num q.den q.den_pos)

pub normal_eq : (n : ℤ) (d : ℕ) (h : 0 < d) (m : ℤ) (e : ℕ) (k : 0 < e) → n *ℤ pos e ≡ m *ℤ pos d → normal n d h ≡ normal m e k
normal_eq n d h m e k c = lowest p q (cancel (p.num *ℤ pos q.den) (q.num *ℤ pos p.den) (d * e) (mul-pos h k) same)
  where
    p : Q
    p = normal n d h

    q : Q
    q = normal m e k

    -- N d = n D, M e = m E, n e = m d: (N E)(d e) = (M D)(d e)
    same : p.num *ℤ pos q.den *ℤ pos (d * e) ≡ q.num *ℤ pos p.den *ℤ pos (d * e)
    same =
        adding (neg_ℤ (pos (q.den * e))) (normal_rep n d h)
        (adding (pos (p.den * d)) (normal_rep m e k)
        (adding (neg_ℤ (pos (p.den * q.den))) c (rw (parts p.num, parts q.num, parts n, parts m) (simp differences (omega naturals)))))

-- ---- at any representatives
plus_normal : (a : ℤ) (b : ℕ) (h : 0 < b) (c : ℤ) (d : ℕ) (k : 0 < d)
    → plus_q (normal a b h) (normal c d k) ≡ normal (a *ℤ pos d +ℤ c *ℤ pos b) (b * d) (mul-pos h k)
unfolding plus_q
plus_normal a b h c d k =
    normal_eq _ _ _ _ _ _
    (adding (neg_ℤ (pos (q.den * d))) (normal_rep a b h)
    (adding (neg_ℤ (pos (p.den * b))) (normal_rep c d k) (rw (parts p.num, parts q.num, parts a, parts c) (simp differences (omega naturals)))))
  where
    p : Q
    p = normal a b h

    q : Q
    q = normal c d k

times_normal : (a : ℤ) (b : ℕ) (h : 0 < b) (c : ℤ) (d : ℕ) (k : 0 < d)
    → times_q (normal a b h) (normal c d k) ≡ normal (a *ℤ c) (b * d) (mul-pos h k)
unfolding times_q
times_normal a b h c d k =
    normal_eq _ _ _ _ _ _
    (adding (neg_ℤ (q.num *ℤ pos d)) (normal_rep a b h)
    (adding (neg_ℤ (a *ℤ pos p.den)) (normal_rep c d k) (rw (parts p.num, parts q.num, parts a, parts c) (simp differences (omega naturals)))))
  where
    p : Q
    p = normal a b h

    q : Q
    q = normal c d k

-- a fraction as a normal form, to put into the two above
as_normal : (f : Q → Q) (q : Q) → f q ≡ f (normal q.num q.den q.den_pos)
as_normal f q = ap f (sym (normal_self q))

-- ---- the laws
pub plus_q_comm : (p q : Q) → plus_q p q ≡ plus_q q p
unfolding plus_q
plus_q_comm p q = normal_eq _ _ _ _ _ _ (rw (parts p.num, parts q.num) (simp differences (omega naturals)))

pub times_q_comm : (p q : Q) → times_q p q ≡ times_q q p
unfolding times_q
times_q_comm p q = normal_eq _ _ _ _ _ _ (rw (parts p.num, parts q.num) (simp differences (omega naturals)))

pub plus_q_assoc : (p q r : Q) → plus_q (plus_q p q) r ≡ plus_q p (plus_q q r)
unfolding plus_q
plus_q_assoc p q r =
    as_normal (plus_q (plus_q p q)) r ∙ plus_normal _ _ _ _ _ _
    ∙ normal_eq _ _ _ _ _ _ (rw (parts p.num, parts q.num, parts r.num) (simp differences (omega naturals)))
    ∙ sym (as_normal (λ x. plus_q x (plus_q q r)) p ∙ plus_normal _ _ _ _ _ _)

pub times_q_assoc : (p q r : Q) → times_q (times_q p q) r ≡ times_q p (times_q q r)
unfolding times_q
times_q_assoc p q r =
    as_normal (times_q (times_q p q)) r ∙ times_normal _ _ _ _ _ _
    ∙ normal_eq _ _ _ _ _ _ (rw (parts p.num, parts q.num, parts r.num) (simp differences (omega naturals)))
    ∙ sym (as_normal (λ x. times_q x (times_q q r)) p ∙ times_normal _ _ _ _ _ _)

pub times_q-plus_q : (p q r : Q) → times_q p (plus_q q r) ≡ plus_q (times_q p q) (times_q p r)
unfolding times_q plus_q
times_q-plus_q p q r =
    as_normal (λ x. times_q x (plus_q q r)) p ∙ times_normal _ _ _ _ _ _
    ∙ normal_eq _ _ _ _ _ _ (rw (parts p.num, parts q.num, parts r.num) (simp differences (omega naturals)))
    ∙ sym (plus_normal _ _ _ _ _ _)

pub plus_q_zero : (p : Q) → plus_q p zero_q ≡ p
unfolding plus_q
plus_q_zero p =
    normal_eq _ _ _ p.num p.den p.den_pos (rw (parts p.num) (simp differences (omega naturals))) ∙ normal_self p

pub plus_q_minus : (p : Q) → plus_q p (minus_q p) ≡ zero_q
unfolding plus_q minus_q
plus_q_minus p =
    as_normal (λ x. plus_q x (minus_q p)) p ∙ plus_normal _ _ _ _ _ _
    ∙ normal_eq _ _ _ (pos 0) 1 (zero-lt-suc 0) (rw (parts p.num) (simp differences (omega naturals))) ∙ normal_self zero_q

pub times_q_one : (p : Q) → times_q p one_q ≡ p
unfolding times_q
times_q_one p = normal_eq _ _ _ p.num p.den p.den_pos (rw (parts p.num) (simp differences (omega naturals))) ∙ normal_self p

pub zero_num : (p : Q) → p.num ≡ pos 0 → p ≡ zero_q
zero_num p e = lowest p zero_q (rw e (simp differences (omega naturals)))

pub times_q_over : (p : Q) → p ≢ zero_q → times_q p (over_q p) ≡ one_q
unfolding over_q over_by
times_q_over p n = as_normal (λ x. times_q x (over_q p)) p ∙ go p.num p.den p.den_pos (λ e. n (zero_num p e))
  where
    go : (z : ℤ) (d : ℕ) (h : 0 < d) → z ≢ pos 0 → times_q (normal z d h) (over_by z d h) ≡ one_q
    go (pos Nat.zero) d h n = absurd (n refl)
    go (pos (suc k)) d h n =
        times_normal _ _ _ _ _ _ ∙ normal_eq _ _ _ (pos 1) 1 (zero-lt-suc 0) (simp differences (omega naturals)) ∙ normal_self one_q
    go (negsuc k) d h n =
        times_normal _ _ _ _ _ _ ∙ normal_eq _ _ _ (pos 1) 1 (zero-lt-suc 0) (simp differences (omega naturals)) ∙ normal_self one_q

pub one_q_zero : one_q ≢ zero_q
one_q_zero e = let h : ◌≡◌ {A = ℕ} 1 0 = ap (λ (q : Q). nat_abs q.num) e in omega arith

Q_discrete : Discrete Q
Q_discrete p q = go (ℤ_discrete p.num q.num) (ℕ_discrete p.den q.den)
  where
    go : Dec (p.num ≡ q.num) → Dec (p.den ≡ q.den) → Dec (p ≡ q)
    go (yes e) (yes f) = yes (Q_path p q e f)
    go (yes e) (no f) = no (λ h. f (ap (λ (x : Q). x.den) h))
    go (no e) f = no (λ h. e (ap (λ (x : Q). x.num) h))

pub Q_set : IsSet Q
Q_set = hedberg Q_discrete
