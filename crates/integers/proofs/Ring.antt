-- A solver for equations of commutative rings. Assumes nothing.
--     Expr             an expression in variables, O, I, numerals, ⊕, ⊖, ⊗ and ⊝
--     ring₁ .. ring₆   an equation between two expressions that hold of all values
--     combine          an equation that follows from others, each given with the factor that it is multiplied by
use Rattle.std.proofs.Common.{◌≡◌, ℕ, suc, Bool, true, false, T, eqb, ltb, List, [], ◌∷◌, ℤ, pos, negsuc, ◌+ℤ◌, ◌*ℤ◌, neg_ℤ, sym, refl, ap, ◌∙◌, ap₂, eqb→eq}
use mathlib.Core.Path.{◌≡⟨◌⟩◌, ◌∎}
use Prim.Native.Nat as Nat
use lib.IntN.{suc_ℤ, pred_ℤ, +ℤ-suc_ℤ, +ℤ-pred_ℤ, suc_ℤ-*ℤ, pred_ℤ-*ℤ, +ℤ_idr, zero-*ℤ}

pub record CommRing : Type 1 where
  pub Value : Type 0
  pub zero : Value
  pub one : Value
  pub plus : Value → Value → Value
  pub times : Value → Value → Value
  pub minus : Value → Value
  pub plus_assoc : (a b c : Value) → plus (plus a b) c ≡ plus a (plus b c)
  pub plus_comm : (a b : Value) → plus a b ≡ plus b a
  pub plus_zero : (a : Value) → plus a zero ≡ a
  pub plus_minus : (a : Value) → plus a (minus a) ≡ zero
  pub times_assoc : (a b c : Value) → times (times a b) c ≡ times a (times b c)
  pub times_comm : (a b : Value) → times a b ≡ times b a
  pub times_one : (a : Value) → times a one ≡ a
  pub times_plus : (a b c : Value) → times a (plus b c) ≡ plus (times a b) (times a c)

-- ---- the syntax
infixl 6 ◌⊕◌
infixl 6 ◌⊖◌
infixl 7 ◌⊗◌
pub data Expr : Type 0 where
  var : ℕ → Expr
  O : Expr
  I : Expr
  num : ℤ → Expr
  ◌⊕◌ : Expr → Expr → Expr
  ◌⊖◌ : Expr → Expr → Expr
  ◌⊗◌ : Expr → Expr → Expr
  ⊝ : Expr → Expr

-- ---- the normal form: a list of terms, each a number that is not 0 and a list of variables in order; the lists of variables stand in order
abbrev pub Mono : Type 0
Mono = List ℕ

abbrev pub Poly : Type 0
Poly = List (ℤ × Mono)

-- the product of two monomials
abbrev pub ins : ℕ → Mono → Mono
ins x [] = x ∷ []
ins x (y ∷ m) = elim (ltb y x) [ true ↦ y ∷ ins x m | false ↦ x ∷ y ∷ m ]

abbrev pub join : Mono → Mono → Mono
join [] n = n
join (x ∷ m) n = ins x (join m n)

-- which of two monomials stands first
pub data Three : Type 0 where
  first same second : Three

abbrev pub pick : Bool → Bool → Three → Three
pick true b r = first
pick false true r = r
pick false false r = second

abbrev pub order : Mono → Mono → Three
order [] [] = same
order [] (y ∷ n) = first
order (x ∷ m) [] = second
order (x ∷ m) (y ∷ n) = pick (ltb x y) (eqb x y) (order m n)

-- a term before a polynomial, unless it is 0
abbrev pub lead : ℤ → Mono → Poly → Poly
lead (pos Nat.zero) m p = p
lead (pos (suc k)) m p = (pos (suc k), m) ∷ p
lead (negsuc k) m p = (negsuc k, m) ∷ p

abbrev pub add1 : ℤ → Mono → Poly → Poly
add1 c m [] = lead c m []
add1 c m (t ∷ p) = elim (order m t.1) [ first ↦ lead c m (t ∷ p) | same ↦ lead (c +ℤ t.0) m p | second ↦ t ∷ add1 c m p ]

abbrev pub add : Poly → Poly → Poly
add [] q = q
add (t ∷ p) q = add1 t.0 t.1 (add p q)

abbrev pub mul1 : ℤ → Mono → Poly → Poly
mul1 c m [] = []
mul1 c m (t ∷ p) = add1 (c *ℤ t.0) (join m t.1) (mul1 c m p)

abbrev pub mul : Poly → Poly → Poly
mul [] q = []
mul (t ∷ p) q = add (mul1 t.0 t.1 q) (mul p q)

abbrev pub norm : Expr → Poly
norm (var i) = (pos 1, i ∷ []) ∷ []
norm O = []
norm I = (pos 1, []) ∷ []
norm (num k) = lead k [] []
norm (d ⊕ e) = add (norm d) (norm e)
norm (d ⊖ e) = add (norm d) (mul1 (negsuc 0) [] (norm e))
norm (d ⊗ e) = mul (norm d) (norm e)
norm (⊝ e) = mul1 (negsuc 0) [] (norm e)

-- what is left over of the difference of two sides that are not equal: no proof. The name is what a refusal shows
pub data TheseTermsAreLeftOfLhsMinusRhs (p : Poly) : Type 0 where

abbrev pub Nothing : Poly → Type 0
Nothing [] = Unit {0}
Nothing (t ∷ p) = TheseTermsAreLeftOfLhsMinusRhs (t ∷ p)

-- equal monomials are equal
abbrev IsSame : Three → Type 0
IsSame first = ⊥
IsSame same = Unit {0}
IsSame second = ⊥

order_same : (m n : Mono) → IsSame (order m n) → m ≡ n
order_same [] [] h = refl
order_same [] (y ∷ n) h = absurd h
order_same (x ∷ m) [] h = absurd h
order_same (x ∷ m) (y ∷ n) h = go (ltb x y) (eqb x y) (eqb→eq x y) (order m n) (order_same m n) h
  where
    go : (b c : Bool) → (T c → x ≡ y) → (o : Three) → (IsSame o → m ≡ n) → IsSame (pick b c o) → ◌≡◌ {A = Mono} (x ∷ m) (y ∷ n)
    go true c e o ih h = absurd h
    go false true e o ih h = ap₂ (λ (k : ℕ) (l : Mono). k ∷ l) (e tt) (ih h)
    go false false e o ih h = absurd h

module _ (R : CommRing) where
  open R use {Value, zero, one, plus as ◌+◌, times as ◌*◌, minus as -◌, plus_assoc, plus_comm, plus_zero, plus_minus, times_assoc, times_comm, times_one, times_plus}

  infixl 6 ◌+◌
  infixl 7 ◌*◌
  infix 8 -◌
  -- ---- what every commutative ring has
  pub zero_plus : (a : Value) → zero + a ≡ a
  zero_plus a = plus_comm zero a ∙ plus_zero a

  pub plus_left_comm : (a b c : Value) → a + (b + c) ≡ b + (a + c)
  plus_left_comm a b c = sym (plus_assoc a b c) ∙ ap (λ x. x + c) (plus_comm a b) ∙ plus_assoc b a c

  pub times_left_comm : (a b c : Value) → a * (b * c) ≡ b * (a * c)
  times_left_comm a b c = sym (times_assoc a b c) ∙ ap (λ x. x * c) (times_comm a b) ∙ times_assoc b a c

  pub one_times : (a : Value) → one * a ≡ a
  one_times a = times_comm one a ∙ times_one a

  pub plus_times : (a b c : Value) → (a + b) * c ≡ a * c + b * c
  plus_times a b c = times_comm (a + b) c ∙ times_plus c a b ∙ ap₂ ◌+◌ (times_comm c a) (times_comm c b)

  pub minus_unique : (a b : Value) → a + b ≡ zero → b ≡ - a
  minus_unique a b h =
      b ≡⟨ sym (plus_zero b) ⟩
      b + zero ≡⟨ ap (λ x. b + x) (sym (plus_minus a)) ⟩
      b + (a + - a) ≡⟨ sym (plus_assoc b a (- a)) ∙ ap (λ x. x + - a) (plus_comm b a ∙ h) ⟩
      zero + - a ≡⟨ zero_plus (- a) ⟩
      - a ∎

  pub double_zero : (x : Value) → x + x ≡ x → x ≡ zero
  double_zero x h = sym (plus_zero x) ∙ ap (λ y. x + y) (sym (plus_minus x)) ∙ sym (plus_assoc x x (- x)) ∙ ap (λ y. y + - x) h ∙ plus_minus x

  pub times_zero : (a : Value) → a * zero ≡ zero
  times_zero a = double_zero (a * zero) (sym (times_plus a zero zero) ∙ ap (λ x. a * x) (plus_zero zero))

  pub zero_times : (a : Value) → zero * a ≡ zero
  zero_times a = times_comm zero a ∙ times_zero a

  pub times_minus : (a b : Value) → a * - b ≡ - (a * b)
  times_minus a b = minus_unique (a * b) (a * - b) (sym (times_plus a b (- b)) ∙ ap (λ x. a * x) (plus_minus b) ∙ times_zero a)

  pub minus_times : (a b : Value) → (- a) * b ≡ - (a * b)
  minus_times a b = times_comm (- a) b ∙ times_minus b a ∙ ap -◌ (times_comm b a)

  pub minus_plus : (a b : Value) → - (a + b) ≡ - a + - b
  minus_plus a b = sym (minus_unique (a + b) (- a + - b)
      (plus_assoc a b (- a + - b) ∙ ap (λ x. a + x) (plus_left_comm b (- a) (- b) ∙ ap (λ x. - a + x) (plus_minus b) ∙ plus_zero (- a)) ∙ plus_minus a))

  pub minus_minus_unique : (a b : Value) → a + - b ≡ zero → a ≡ b
  minus_minus_unique a b h =
      sym (plus_zero a) ∙ ap (λ x. a + x) (sym (plus_comm (- b) b ∙ plus_minus b)) ∙ sym (plus_assoc a (- b) b) ∙ ap (λ x. x + b) h ∙ zero_plus b

  pub minus_zero : - zero ≡ zero
  minus_zero = sym (minus_unique zero zero (plus_zero zero))

  -- ---- the integers in it
  abbrev pub castℕ : ℕ → Value
  castℕ Nat.zero = zero
  castℕ (suc n) = castℕ n + one

  abbrev pub cast : ℤ → Value
  cast (pos n) = castℕ n
  cast (negsuc n) = - castℕ (suc n)

  one_off : (x : Value) → - x ≡ - (x + one) + one
  one_off x = sym (ap (λ y. y + one) (minus_plus x one) ∙ plus_assoc (- x) (- one) one ∙ ap (λ y. - x + y) (plus_comm (- one) one ∙ plus_minus one) ∙ plus_zero (- x))

  one_on : (x : Value) → x ≡ x + one + - one
  one_on x = sym (plus_assoc x one (- one) ∙ ap (λ y. x + y) (plus_minus one) ∙ plus_zero x)

  cast_suc : (k : ℤ) → cast (suc_ℤ k) ≡ cast k + one
  cast_suc (pos n) = refl
  cast_suc (negsuc Nat.zero) = sym minus_zero ∙ one_off zero
  cast_suc (negsuc (suc n)) = one_off (castℕ (suc n))

  cast_pred : (k : ℤ) → cast (pred_ℤ k) ≡ cast k + - one
  cast_pred (pos Nat.zero) = minus_plus zero one ∙ ap (λ x. x + - one) minus_zero
  cast_pred (pos (suc n)) = one_on (castℕ n)
  cast_pred (negsuc n) = minus_plus (castℕ (suc n)) one

  cast_plus : (m k : ℤ) → cast (m +ℤ k) ≡ cast m + cast k
  cast_plus m (pos Nat.zero) = ap cast (+ℤ_idr m) ∙ sym (plus_zero (cast m))
  cast_plus m (pos (suc n)) = ap cast (+ℤ-suc_ℤ m (pos n)) ∙ cast_suc (m +ℤ pos n) ∙ ap (λ x. x + one) (cast_plus m (pos n)) ∙ plus_assoc (cast m) (castℕ n) one
  cast_plus m (negsuc Nat.zero) = ap cast (+ℤ-pred_ℤ m (pos 0)) ∙ cast_pred (m +ℤ pos 0) ∙ ap₂ (λ x y. x + y) (ap cast (+ℤ_idr m)) (ap -◌ (sym (zero_plus one)))
  cast_plus m (negsuc (suc n)) =
      ap cast (+ℤ-pred_ℤ m (negsuc n)) ∙ cast_pred (m +ℤ negsuc n) ∙ ap (λ x. x + - one) (cast_plus m (negsuc n)) ∙ plus_assoc (cast m) (cast (negsuc n)) (- one)
      ∙ ap (λ x. cast m + x) (sym (cast_pred (negsuc n)))

  cast_neg : (k : ℤ) → cast (neg_ℤ k) ≡ - cast k
  cast_neg (pos Nat.zero) = sym minus_zero
  cast_neg (pos (suc n)) = refl
  cast_neg (negsuc n) = minus_unique (- castℕ (suc n)) (castℕ (suc n)) (plus_comm (- castℕ (suc n)) (castℕ (suc n)) ∙ plus_minus (castℕ (suc n)))

  less : (m k : ℤ) → cast (m *ℤ k) ≡ cast m * cast k → cast (pred_ℤ m *ℤ k) ≡ cast (pred_ℤ m) * cast k
  less m k h = ap cast (pred_ℤ-*ℤ m k) ∙ cast_plus (m *ℤ k) (neg_ℤ k)
      ∙ ap₂ ◌+◌ h (cast_neg k ∙ ap -◌ (sym (one_times (cast k))) ∙ sym (minus_times one (cast k)))
      ∙ sym (plus_times (cast m) (- one) (cast k)) ∙ ap (λ x. x * cast k) (sym (cast_pred m))

  cast_times : (m k : ℤ) → cast (m *ℤ k) ≡ cast m * cast k
  cast_times (pos Nat.zero) k = ap cast (zero-*ℤ k) ∙ sym (zero_times (cast k))
  cast_times (pos (suc n)) k = more (pos n) k (cast_times (pos n) k)
    where
      more : (m k : ℤ) → cast (m *ℤ k) ≡ cast m * cast k → cast (suc_ℤ m *ℤ k) ≡ cast (suc_ℤ m) * cast k
      more m k h = ap cast (suc_ℤ-*ℤ m k) ∙ cast_plus (m *ℤ k) k ∙ ap₂ ◌+◌ h (sym (one_times (cast k))) ∙ sym (plus_times (cast m) one (cast k)) ∙ ap (λ x. x * cast k) (sym (cast_suc m))
  cast_times (negsuc Nat.zero) k = less (pos 0) k (ap cast (zero-*ℤ k) ∙ sym (zero_times (cast k)))
  cast_times (negsuc (suc n)) k = less (negsuc n) k (cast_times (negsuc n) k)

  -- ---- what an expression and its normal form stand for
  abbrev pub den : (ℕ → Value) → Expr → Value
  den ρ (var i) = ρ i
  den ρ O = zero
  den ρ I = one
  den ρ (num k) = cast k
  den ρ (d ⊕ e) = den ρ d + den ρ e
  den ρ (d ⊖ e) = den ρ d + - den ρ e
  den ρ (d ⊗ e) = den ρ d * den ρ e
  den ρ (⊝ e) = - den ρ e

  module _ (ρ : ℕ → Value) where
    abbrev mono : Mono → Value
    mono [] = one
    mono (x ∷ m) = ρ x * mono m

    abbrev poly : Poly → Value
    poly [] = zero
    poly (t ∷ p) = cast t.0 * mono t.1 + poly p

    mono_ins : (x : ℕ) (m : Mono) → mono (ins x m) ≡ ρ x * mono m
    mono_ins x [] = refl
    mono_ins x (y ∷ m) = go (ltb y x) (mono_ins x m)
      where
        go : (b : Bool) → mono (ins x m) ≡ ρ x * mono m → mono (elim b [ true ↦ y ∷ ins x m | false ↦ x ∷ y ∷ m ]) ≡ ρ x * (ρ y * mono m)
        go true ih = ap (λ z. ρ y * z) ih ∙ times_left_comm (ρ y) (ρ x) (mono m)
        go false ih = refl

    mono_join : (m n : Mono) → mono (join m n) ≡ mono m * mono n
    mono_join [] n = sym (one_times (mono n))
    mono_join (x ∷ m) n = mono_ins x (join m n) ∙ ap (λ z. ρ x * z) (mono_join m n) ∙ sym (times_assoc (ρ x) (mono m) (mono n))

    lead_sound : (c : ℤ) (m : Mono) (p : Poly) → poly (lead c m p) ≡ cast c * mono m + poly p
    lead_sound (pos Nat.zero) m p = sym (ap (λ z. z + poly p) (zero_times (mono m)) ∙ zero_plus (poly p))
    lead_sound (pos (suc k)) m p = refl
    lead_sound (negsuc k) m p = refl

    add1_sound : (c : ℤ) (m : Mono) (p : Poly) → poly (add1 c m p) ≡ cast c * mono m + poly p
    add1_sound c m [] = lead_sound c m []
    add1_sound c m (t ∷ p) = go (order m t.1) (order_same m t.1) (add1_sound c m p)
      where
        go : (o : Three) → (IsSame o → m ≡ t.1) → poly (add1 c m p) ≡ cast c * mono m + poly p
            → poly (elim o [ first ↦ lead c m (t ∷ p) | same ↦ lead (c +ℤ t.0) m p | second ↦ t ∷ add1 c m p ]) ≡ cast c * mono m + (cast t.0 * mono t.1 + poly p)
        go first e ih = lead_sound c m (t ∷ p)
        go same e ih =
            lead_sound (c +ℤ t.0) m p
            ∙ ap (λ z. z + poly p) (ap (λ z. z * mono m) (cast_plus c t.0) ∙ plus_times (cast c) (cast t.0) (mono m))
            ∙ plus_assoc (cast c * mono m) (cast t.0 * mono m) (poly p)
            ∙ ap (λ z. cast c * mono m + (cast t.0 * mono z + poly p)) (e tt)
        go second e ih = ap (λ z. cast t.0 * mono t.1 + z) ih ∙ plus_left_comm (cast t.0 * mono t.1) (cast c * mono m) (poly p)

    add_sound : (p q : Poly) → poly (add p q) ≡ poly p + poly q
    add_sound [] q = sym (zero_plus (poly q))
    add_sound (t ∷ p) q =
        add1_sound t.0 t.1 (add p q) ∙ ap (λ z. cast t.0 * mono t.1 + z) (add_sound p q)
        ∙ sym (plus_assoc (cast t.0 * mono t.1) (poly p) (poly q))

    cross : (a b c d : Value) → (a * b) * (c * d) ≡ (a * c) * (b * d)
    cross a b c d = times_assoc a b (c * d) ∙ ap (λ z. a * z) (times_left_comm b c d) ∙ sym (times_assoc a c (b * d))

    mul1_sound : (c : ℤ) (m : Mono) (p : Poly) → poly (mul1 c m p) ≡ (cast c * mono m) * poly p
    mul1_sound c m [] = sym (times_zero (cast c * mono m))
    mul1_sound c m (t ∷ p) =
        add1_sound (c *ℤ t.0) (join m t.1) (mul1 c m p)
        ∙ ap₂ ◌+◌ (ap₂ ◌*◌ (cast_times c t.0) (mono_join m t.1) ∙ cross (cast c) (cast t.0) (mono m) (mono t.1)) (mul1_sound c m p)
        ∙ sym (times_plus (cast c * mono m) (cast t.0 * mono t.1) (poly p))

    mul_sound : (p q : Poly) → poly (mul p q) ≡ poly p * poly q
    mul_sound [] q = sym (zero_times (poly q))
    mul_sound (t ∷ p) q =
        add_sound (mul1 t.0 t.1 q) (mul p q) ∙ ap₂ ◌+◌ (mul1_sound t.0 t.1 q) (mul_sound p q)
        ∙ sym (plus_times (cast t.0 * mono t.1) (poly p) (poly q))

    neg_sound : (p : Poly) → poly (mul1 (negsuc 0) [] p) ≡ - poly p
    neg_sound p =
        mul1_sound (negsuc 0) [] p
        ∙ ap (λ z. z * poly p) (times_one (- (zero + one)) ∙ ap -◌ (zero_plus one))
        ∙ minus_times one (poly p) ∙ ap -◌ (one_times (poly p))

    norm_sound : (e : Expr) → poly (norm e) ≡ den ρ e
    norm_sound (var i) = plus_zero ((zero + one) * (ρ i * one)) ∙ ap₂ ◌*◌ (zero_plus one) (times_one (ρ i)) ∙ one_times (ρ i)
    norm_sound O = refl
    norm_sound I = plus_zero ((zero + one) * one) ∙ times_one (zero + one) ∙ zero_plus one
    norm_sound (num k) = lead_sound k [] [] ∙ plus_zero (cast k * one) ∙ times_one (cast k)
    norm_sound (d ⊕ e) = add_sound (norm d) (norm e) ∙ ap₂ ◌+◌ (norm_sound d) (norm_sound e)
    norm_sound (d ⊖ e) = add_sound (norm d) (mul1 (negsuc 0) [] (norm e)) ∙ ap₂ ◌+◌ (norm_sound d) (neg_sound (norm e) ∙ ap -◌ (norm_sound e))
    norm_sound (d ⊗ e) = mul_sound (norm d) (norm e) ∙ ap₂ ◌*◌ (norm_sound d) (norm_sound e)
    norm_sound (⊝ e) = neg_sound (norm e) ∙ ap -◌ (norm_sound e)

    -- an expression that comes to nothing is 0
    pub nil_sound : (e : Expr) → Nothing (norm e) → den ρ e ≡ zero
    nil_sound e h = go (norm e) h (norm_sound e)
      where
        go : (p : Poly) → Nothing p → poly p ≡ den ρ e → den ρ e ≡ zero
        go [] h z = sym z
        go (t ∷ p) h z = elim h [ ]

    pub solve : (d e : Expr) → Nothing (norm (d ⊖ e)) → den ρ d ≡ den ρ e
    solve d e h = minus_minus_unique (den ρ d) (den ρ e) (nil_sound (d ⊖ e) h)

  -- the value at a place of a list
  abbrev pub at : List Value → ℕ → Value
  at [] i = zero
  at (x ∷ xs) Nat.zero = x
  at (x ∷ xs) (suc i) = at xs i

-- two expressions
infix 4 ◌⊜◌
pub data Eqn : Type 0 where
  ◌⊜◌ : Expr → Expr → Eqn

abbrev pub lhs : Eqn → Expr
lhs (d ⊜ e) = d

abbrev pub rhs : Eqn → Expr
rhs (d ⊜ e) = e

abbrev pub Holds : Eqn → Type 0
Holds q = Nothing (norm (lhs q ⊖ rhs q))

-- what is left of an expression when multiples of equations are taken off
abbrev pub less_all : Expr → List (Expr × Eqn) → Expr
less_all e [] = e
less_all e (t ∷ ts) = less_all (e ⊖ t.0 ⊗ (lhs t.1 ⊖ rhs t.1)) ts

module _ (R : CommRing) where
  open R use {Value, zero, plus as ◌+◌, times as ◌*◌, minus as -◌, plus_minus, plus_zero}

  infixl 6 ◌+◌
  infixl 7 ◌*◌
  infix 8 -◌
  abbrev pub Says : List Value → Eqn → Type 0
  Says vs q = den R (at R vs) (lhs q) ≡ den R (at R vs) (rhs q)

  pub says : (vs : List Value) (q : Eqn) → Holds q → Says vs q
  says vs q h = solve R (at R vs) (lhs q) (rhs q) h

  -- an equation that follows from others: each is given with the factor that it is multiplied by
  abbrev pub All_say : List Value → List (Expr × Eqn) → Type 0
  All_say vs [] = Unit {0}
  All_say vs (t ∷ ts) = Says vs t.1 × All_say vs ts

  take_off : (a k x y : Value) → x ≡ y → a + - (k * (x + - y)) ≡ a
  take_off a k x y h =
      ap (λ z. a + - (k * (x + - z))) (sym h) ∙ ap (λ z. a + - (k * z)) (plus_minus x) ∙ ap (λ z. a + - z) (times_zero R k) ∙ ap (λ z. a + z) (minus_zero R) ∙ plus_zero a

  less_all_sound : (vs : List Value) (e : Expr) (ts : List (Expr × Eqn)) → All_say vs ts → den R (at R vs) (less_all e ts) ≡ den R (at R vs) e
  less_all_sound vs e [] h = refl
  less_all_sound vs e (t ∷ ts) h =
      less_all_sound vs (e ⊖ t.0 ⊗ (lhs t.1 ⊖ rhs t.1)) ts h.1
      ∙ take_off (den R (at R vs) e) (den R (at R vs) t.0) (den R (at R vs) (lhs t.1)) (den R (at R vs) (rhs t.1)) h.0

  pub combine : (vs : List Value) (ts : List (Expr × Eqn)) (q : Eqn) → Nothing (norm (less_all (lhs q ⊖ rhs q) ts)) → All_say vs ts → Says vs q
  combine vs ts q n h =
      minus_minus_unique R (den R (at R vs) (lhs q)) (den R (at R vs) (rhs q))
      (sym (less_all_sound vs (lhs q ⊖ rhs q) ts h) ∙ nil_sound R (at R vs) (less_all (lhs q ⊖ rhs q) ts) n)

  pub ring₁ : (f : Expr → Eqn) → Holds (f (var 0)) → (a : Value) → Says (a ∷ []) (f (var 0))
  ring₁ f h a = says (a ∷ []) (f (var 0)) h

  pub ring₂ : (f : Expr → Expr → Eqn) → Holds (f (var 0) (var 1)) → (a b : Value) → Says (a ∷ b ∷ []) (f (var 0) (var 1))
  ring₂ f h a b = says (a ∷ b ∷ []) (f (var 0) (var 1)) h

  pub ring₃ : (f : Expr → Expr → Expr → Eqn) → Holds (f (var 0) (var 1) (var 2)) → (a b c : Value) → Says (a ∷ b ∷ c ∷ []) (f (var 0) (var 1) (var 2))
  ring₃ f h a b c = says (a ∷ b ∷ c ∷ []) (f (var 0) (var 1) (var 2)) h

  pub ring₄ : (f : Expr → Expr → Expr → Expr → Eqn) → Holds (f (var 0) (var 1) (var 2) (var 3)) → (a b c d : Value)
      → Says (a ∷ b ∷ c ∷ d ∷ []) (f (var 0) (var 1) (var 2) (var 3))
  ring₄ f h a b c d = says (a ∷ b ∷ c ∷ d ∷ []) (f (var 0) (var 1) (var 2) (var 3)) h

  pub ring₅ : (f : Expr → Expr → Expr → Expr → Expr → Eqn) → Holds (f (var 0) (var 1) (var 2) (var 3) (var 4)) → (a b c d e : Value)
      → Says (a ∷ b ∷ c ∷ d ∷ e ∷ []) (f (var 0) (var 1) (var 2) (var 3) (var 4))
  ring₅ f h a b c d e = says (a ∷ b ∷ c ∷ d ∷ e ∷ []) (f (var 0) (var 1) (var 2) (var 3) (var 4)) h

  pub ring₆ : (f : Expr → Expr → Expr → Expr → Expr → Expr → Eqn) → Holds (f (var 0) (var 1) (var 2) (var 3) (var 4) (var 5)) → (a b c d e g : Value)
      → Says (a ∷ b ∷ c ∷ d ∷ e ∷ g ∷ []) (f (var 0) (var 1) (var 2) (var 3) (var 4) (var 5))
  ring₆ f h a b c d e g = says (a ∷ b ∷ c ∷ d ∷ e ∷ g ∷ []) (f (var 0) (var 1) (var 2) (var 3) (var 4) (var 5)) h

-- names for the variables, for `says` and `combine`
abbrev pub v₀ : Expr
v₀ = var 0

abbrev pub v₁ : Expr
v₁ = var 1

abbrev pub v₂ : Expr
v₂ = var 2

abbrev pub v₃ : Expr
v₃ = var 3

abbrev pub v₄ : Expr
v₄ = var 4

abbrev pub v₅ : Expr
v₅ = var 5
