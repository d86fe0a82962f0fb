-- What every field has. Assumes nothing.
use Rattle.std.proofs.Common.{◌≡◌, ◌≢◌, [], ◌∷◌, sym, ap, ◌∙◌}
use Rattle.algebra.specs.Field.{Field}
use Rattle.algebra.proofs.FieldRing.{ring_of}
use Rattle.integers.proofs.Ring.{times_zero, Expr.◌⊖◌, Expr.◌⊗◌, Expr.I, Eqn.◌⊜◌, combine, v₀, v₁, v₂, v₃}

module _ {Value : Type 0} (F : Field Value) where
  open F use {zero, one, times as ◌*◌, over, times_comm, times_over, one_zero}

  infixl 7 ◌*◌
  -- by the reciprocal of a
  pub cancel : (a b c : Value) → a ≢ zero → a * b ≡ a * c → b ≡ c
  cancel a b c n h =
      combine (ring_of F) (a ∷ b ∷ c ∷ over a ∷ []) ((v₃, v₀ ⊗ v₁ ⊜ v₀ ⊗ v₂) ∷ (v₂ ⊖ v₁, v₀ ⊗ v₃ ⊜ I) ∷ []) (v₁ ⊜ v₂) tt (h, (times_over a n, tt))

  pub no_divisors : (a b : Value) → a ≢ zero → b ≢ zero → a * b ≢ zero
  no_divisors a b n m h = m (cancel a b zero n (h ∙ sym (times_zero (ring_of F) a)))

  pub over_nonzero : (a : Value) → a ≢ zero → over a ≢ zero
  over_nonzero a n h = one_zero (sym (times_over a n) ∙ ap (λ x. a * x) h ∙ times_zero (ring_of F) a)

  -- the reciprocal is the only one, also of a value that is not known to be other than zero
  pub over_unique : (a b : Value) → a * b ≡ one → b ≡ over a
  over_unique a b h = cancel a b (over a) n (h ∙ sym (times_over a n))
    where
      n : a ≢ zero
      n z = one_zero (sym h ∙ ap (λ x. x * b) z ∙ times_comm zero b ∙ times_zero (ring_of F) b)

  pub over_times : (a b : Value) → a ≢ zero → b ≢ zero → over (a * b) ≡ over a * over b
  over_times a b n m =
      sym (over_unique (a * b) (over a * over b)
      (combine (ring_of F) (a ∷ b ∷ over a ∷ over b ∷ []) ((v₁ ⊗ v₃, v₀ ⊗ v₂ ⊜ I) ∷ (I, v₁ ⊗ v₃ ⊜ I) ∷ []) ((v₀ ⊗ v₁) ⊗ (v₂ ⊗ v₃) ⊜ I) tt (times_over a n, (times_over b m, tt))))
