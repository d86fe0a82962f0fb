-- Terms as they are written, and those that are left of a sum while it is. Assumes nothing.
use Rattle.std.proofs.Common.{◌≡◌, ℕ, ◌+◌, Bool, true, false, List, [], ◌∷◌, ◌++◌, Iter, Bor, ℤ, pos, negsuc, nat_abs, Some, None, codes, decimal, sym, ap, subst, ◌∙◌, append_assoc, arith, w32, SFits, of_z}
use denote.Param.Members.{Mut}
use Rattle.std.specs.Fn.{CalledAt}
use Rattle.std.specs.Iterator.{Yields, FindsItem}
use Rattle.std.specs.Iterator.Adapters.{enumerate_source, enumerate_count, enumerate_steps}
use Rattle.std.specs.List.{FoldsTo}
use Rattle.std.specs.Slice.Iter.{iter_rest, iter_steps}
use Rattle.std.specs.declared.iter.Enumerate.{Enumerate}
use Rattle.std.proofs.lemmas.List.{nil_from_length}
use Rattle.std.proofs.lemmas.Bool.{cond-true, cond-false, eq-eqb, ne_eqb}
use Rattle.listing.specs.Listing.{Term, terms, term_text}

pub term_of_one : (k : ℕ) (c : ℤ) → nat_abs c ≡ 1 → codes "r" ++ decimal k ≡ term_text (k, c)
term_of_one k c h = sym (ap (λ l. l ++ (codes "r" ++ decimal k)) (cond-true _ [] (decimal (nat_abs c) ++ codes " ") (eq-eqb (nat_abs c) 1 h)))

pub term_of_more : (k : ℕ) (c : ℤ) (n : ℕ) → n ≡ nat_abs c → (n ≡ 1 → ⊥) → decimal n ++ (codes " r" ++ decimal k) ≡ term_text (k, c)
term_of_more k c n e h =
    ap (λ m. decimal m ++ (codes " r" ++ decimal k)) e
    ∙ sym (append_assoc (decimal (nat_abs c)) (codes " ") (codes "r" ++ decimal k))
    ∙ sym (ap (λ l. l ++ (codes "r" ++ decimal k)) (cond-false _ [] (decimal (nat_abs c) ++ codes " ") (ne_eqb (nat_abs c) 1 (λ f. h (e ∙ f)))))

pub terms_skip : (k : ℕ) (c : ℤ) (cs : List ℤ) → nat_abs c ≡ 0 → terms k (c ∷ cs) ≡ terms (k + 1) cs
terms_skip k c cs h = rw (eq-eqb (nat_abs c) 0 h, terms)

pub terms_step : (k : ℕ) (c : ℤ) (cs : List ℤ) → (nat_abs c ≡ 0 → ⊥) → terms k (c ∷ cs) ≡ (k, c) ∷ terms (k + 1) cs
terms_step k c cs h = rw (ne_eqb (nat_abs c) 0 h, terms)

-- the terms of the coefficients that an iterator has left
abbrev pub terms_left : Enumerate (Iter ℤ) → List Term
terms_left s = terms (enumerate_count s + 1) (iter_rest (enumerate_source s))

pub terms_left_start : (s : Enumerate (Iter ℤ)) (it : Iter ℤ) (cs : List ℤ) → enumerate_source s ≡ it → enumerate_count s ≡ 0 → iter_rest it ≡ cs → terms_left s ≡ terms 1 cs
terms_left_start s it cs p q r = λ i. terms (q i + 1) ((ap iter_rest p ∙ r) i)

abbrev pub Counted : Type 0
Counted = ℕ × Bor ℤ

abbrev pub counted_term : Counted → Term
counted_term x = (x.0 + 1, x.1.now)

module _ (s t : Enumerate (Iter ℤ)) where
  pub terms_left_none : enumerate_steps iter_steps s None t → terms_left s ≡ []
  terms_left_none h = ap (terms (enumerate_count s + 1)) (nil_from_length (iter_rest (enumerate_source s)) h.0.0)

  module _ (x : Counted) (h : enumerate_steps iter_steps s (Some x) t) where
    one_more : (ts : List Term) → terms (x.0 + 1) (x.1.now ∷ iter_rest (enumerate_source t)) ≡ ts → terms_left s ≡ ts
    one_more ts e = (λ i. terms (sym h.1 i + 1) (h.0 i)) ∙ e

    next : terms (x.0 + 1 + 1) (iter_rest (enumerate_source t)) ≡ terms_left t
    next = ap (λ n. terms (n + 1) (iter_rest (enumerate_source t))) (ap (λ n. n + 1) h.1 ∙ sym h.2)

    pub terms_left_skip : nat_abs x.1.now ≡ 0 → terms_left s ≡ terms_left t
    terms_left_skip zero = one_more _ (terms_skip (x.0 + 1) x.1.now (iter_rest (enumerate_source t)) zero) ∙ next

    pub terms_left_step : (nat_abs x.1.now ≡ 0 → ⊥) → terms_left s ≡ counted_term x ∷ terms_left t
    terms_left_step some = one_more _ (terms_step (x.0 + 1) x.1.now (iter_rest (enumerate_source t)) some) ∙ ap (λ ts. counted_term x ∷ ts) next

-- `find`, where f answers whether a coefficient is not zero
module _ {F : Type 0} (g : Mut F (Bor Counted × Unit {0}) Bool) (f : F) (skips : (x : Counted) (q : F) → CalledAt g f x false q → (q ≡ f) × (nat_abs x.1.now ≡ 0)) (stops : (x : Counted) (q : F) → CalledAt g f x true q → nat_abs x.1.now ≡ 0 → ⊥) where
  passed : (xs : List Counted) (s t : Enumerate (Iter ℤ)) (f' : F) → Yields (enumerate_steps iter_steps) s xs t → FoldsTo (λ p x q. CalledAt g p x false q) f xs f' → (terms_left s ≡ terms_left t) × (f' ≡ f)
  passed [] s t f' y o = (ap terms_left y, sym o)
  passed (x ∷ xs) s t f' y o =
      let here = skips x o.0 o.1 in
      let more = passed xs y.0 t f' y.2 (subst (λ m. FoldsTo (λ p x q. CalledAt g p x false q) m xs f') here.0 o.2) in
      (terms_left_skip s y.0 x y.1 here.1 ∙ more.0, more.1)

  pub terms_left_found : (s u : Enumerate (Iter ℤ)) (x : Counted) → FindsItem (enumerate_steps iter_steps) g s f (Some x) u → terms_left s ≡ counted_term x ∷ terms_left u
  terms_left_found s u x h =
      let before = passed h.0 s h.2.0 h.1 h.2.1 h.3 in
      before.0 ∙ terms_left_step h.2.0 u x h.2.2 (stops x h.4.0 (subst (λ m. CalledAt g m x true h.4.0) before.1 h.4.1))

  pub terms_left_not_found : (s u : Enumerate (Iter ℤ)) → FindsItem (enumerate_steps iter_steps) g s f None u → terms_left s ≡ []
  terms_left_not_found s u h = (passed h.0 s h.2.0 h.1 h.2.1 h.3).0 ∙ terms_left_none h.2.0 u h.2.2

-- a signed number is zero exactly where its bits are
pub zero_from_bits : (z : ℤ) → SFits w32 z → of_z w32 z ≡ 0 → nat_abs z ≡ 0
zero_from_bits (pos n) f h = h
zero_from_bits (negsuc n) f h = absurd (omega (arith, f.sfits))

pub bits_from_zero : (z : ℤ) → nat_abs z ≡ 0 → of_z w32 z ≡ 0
bits_from_zero (pos n) h = h
bits_from_zero (negsuc n) h = absurd (omega arith)
