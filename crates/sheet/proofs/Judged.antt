-- Which check decides. Assumes nothing.
use Rattle.std.proofs.Common.{◌≡◌, ℕ, zero, suc, ◌<◌, Bool, true, false, List, [], ◌∷◌, ◌++◌, length, get_or, is_ok, IfOk, Ok, Err, Result, refl, arith}
use Rattle.std.specs.List.{AllByRecursion as All}
use Rattle.sheet.specs.declared.refusal.Refusal.{Refusal}
use Rattle.sheet.specs.Checks.{Check, judged, after}

-- a check that holds leaves the judgement to those behind it
pub judged_holds : (t : Bool) (e : Refusal) (cs : List Check) → t ≡ true → judged ((t, e) ∷ cs) ≡ judged cs
judged_holds t e cs h = rw h

pub judged_fails : (t : Bool) (e : Refusal) (cs : List Check) → t ≡ false → judged ((t, e) ∷ cs) ≡ Err e
judged_fails t e cs h = rw h

pub judged-append : (cs ds : List Check) → judged (cs ++ ds) ≡ after (judged cs) (λ _. judged ds)
judged-append [] ds = refl
judged-append ((true, e) ∷ cs) ds = judged-append cs ds
judged-append ((false, e) ∷ cs) ds = refl

-- every check holds
pub judged_all : (d : Check) (cs : List Check) → ((k : ℕ) → k < length cs → (get_or cs k d).0 ≡ true) → judged cs ≡ Ok tt
judged_all d [] h = refl
judged_all d (c ∷ cs) h = rw (h 0 (omega arith)) (judged_all d cs (λ k l. h (suc k) (omega arith)))

-- check i is the first that fails
pub judged_first : (d : Check) (cs : List Check) (i : ℕ) → i < length cs → ((k : ℕ) → k < i → (get_or cs k d).0 ≡ true) → (get_or cs i d).0 ≡ false → judged cs ≡ Err (get_or cs i d).1
judged_first d [] i l h f = absurd (omega arith)
judged_first d (c ∷ cs) zero l h f = rw f
judged_first d (c ∷ cs) (suc i) l h f = rw (h 0 (omega arith)) (judged_first d cs i (omega arith) (λ k m. h (suc k) (omega arith)) f)

pub made_at : {X Y : Type 0} {r : Result X Y} {x : X} (P : X → Type 0) → r ≡ Ok x → P x → IfOk r P
made_at P e p = rw e p

abbrev pub Holds : Check → Type 0
Holds c = c.0 ≡ true

-- all checks pass exactly where each holds
pub holds_from_judged : (cs : List Check) → judged cs ≡ Ok tt → All Holds cs
holds_from_judged [] h = tt
holds_from_judged ((true, e) ∷ cs) h = (refl, holds_from_judged cs h)
holds_from_judged ((false, e) ∷ cs) h = absurd (cc)

pub judged_from_holds : (cs : List Check) → All Holds cs → judged cs ≡ Ok tt
judged_from_holds [] h = refl
judged_from_holds (c ∷ cs) h = rw h.0 (judged_from_holds cs h.1)

pub judged_split : (cs ds : List Check) → judged (cs ++ ds) ≡ Ok tt → (judged cs ≡ Ok tt) × (judged ds ≡ Ok tt)
judged_split [] ds h = (refl, h)
judged_split ((true, e) ∷ cs) ds h = judged_split cs ds h
judged_split ((false, e) ∷ cs) ds h = absurd (cc)

pub passed_from_ok : (r : Result (Unit {0}) Refusal) → is_ok r ≡ true → r ≡ Ok tt
passed_from_ok (Ok u) h = refl
passed_from_ok (Err e) h = absurd (cc)
