-- A block of numbers is judged by its first number that is out of range. Assumes nothing.
use Rattle.std.proofs.Common.{◌≡◌, ℕ, suc, ◌+◌, ◌-◌, ◌*◌, ◌%◌, ◌<◌, ◌≤◌, Bool, true, false, List, [], ◌++◌, length, get_or, take, drop, set, ℤ, pos, Ok, Err, sym, ap, subst, ◌∙◌, suc-mul, arith, w32, SFits, to_z, of_z}
use Rattle.std.proofs.ByRecursion.{All-get_or}
use Rattle.std.proofs.lemmas.List.{take_at, drop_all}
use Rattle.std.proofs.Math.Nat.{mul-mod_left}
use Rattle.std.proofs.lemmas.Nat.{mod-mul-add, mul-le, mul-add-lt}
use Rattle.std.proofs.lemmas.Int.{to_z-of_z}
use Rattle.std.proofs.lemmas.List.Edits.{fill_by_more}
use Rattle.std.proofs.lemmas.List.FromFn.{length-map-range_with_len, get_or-map-range_with_len, fill_by_all}
use Rattle.sheet.specs.declared.refusal.Refusal.TheVariants.{NoMark, Number}
use Rattle.sheet.specs.Checks.{Check, judged}
use Rattle.sheet.specs.Numbers.{number_at, numbers, in_range, block_check, block_checks}
use Rattle.sheet.proofs.Judged.{Holds, holds_from_judged, judged_all, judged_first}

none : Check
none = (true, NoMark)

module _ (n w start : ℕ) (zs : List ℤ) where
  -- the first k numbers are in range
  abbrev pub Passed : ℕ → Type 0
  Passed k = (t : ℕ) → t < k → in_range n (t % w) (get_or zs t (pos 0)) ≡ true

  long : length (block_checks n w start zs) ≡ length zs
  long = length-map-range_with_len (block_check n w start zs) 0 (length zs)

  place : (k : ℕ) → k < length zs → get_or (block_checks n w start zs) k none ≡ block_check n w start zs k
  place k l = get_or-map-range_with_len (block_check n w start zs) 0 (length zs) k k none l (omega arith)

  pub block_passed : Passed (length zs) → judged (block_checks n w start zs) ≡ Ok tt
  block_passed h = judged_all none (block_checks n w start zs) (λ k l. let m : k < length zs = omega (arith, long) in ap (λ (c : Check). c.0) (place k m) ∙ h k m)

  pub block_stops : (i : ℕ) → i < length zs → Passed i → in_range n (i % w) (get_or zs i (pos 0)) ≡ false → judged (block_checks n w start zs) ≡ Err (Number (i % w + 1) (start + 4 * i))
  block_stops i l h f =
      judged_first none (block_checks n w start zs) i (omega (arith, long)) (λ k m. ap (λ (c : Check). c.0) (place k (omega arith)) ∙ h k m) (ap (λ (c : Check). c.0) (place i l) ∙ f)
      ∙ ap (λ (c : Check). Err c.1) (place i l)

pub block_holds : (n w start : ℕ) (zs : List ℤ) → judged (block_checks n w start zs) ≡ Ok tt → (k : ℕ) → k < length zs → in_range n (k % w) (get_or zs k (pos 0)) ≡ true
block_holds n w start zs h k l =
    sym (ap (λ (c : Check). c.0) (place n w start zs k l)) ∙ All-get_or Holds (block_checks n w start zs) k none (omega (arith, long n w start zs)) (holds_from_judged (block_checks n w start zs) h)

module _ (bytes : List ℕ) (start count : ℕ) where
  pub length-numbers : length (numbers bytes start count) ≡ count
  length-numbers = length-map-range_with_len (λ k. number_at bytes (start + 4 * k)) 0 count

  pub get_or-numbers : (k : ℕ) → k < count → get_or (numbers bytes start count) k (pos 0) ≡ number_at bytes (start + 4 * k)
  get_or-numbers k l = get_or-map-range_with_len (λ k. number_at bytes (start + 4 * k)) 0 count k k (pos 0) l (omega arith)

module _ (n w start : ℕ) (bytes : List ℕ) where
  -- the first k numbers of the block are in range
  abbrev pub Fine : ℕ → Type 0
  Fine k = (t : ℕ) → t < k → in_range n (t % w) (number_at bytes (start + 4 * t)) ≡ true

  passed : (count k : ℕ) → k < count + 1 → Fine k → Passed n w start (numbers bytes start count) k
  passed count k l h t m = ap (in_range n (t % w)) (get_or-numbers bytes start count t (omega arith)) ∙ h t m

  pub fine_all : (count : ℕ) → Fine count → judged (block_checks n w start (numbers bytes start count)) ≡ Ok tt
  fine_all count h =
      block_passed n w start (numbers bytes start count) (λ t m. passed count count (omega arith) h t (omega (arith, length-numbers bytes start count)))

  pub fine_stops : (count i : ℕ) → i < count → Fine i → in_range n (i % w) (number_at bytes (start + 4 * i)) ≡ false → judged (block_checks n w start (numbers bytes start count)) ≡ Err (Number (i % w + 1) (start + 4 * i))
  fine_stops count i l h f =
      block_stops n w start (numbers bytes start count) i (omega (arith, length-numbers bytes start count)) (passed count i (omega arith) h) (ap (in_range n (i % w)) (get_or-numbers bytes start count i l) ∙ f)

-- what a test of the number in column j of row i tells of the block's number i * w + j
pub in_column : (n w i j : ℕ) (z r : ℤ) (b : Bool) → j < w → SFits w32 r → r ≡ z → b ≡ in_range n j (to_z w32 (of_z w32 r)) → in_range n ((i * w + j) % w) z ≡ b
in_column n w i j z r b l f e h = rw (mod-mul-add i w j l) (ap (in_range n j) (sym e ∙ sym (to_z-of_z w32 r f)) ∙ sym h)

-- the first k numbers of the block stand in zs
abbrev pub Copied : ℕ → List ℕ → List ℤ → ℕ → Type 0
Copied start bytes zs k = (t : ℕ) → t < k → get_or zs t (pos 0) ≡ number_at bytes (start + 4 * t)

pub copied_more : (start : ℕ) (bytes : List ℕ) (zs : List ℤ) (k : ℕ) (z : ℤ) → k < length zs → z ≡ number_at bytes (start + 4 * k) → Copied start bytes zs k → Copied start bytes (set zs k z) (k + 1)
copied_more start bytes zs k z l e h =
    subst (λ y. Copied start bytes (set zs k y) (k + 1)) (sym e) (fill_by_more (λ t. number_at bytes (start + 4 * t)) zs k (pos 0) l h)

pub copied_all : (start : ℕ) (bytes : List ℕ) (zs : List ℤ) (count : ℕ) → length zs ≡ count → Copied start bytes zs count → zs ≡ numbers bytes start count
copied_all start bytes zs count e h = fill_by_all (λ k. number_at bytes (start + 4 * k)) zs count (pos 0) e h

-- h rows of w numbers leave nothing over
pub no_remainder : (zs : List ℤ) (h w : ℕ) → length zs ≡ h * w → drop (length zs - length zs % w) zs ≡ []
no_remainder zs h w e =
    let none_over : length zs % w ≡ 0 = ap (λ n. n % w) e ∙ mul-mod_left h w in
    drop_all (length zs - length zs % w) zs (omega arith)

pub take_front : (bytes : List ℕ) (start count : ℕ) (xs rest : List ℤ) → xs ≡ numbers bytes start count → take count (xs ++ rest) ≡ numbers bytes start count
take_front bytes start count xs rest e = take_at xs rest count (ap length e ∙ length-numbers bytes start count) ∙ e

-- row i of h rows of w numbers ends within them
pub row_ends : (i h w : ℕ) → i < h → i * w + w ≤ h * w
row_ends i h w l = omega (arith, mul-le (suc i) w h w l (omega arith), suc-mul i w)

-- row a and column b of a block lie in it
pub inside : (a w b h : ℕ) → a < h → b < w → a * w + b < h * w
inside a w b h p q = omega (arith, mul-add-lt a w b h p q)
