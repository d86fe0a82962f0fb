-- Cases worked by hand, each with what should come of it. Assumes nothing.
--     Case               a case: something that a definition gives, and what it should give
--     holds c            the definition gives it
--     cases              all of them
--     Worked             every one holds
use Rattle.std.specs.Prelude.{◌≡◌, ℕ, Bool, true, false, ◌&&◌, List, [], ◌∷◌, ◌++◌, map, ℤ, pos, negsuc, Some, None, codes, Option, ◌==◌}
use Rattle.std.specs.List.{list_all}
use Rattle.std.specs.Option.{is_none}
use Rattle.std.specs.Ordering.{int_eq}
use Rattle.std.specs.Str.{bytes_eq}
use Rattle.algebra.specs.Field.{less, divided}
use Rattle.algebra.specs.Fraction.{Q, ratio}
use Rattle.algebra.specs.Remainder.{Rem}
use Rattle.algebra.proofs.FractionField.{field_q}
use Rattle.kinds.specs.declared.refusal.Reason.{Reason}
use Rattle.fractions.specs.Fractions.{misfit_q}
use Rattle.remainders.specs.Moduli.{modulus}
use Rattle.kinds.specs.Refusals.{reason_number}
use Rattle.remainders.specs.Remainders.{rest_field, taken_r}
use Rattle.listing.specs.Listing.{listing}
use Rattle.texts.specs.Texts.{fraction_text, rest_text}
use Rattle.worked.specs.Sheets.{sheets}

pub data Case : Type 0 where
  -- a sheet, and its listing
  listed : List ℕ → List ℕ → Case
  -- an exact fraction that fits, and its numerator and denominator
  fits : Q → ℤ → ℕ → Case
  -- one that does not, and the number of its refusal
  refused : Q → ℕ → Case
  -- a remainder, and the number that it is
  leaves : Rem modulus → ℕ → Case
  -- an exact fraction, or a remainder, and its text
  fraction_shown : Q → List ℕ → Case
  remainder_shown : Rem modulus → List ℕ → Case

abbrev pub is_number : ℕ → Option Reason → Bool
is_number n (Some reason) = reason_number reason == n
is_number n None = false

abbrev pub holds : Case → Bool
holds (listed sheet text) = bytes_eq (listing sheet) text
holds (fits q n d) = is_none (misfit_q q) && (int_eq q.num n && q.den == d)
holds (refused q n) = is_number n (misfit_q q)
holds (leaves r n) = r.value == n
holds (fraction_shown q text) = bytes_eq (fraction_text q) text
holds (remainder_shown r text) = bytes_eq (rest_text r) text

abbrev pub listings : List Case
listings = map (λ c. listed c.0 c.1) sheets

abbrev pub fractions : List Case
fractions =
    fits (field_q.times (ratio (pos 1) 46340) (ratio (pos 1) 46340)) (pos 1) 2147395600
    ∷ refused (field_q.times (ratio (pos 1) 46341) (ratio (pos 1) 46341)) 14
    ∷ fits (field_q.times (ratio (pos 46341) 46340) (ratio (pos 46340) 46341)) (pos 1) 1
    ∷ fits (field_q.times (ratio (pos 2147483647) 2) (ratio (negsuc 1) 2147483647)) (negsuc 0) 1
    ∷ fits (field_q.plus (ratio (pos 1) 2) (ratio (pos 1) 3)) (pos 5) 6
    ∷ fits (field_q.plus (ratio (pos 1) 6) (ratio (pos 1) 10)) (pos 4) 15
    ∷ fits (field_q.plus (ratio (pos 2147483646) 1) (ratio (pos 1) 1)) (pos 2147483647) 1
    ∷ refused (field_q.plus (ratio (pos 2147483647) 1) (ratio (pos 1) 1)) 14
    ∷ fits (less field_q (ratio (negsuc 2147483645) 1) (ratio (pos 1) 1)) (negsuc 2147483646) 1
    ∷ refused (less field_q (ratio (negsuc 2147483646) 1) (ratio (pos 1) 1)) 14
    ∷ refused (field_q.plus (ratio (pos 1) 2147483647) (ratio (pos 1) 2)) 14
    ∷ fits (divided field_q (ratio (negsuc 3) 6) (ratio (negsuc 1) 9)) (pos 3) 1
    ∷ fits (divided field_q (ratio (pos 1) 1) (ratio (negsuc 2147483646) 1)) (negsuc 0) 2147483647
    ∷ []

abbrev pub remainders : List Case
remainders =
    leaves (divided rest_field (taken_r (pos 1)) (taken_r (pos 3))) 6649
    ∷ leaves (less rest_field (taken_r (pos 0)) (taken_r (pos 9972))) 1
    ∷ leaves (taken_r (pos 9973)) 0
    ∷ leaves (taken_r (negsuc 0)) 9972
    ∷ leaves (rest_field.times (taken_r (pos 9972)) (taken_r (pos 9972))) 1
    ∷ leaves (rest_field.plus (taken_r (pos 9972)) (taken_r (pos 9972))) 9971
    ∷ []

abbrev pub texts : List Case
texts =
    fraction_shown (ratio (pos 0) 7) (codes "0")
    ∷ fraction_shown (ratio (negsuc 2) 1) (codes "-3")
    ∷ fraction_shown (ratio (pos 8) 6) (codes "4/3")
    ∷ fraction_shown (ratio (negsuc 2147483646) 2147483646) (codes "-2147483647/2147483646")
    ∷ remainder_shown (taken_r (pos 0)) (codes "0000")
    ∷ remainder_shown (taken_r (pos 42)) (codes "0042")
    ∷ remainder_shown (taken_r (negsuc 0)) (codes "9972")
    ∷ []

abbrev pub cases : List Case
cases = listings ++ (fractions ++ (remainders ++ texts))

abbrev pub Worked : Type 0
Worked = list_all holds cases ≡ true
