-- What the steps of reading a sheet promise one another. Assumes nothing.
--     HeaderOf bs m c             the header of bs passes, and gives the mark m and the counts c
--     BlockRead r checks n zs     what reading a block of n numbers answered
use Rattle.std.specs.Prelude.{◌≡◌, ℕ, List, length, take, ℤ, Some, Ok, Err, Result}
use Rattle.sheet.specs.declared.format.Counts.{Counts}
use Rattle.sheet.specs.declared.format.Mark.{Mark}
use Rattle.sheet.specs.declared.refusal.Refusal.{Refusal}
use Rattle.sheet.specs.Checks.{Check, judged}
use Rattle.sheet.specs.Format.{mark_of, total_length}
use Rattle.sheet.specs.Reading.{counts_of, count_checks, header_checks}

pub record HeaderOf (bytes : List ℕ) (m : Mark) (c : Counts) : Type 0 where
  pub passes : judged (header_checks bytes) ≡ Ok tt
  pub marked : mark_of (take 4 bytes) ≡ Some m
  pub counted : counts_of bytes ≡ c
  pub small : judged (count_checks c) ≡ Ok tt
  pub long : total_length c ≡ length bytes

-- the numbers zs pass, and are the first `count` of what was read; or why they do not
abbrev pub BlockRead : Result (List ℤ) Refusal → List Check → ℕ → List ℤ → Type 0
BlockRead (Ok read) checks count zs = (judged checks ≡ Ok tt) × (take count read ≡ zs)
BlockRead (Err e) checks count zs = judged checks ≡ Err e
