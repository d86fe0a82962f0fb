-- What the steps of writing a sheet show of `written`. Assumes nothing.
use Rattle.std.proofs.Common.{◌≡◌, ℕ, ◌+◌, ◌*◌, ◌≤◌, List, ◌++◌, length, ℤ, Ok, refl, ap, ◌∙◌, append_assoc, arith, length-append}
use Rattle.std.proofs.lemmas.Bool.{leb-true, eqb-true}
use Rattle.std.specs.List.{flat_map}
use Rattle.memory.specs.Over.{over}
use Rattle.sheet.specs.declared.format.Counts.{Counts}
use Rattle.sheet.specs.declared.format.Mark.{Mark}
use Rattle.sheet.specs.declared.format.Mark.TheVariants.{Frac, Rest}
use Rattle.sheet.specs.Checks.{judged, after}
use Rattle.sheet.specs.Format.{most_length, letters, header_fields, line_numbers, form_numbers, forms_start, total_length}
use Rattle.sheet.specs.Numbers.{field_bytes, number_bytes}
use Rattle.sheet.specs.Reading.{Content, count_checks, number_checks}
use Rattle.sheet.specs.Writing.{header_bytes, sheet_bytes, length_checks, write_checks}
use Rattle.sheet.proofs.Judged.{judged-append, holds_from_judged}
use Rattle.memory.proofs.Pieces.{over-over, length-flat_map}
use Rattle.sheet.proofs.SheetOf.{line_numbers_le, form_numbers_le}

-- lengths that pass
pub record Long (c : Counts) (lines forms room : ℕ) : Type 0 where
  pub lines_long : lines ≡ line_numbers c
  pub forms_long : forms ≡ form_numbers c
  pub holds : total_length c ≤ room

pub long : (c : Counts) (lines forms room : ℕ) → judged (length_checks c lines forms room) ≡ Ok tt → Long c lines forms room
long c lines forms room h =
    let a = holds_from_judged (length_checks c lines forms room) h in
    record { lines_long = eqb-true _ _ a.0; forms_long = eqb-true _ _ a.1.0; holds = leb-true _ _ a.1.1.0 }

-- past the counts and the lengths, the numbers decide
pub numbers_left : (c : Counts) (ls fs : List ℤ) (room : ℕ) → judged (count_checks c) ≡ Ok tt → judged (length_checks c (length ls) (length fs) room) ≡ Ok tt → judged (write_checks c ls fs room) ≡ judged (number_checks c ls fs)
numbers_left c ls fs room h k =
    let rest = length_checks c (length ls) (length fs) room ++ number_checks c ls fs in
    judged-append (count_checks c) rest
    ∙ ap (λ r. after r (λ _. judged rest)) h
    ∙ judged-append (length_checks c (length ls) (length fs) room) (number_checks c ls fs)
    ∙ ap (λ r. after r (λ _. judged (number_checks c ls fs))) k

pub total_le : (c : Counts) → judged (count_checks c) ≡ Ok tt → total_length c ≤ most_length
total_le c h = omega (arith, line_numbers_le c h, form_numbers_le c h)

pub length-letters : (m : Mark) → length (letters m) ≡ 4
length-letters Frac = refl
length-letters Rest = refl

pub length-header_bytes : (m : Mark) (c : Counts) → length (header_bytes m c) ≡ 16
length-header_bytes m c = length-append (letters m) (flat_map field_bytes (header_fields c)) ∙ ap (λ n. n + 12) (length-letters m)

pub length-numbers_bytes : (zs : List ℤ) → length (flat_map number_bytes zs) ≡ 4 * length zs
length-numbers_bytes zs = length-flat_map number_bytes 4 (λ z. refl) zs

pub length-sheet_bytes : (s : Content) → length s.lines ≡ line_numbers s.counts → length s.forms ≡ form_numbers s.counts → length (sheet_bytes s) ≡ total_length s.counts
length-sheet_bytes s l f =
    length-append (header_bytes s.mark s.counts) (flat_map number_bytes s.lines ++ flat_map number_bytes s.forms)
    ∙ omega (arith, length-header_bytes s.mark s.counts, length-append (flat_map number_bytes s.lines) (flat_map number_bytes s.forms), length-numbers_bytes s.lines, length-numbers_bytes s.forms, l, f)

-- header, lines and forms, written one after another
pub put_all : (s : Content) (m : List ℕ) → length s.lines ≡ line_numbers s.counts → length s.forms ≡ form_numbers s.counts → total_length s.counts ≤ length m → over (forms_start s.counts) (flat_map number_bytes s.forms) (over 16 (flat_map number_bytes s.lines) (over 0 (header_bytes s.mark s.counts) m)) ≡ over 0 (sheet_bytes s) m
put_all s m l f room =
    let head = header_bytes s.mark s.counts in
    let ls = flat_map number_bytes s.lines in
    let fs = flat_map number_bytes s.forms in
    ap (over (forms_start s.counts) fs) (over-over 0 head m 16 (omega (arith, length-header_bytes s.mark s.counts)) (omega arith) ls)
    ∙ over-over 0 (head ++ ls) m (forms_start s.counts) (omega (arith, length-append head ls, length-header_bytes s.mark s.counts, length-numbers_bytes s.lines, l)) (omega arith) fs
    ∙ ap (λ bs. over 0 bs m) (append_assoc head ls fs)
