-- What a sheet says, for every list of bytes. Assumes nothing.
--     Content           the mark, the counts, and the numbers of the lines and of the forms, row by row
--     row w i zs        row i of the numbers zs, counted from 0, where a row has w of them
--     sheet_of bs       the content of the sheet bs, or why bs is none
use Rattle.std.specs.Prelude.{ℕ, ◌+◌, ◌*◌, cond, ◌&&◌, List, [], ◌∷◌, ◌++◌, length, take, drop, ℤ, is_some, Some, None, Ok, Option, Result, ◌==◌, nat_le, nat_lt}
use Rattle.std.specs.Option.{unwrap_or}
use Rattle.limits.specs.Limits.{most_unknowns}
use Rattle.sheet.specs.declared.format.Counts.{Counts}
use Rattle.sheet.specs.declared.format.Mark.{Mark}
use Rattle.sheet.specs.declared.format.Mark.TheVariants.{Frac}
use Rattle.sheet.specs.declared.refusal.Refusal.{Refusal}
use Rattle.sheet.specs.declared.refusal.Refusal.TheVariants.{Short, NoMark, Count, Layout}
use Rattle.sheet.specs.Checks.{Check, judged, after}
use Rattle.sheet.specs.Format.{mark_of, most_lines, most_forms, unknowns_field, lines_field, forms_field, lines_start_field, forms_start_field, total_field, lines_start, forms_start, total_length, line_numbers, form_numbers}
use Rattle.sheet.specs.Numbers.{field_at, numbers, block_checks}

pub record Content : Type 0 where
  pub mark : Mark
  pub counts : Counts
  pub lines : List ℤ
  pub forms : List ℤ

abbrev pub row : ℕ → ℕ → List ℤ → List ℤ
row w i zs = take w (drop (i * w) zs)

-- line and form i, counted from 0
abbrev pub line_of : Content → ℕ → Option (List ℤ)
line_of s i = cond (nat_lt i s.counts.lines) (Some (row (s.counts.unknowns + 1) i s.lines)) None

abbrev pub form_of : Content → ℕ → Option (List ℤ)
form_of s i = cond (nat_lt i s.counts.forms) (Some (row s.counts.unknowns i s.forms)) None

abbrev pub counts_of : List ℕ → Counts
counts_of bytes = record { unknowns = field_at bytes unknowns_field; lines = field_at bytes lines_field; forms = field_at bytes forms_field }

abbrev pub count_checks : Counts → List Check
count_checks c =
    (nat_le 1 c.unknowns && nat_le c.unknowns most_unknowns, Count unknowns_field)
    ∷ (nat_le c.lines most_lines, Count lines_field)
    ∷ (nat_le c.forms most_forms, Count forms_field)
    ∷ []

-- the offsets and the total of a header are what the counts make them, and the total is `size`, the number of bytes
abbrev pub layout_checks : List ℕ → Counts → ℕ → List Check
layout_checks header c size =
    ((field_at header lines_start_field == lines_start), Layout lines_start_field)
    ∷ ((field_at header forms_start_field == forms_start c), Layout forms_start_field)
    ∷ (field_at header total_field == total_length c && (field_at header total_field == size), Layout total_field)
    ∷ []

abbrev pub header_checks : List ℕ → List Check
header_checks bytes =
    (nat_le lines_start (length bytes), Short (length bytes))
    ∷ (is_some (mark_of (take 4 bytes)), NoMark)
    ∷ (count_checks (counts_of bytes) ++ layout_checks bytes (counts_of bytes) (length bytes))

-- every number of the lines, and then of the forms, in its range
abbrev pub line_checks : Counts → List ℤ → List Check
line_checks c lines = block_checks c.unknowns (c.unknowns + 1) lines_start lines

abbrev pub form_checks : Counts → List ℤ → List Check
form_checks c forms = block_checks c.unknowns c.unknowns (forms_start c) forms

abbrev pub number_checks : Counts → List ℤ → List ℤ → List Check
number_checks c lines forms = line_checks c lines ++ form_checks c forms

-- the numbers that stand where the counts put them
abbrev pub lines_in : List ℕ → Counts → List ℤ
lines_in bytes c = numbers bytes lines_start (line_numbers c)

abbrev pub forms_in : List ℕ → Counts → List ℤ
forms_in bytes c = numbers bytes (forms_start c) (form_numbers c)

-- a sheet has a mark, so Frac stands for none
abbrev pub content_of : List ℕ → Content
content_of bytes = record {
  mark = unwrap_or (mark_of (take 4 bytes)) Frac;
  counts = counts_of bytes;
  lines = lines_in bytes (counts_of bytes);
  forms = forms_in bytes (counts_of bytes);
}

abbrev pub sheet_of : List ℕ → Result Content Refusal
sheet_of bytes =
    after (judged (header_checks bytes)) (λ _.
    after (judged (number_checks (counts_of bytes) (lines_in bytes (counts_of bytes)) (forms_in bytes (counts_of bytes)))) (λ _.
    Ok (content_of bytes)))
