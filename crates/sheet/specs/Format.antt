-- The layout of a sheet: its marks, its limits, and where its parts stand. Assumes nothing.
--     letters m           the four letters of the mark m
--     mark_of bs          the mark whose letters are bs, if there is one
--     lines_start         the byte at which the first line begins, just past the header
--     forms_start c       the byte at which the first form begins
--     total_length c      how many bytes a sheet with the counts c has
--     line_numbers c      how many numbers its lines have: n coefficients and a right side each
--     form_numbers c      how many numbers its forms have: n coefficients each
--     header_fields c     the six numbers of the header, in their order
use Rattle.std.specs.Prelude.{ℕ, ◌+◌, ◌*◌, cond, List, [], ◌∷◌, Some, None, Option}
use Rattle.std.specs.Str.{bytes_eq}
use Rattle.limits.specs.Limits.{frac_letters, rest_letters, most_unknowns}
use Rattle.sheet.specs.declared.format.Counts.{Counts}
use Rattle.sheet.specs.declared.format.Mark.{Mark}
use Rattle.sheet.specs.declared.format.Mark.TheVariants.{Frac, Rest}

abbrev pub letters : Mark → List ℕ
letters Frac = frac_letters
letters Rest = rest_letters

abbrev pub mark_of : List ℕ → Option Mark
mark_of bytes = cond (bytes_eq bytes (letters Frac)) (Some Frac) (cond (bytes_eq bytes (letters Rest)) (Some Rest) None)

-- the header ends, and the lines begin, at this byte
abbrev pub lines_start : ℕ
lines_start = 16

-- unknowns are 1 to `most_unknowns`, lines and forms at most 40 each
abbrev pub most_lines : ℕ
most_lines = 40

abbrev pub most_forms : ℕ
most_forms = 40

-- what the largest sheet has
abbrev pub most_line_numbers : ℕ
most_line_numbers = most_lines * (most_unknowns + 1)

abbrev pub most_form_numbers : ℕ
most_form_numbers = most_forms * most_unknowns

abbrev pub most_forms_start : ℕ
most_forms_start = lines_start + 4 * most_line_numbers

abbrev pub most_length : ℕ
most_length = most_forms_start + 4 * most_form_numbers

-- the bytes at which the fields of the header stand
abbrev pub unknowns_field : ℕ
unknowns_field = 4

abbrev pub lines_field : ℕ
lines_field = 6

abbrev pub forms_field : ℕ
forms_field = 8

abbrev pub lines_start_field : ℕ
lines_start_field = 10

abbrev pub forms_start_field : ℕ
forms_start_field = 12

abbrev pub total_field : ℕ
total_field = 14

abbrev pub line_numbers : Counts → ℕ
line_numbers c = c.lines * (c.unknowns + 1)

abbrev pub form_numbers : Counts → ℕ
form_numbers c = c.forms * c.unknowns

abbrev pub forms_start : Counts → ℕ
forms_start c = lines_start + 4 * line_numbers c

abbrev pub total_length : Counts → ℕ
total_length c = forms_start c + 4 * form_numbers c

abbrev pub header_fields : Counts → List ℕ
header_fields c = c.unknowns ∷ c.lines ∷ c.forms ∷ lines_start ∷ forms_start c ∷ total_length c ∷ []
