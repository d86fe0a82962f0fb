-- The bytes of a sheet, and what writing one answers and leaves. Assumes nothing.
--     content m c ls fs        the content of mark m, counts c, line numbers ls and form numbers fs
--     sheet_bytes s            the bytes of the sheet s
--     write_checks c ls fs room   what is checked, in order, before those are written into `room` bytes
--     written s memory         what that answers
--     memory_after s memory    what the memory holds then
--     WritesAs s bs            writing s leaves the bytes bs, in any memory with room
use Rattle.std.specs.Prelude.{◌≡◌, ℕ, ◌≤◌, List, [], ◌∷◌, ◌++◌, length, ℤ, Ok, Result, ◌==◌, nat_le}
use Rattle.std.specs.List.{flat_map}
use Rattle.memory.specs.Over.{over}
use Rattle.sheet.specs.declared.format.Counts.{Counts}
use Rattle.sheet.specs.declared.format.Mark.{Mark}
use Rattle.sheet.specs.declared.refusal.Refusal.{Refusal}
use Rattle.sheet.specs.declared.refusal.Refusal.TheVariants.{Length}
use Rattle.sheet.specs.Checks.{Check, judged, after, if_passed}
use Rattle.sheet.specs.Format.{letters, header_fields, line_numbers, form_numbers, total_length}
use Rattle.sheet.specs.Numbers.{field_bytes, number_bytes}
use Rattle.sheet.specs.Reading.{Content, count_checks, number_checks}

abbrev pub content : Mark → Counts → List ℤ → List ℤ → Content
content m c lines forms = record { mark = m; counts = c; lines = lines; forms = forms }

abbrev pub header_bytes : Mark → Counts → List ℕ
header_bytes m c = letters m ++ flat_map field_bytes (header_fields c)

abbrev pub sheet_bytes : Content → List ℕ
sheet_bytes s = header_bytes s.mark s.counts ++ (flat_map number_bytes s.lines ++ flat_map number_bytes s.forms)

-- lists of `lines` and `forms` numbers have the lengths that the counts name, and `room` bytes hold the sheet
abbrev pub length_checks : Counts → ℕ → ℕ → ℕ → List Check
length_checks c lines forms room = ((lines == line_numbers c), Length) ∷ ((forms == form_numbers c), Length) ∷ (nat_le (total_length c) room, Length) ∷ []

abbrev pub write_checks : Counts → List ℤ → List ℤ → ℕ → List Check
write_checks c lines forms room = count_checks c ++ (length_checks c (length lines) (length forms) room ++ number_checks c lines forms)

-- the length of the sheet, or the first thing that is wrong with it
abbrev pub written : Content → List ℕ → Result ℕ Refusal
written s memory = after (judged (write_checks s.counts s.lines s.forms (length memory))) (λ _. Ok (length (sheet_bytes s)))

-- the sheet and then what stood behind it; a refusal leaves all as it was
abbrev pub memory_after : Content → List ℕ → List ℕ
memory_after s memory = if_passed (judged (write_checks s.counts s.lines s.forms (length memory))) (over 0 (sheet_bytes s) memory) memory

-- writing s into any memory with room for them leaves the bytes bs
abbrev pub WritesAs : Content → List ℕ → Type 0
WritesAs s bs = (memory : List ℕ) → length bs ≤ length memory → (written s memory ≡ Ok (length bs)) × (memory_after s memory ≡ over 0 bs memory)
