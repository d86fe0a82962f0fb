-- The listing of a sheet: its header, then each line as an equation and each form as a sum. Assumes nothing.
--     terms k cs          the coefficients of cs that are not zero, each with its unknown, the first of them the k-th
--     term_text t         the term t without its sign: `2 r1`, or `r1` where the coefficient is 1 or -1
--     sum_text cs         the sum of the terms: `2 r1 - r2`, or `0` where there is none
--     line_text s i       line i of the sheet s: `line 1: 2 r1 - r2 = 3`
--     form_text s i       form i: `form 1: r1`
--     row_text w n cs r   a row of either kind: its name w, its number n, its coefficients cs, and its right side r
--     rows_text w n k zs  every row of k numbers that zs has, under the name w, with n coefficients
--     refusal_text e      `refused 3 byte 4`
--     listing bs          the text of the sheet bs, or why it is none
use Rattle.std.specs.Prelude.{ℕ, ◌+◌, ◌/◌, Bool, true, false, cond, List, [], ◌∷◌, ◌++◌, length, take, ℤ, pos, negsuc, Some, None, Ok, Err, Option, codes, decimal, ◌==◌, slice_get, slice_index_or, unsigned_abs}
use Rattle.std.specs.List.{range_with_len, flat_map}
use Rattle.std.specs.Option.{unwrap_or}
use Rattle.std.specs.Fmt.{signed_decimal}
use Rattle.sheet.specs.declared.refusal.Refusal.{Refusal}
use Rattle.sheet.specs.Format.{letters}
use Rattle.sheet.specs.Reading.{Content, row, sheet_of}
use Rattle.sheet.specs.Refusals.{number_of, byte_of}

-- a term: the unknown's number and its coefficient
abbrev pub Term : Type 0
Term = ℕ × ℤ

abbrev pub terms : ℕ → List ℤ → List Term
terms k [] = []
terms k (c ∷ cs) = elim (unsigned_abs c == 0) [ true ↦ terms (k + 1) cs | false ↦ (k, c) ∷ terms (k + 1) cs ]

abbrev pub negative : ℤ → Bool
negative (pos n) = false
negative (negsuc n) = true

abbrev pub term_text : Term → List ℕ
term_text t = cond (unsigned_abs t.1 == 1) [] (decimal (unsigned_abs t.1) ++ codes " ") ++ (codes "r" ++ decimal t.0)

-- the first term has its minus right before it, and every other is joined by its sign
abbrev pub first_sign : ℤ → List ℕ
first_sign c = cond (negative c) (codes "-") []

abbrev pub next_sign : ℤ → List ℕ
next_sign c = cond (negative c) (codes " - ") (codes " + ")

abbrev pub first_text : Term → List ℕ
first_text t = first_sign t.1 ++ term_text t

abbrev pub next_text : Term → List ℕ
next_text t = next_sign t.1 ++ term_text t

abbrev pub terms_text : List Term → List ℕ
terms_text [] = codes "0"
terms_text (t ∷ ts) = first_text t ++ flat_map next_text ts

abbrev pub sum_text : List ℤ → List ℕ
sum_text cs = terms_text (terms 1 cs)

-- line and form i, counted from 0; the listing counts them from 1
abbrev pub line_text : Content → ℕ → List ℕ
line_text s i =
    let numbers = row (s.counts.unknowns + 1) i s.lines in
    codes "line " ++ (decimal (i + 1) ++ (codes ": " ++ (sum_text (take s.counts.unknowns numbers) ++ (codes " = " ++ (signed_decimal (slice_index_or numbers s.counts.unknowns (pos 0)) ++ codes "\n")))))

abbrev pub form_text : Content → ℕ → List ℕ
form_text s i = codes "form " ++ (decimal (i + 1) ++ (codes ": " ++ (sum_text (row s.counts.unknowns i s.forms) ++ codes "\n")))

-- what a sum equals, where it has a right side
abbrev pub right_text : Option ℤ → List ℕ
right_text None = []
right_text (Some z) = codes " = " ++ signed_decimal z

-- both of these at once: a name, a number counted from 1, a sum, and its right side
abbrev pub row_text : List ℕ → ℕ → List ℤ → Option ℤ → List ℕ
row_text name number cs right = name ++ (codes " " ++ (decimal number ++ (codes ": " ++ (sum_text cs ++ (right_text right ++ codes "\n")))))

-- row i of the numbers zs, where a row has w of them: the first `unknowns` are coefficients, and one more is a right side
abbrev pub numbered_row : List ℕ → ℕ → ℕ → List ℤ → ℕ → List ℕ
numbered_row name unknowns w zs i = row_text name (i + 1) (take unknowns (row w i zs)) (slice_get (row w i zs) unknowns)

abbrev pub rows_text : List ℕ → ℕ → ℕ → List ℤ → List ℕ
rows_text name unknowns w zs = flat_map (numbered_row name unknowns w zs) (range_with_len 0 (length zs / w))

abbrev pub header_text : Content → List ℕ
header_text s = letters s.mark ++ (codes " " ++ (decimal s.counts.unknowns ++ (codes " " ++ (decimal s.counts.lines ++ (codes " " ++ (decimal s.counts.forms ++ codes "\n"))))))

abbrev pub lines_text : Content → List ℕ
lines_text s = flat_map (line_text s) (range_with_len 0 s.counts.lines)

abbrev pub forms_text : Content → List ℕ
forms_text s = flat_map (form_text s) (range_with_len 0 s.counts.forms)

abbrev pub sheet_text : Content → List ℕ
sheet_text s = header_text s ++ (lines_text s ++ forms_text s)

-- a refusal of a reading always tells a byte
abbrev pub refusal_text : Refusal → List ℕ
refusal_text e = codes "refused " ++ (decimal (number_of e) ++ (codes " byte " ++ (decimal (unwrap_or (byte_of e) 0) ++ codes "\n")))

abbrev pub listing : List ℕ → List ℕ
listing bytes = elim (sheet_of bytes) [ Ok s ↦ sheet_text s | Err e ↦ refusal_text e ]
