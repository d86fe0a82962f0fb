-- Sheets worked by hand, with the listing of each. Assumes nothing.
--     sheets            all of them
use Rattle.std.specs.Prelude.{ℕ, List, [], ◌∷◌, ◌++◌, codes}

-- a sheet, and its listing
abbrev pub Listed : Type 0
Listed = List ℕ × List ℕ

-- two unknowns, four lines, two forms
abbrev pub two_rates : List ℕ
two_rates =
    codes "FRAC" ++ (2 ∷ 0 ∷ 4 ∷ 0 ∷ 2 ∷ 0 ∷ 16 ∷ 0 ∷ 64 ∷ 0 ∷ 80 ∷ 0 ∷ [])
    ++ (2 ∷ 0 ∷ 0 ∷ 0 ∷ 255 ∷ 255 ∷ 255 ∷ 255 ∷ 3 ∷ 0 ∷ 0 ∷ 0 ∷ [])
    ++ (4 ∷ 0 ∷ 0 ∷ 0 ∷ 254 ∷ 255 ∷ 255 ∷ 255 ∷ 6 ∷ 0 ∷ 0 ∷ 0 ∷ [])
    ++ (4 ∷ 0 ∷ 0 ∷ 0 ∷ 254 ∷ 255 ∷ 255 ∷ 255 ∷ 7 ∷ 0 ∷ 0 ∷ 0 ∷ [])
    ++ (1 ∷ 0 ∷ 0 ∷ 0 ∷ 1 ∷ 0 ∷ 0 ∷ 0 ∷ 1 ∷ 0 ∷ 0 ∷ 0 ∷ [])
    ++ (1 ∷ 0 ∷ 0 ∷ 0 ∷ 0 ∷ 0 ∷ 0 ∷ 0 ∷ [])
    ++ (1 ∷ 0 ∷ 0 ∷ 0 ∷ 254 ∷ 255 ∷ 255 ∷ 255 ∷ [])

-- -3 r1 + r2 = -5, 0 = 7, and the form 0
abbrev pub signs : List ℕ
signs =
    codes "REST" ++ (2 ∷ 0 ∷ 2 ∷ 0 ∷ 1 ∷ 0 ∷ 16 ∷ 0 ∷ 40 ∷ 0 ∷ 48 ∷ 0 ∷ [])
    ++ (253 ∷ 255 ∷ 255 ∷ 255 ∷ 1 ∷ 0 ∷ 0 ∷ 0 ∷ 251 ∷ 255 ∷ 255 ∷ 255 ∷ [])
    ++ (0 ∷ 0 ∷ 0 ∷ 0 ∷ 0 ∷ 0 ∷ 0 ∷ 0 ∷ 7 ∷ 0 ∷ 0 ∷ 0 ∷ [])
    ++ (0 ∷ 0 ∷ 0 ∷ 0 ∷ 0 ∷ 0 ∷ 0 ∷ 0 ∷ [])

-- one unknown, and its only form has the coefficient x, of four bytes
abbrev pub one_form : List ℕ → List ℕ
one_form x = codes "FRAC" ++ (1 ∷ 0 ∷ 0 ∷ 0 ∷ 1 ∷ 0 ∷ 16 ∷ 0 ∷ 16 ∷ 0 ∷ 20 ∷ 0 ∷ []) ++ x

abbrev pub sheets : List Listed
sheets =
    (two_rates, codes "FRAC 2 4 2\nline 1: 2 r1 - r2 = 3\nline 2: 4 r1 - 2 r2 = 6\nline 3: 4 r1 - 2 r2 = 7\nline 4: r1 + r2 = 1\nform 1: r1\nform 2: r1 - 2 r2\n")
    ∷ (signs, codes "REST 2 2 1\nline 1: -3 r1 + r2 = -5\nline 2: 0 = 7\nform 1: 0\n")
    ∷ ([], codes "refused 1 byte 0\n")
    ∷ (codes "FRAK" ++ codes "0123456789ab", codes "refused 2 byte 0\n")
    ∷ (codes "FRAC" ++ (13 ∷ 0 ∷ 0 ∷ 0 ∷ 0 ∷ 0 ∷ 16 ∷ 0 ∷ 16 ∷ 0 ∷ 16 ∷ 0 ∷ []), codes "refused 3 byte 4\n")
    ∷ (codes "REST" ++ (12 ∷ 0 ∷ 0 ∷ 0 ∷ 0 ∷ 0 ∷ 16 ∷ 0 ∷ 16 ∷ 0 ∷ 16 ∷ 0 ∷ []), codes "REST 12 0 0\n")
    ∷ (codes "REST" ++ (12 ∷ 0 ∷ 0 ∷ 0 ∷ 0 ∷ 0 ∷ 16 ∷ 0 ∷ 16 ∷ 0 ∷ 17 ∷ 0 ∷ []), codes "refused 4 byte 14\n")
    ∷ (one_form (64 ∷ 66 ∷ 15 ∷ 0 ∷ []), codes "FRAC 1 0 1\nform 1: 1000000 r1\n")
    ∷ (one_form (65 ∷ 66 ∷ 15 ∷ 0 ∷ []), codes "refused 7 byte 16\n")
    ∷ (one_form (192 ∷ 189 ∷ 240 ∷ 255 ∷ []), codes "FRAC 1 0 1\nform 1: -1000000 r1\n")
    ∷ (one_form (191 ∷ 189 ∷ 240 ∷ 255 ∷ []), codes "refused 7 byte 16\n")
    ∷ []
