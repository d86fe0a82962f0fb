-- The rows of a sheet, as they are written one after another. Assumes nothing.
use Rattle.std.proofs.Common.{◌≡◌, ℕ, zero, suc, ◌+◌, ◌-◌, ◌*◌, ◌/◌, ◌<◌, ◌≤◌, List, [], ◌∷◌, ◌++◌, length, get_or, take, drop, ℤ, pos, Bor, Some, None, codes, refl, sym, ap, subst, ◌∙◌, arith, length-append, length-drop}
use Rattle.std.proofs.Math.Nat.{mul-div_cancel, mul-le-mul_right}
use Rattle.std.proofs.Math.Seq.{drop-drop, take-length, take-append_seam, drop-append_seam}
use Rattle.std.proofs.lemmas.List.{map-id, flat_map_more, length-take-le}
use Rattle.std.proofs.lemmas.List.FromFn.{map-range_with_len_more}
use Rattle.std.proofs.lemmas.Nat.{div-mul-add}
use Rattle.std.proofs.lemmas.Option.{slice_get-get_or, slice_get_past}
use Rattle.std.specs.List.{range_with_len, flat_map, slice_get}
use Rattle.std.specs.Iterator.{Yields}
use Rattle.std.specs.Slice.Exact.{chunks_exact_steps_back}
use Rattle.std.specs.Slice.Iter.{chunks_exact_rest, chunks_exact_size, chunks_exact_steps}
use Rattle.std.specs.declared.slice.ChunksExact.{ChunksExact}
use Rattle.sheet.specs.declared.format.Counts.{Counts}
use Rattle.sheet.specs.Reading.{Content, row}
use Rattle.sheet.specs.Rows.{IsRowsOf}
use Rattle.listing.specs.Listing.{row_text, numbered_row, rows_text, line_text, form_text, lines_text, forms_text}

-- the i-th of the rows of w numbers that zs has comes next from s
pub record IsAtRow (w : ℕ) (zs : List ℤ) (i : ℕ) (s : ChunksExact ℤ) : Type 0 where
  pub wide : chunks_exact_size s ≡ w
  pub within : i * w ≤ length zs
  pub rest : chunks_exact_rest s ≡ drop (i * w) zs

module _ (w : ℕ) (zs : List ℤ) (i : ℕ) (s t : ChunksExact ℤ) (at : IsAtRow w zs i s) where
  module _ (x : Bor (List ℤ)) (h : chunks_exact_steps s (Some x) t) where
    here : x.now ++ chunks_exact_rest t ≡ drop (i * w) zs
    here = sym h.1.0 ∙ at.rest

    len : length x.now ≡ w
    len = h.1.1 ∙ at.wide

    pub this_row : x.now ≡ row w i zs
    this_row = sym (take-append_seam x.now (chunks_exact_rest t)) ∙ (λ j. take (len j) (here j))

    pub next_row : IsAtRow w zs (i + 1) t
    next_row = record {
      wide = h.0 ∙ at.wide;
      within = omega (arith, ap length here, length-append x.now (chunks_exact_rest t), length-drop (i * w) zs, len, at.within);
      rest = sym (drop-append_seam x.now (chunks_exact_rest t)) ∙ (λ j. drop (len j) (here j)) ∙ drop-drop w (i * w) zs ∙ ap (λ n. drop n zs) (omega arith);
    }

  pub last_row : chunks_exact_steps s None t → length zs / w ≡ i
  last_row h =
      let over : length zs ≡ i * w + (length zs - i * w) = omega (arith, at.within) in
      ap (λ n. n / w) over ∙ div-mul-add i w (length zs - i * w) (omega (arith, h.1.0, at.wide, ap length at.rest, length-drop (i * w) zs))

module _ (s : Content) (i : ℕ) (numbers : List ℤ) where
  pub row_text-line : numbers ≡ row (s.counts.unknowns + 1) i s.lines → length numbers ≡ s.counts.unknowns + 1 → row_text (codes "line") (i + 1) (take s.counts.unknowns numbers) (slice_get numbers s.counts.unknowns) ≡ line_text s i
  row_text-line is len =
      let n = s.counts.unknowns in
      ap (λ right. row_text (codes "line") (i + 1) (take n numbers) right) (slice_get-get_or numbers n (pos 0) (omega arith))
      ∙ ap (λ zs. row_text (codes "line") (i + 1) (take n zs) (Some (get_or zs n (pos 0)))) is

  pub row_text-form : numbers ≡ row s.counts.unknowns i s.forms → length numbers ≡ s.counts.unknowns → row_text (codes "form") (i + 1) (take s.counts.unknowns numbers) (slice_get numbers s.counts.unknowns) ≡ form_text s i
  row_text-form is len =
      let n = s.counts.unknowns in
      ap (λ right. row_text (codes "form") (i + 1) (take n numbers) right) (slice_get_past numbers n (omega arith))
      ∙ ap (λ m. row_text (codes "form") (i + 1) (take m numbers) None) (sym len)
      ∙ ap (λ zs. row_text (codes "form") (i + 1) zs None) (take-length numbers ∙ is)

flat_map_same : (f g : ℕ → List ℕ) (a n : ℕ) → ((k : ℕ) → k < a + n → f k ≡ g k) → flat_map f (range_with_len a n) ≡ flat_map g (range_with_len a n)
flat_map_same f g a zero same = refl
flat_map_same f g a (suc n) same = (λ j. same a (omega arith) j ++ flat_map_same f g (a + 1) n (λ k l. same k (omega arith)) j)

counting_more : (n : ℕ) → range_with_len 0 (n + 1) ≡ range_with_len 0 n ++ n ∷ []
counting_more n = sym (map-id (range_with_len 0 (n + 1))) ∙ map-range_with_len_more (λ k. k) 0 n n (omega arith) ∙ ap (λ l. l ++ n ∷ []) (map-id (range_with_len 0 n))

-- one more of the first n
pub flat_map-range_with_len : (f : ℕ → List ℕ) (out : List ℕ) (n : ℕ) (a b : List ℕ) → a ≡ out ++ flat_map f (range_with_len 0 n) → b ≡ a ++ f n → b ≡ out ++ flat_map f (range_with_len 0 (n + 1))
flat_map-range_with_len f out n a b p q = q ∙ ap (λ l. l ++ f n) p ∙ flat_map_more f out (range_with_len 0 n) n ∙ ap (λ l. out ++ flat_map f l) (sym (counting_more n))

-- the first n of the rows, as they are written
abbrev pub first_rows : List ℕ → ℕ → ℕ → List ℤ → ℕ → List ℕ
first_rows name unknowns w zs n = flat_map (numbered_row name unknowns w zs) (range_with_len 0 n)

pub first_rows-more : (name : List ℕ) (unknowns w : ℕ) (zs : List ℤ) (n : ℕ) (numbers : List ℤ) → numbers ≡ row w n zs → first_rows name unknowns w zs n ++ row_text name (n + 1) (take unknowns numbers) (slice_get numbers unknowns) ≡ first_rows name unknowns w zs (n + 1)
first_rows-more name unknowns w zs n numbers is =
    flat_map-range_with_len (numbered_row name unknowns w zs) [] n _ _ refl
    (ap (λ ns. first_rows name unknowns w zs n ++ row_text name (n + 1) (take unknowns ns) (slice_get ns unknowns)) is)

-- h rows of w numbers
module _ (h w : ℕ) (zs : List ℤ) (wide : 0 < w) (long : length zs ≡ h * w) where
  length-row : (k : ℕ) → k < h → length (row w k zs) ≡ w
  length-row k below = length-take-le w (drop (k * w) zs) (omega (arith, length-drop (k * w) zs, mul-le-mul_right w below))

  -- what is written of them, where each row gives what f says
  pub rows_text-all : (name : List ℕ) (unknowns : ℕ) (f : ℕ → List ℕ) → ((k : ℕ) → length (row w k zs) ≡ w → numbered_row name unknowns w zs k ≡ f k) → rows_text name unknowns w zs ≡ flat_map f (range_with_len 0 h)
  rows_text-all name unknowns f each =
      let count : length zs / w ≡ h = ap (λ n. n / w) long ∙ mul-div_cancel h wide in
      ap (first_rows name unknowns w zs) count
      ∙ flat_map_same (numbered_row name unknowns w zs) f 0 h (λ k l. each k (length-row k (omega arith)))

-- the same of what a sheet gives as its lines, and as its forms
module _ (s : Content) (c : Counts) (is : c ≡ s.counts) (rows : ChunksExact ℤ) where
  pub lines_written : IsRowsOf s.lines s.counts.lines (s.counts.unknowns + 1) rows → rows_text (codes "line") c.unknowns (chunks_exact_size rows) (chunks_exact_rest rows) ≡ lines_text s
  lines_written are =
      let n = s.counts.unknowns in
      let long : length s.lines ≡ s.counts.lines * (n + 1) = (λ j. length (sym are.rest j)) ∙ are.count ∙ ap (λ w. s.counts.lines * w) are.size in
      (λ j. rows_text (codes "line") (is j).unknowns (are.size j) (are.rest j))
      ∙ rows_text-all s.counts.lines (n + 1) s.lines (omega arith) long (codes "line") n (line_text s) (λ k. row_text-line s k (row (n + 1) k s.lines) refl)

  pub forms_written : IsRowsOf s.forms s.counts.forms s.counts.unknowns rows → rows_text (codes "form") c.unknowns (chunks_exact_size rows) (chunks_exact_rest rows) ≡ forms_text s
  forms_written are =
      let n = s.counts.unknowns in
      let long : length s.forms ≡ s.counts.forms * n = (λ j. length (sym are.rest j)) ∙ are.count ∙ ap (λ w. s.counts.forms * w) are.size in
      (λ j. rows_text (codes "form") (is j).unknowns (are.size j) (are.rest j))
      ∙ rows_text-all s.counts.forms n s.forms (subst (λ w. 0 < w) are.size are.some) long (codes "form") n (form_text s) (λ k. row_text-form s k (row n k s.forms) refl)

-- steps from the back leave the rows as wide as they were; the steps stand in the conclusion too, so that `grind` finds them
pub steps_back_keep_size : (s : ChunksExact ℤ) (xs : List (Bor (List ℤ))) (t : ChunksExact ℤ) → Yields chunks_exact_steps_back s xs t → Yields chunks_exact_steps_back s xs t × (chunks_exact_size t ≡ chunks_exact_size s)
steps_back_keep_size s [] t h = (h, ap chunks_exact_size (sym h))
steps_back_keep_size s (x ∷ xs) t h = (h, (steps_back_keep_size h.0 xs t h.2).1 ∙ h.1.0)
