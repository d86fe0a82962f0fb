-- What is written reads as what it was, and what is read is written as the same bytes. Assumes nothing.
use Rattle.std.proofs.Common.{◌≡◌, ℕ, zero, suc, ◌+◌, ◌*◌, ◌%◌, ◌<◌, ◌≤◌, Bool, true, false, cond, ltb, List, [], ◌∷◌, ◌++◌, map, length, get_or, take, drop, ℤ, pos, negsuc, nat_abs, is_some, Some, None, Ok, sym, refl, ap, ◌∙◌, subst, append_assoc, append-nil, mul-suc, arith, length-append, take-add, w32, SFits}
use Rattle.std.proofs.lemmas.List.FromFn.{fill_by_all, map-range_with_len_more}
use Rattle.std.proofs.ByRecursion.{All-append, All-from_get_or}
use Rattle.std.proofs.lemmas.Slice.Eq.{bytes_eq-Decides}
use Rattle.std.proofs.lemmas.List.{take_all, drop-drop}
use Rattle.std.proofs.lemmas.Grind.{flat_map-append}
use Rattle.std.proofs.lemmas.Nat.{from_le_bytes-to_le_bytes_2}
use Rattle.std.proofs.lemmas.Bool.{leb-true, le-leb, eq-eqb, and_from, and_parts, eqb-true}
use Rattle.std.specs.List.{range_with_len, flat_map, AllByRecursion as All}
use Rattle.std.specs.Str.{bytes_eq}
use Rattle.limits.specs.Limits.{coefficient_limit, right_side_limit}
use Rattle.memory.specs.Over.{over}
use Rattle.memory.proofs.Pieces.{take-over}
use Rattle.sheet.specs.declared.format.Counts.{Counts}
use Rattle.sheet.specs.declared.format.Mark.{Mark}
use Rattle.sheet.specs.declared.format.Mark.TheVariants.{Frac, Rest}
use Rattle.sheet.specs.Checks.{judged, after, if_passed}
use Rattle.sheet.specs.Format.{letters, mark_of, header_fields, line_numbers, form_numbers, forms_start, total_length}
use Rattle.sheet.specs.Numbers.{field_at, number_at, numbers, field_bytes, number_bytes, block_checks}
use Rattle.sheet.specs.Reading.{Content, counts_of, header_checks, count_checks, layout_checks, line_checks, form_checks, number_checks, lines_in, forms_in, sheet_of}
use Rattle.sheet.specs.Steps.{HeaderOf, BlockRead}
use Rattle.sheet.specs.Writing.{header_bytes, sheet_bytes, length_checks, write_checks, written, memory_after, WritesAs}
use Rattle.sheet.proofs.Blocks.{block_holds, length-numbers}
use Rattle.sheet.proofs.Judged.{Holds, holds_from_judged, judged_from_holds, judged_split}
use Rattle.sheet.proofs.SheetOf.{small, lines_pass, sheet_passes}
use Rattle.sheet.proofs.Words.{field_at-append, number_at-append, written_at, field_bytes_at, number_bytes_at}
use Rattle.sheet.proofs.Written.{long, numbers_left, put_all, total_le, length-letters, length-header_bytes, length-numbers_bytes, length-sheet_bytes}

-- a number in range fits 32 bits
limit_le : (b : Bool) → cond b coefficient_limit right_side_limit < 2147483648
limit_le true = omega arith
limit_le false = omega arith

near_fits : (z : ℤ) → nat_abs z < 2147483648 → SFits w32 z
near_fits (pos n) h = record { sfits = omega arith }
near_fits (negsuc n) h = record { sfits = omega arith }

pub block_fits : (n w start : ℕ) (zs : List ℤ) → judged (block_checks n w start zs) ≡ Ok tt → All (SFits w32) zs
block_fits n w start zs h =
    All-from_get_or (SFits w32) zs (pos 0) (λ k l. near_fits (get_or zs k (pos 0)) (omega (arith, leb-true _ _ (block_holds n w start zs h k l), limit_le (ltb (k % w) n))))

-- the fields of a header read as what they were written from
fields_back : (m : Mark) (a b c d e f : ℕ) (rest : List ℕ) → All (λ x. x < 65536) (a ∷ b ∷ c ∷ d ∷ e ∷ f ∷ []) → let bs = (letters m ++ flat_map field_bytes (a ∷ b ∷ c ∷ d ∷ e ∷ f ∷ [])) ++ rest in (field_at bs 4 ≡ a) × (field_at bs 6 ≡ b) × (field_at bs 8 ≡ c) × (field_at bs 10 ≡ d) × (field_at bs 12 ≡ e) × (field_at bs 14 ≡ f)
fields_back m a b c d e f rest h =
    let fs = flat_map field_bytes (a ∷ b ∷ c ∷ d ∷ e ∷ f ∷ []) in
    let past : (k : ℕ) → field_at ((letters m ++ fs) ++ rest) (4 + k) ≡ field_at (fs ++ rest) k =
    λ k. ap (λ bs. field_at bs (4 + k)) (append_assoc (letters m) fs rest) ∙ ap (λ n. field_at (letters m ++ (fs ++ rest)) (n + k)) (sym (length-letters m)) ∙ field_at-append (letters m) (fs ++ rest) k in (
      past 0 ∙ from_le_bytes-to_le_bytes_2 a h.0,
      past 2 ∙ from_le_bytes-to_le_bytes_2 b h.1.0,
      past 4 ∙ from_le_bytes-to_le_bytes_2 c h.1.1.0,
      past 6 ∙ from_le_bytes-to_le_bytes_2 d h.1.1.1.0,
      past 8 ∙ from_le_bytes-to_le_bytes_2 e h.1.1.1.1.0,
      past 10 ∙ from_le_bytes-to_le_bytes_2 f h.1.1.1.1.1.0,
    )

mark_back : (m : Mark) (bs rest : List ℕ) → mark_of (take 4 ((letters m ++ bs) ++ rest)) ≡ Some m
mark_back Frac bs rest = refl
mark_back Rest bs rest = refl

fields_small : (c : Counts) → judged (count_checks c) ≡ Ok tt → All (λ x. x < 65536) (header_fields c)
fields_small c h =
    let s = small c h in
    (omega arith, (omega arith, (omega arith, (omega arith, (omega (arith, total_le c h), (omega (arith, total_le c h), tt))))))

-- a content that can be written
pub record Sound (s : Content) : Type 0 where
  pub counted : judged (count_checks s.counts) ≡ Ok tt
  pub lines_long : length s.lines ≡ line_numbers s.counts
  pub forms_long : length s.forms ≡ form_numbers s.counts
  pub ranged : judged (number_checks s.counts s.lines s.forms) ≡ Ok tt

-- the header of what is written
module _ (m : Mark) (c : Counts) (rest : List ℕ) (counted : judged (count_checks c) ≡ Ok tt) (long : length (header_bytes m c ++ rest) ≡ total_length c) where
  fields : let bs = header_bytes m c ++ rest in (field_at bs 4 ≡ c.unknowns) × (field_at bs 6 ≡ c.lines) × (field_at bs 8 ≡ c.forms) × (field_at bs 10 ≡ 16) × (field_at bs 12 ≡ forms_start c) × (field_at bs 14 ≡ total_length c)
  fields = fields_back m c.unknowns c.lines c.forms 16 (forms_start c) (total_length c) rest (fields_small c counted)

  counts_back : counts_of (header_bytes m c ++ rest) ≡ c
  counts_back = λ i. record { unknowns = fields.0 i; lines = fields.1 i; forms = fields.2 i }

  layout_back : All Holds (layout_checks (header_bytes m c ++ rest) c (length (header_bytes m c ++ rest)))
  layout_back =
      (eq-eqb _ _ fields.3, (eq-eqb _ _ fields.4, (and_from _ _ (eq-eqb _ _ fields.5) (eq-eqb _ _ (fields.5 ∙ sym long)), tt)))

  pub header_back : HeaderOf (header_bytes m c ++ rest) m c
  header_back =
      let bs = header_bytes m c ++ rest in
      let counts = subst (λ d. All Holds (count_checks d)) (sym counts_back) (holds_from_judged (count_checks c) counted) in
      let layout = subst (λ d. All Holds (layout_checks bs d (length bs))) (sym counts_back) layout_back in
      let marked = mark_back m (flat_map field_bytes (header_fields c)) rest in
      record {
        passes = judged_from_holds (header_checks bs) (le-leb 16 (length bs) (omega (arith, long)), (ap is_some marked, All-append Holds (count_checks (counts_of bs)) (layout_checks bs (counts_of bs) (length bs)) counts layout));
        marked = marked;
        counted = counts_back;
        small = counted;
        long = sym long;
      }

-- a block of numbers that is written reads as itself, wherever it stands
block_back : (pre : List ℕ) (zs : List ℤ) (post : List ℕ) (start count : ℕ) → length pre ≡ start → length zs ≡ count → All (SFits w32) zs → numbers (pre ++ (flat_map number_bytes zs ++ post)) start count ≡ zs
block_back pre zs post start count e f h =
    let bs = flat_map number_bytes zs ++ post in
    sym (fill_by_all (λ k. number_at (pre ++ bs) (start + 4 * k)) zs count (pos 0) f (λ k l.
    sym (ap (λ n. number_at (pre ++ bs) (n + 4 * k)) (sym e) ∙ number_at-append pre bs (4 * k) ∙ written_at zs post h k (omega arith))))

module _ (s : Content) (sound : Sound s) where
  lines_back : lines_in (sheet_bytes s) s.counts ≡ s.lines
  lines_back =
      let passed = judged_split (line_checks s.counts s.lines) (form_checks s.counts s.forms) sound.ranged in
      block_back (header_bytes s.mark s.counts) s.lines (flat_map number_bytes s.forms) 16 (line_numbers s.counts) (length-header_bytes s.mark s.counts) sound.lines_long (block_fits s.counts.unknowns (s.counts.unknowns + 1) 16 s.lines passed.0)

  forms_back : forms_in (sheet_bytes s) s.counts ≡ s.forms
  forms_back =
      let passed = judged_split (line_checks s.counts s.lines) (form_checks s.counts s.forms) sound.ranged in
      let head = header_bytes s.mark s.counts in
      let ls = flat_map number_bytes s.lines in
      let fs = flat_map number_bytes s.forms in
      ap (λ bs. forms_in bs s.counts) (sym (append_assoc head ls fs) ∙ ap (λ bs. (head ++ ls) ++ bs) (sym (append-nil fs)))
      ∙ block_back (head ++ ls) s.forms [] (forms_start s.counts) (form_numbers s.counts) (length-append head ls ∙ omega (arith, length-header_bytes s.mark s.counts, length-numbers_bytes s.lines, sound.lines_long)) sound.forms_long (block_fits s.counts.unknowns s.counts.unknowns (forms_start s.counts) s.forms passed.1)

  -- it passes, and is written as its bytes
  passes : (memory : List ℕ) → total_length s.counts ≤ length memory → judged (write_checks s.counts s.lines s.forms (length memory)) ≡ Ok tt
  passes memory room =
      let lens = judged_from_holds (length_checks s.counts (length s.lines) (length s.forms) (length memory)) (eq-eqb _ _ sound.lines_long, (eq-eqb _ _ sound.forms_long, (le-leb _ _ room, tt))) in
      numbers_left s.counts s.lines s.forms (length memory) sound.counted lens ∙ sound.ranged

  pub writes_as : WritesAs s (sheet_bytes s)
  writes_as memory room =
      let ok = passes memory (omega (arith, length-sheet_bytes s sound.lines_long sound.forms_long)) in
      (ap (λ r. after r (λ _. Ok (length (sheet_bytes s)))) ok, ap (λ r. if_passed r (over 0 (sheet_bytes s) memory) memory) ok)

  pub sheet_back : sheet_of (sheet_bytes s) ≡ Ok s
  sheet_back =
      let header = header_back s.mark s.counts (flat_map number_bytes s.lines ++ flat_map number_bytes s.forms) sound.counted (length-sheet_bytes s sound.lines_long sound.forms_long) in
      sheet_passes header (ap (λ (p : List ℤ × List ℤ). judged (number_checks s.counts p.0 p.1)) (λ i. (lines_back i, forms_back i)) ∙ sound.ranged)
      ∙ (λ i. Ok (record { mark = s.mark; counts = s.counts; lines = lines_back i; forms = forms_back i }))

-- pieces of w bytes that are read one after another are the bytes that they were read from
pieces_back : {X : Type 0} (f : X → List ℕ) (g : ℕ → X) (w start : ℕ) (bytes : List ℕ) (n : ℕ) → ((k : ℕ) → k < n → f (g k) ≡ take w (drop (start + w * k) bytes)) → flat_map f (map g (range_with_len 0 n)) ≡ take (w * n) (drop start bytes)
pieces_back f g w start bytes zero h = let e : 0 ≡ w * 0 = omega arith in ap (λ k. take k (drop start bytes)) e
pieces_back f g w start bytes (suc n) h =
    let one : suc n ≡ n + 1 = omega arith in
    let all : w * n + w ≡ w * suc n = omega (arith, mul-suc w n) in
    ap (λ k. flat_map f (map g (range_with_len 0 k))) one
    ∙ ap (flat_map f) (map-range_with_len_more g 0 n n (omega arith))
    ∙ flat_map-append f (map g (range_with_len 0 n)) (g n ∷ [])
    ∙ (λ i. pieces_back f g w start bytes n (λ k l. h k (omega arith)) i ++ (append-nil (f (g n)) ∙ h n (omega arith) ∙ ap (take w) (sym (drop-drop (w * n) start bytes))) i)
    ∙ sym (take-add (w * n) w (drop start bytes))
    ∙ ap (λ k. take k (drop start bytes)) all

-- a mark's letters
mark_letters : (bs : List ℕ) (m : Mark) → mark_of bs ≡ Some m → letters m ≡ bs
mark_letters bs m h = by_cases (bytes_eq bs (letters Frac)) (bytes_eq bs (letters Rest)) (bytes_eq-Decides bs (letters Frac)).0 (bytes_eq-Decides bs (letters Rest)).0 h
  where
    by_cases : (f r : Bool) → (f ≡ true → bs ≡ letters Frac) → (r ≡ true → bs ≡ letters Rest) → cond f (Some Frac) (cond r (Some Rest) None) ≡ Some m → letters m ≡ bs
    by_cases true r p q e = let same : m ≡ Frac = cc in ap letters same ∙ sym (p refl)
    by_cases false true p q e = let same : m ≡ Rest = cc in ap letters same ∙ sym (q refl)
    by_cases false false p q e = absurd (cc)

-- a sheet that was read, over bytes
module _ (bytes : List ℕ) (small : (i : ℕ) → get_or bytes i 0 < 256) (m : Mark) (c : Counts) (header : HeaderOf bytes m c) where
  fields_are : header_fields c ≡ map (λ k. field_at bytes (4 + 2 * k)) (range_with_len 0 6)
  fields_are =
      let layout = (holds_from_judged (header_checks bytes) header.passes).1.1.1.1.1 in
      let lines : field_at bytes 10 ≡ 16 = eqb-true _ _ layout.0 in
      let forms : field_at bytes 12 ≡ forms_start (counts_of bytes) = eqb-true _ _ layout.1.0 in
      let total : field_at bytes 14 ≡ total_length (counts_of bytes) = eqb-true _ _ (and_parts _ _ layout.1.1.0).0 in
      ap header_fields (sym header.counted) ∙ (λ i. field_at bytes 4 ∷ field_at bytes 6 ∷ field_at bytes 8 ∷ sym lines i ∷ sym forms i ∷ sym total i ∷ [])

  header_is : header_bytes m c ≡ take 16 bytes
  header_is =
      let fields = ap (flat_map field_bytes) fields_are ∙ pieces_back field_bytes (λ k. field_at bytes (4 + 2 * k)) 2 4 bytes 6 (λ k h. field_bytes_at bytes small (4 + 2 * k) (omega (arith, header.long))) in
      (λ i. mark_letters (take 4 bytes) m header.marked i ++ fields i) ∙ sym (take-add 4 12 bytes)

  block_is : (start n : ℕ) → start + 4 * n ≤ length bytes → flat_map number_bytes (numbers bytes start n) ≡ take (4 * n) (drop start bytes)
  block_is start n l = pieces_back number_bytes (λ k. number_at bytes (start + 4 * k)) 4 start bytes n (λ k h. number_bytes_at bytes small (start + 4 * k) (omega arith))

  pub bytes_back : sheet_bytes (record { mark = m; counts = c; lines = lines_in bytes c; forms = forms_in bytes c }) ≡ bytes
  bytes_back =
      let ls = line_numbers c in
      let fs = form_numbers c in
      (λ i. header_is i ++ (block_is 16 ls (omega (arith, header.long)) i ++ block_is (forms_start c) fs (omega (arith, header.long)) i))
      ∙ sym (append_assoc (take 16 bytes) (take (4 * ls) (drop 16 bytes)) (take (4 * fs) (drop (forms_start c) bytes)))
      ∙ ap (λ l. l ++ take (4 * fs) (drop (forms_start c) bytes)) (sym (take-add 16 (4 * ls) bytes))
      ∙ sym (take-add (forms_start c) (4 * fs) bytes)
      ∙ take_all (total_length c) bytes (omega (arith, header.long))

  -- what was read of the lines and of the forms is written as the bytes
  pub writes_again : (ls fs : List ℤ) → BlockRead (Ok ls) (line_checks c (lines_in bytes c)) (line_numbers c) (lines_in bytes c) → BlockRead (Ok fs) (form_checks c (forms_in bytes c)) (form_numbers c) (forms_in bytes c) → WritesAs (record { mark = m; counts = c; lines = take (line_numbers c) ls; forms = take (form_numbers c) fs }) bytes
  writes_again ls fs l f =
      let s : Content = record { mark = m; counts = c; lines = lines_in bytes c; forms = forms_in bytes c } in
      let passed = lines_pass c (lines_in bytes c) (forms_in bytes c) l.0 ∙ f.0 in
      let sound : Sound s = record { counted = header.small; lines_long = length-numbers bytes 16 (line_numbers c); forms_long = length-numbers bytes (forms_start c) (form_numbers c); ranged = passed } in
      subst (λ (p : List ℤ × List ℤ). WritesAs (record { mark = m; counts = c; lines = p.0; forms = p.1 }) bytes) (λ i. (sym l.1 i, sym f.1 i)) (subst (WritesAs s) bytes_back (writes_as s sound))

-- what passes can be written
pub sound_from : (s : Content) (room : ℕ) → judged (write_checks s.counts s.lines s.forms room) ≡ Ok tt → Sound s × (total_length s.counts ≤ room)
sound_from s room ok =
    let a = judged_split (count_checks s.counts) (length_checks s.counts (length s.lines) (length s.forms) room ++ number_checks s.counts s.lines s.forms) ok in
    let b = judged_split (length_checks s.counts (length s.lines) (length s.forms) room) (number_checks s.counts s.lines s.forms) a.1 in
    let lens = long s.counts (length s.lines) (length s.forms) room b.0 in
    (record { counted = a.0; lines_long = lens.lines_long; forms_long = lens.forms_long; ranged = b.1 }, lens.holds)

-- s is written: what that answers and leaves, and that it reads as s
abbrev pub AllWritten : Content → (memory after : List ℕ) → ℕ → Type 0
AllWritten s memory after n = (Ok n ≡ written s memory) × (after ≡ memory_after s memory) × (sheet_of (take n after) ≡ Ok s)

-- the steps of writing: the header, the lines, the forms
pub all_written : (s : Content) (memory first second last : List ℕ) (at n : ℕ) → judged (write_checks s.counts s.lines s.forms (length memory)) ≡ Ok tt → first ≡ over 0 (header_bytes s.mark s.counts) memory → second ≡ over 16 (flat_map number_bytes s.lines) first → at ≡ forms_start s.counts → last ≡ over at (flat_map number_bytes s.forms) second → n ≡ total_length s.counts → AllWritten s memory last n
all_written s memory first second last at n ok p q r t u =
    let known = sound_from s (length memory) ok in
    let sound = known.0 in
    let long = length-sheet_bytes s sound.lines_long sound.forms_long in
    let room : length (sheet_bytes s) ≤ length memory = omega (arith, long, known.1) in
    let told = writes_as s sound memory room in
    let whole : last ≡ over 0 (sheet_bytes s) memory =
    t
    ∙ (λ i. over (r i) (flat_map number_bytes s.forms) ((q ∙ ap (over 16 (flat_map number_bytes s.lines)) p) i))
    ∙ put_all s memory sound.lines_long sound.forms_long known.1 in (
      ap Ok (u ∙ sym long) ∙ sym told.0,
      whole ∙ sym told.1,
      ap sheet_of ((λ i. take (u i) (whole i)) ∙ take-over 0 (sheet_bytes s) memory (total_length s.counts) (omega (arith, long)) known.1) ∙ sheet_back s sound,
    )
