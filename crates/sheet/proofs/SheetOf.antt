-- What the steps of reading a sheet show of `sheet_of`. Assumes nothing.
use Rattle.std.proofs.Common.{◌≡◌, ℕ, ◌+◌, ◌*◌, ◌≤◌, true, List, take, ℤ, is_ok, Ok, Err, Result, unwrap_or, sym, ap, subst, ◌∙◌, arith}
use Rattle.std.proofs.lemmas.Nat.{mul-le}
use Rattle.std.proofs.lemmas.Bool.{leb-true, and_parts}
use Rattle.limits.specs.Limits.{most_unknowns}
use Rattle.sheet.specs.declared.format.Counts.{Counts}
use Rattle.sheet.specs.declared.format.Mark.{Mark}
use Rattle.sheet.specs.declared.format.Mark.TheVariants.{Frac}
use Rattle.sheet.specs.declared.refusal.Refusal.{Refusal}
use Rattle.sheet.specs.Checks.{judged, after}
use Rattle.sheet.specs.Format.{most_lines, most_forms, most_line_numbers, most_form_numbers, line_numbers, form_numbers}
use Rattle.sheet.specs.Numbers.{numbers, block_checks}
use Rattle.sheet.specs.declared.block.Block.{Block}
use Rattle.sheet.specs.Blocks.{count, numbers_of, checks_of, IsLines, IsForms}
use Rattle.sheet.specs.Reading.{counts_of, count_checks, line_checks, form_checks, number_checks, lines_in, forms_in, content_of, sheet_of}
use Rattle.sheet.specs.Steps.{HeaderOf, BlockRead}
use Rattle.sheet.proofs.Judged.{judged-append, holds_from_judged}

-- counts that pass are small
pub record Small (c : Counts) : Type 0 where
  pub some : 1 ≤ c.unknowns
  pub unknowns : c.unknowns ≤ most_unknowns
  pub lines : c.lines ≤ most_lines
  pub forms : c.forms ≤ most_forms

pub small : (c : Counts) → judged (count_checks c) ≡ Ok tt → Small c
small c h =
    let a = holds_from_judged (count_checks c) h in
    let n = and_parts _ _ a.0 in
    record { some = leb-true _ _ n.0; unknowns = leb-true _ _ n.1; lines = leb-true _ _ a.1.0; forms = leb-true _ _ a.1.1.0 }

pub line_numbers_le : (c : Counts) → judged (count_checks c) ≡ Ok tt → line_numbers c ≤ most_line_numbers
line_numbers_le c h = let s = small c h in mul-le c.lines (c.unknowns + 1) most_lines (most_unknowns + 1) s.lines (omega arith)

pub form_numbers_le : (c : Counts) → judged (count_checks c) ≡ Ok tt → form_numbers c ≤ most_form_numbers
form_numbers_le c h = let s = small c h in mul-le c.forms c.unknowns most_forms most_unknowns s.forms s.unknowns

-- a block is judged as the lines, or the forms, that it is
pub lines_judged : {c : Counts} {b : Block} → IsLines c b → (zs : List ℤ) → judged (checks_of b zs) ≡ judged (line_checks c zs)
lines_judged l zs = λ i. judged (block_checks (l.unknowns i) (l.width i) (l.start i) zs)

pub forms_judged : {c : Counts} {b : Block} → IsForms c b → (zs : List ℤ) → judged (checks_of b zs) ≡ judged (form_checks c zs)
forms_judged f zs = λ i. judged (block_checks (f.unknowns i) (f.width i) (f.start i) zs)

-- and what is read of it is read of them
read_as : (r : Result (List ℤ) Refusal) (bytes : List ℕ) (b : Block) {start rows w n : ℕ} → b.start ≡ start → b.rows ≡ rows → b.width ≡ w → b.unknowns ≡ n → BlockRead r (checks_of b (numbers_of bytes b)) (count b) (numbers_of bytes b) → BlockRead r (block_checks n w start (numbers bytes start (rows * w))) (rows * w) (numbers bytes start (rows * w))
read_as r bytes b s h v u =
    subst (λ (q : ℕ × ℕ × ℕ × ℕ). BlockRead r (block_checks q.3 q.2 q.0 (numbers bytes q.0 (q.1 * q.2))) (q.1 * q.2) (numbers bytes q.0 (q.1 * q.2))) (λ i. (s i, h i, v i, u i))

-- the lines pass, so the forms decide
pub lines_pass : (c : Counts) (ls fs : List ℤ) → judged (line_checks c ls) ≡ Ok tt → judged (number_checks c ls fs) ≡ judged (form_checks c fs)
lines_pass c ls fs h = judged-append (line_checks c ls) (form_checks c fs) ∙ ap (λ r. after r (λ _. judged (form_checks c fs))) h

pub lines_stop : (c : Counts) (ls fs : List ℤ) (e : Refusal) → judged (line_checks c ls) ≡ Err e → judged (number_checks c ls fs) ≡ Err e
lines_stop c ls fs e h = judged-append (line_checks c ls) (form_checks c fs) ∙ ap (λ r. after r (λ _. judged (form_checks c fs))) h

module _ {bytes : List ℕ} {m : Mark} {c : Counts} (header : HeaderOf bytes m c) where
  -- past the header, the numbers decide
  numbers_decide : sheet_of bytes ≡ after (judged (number_checks c (lines_in bytes c) (forms_in bytes c))) (λ _. Ok (content_of bytes))
  numbers_decide =
      ap (λ r. after r (λ _. after (judged (number_checks (counts_of bytes) (lines_in bytes (counts_of bytes)) (forms_in bytes (counts_of bytes)))) (λ _. Ok (content_of bytes)))) header.passes
      ∙ ap (λ d. after (judged (number_checks d (lines_in bytes d) (forms_in bytes d))) (λ _. Ok (content_of bytes))) header.counted

  pub sheet_stops : (e : Refusal) → judged (number_checks c (lines_in bytes c) (forms_in bytes c)) ≡ Err e → sheet_of bytes ≡ Err e
  sheet_stops e h = numbers_decide ∙ ap (λ r. after r (λ _. Ok (content_of bytes))) h

  pub sheet_passes : judged (number_checks c (lines_in bytes c) (forms_in bytes c)) ≡ Ok tt → sheet_of bytes ≡ Ok (record { mark = m; counts = c; lines = lines_in bytes c; forms = forms_in bytes c })
  sheet_passes h =
      numbers_decide ∙ ap (λ r. after r (λ _. Ok (content_of bytes))) h
      ∙ ap (λ o. Ok (record { mark = unwrap_or o Frac; counts = counts_of bytes; lines = lines_in bytes (counts_of bytes); forms = forms_in bytes (counts_of bytes) })) header.marked
      ∙ ap (λ (d : Counts). Ok (record { mark = m; counts = d; lines = lines_in bytes d; forms = forms_in bytes d })) header.counted

  -- what was read of the lines and of the forms
  module _ {b : Block} (is_lines : IsLines c b) where
    pub stops_in_lines : (e : Refusal) → judged (checks_of b (numbers_of bytes b)) ≡ Err e → sheet_of bytes ≡ Err e
    stops_in_lines e h = sheet_stops e (lines_stop c (lines_in bytes c) (forms_in bytes c) e (read_as (Err e) bytes b is_lines.start is_lines.rows is_lines.width is_lines.unknowns h))

    module _ (ls : List ℤ) (l : BlockRead (Ok ls) (checks_of b (numbers_of bytes b)) (count b) (numbers_of bytes b)) where
      pub lines_read : BlockRead (Ok ls) (line_checks c (lines_in bytes c)) (line_numbers c) (lines_in bytes c)
      lines_read = read_as (Ok ls) bytes b is_lines.start is_lines.rows is_lines.width is_lines.unknowns l

      module _ {d : Block} (is_forms : IsForms c d) where
        pub stops_in_forms : (e : Refusal) → judged (checks_of d (numbers_of bytes d)) ≡ Err e → sheet_of bytes ≡ Err e
        stops_in_forms e h =
            sheet_stops e (lines_pass c (lines_in bytes c) (forms_in bytes c) lines_read.0 ∙ read_as (Err e) bytes d is_forms.start is_forms.rows is_forms.width is_forms.unknowns h)

        module _ (fs : List ℤ) (f : BlockRead (Ok fs) (checks_of d (numbers_of bytes d)) (count d) (numbers_of bytes d)) where
          pub forms_read : BlockRead (Ok fs) (form_checks c (forms_in bytes c)) (form_numbers c) (forms_in bytes c)
          forms_read = read_as (Ok fs) bytes d is_forms.start is_forms.rows is_forms.width is_forms.unknowns f

          all_pass : judged (number_checks c (lines_in bytes c) (forms_in bytes c)) ≡ Ok tt
          all_pass = lines_pass c (lines_in bytes c) (forms_in bytes c) lines_read.0 ∙ forms_read.0

          pub ranged : is_ok (judged (number_checks c (take (line_numbers c) ls) (take (form_numbers c) fs))) ≡ true
          ranged = rw (lines_read.1, forms_read.1) (ap is_ok all_pass)

          pub reads : Ok (record { mark = m; counts = c; lines = take (line_numbers c) ls; forms = take (form_numbers c) fs }) ≡ sheet_of bytes
          reads = rw (lines_read.1, forms_read.1) (sym (sheet_passes all_pass))
