-- What the first bytes of a sheet tell of its header. Assumes nothing.
use Rattle.std.proofs.Common.{◌≡◌, ℕ, ◌+◌, ◌*◌, ◌<◌, List, ◌∷◌, [], ◌++◌, length, take, get_or, is_some, Some, Ok, Err, ◌==◌, ◌&&◌, sym, ap, ◌∙◌, arith}
use Rattle.std.proofs.lemmas.List.{get_or-take, take-take}
use Rattle.std.proofs.lemmas.Bool.{le-leb, and_parts, eqb-true}
use Rattle.std.specs.Array.{IsFirstChunk}
use Rattle.sheet.specs.declared.format.Counts.{Counts}
use Rattle.sheet.specs.declared.format.Mark.{Mark}
use Rattle.sheet.specs.declared.refusal.Refusal.{Refusal}
use Rattle.sheet.specs.declared.refusal.Refusal.TheVariants.{Short, NoMark, Layout}
use Rattle.sheet.specs.Checks.{judged, after}
use Rattle.sheet.specs.Format.{mark_of, lines_start, lines_start_field, forms_start_field, total_field, forms_start, total_length}
use Rattle.sheet.specs.Numbers.{field_at}
use Rattle.sheet.specs.Reading.{counts_of, count_checks, layout_checks, header_checks}
use Rattle.sheet.specs.Steps.{HeaderOf}
use Rattle.sheet.proofs.Judged.{judged-append, judged_holds, holds_from_judged}

module _ {bytes header : List ℕ} (first : IsFirstChunk bytes header 16) where
  byte_same : (i : ℕ) → i < 16 → get_or header i 0 ≡ get_or bytes i 0
  byte_same i l = ap (λ bs. get_or bs i 0) first.same ∙ get_or-take 16 bytes i 0 l

  field_same : (at : ℕ) → at + 1 < 16 → field_at header at ≡ field_at bytes at
  field_same at l = λ i. byte_same at (omega arith) i + byte_same (at + 1) l i * 256

  counts_same : counts_of header ≡ counts_of bytes
  counts_same = λ i. record { unknowns = field_same 4 (omega arith) i; lines = field_same 6 (omega arith) i; forms = field_same 8 (omega arith) i }

  layout_same : (c : Counts) (size : ℕ) → layout_checks header c size ≡ layout_checks bytes c size
  layout_same c size =
      λ i. ((field_same 10 (omega arith) i == lines_start), Layout lines_start_field)
      ∷ ((field_same 12 (omega arith) i == forms_start c), Layout forms_start_field)
      ∷ (field_same 14 (omega arith) i == total_length c && (field_same 14 (omega arith) i == size), Layout total_field)
      ∷ []

  front_same : take 4 header ≡ take 4 bytes
  front_same = ap (take 4) first.same ∙ take-take 4 16 bytes (omega arith)

  -- past the mark, the counts decide and then the layout
  module _ {m : Mark} (marked : mark_of (take 4 header) ≡ Some m) where
    mark_is : mark_of (take 4 bytes) ≡ Some m
    mark_is = ap mark_of (sym front_same) ∙ marked

    past_mark : judged (header_checks bytes) ≡ after (judged (count_checks (counts_of bytes))) (λ _. judged (layout_checks bytes (counts_of bytes) (length bytes)))
    past_mark =
        let layout = layout_checks bytes (counts_of bytes) (length bytes) in
        let rest = count_checks (counts_of bytes) ++ layout in
        judged_holds _ (Short (length bytes)) ((is_some (mark_of (take 4 bytes)), NoMark) ∷ rest) (le-leb 16 (length bytes) first.enough)
        ∙ judged_holds _ NoMark rest (ap is_some mark_is)
        ∙ judged-append (count_checks (counts_of bytes)) layout

    pub counts_stop : (e : Refusal) → judged (count_checks (counts_of header)) ≡ Err e → judged (header_checks bytes) ≡ Err e
    counts_stop e h =
        past_mark ∙ ap (λ r. after r (λ _. judged (layout_checks bytes (counts_of bytes) (length bytes)))) (ap (λ c. judged (count_checks c)) (sym counts_same) ∙ h)

    module _ {c : Counts} (counted : c ≡ counts_of header) (small : judged (count_checks c) ≡ Ok tt) where
      counts_are : counts_of bytes ≡ c
      counts_are = sym (counted ∙ counts_same)

      decides : judged (header_checks bytes) ≡ judged (layout_checks header c (length bytes))
      decides =
          past_mark
          ∙ ap (λ d. after (judged (count_checks d)) (λ _. judged (layout_checks bytes d (length bytes)))) counts_are
          ∙ ap (λ r. after r (λ _. judged (layout_checks bytes c (length bytes)))) small
          ∙ ap judged (sym (layout_same c (length bytes)))

      pub layout_stops : (e : Refusal) → judged (layout_checks header c (length bytes)) ≡ Err e → judged (header_checks bytes) ≡ Err e
      layout_stops e h = decides ∙ h

      pub header_passes : judged (layout_checks header c (length bytes)) ≡ Ok tt → HeaderOf bytes m c
      header_passes h =
          let total = and_parts _ _ (holds_from_judged (layout_checks header c (length bytes)) h).1.1.0 in
          record { passes = decides ∙ h; marked = mark_is; counted = counts_are; small = small; long = sym (eqb-true _ _ total.0) ∙ eqb-true _ _ total.1 }
