-- What a sheet that was read says. Assumes nothing.
--     says s            the content of the sheet s
--     content_read r    what a reading answered, by its content
use Rattle.std.specs.Prelude.{take, Ok, Err, Result}
use Rattle.sheet.specs.declared.refusal.Refusal.{Refusal}
use Rattle.sheet.specs.declared.typed.Sheet.{Sheet}
use Rattle.sheet.specs.Format.{line_numbers, form_numbers}
use Rattle.sheet.specs.Reading.{Content}

abbrev pub says : Sheet → Content
says s = record { mark = s.mark; counts = s.shape.counts; lines = take (line_numbers s.shape.counts) s.lines; forms = take (form_numbers s.shape.counts) s.forms }

abbrev pub content_read : Result Sheet Refusal → Result Content Refusal
content_read (Ok s) = Ok (says s)
content_read (Err e) = Err e
