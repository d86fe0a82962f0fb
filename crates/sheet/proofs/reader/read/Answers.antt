use Rattle.std.proofs.Common.{sym}
use Rattle.std.proofs.lemmas.Result.{err_from_is_err_and}
use Rattle.sheet.proofs.SheetOf.{stops_in_lines, stops_in_forms, lines_read, forms_read, ranged, reads}
use Rattle.sheet.proofs.RoundTrip.{writes_again}
use Rattle.sheet.proofs.reader.read.Goals as goal

pub returns-in_err-lines : goal.returns-in_err-lines
returns-in_err-lines c =
    let p = err_from_is_err_and c.from_residual-in_err-lines.result c.from_residual-in_err-lines.ensures.1 in
    record { value = rw (p.1, p.2) (sym (stops_in_lines c.in_ok-mark.ensures c.lines.ensures.value _ c.in_err-lines.ensures)); back = rw p.1 tt }

pub returns-in_err-forms : goal.returns-in_err-forms
returns-in_err-forms c =
    let p = err_from_is_err_and c.from_residual-in_err-forms.result c.from_residual-in_err-forms.ensures.1 in
    record { value = rw (p.1, p.2) (sym (stops_in_forms c.in_ok-mark.ensures c.lines.ensures.value c.in_ok-lines.lines c.in_ok-lines.ensures c.forms.ensures.value _ c.in_err-forms.ensures)); back = rw p.1 tt }

pub invariant_of-result : goal.invariant_of-result
invariant_of-result c =
    record { ranged = ranged c.in_ok-mark.ensures c.lines.ensures.value c.in_ok-lines.lines c.in_ok-lines.ensures c.forms.ensures.value c.in_ok-forms.forms c.in_ok-forms.ensures }

pub returns : goal.returns
returns c =
    let header = c.in_ok-mark.ensures in
    let is_lines = c.lines.ensures.value in
    let is_forms = c.forms.ensures.value in
    let ls = c.in_ok-lines.lines in
    let fs = c.in_ok-forms.forms in
    record {
      value = reads header is_lines ls c.in_ok-lines.ensures is_forms fs c.in_ok-forms.ensures;
      back = writes_again c.args.bytes.now (λ i. (c.type_inv.bytes i).fits) _ _ header _ _ (lines_read header is_lines ls c.in_ok-lines.ensures) (forms_read header is_lines ls c.in_ok-lines.ensures is_forms fs c.in_ok-forms.ensures);
    }
