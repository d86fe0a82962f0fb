use Rattle.std.proofs.Common.{Err, sym, ap, ◌∙◌}
use Rattle.std.proofs.lemmas.Result.{err_from_is_err_and}
use Rattle.sheet.specs.Checks.{judged}
use Rattle.sheet.specs.Reading.{count_checks}
use Rattle.sheet.proofs.Judged.{passed_from_ok}
use Rattle.sheet.proofs.SheetOf.{lines_judged, forms_judged, lines_stop, lines_pass}
use Rattle.sheet.proofs.Written.{numbers_left}
use Rattle.sheet.proofs.writer.check.Goals as goal

pub returns-in_err-check : goal.returns-in_err-check
returns-in_err-check c =
    let s = c.args.shape in
    let ls = c.args.lines.now in
    let fs = c.args.forms.now in
    let p = err_from_is_err_and c.from_residual-in_err-check.result c.from_residual-in_err-check.ensures.1 in
    let counted = passed_from_ok (judged (count_checks s.counts)) s.counted in
    let lens = sym c.check_lengths.ensures ∙ c.in_ok-check_lengths.was in
    let lines = sym (lines_judged c.lines.ensures.value ls) ∙ sym c.in_err-check.ensures in
    p.1 ∙ ap Err p.2 ∙ sym (numbers_left s.counts ls fs c.args.room counted lens ∙ lines_stop s.counts ls fs _ lines)

pub returns : goal.returns
returns c =
    let s = c.args.shape in
    let ls = c.args.lines.now in
    let fs = c.args.forms.now in
    let counted = passed_from_ok (judged (count_checks s.counts)) s.counted in
    let lens = sym c.check_lengths.ensures ∙ c.in_ok-check_lengths.was in
    let lines = sym (lines_judged c.lines.ensures.value ls) ∙ sym c.check.ensures ∙ c.in_ok-check.was in
    c.check-2.ensures ∙ forms_judged c.forms.ensures.value fs ∙ sym (numbers_left s.counts ls fs c.args.room counted lens ∙ lines_pass s.counts ls fs lines)
