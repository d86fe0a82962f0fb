use Rattle.std.proofs.Common.{◌≡◌, Ok, ap, sym, subst, ◌∙◌}
use Rattle.std.proofs.lemmas.Result.{err_from_is_err_and}
use Rattle.sheet.specs.Checks.{judged}
use Rattle.sheet.specs.Reading.{count_checks}
use Rattle.sheet.proofs.Headers.{counts_stop, layout_stops, header_passes}
use Rattle.sheet.proofs.reader.read_header.Goals as goal

pub returns-in_err-shape : goal.returns-in_err-shape
returns-in_err-shape c =
    let p = err_from_is_err_and c.from_residual.result c.from_residual.ensures.1 in
    rw (p.1, p.2) (counts_stop c.in-Some.ensures.cases (sym c.in-Some-of.ensures) _ (ap (λ d. judged (count_checks d)) (sym c.read_counts.ensures) ∙ c.in_err-shape.ensures))

pub returns-in_err-check_layout : goal.returns-in_err-check_layout
returns-in_err-check_layout c =
    let p = err_from_is_err_and c.from_residual-in_err-check_layout.result c.from_residual-in_err-check_layout.ensures.1 in
    let shape = c.in_ok-shape.ensures in
    rw (p.1, p.2) (layout_stops c.in-Some.ensures.cases (sym c.in-Some-of.ensures) (shape.0 ∙ c.read_counts.ensures) (subst (λ d. judged (count_checks d) ≡ Ok tt) (sym shape.0) shape.1) _ (sym c.in_err-check_layout.ensures))

pub returns : goal.returns
returns c =
    let shape = c.in_ok-shape.ensures in
    header_passes c.in-Some.ensures.cases (sym c.in-Some-of.ensures) (shape.0 ∙ c.read_counts.ensures) (subst (λ d. judged (count_checks d) ≡ Ok tt) (sym shape.0) shape.1) (sym c.check_layout.ensures ∙ c.in_ok-check_layout.was)
