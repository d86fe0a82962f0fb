use Rattle.std.proofs.Common.{sym, subst, ◌∙◌}
use Rattle.sheet.specs.Writing.{content}
use Rattle.sheet.proofs.RoundTrip.{AllWritten, all_written}
use Rattle.sheet.proofs.writer.write.Goals as goal

pub returns : goal.returns
returns c =
    let ls = c.args.lines.now in
    let fs = c.args.forms.now in
    let s = content c.args.mark c.in_ok-shape.shape.counts ls fs in
    let ok = sym c.check.ensures ∙ c.in_ok-check.was in
    let by_shape = all_written s c.args.memory.now _ _ _ _ _ ok c.put_header.ensures c.put_words.ensures c.forms.ensures.value.start c.put_words-2.ensures c.total_length.ensures.value in
    let told = subst (λ d. AllWritten (content c.args.mark d ls fs) c.args.memory.now c.put_words-2.new.memory c.total_length.result) c.in_ok-shape.ensures.0 by_shape in
    record { value = told.0; after = told.1; back = told.2 }
