use Rattle.std.proofs.Output.{has_written_of_eq}
use Rattle.sheet.specs.Typed.{says}
use Rattle.listing.proofs.Rows.{forms_written}
use Rattle.listing.proofs.FormsDisplay.fmt.Goals as goal

pub returns-clause-writes : goal.returns-clause-writes
returns-clause-writes g c = λ plain ok.
    has_written_of_eq _ _ _ _ _ (forms_written (says c.args.self.now.0.now) _ c.counts.ensures _ c.forms.ensures) (c.write_rows.ensures plain ok)
