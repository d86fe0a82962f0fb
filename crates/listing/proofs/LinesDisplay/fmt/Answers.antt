use Rattle.std.proofs.Output.{has_written_of_eq}
use Rattle.sheet.specs.Typed.{says}
use Rattle.listing.proofs.Rows.{lines_written}
use Rattle.listing.proofs.LinesDisplay.fmt.Goals as goal

pub returns-clause-writes : goal.returns-clause-writes
returns-clause-writes g c = λ plain ok.
    has_written_of_eq _ _ _ _ _ (lines_written (says c.args.self.now.0.now) _ c.counts.ensures _ c.lines.ensures) (c.write_rows.ensures plain ok)
