use Rattle.std.proofs.Common.{refl, rules}
use Rattle.algebra.proofs.FractionLaws.{Q_path}
use Rattle.fractions.specs.Fractions.{lowest_q}
use Rattle.fractions.proofs.Fitting.{fits_within}
use Rattle.fractions.proofs.operations.FractionTryFromLowest.try_from.Goals as goal

pub returns-then-lowest-le-PART_LIMIT : goal.returns-then-lowest-le-PART_LIMIT
returns-then-lowest-le-PART_LIMIT c = (fits_within (lowest_q c.args.lowest) (search rules) (search rules), Q_path _ _ (search rules) refl)
