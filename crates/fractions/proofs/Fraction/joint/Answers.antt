use Rattle.fractions.proofs.Wide.{sum_fits, sum_kept, sum_small}
use Rattle.fractions.proofs.Fraction.joint.Goals as goal

pub overflow_add-result : goal.overflow_add-result
overflow_add-result c = sum_fits c.args.self.numerator c.args.x c.args.self.low c.requires.x c.args.other.numerator c.args.y c.args.other.low c.requires.y

pub returns : goal.returns
returns c = record {
  value = sum_kept c.args.self.numerator c.args.x c.args.self.low c.requires.x c.args.other.numerator c.args.y c.args.other.low c.requires.y;
  small = sum_small c.args.self.numerator c.args.x c.args.self.low c.requires.x c.args.other.numerator c.args.y c.args.other.low c.requires.y;
}
