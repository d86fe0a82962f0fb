use Rattle.std.proofs.Common.{arith}
use Rattle.remainders.specs.Remainders.{exact_r}
use Rattle.printing.proofs.FourDigits.{digits_fit, rest_pushed}
use Rattle.printing.proofs.remainder_text.RemainderPrint.text.Goals as goal

pub range_from-requires : goal.range_from-requires
range_from-requires c = let fits = digits_fit (exact_r c.args.self) c.value.ensures c.format-digits.ensures.text in grind arith

pub returns : goal.returns
returns c =
    rest_pushed (exact_r c.args.self) c.value.ensures c.format-digits.ensures.text c.range_from.ensures.value c.new-text.ensures c.push_str.ensures.bytes c.push_str-2.ensures.bytes
