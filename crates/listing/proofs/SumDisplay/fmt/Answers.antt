use Rattle.std.proofs.Common.{◌≡◌, ◌++◌, sym, ap, ◌∙◌, append_assoc, w32, of_z, rules, tests}
use Rattle.std.proofs.Output.{has_written_append, has_written_of_eq}
use Rattle.std.specs.List.{flat_map}
use Rattle.listing.specs.Listing.{terms_text, next_text, first_text}
use Rattle.listing.proofs.Terms.{Counted, counted_term, terms_left, terms_left_start, terms_left_step, terms_left_found, terms_left_not_found, zero_from_bits, bits_from_zero}
use Rattle.listing.proofs.SumDisplay.fmt.Goals as goal

pub returns-in_default-clause-writes : goal.returns-in_default-clause-writes
returns-in_default-clause-writes g c =
    let start = terms_left_start c.enumerate-coefficients.result c.iter.result c.args.self.now.0.now c.enumerate-coefficients.ensures.source c.enumerate-coefficients.ensures.count c.iter.ensures.rest in
    let none = terms_left_not_found _ _ (λ x q k. (search rules, zero_from_bits x.1.now (search rules) (search (rules, tests)))) (λ x q k zero. let bits : of_z w32 x.1.now ≡ 0 = bits_from_zero x.1.now zero in search (rules, tests)) c.enumerate-coefficients.result _ c.in_default.ensures.ran in
    λ plain ok. has_written_of_eq _ _ _ _ _ (ap terms_text (sym none ∙ start)) (c.write.ensures.writes plain ok)

pub loop-k-init : goal.loop-k-init
loop-k-init g c =
    let x : Counted = (c.in-Some.k, c.in-Some.field-0-1) in
    let start = terms_left_start c.enumerate-coefficients.result c.iter.result c.args.self.now.0.now c.enumerate-coefficients.ensures.source c.enumerate-coefficients.ensures.count c.iter.ensures.rest in
    let found = terms_left_found _ _ (λ x q k. (search rules, zero_from_bits x.1.now (search rules) (search (rules, tests)))) (λ x q k zero. let bits : of_z w32 x.1.now ≡ 0 = bits_from_zero x.1.now zero in search (rules, tests)) c.enumerate-coefficients.result c.find.new.self x c.in-Some.ensures.ran in
    (search rules, search rules, λ plain. (first_text (counted_term x), search rules, ap (λ it. first_text (counted_term x) ++ flat_map next_text (terms_left it)) c.into_iter-k-iterator.ensures.into_iter_gives ∙ ap terms_text (sym found ∙ start)))

pub loop-k-preserved-in-Continue-branch-2 : goal.loop-k-preserved-in-Continue-branch-2
loop-k-preserved-in-Continue-branch-2 g c =
    let x : Counted = (c.in-Some-2.k, c.in-Some-2.field-0-1) in
    let z = c.in-Some-2.field-0-1.now in
    let left = terms_left_step c.loop-k.k-iterator c.next.new.self x c.in-Some-2.ensures.steps (λ zero. c.if-coefficient-ne0.true (bits_from_zero z zero)) in (
      search rules,
      search rules,
      λ plain.
          let so_far = c.loop-k.invariant.2 plain in
          (so_far.0 ++ next_text (counted_term x), has_written_append _ _ _ _ _ _ so_far.1 (search rules), append_assoc so_far.0 (next_text (counted_term x)) _ ∙ ap (λ ts. so_far.0 ++ flat_map next_text ts) (sym left) ∙ so_far.2),
    )
