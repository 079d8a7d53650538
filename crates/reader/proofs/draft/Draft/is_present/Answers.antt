use Rattle.std.proofs.Common.{◌-◌, length, arith}
use Rattle.std.proofs.lemmas.Grind.{common_steps}
use Rattle.std.proofs.lemmas.List.{length-map}
use Rattle.std.proofs.lemmas.Option.{gets}
use Rattle.grammar.specs.Views.{visit_of}
use Rattle.grammar.proofs.Seen.{option_of_read}
use Rattle.reader.proofs.draft.Draft.is_present.Goals as goal

pub returns-in-Attribute : goal.returns-in-Attribute
returns-in-Attribute c =
    let vs = c.args.self.now.whole.visits.items in
    let last = option_of_read visit_of vs (length vs - 1) c.copied.result (grind (arith, common_steps, gets)) in
    let long = length-map vs visit_of in
    rw (c.in-Attribute.is, c.within.ensures, last, long)
