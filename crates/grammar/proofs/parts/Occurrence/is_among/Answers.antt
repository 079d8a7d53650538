use Rattle.std.proofs.Common.{◌∙◌}
use Rattle.model.proofs.Common.Seen.{any-map}
use Rattle.grammar.proofs.Seen.{list_any_same, same_swapped}
use Rattle.grammar.proofs.parts.Occurrence.is_among.Goals as goal

pub returns : goal.returns
returns c = rw any-map (c.contains.ensures.value ∙ list_any_same _ _ (same_swapped c.args.self) c.args.others.now)
