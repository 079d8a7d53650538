use Rattle.std.proofs.Common.{◌++◌, codes, map, take, vec_items}
use Rattle.std.specs.Fmt.{HasWritten, IsPlainFormatter}
use Rattle.std.specs.List.{flat_map}
use Rattle.plan.specs.Text.{mark}
use Rattle.plan.specs.Views.{letter_of}
use Rattle.plan.proofs.plan.text.PlanDisplay.fmt.Given as goal

abbrev pub invariant-loop-attribute : goal.invariant-loop-attribute
invariant-loop-attribute g l =
    IsPlainFormatter l.fn.f → HasWritten g.W.Write.write_str_gives l.fn.f (codes "plan " ++ flat_map mark (map (λ a. letter_of a.letter) (take l.attribute-index (vec_items l.self.attributes)))) l.f
