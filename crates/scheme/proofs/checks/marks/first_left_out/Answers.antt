use Rattle.std.proofs.Common.{rules}
use Rattle.std.proofs.lemmas.List.{length-map, length-set}
use Rattle.grammar.specs.Views.{grammar_of}
use Rattle.scheme.proofs.Marks.{none_asked, first_marks, left_out}
use Rattle.scheme.proofs.checks.marks.first_left_out.Goals as goal

pub returns-then-is_empty : goal.returns-then-is_empty
returns-then-is_empty c = none_asked c.args.way (grammar_of c.args.g.now) (simp length-map (search rules))

pub invariant_of-marks : goal.invariant_of-marks
invariant_of-marks c =
    record {
      formed = ∣ c.requires ∣₁;
      size = simp (length-set, length-map) (search rules);
      only = ∣ (first_marks c.args.way (grammar_of c.args.g.now) c.len.result _ c.in_ok-marked.marked.items (search rules) (search rules) (c.in_ok-marked.ensures.items_if_clones_equal (λ y h. h))).0 ∣₁;
    }

pub returns : goal.returns
returns c =
    left_out c.args.way (grammar_of c.args.g.now) _ _ c.first_unmarked.result (simp (length-set, length-map) (search rules)) (first_marks c.args.way (grammar_of c.args.g.now) c.len.result _ c.in_ok-marked.marked.items (search rules) (search rules) (c.in_ok-marked.ensures.items_if_clones_equal (λ y h. h))).1 c.close.ensures.full c.first_unmarked.ensures
