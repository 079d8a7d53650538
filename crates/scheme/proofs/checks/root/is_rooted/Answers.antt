use Rattle.std.proofs.Common.{sym, ◌∙◌, rules}
use Rattle.std.proofs.lemmas.Bool.{both_ways, not-true, not_from_false}
use Rattle.grammar.specs.Views.{grammar_of}
use Rattle.scheme.proofs.Roots.{is_one, inherits_not_any, rooted_by}
use Rattle.scheme.proofs.checks.root.is_rooted.Goals.{then-eq, else-eq}
use Rattle.scheme.proofs.checks.root.is_rooted.Goals as goal

pub returns-then-not-root_inherits : goal.returns-then-not-root_inherits
returns-then-not-root_inherits c =
    let one = is_one _ c.last_visit.result c.eq.result c.last_visit.ensures c.eq.ensures in
    elim c.if-eq.branch [
      | then-eq w ↦ rooted_by (grammar_of c.args.g.now) c.root_is_child.result (one.0 w.if-eq.true) (rw w.deref.ensures.value at (sym w.root_inherits.ensures ∙ not-true w.root_inherits.result (sym w.value-is ∙ c.if-not-root_inherits.true))) (search rules)
      | else-eq w ↦ absurd (both_ways c.eq.result w.if-eq.false (sym w.value-is ∙ c.if-not-root_inherits.true))
    ]

pub returns-else-not-root_inherits : goal.returns-else-not-root_inherits
returns-else-not-root_inherits c =
    let one = is_one _ c.last_visit.result c.eq.result c.last_visit.ensures c.eq.ensures in (
      λ t. absurd (both_ways c.if-eq.value c.if-not-root_inherits.false t),
      λ q. elim c.if-eq.branch [
        | then-eq w ↦ w.value-is ∙ not_from_false w.root_inherits.result (w.root_inherits.ensures ∙ rw w.deref.ensures.value (inherits_not_any (grammar_of c.args.g.now) q))
        | else-eq w ↦ w.value-is ∙ one.1 q.one_visit
      ],
    )
