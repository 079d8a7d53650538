use Rattle.std.proofs.Common.{min, max, vec_items, ap, refl, rules, arith}
use Rattle.model.specs.Scheme as Model
use Rattle.scheme.specs.Whole.{scheme_of}
use Rattle.plan.proofs.Bounds.{reads, gives, last_found, first_found}
use Rattle.plan.proofs.sections.sections_of.Goals as goal

pub overflow_cast-result : goal.overflow_cast-result
overflow_cast-result c =
    let b = c.args.attribute in
    let h = last_found (scheme_of c.args.scheme.now) (vec_items c.grammar-g.result.now.productions) (ap (λ (s : Model.Scheme). s.productions) c.grammar-g.ensures.value) c.grammar-g.ensures.limited b.symbol c.args.number c.from-visit.result b.visit.0 c.bound_of-last.result c.from-visit.ensures (omega arith) (c.bound_of-last.ensures (reads c.args.number) max (λ q st b k. search rules) (λ m k r e. search rules)) in
    omega arith

pub returns-in-Inherited : goal.returns-in-Inherited
returns-in-Inherited c =
    let b = c.args.attribute in
    let h = last_found (scheme_of c.args.scheme.now) (vec_items c.grammar-g.result.now.productions) (ap (λ (s : Model.Scheme). s.productions) c.grammar-g.ensures.value) c.grammar-g.ensures.limited b.symbol c.args.number c.from-visit.result b.visit.0 c.bound_of-last.result c.from-visit.ensures (omega arith) (c.bound_of-last.ensures (reads c.args.number) max (λ q st b k. search rules) (λ m k r e. search rules)) in
    rw (c.in-Inherited.is, h.1) refl

pub overflow_cast-result-in-Synthesized : goal.overflow_cast-result-in-Synthesized
overflow_cast-result-in-Synthesized c =
    let b = c.args.attribute in
    let h = first_found (scheme_of c.args.scheme.now) (vec_items c.grammar-g.result.now.productions) (ap (λ (s : Model.Scheme). s.productions) c.grammar-g.ensures.value) c.grammar-g.ensures.limited b.symbol c.args.number c.from-visit.result b.visit.0 c.bound_of-first.result c.from-visit.ensures (omega arith) (c.bound_of-first.ensures (gives c.args.number) min (λ q st b k. search rules) (λ m k r e. search rules)) in
    omega arith

pub returns-in-Synthesized : goal.returns-in-Synthesized
returns-in-Synthesized c =
    let b = c.args.attribute in
    let h = first_found (scheme_of c.args.scheme.now) (vec_items c.grammar-g.result.now.productions) (ap (λ (s : Model.Scheme). s.productions) c.grammar-g.ensures.value) c.grammar-g.ensures.limited b.symbol c.args.number c.from-visit.result b.visit.0 c.bound_of-first.result c.from-visit.ensures (omega arith) (c.bound_of-first.ensures (gives c.args.number) min (λ q st b k. search rules) (λ m k r e. search rules)) in
    rw (c.in-Synthesized.is, h.1) refl
