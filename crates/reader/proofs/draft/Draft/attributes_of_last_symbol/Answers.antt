use Rattle.std.proofs.Common.{◌≡◌, ℕ, suc, eqb, List, map, length, sym, ap, ◌∙◌, arith, rules}
use Rattle.std.proofs.lemmas.List.{length-map}
use Rattle.model.specs.Lists.{count}
use Rattle.model.specs.Scheme.{Attribute as ModelAttribute}
use Rattle.reader.specs.Reading.{sofar_of}
use Rattle.grammar.specs.Views.{attribute_of}
use Rattle.grammar.specs.declared.parts.Attribute.{Attribute}
use Rattle.grammar.proofs.Counts.{counted_more, counted_all, count_none, count-before}
use Rattle.reader.proofs.draft.Draft.attributes_of_last_symbol.Goals as goal

pub returns-in_default : goal.returns-in_default
returns-in_default c =
    let q = sofar_of c.args.self.now in
    let len : length q.visits ≡ c.len.result = search (rules, length-map) in
    let none : c.len.result ≡ 0 = search (rules, arith) in
    sym (ap (λ (n : ℕ). count (λ b. eqb (suc b.symbol) n) q.attributes) (len ∙ none) ∙ count_none q.attributes)

pub loop-attribute-preserved : goal.loop-attribute-preserved
loop-attribute-preserved c = counted_more attribute_of (λ (b : ModelAttribute). eqb b.symbol c.in-Some.last) c.deref-attribute-items.result.now c.loop-attribute.attribute-index _ c.loop-attribute.count c.from-count.result c.loop-attribute-test.true c.from-count.ensures c.loop-attribute.invariant

pub returns : goal.returns
returns c =
    let q = sofar_of c.args.self.now in
    let last = c.in-Some.last in
    let len : length q.visits ≡ suc last = search (rules, length-map, arith) in
    let f = ap (λ (n : ℕ). count (λ b. eqb (suc b.symbol) n) q.attributes) len ∙ count-before q.attributes last in
    counted_all attribute_of (λ (b : ModelAttribute). eqb b.symbol last) c.deref-attribute-items.result.now c.loop-attribute.attribute-index c.loop-attribute.count c.loop-attribute-test.false c.loop-attribute.invariant ∙ ap (λ (bs : List Attribute). count (λ b. eqb b.symbol last) (map attribute_of bs)) c.deref-attribute-items.ensures.value ∙ sym f
