use Rattle.std.proofs.Common.{◌≡◌, ℕ, suc, List, ◌∙◌, ap, rules, arith}
use Rattle.std.proofs.lemmas.List.{map-id}
use Rattle.std.proofs.Math.ListN.{get_elem?}
use Rattle.model.specs.Scheme.{symbol_at}
use Rattle.grammar.specs.Views.{production_of, same}
use Rattle.grammar.proofs.Seen.{read, option_of_read}
use Rattle.grammar.proofs.parts.Production.symbol_at.Goals as goal

pub returns-in-Some : goal.returns-in-Some
returns-in-Some c =
    let xs = c.args.self.now.children.items in
    let e : suc c.in-Some.k ≡ c.args.position = omega arith in
    option_of_read same xs c.in-Some.k c.copied.result (grind (rules, read)) ∙ ap (λ (ys : List ℕ). get_elem? ys c.in-Some.k) (map-id xs) ∙ ap (symbol_at (production_of c.args.self.now)) e
