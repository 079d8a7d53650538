use Rattle.std.proofs.Common.{◌≡◌, map, take, vec_items}
use Rattle.model.specs.Tables as Tables
use Rattle.grammar.specs.Views.{production_of}
use Rattle.scheme.specs.Whole.{scheme_of}
use Rattle.plan.specs.Views.{letter_of, production_table_of}
use Rattle.plan.proofs.tables.production.tabulate.Given as goal

abbrev pub invariant-loop-production : goal.invariant-loop-production
invariant-loop-production l = map production_table_of (vec_items l.tables) ≡ map (Tables.production_table (scheme_of l.figures.scheme.now) (map (λ a. letter_of a.letter) l.plans)) (map production_of (take l.production-index l.production-items))
