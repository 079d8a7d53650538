-- The kinds of word.
use Rattle.std.specs.Prelude.{ℕ}
use Rattle.reader.specs.declared.kind.Kind.{Kind}
use Rattle.reader.specs.declared.kind.Kind.TheVariants.{Symbol, Attribute, Production, Child, Rule, Argument, Eval, Visit, Leave, End}

-- the number that a word of the kind has in its top four bits
abbrev pub number_of : Kind → ℕ
number_of Symbol = 1
number_of Attribute = 2
number_of Production = 3
number_of Child = 4
number_of Rule = 5
number_of Argument = 6
number_of Eval = 7
number_of Visit = 8
number_of Leave = 9
number_of End = 15
