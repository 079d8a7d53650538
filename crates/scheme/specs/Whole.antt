-- The scheme that a value is, and what reading answers by it.
use Rattle.std.specs.Prelude.{ℕ, List, Ok, Err, Result}
use Rattle.model.specs.Scheme as Model
use Rattle.grammar.specs.declared.refusal.Refusal.{Refusal}
use Rattle.scheme.specs.declared.scheme.Scheme.{Scheme}
use Rattle.scheme.specs.Verdicts.{Accepted, Refused}
use Rattle.grammar.specs.Views.{grammar_of}

abbrev pub scheme_of : Scheme → Model.Scheme
scheme_of s = grammar_of s.grammar

abbrev pub Judged : List ℕ → Result Scheme Refusal → Type 0
Judged ws (Ok s) = Accepted ws (scheme_of s)
Judged ws (Err e) = Refused ws e
