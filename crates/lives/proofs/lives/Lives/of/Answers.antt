use Rattle.std.proofs.Common.{◌≡◌, ℕ, length, vec_items, sym, ap, ◌∙◌, rules}
use Rattle.std.proofs.lemmas.List.{length-map}
use Rattle.model.specs.Scheme.{Scheme}
use Rattle.model.specs.Tape.{tape}
use Rattle.grammar.specs.declared.parts.Grammar.{Grammar}
use Rattle.grammar.specs.Views.{visit_of, grammar_of}
use Rattle.scheme.specs.Whole.{scheme_of}
use Rattle.lives.specs.Views.{events_in, symbols_in}
use Rattle.lives.proofs.Making.{tape-in_range}
use Rattle.lives.proofs.lives.Lives.of.Goals as goal

symbols_counted : (g : Grammar) (s : Scheme) (n : ℕ) → grammar_of g ≡ s → n ≡ length (vec_items g.visits) → n ≡ length s.visits
symbols_counted g s n e h = h ∙ sym (length-map (vec_items g.visits) visit_of) ∙ ap (λ (q : Scheme). length q.visits) e

pub invariant_of-result : goal.invariant_of-result
invariant_of-result c =
    let s = scheme_of c.args.scheme.now in
    let symbols_are = symbols_counted c.grammar-grammar.result.now s (symbols_in c.in_ok-table.table) c.grammar-grammar.ensures.value (search rules) in
    record { fit = tape-in_range s c.grammar-grammar.ensures.formed (symbols_in c.in_ok-table.table) (events_in c.in_ok-tape.tape) (c.in_ok-tape.ensures ∙ ap tape c.grammar-grammar.ensures.value) symbols_are }

pub returns : goal.returns
returns c =
    let s = scheme_of c.args.scheme.now in
    record {
      tape_is = c.in_ok-tape.ensures ∙ ap tape c.grammar-grammar.ensures.value;
      symbols_are = symbols_counted c.grammar-grammar.result.now s (symbols_in c.in_ok-table.table) c.grammar-grammar.ensures.value (search rules);
    }
