use Rattle.std.proofs.Common.{rules}
use Rattle.grammar.specs.Views.{grammar_of}
use Rattle.model.proofs.Main.{words_formed, words_limited, words_round_trip}
use Rattle.scheme.proofs.scheme.Scheme.read.Goals as goal

pub judge_scheme-requires : goal.judge_scheme-requires
judge_scheme-requires c = words_formed c.args.words.now (grammar_of c.in_ok-grammar.grammar) c.in_ok-grammar.ensures

pub invariant_of-result : goal.invariant_of-result
invariant_of-result c =
    let ws = c.args.words.now in
    let s = grammar_of c.in_ok-grammar.grammar in
    let said = c.in_ok-grammar.ensures in
    record { formed = ∣ words_formed ws s said ∣₁; limited = ∣ words_limited ws s said ∣₁; lawful = ∣ c.in_ok-judge_scheme.ensures ∣₁ }

pub returns : goal.returns
returns c =
    let ws = c.args.words.now in
    let s = grammar_of c.in_ok-grammar.grammar in
    let said = c.in_ok-grammar.ensures in
    record {
      sized = search rules;
      said = said;
      written = words_round_trip ws s said;
      formed = words_formed ws s said;
      limited = words_limited ws s said;
      lawful = c.in_ok-judge_scheme.ensures;
    }
