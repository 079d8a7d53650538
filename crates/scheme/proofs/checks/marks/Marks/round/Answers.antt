use Rattle.std.proofs.Common.{◌+◌, ◌||◌, length, List, Bool, Some, sym, ap, ◌∙◌, subst, arith}
use Rattle.std.proofs.lemmas.Grind.{common_steps}
use Rattle.std.proofs.lemmas.Option.{gets}
use Rattle.scheme.specs.Marks.{Only, Meant, Followed, Round}
use Rattle.model.proofs.Main.{truncated_formed}
use Rattle.grammar.specs.Views.{grammar_of, production_of}
use Rattle.grammar.proofs.Seen.{option_of_read}
use Rattle.scheme.proofs.Marks.{left_placed, children_placed, only_stands, followed_only, round_more, written}
use Rattle.scheme.proofs.checks.marks.Marks.round.Goals as goal

pub follow-added-requires : goal.follow-added-requires
follow-added-requires c =
    let m = c.loop-p.self in
    let s = grammar_of m.grammar.now in
    let n = c.loop-p.p-index in
    let ms = c.deref_mut.result.now in
    let items = c.deref-p-items.ensures.value ∙ ap (λ g. g.now.productions.items) (sym c.loop-p.invariant.grammar) in
    let h = sym (option_of_read production_of m.grammar.now.productions.items n (Some c.p-item.result) (grind (arith, common_steps, gets))) in
    let size = ap length c.deref_mut.ensures.value ∙ m.size in
    record {
      left = left_placed s ms n (production_of c.p-item.result) (truncated_formed s m.formed) size h;
      children = children_placed s ms n (production_of c.p-item.result) (truncated_formed s m.formed) size h;
    }

pub invariant_of-self : goal.invariant_of-self
invariant_of-self c =
    let m = c.loop-p.self in
    let s = grammar_of m.grammar.now in
    let n = c.loop-p.p-index in
    let old = m.marked.items in
    let new = c.follow-added.new.marks in
    let p = production_of c.p-item.result in
    let items = c.deref-p-items.ensures.value ∙ ap (λ g. g.now.productions.items) (sym c.loop-p.invariant.grammar) in
    let h = sym (option_of_read production_of m.grammar.now.productions.items n (Some c.p-item.result) (grind (arith, common_steps, gets))) in
    let f = subst (λ (ms : List Bool). Followed m.way p ms new c.follow-added.result) c.deref_mut.ensures.value c.follow-added.ensures in
    let whole = written m.marked.len new old (f.grown.size ∙ sym m.marked.ok.0) in
    record {
      formed = m.formed;
      size = ap length whole ∙ f.grown.size ∙ m.size;
      only = ∣ subst (Only (Meant m.way s)) (sym whole) (followed_only m.way s old new c.follow-added.result n p h (only_stands m.way s old m.only) f) ∣₁;
    }

pub loop-p-preserved : goal.loop-p-preserved
loop-p-preserved c =
    let m = c.loop-p.self in
    let s = grammar_of m.grammar.now in
    let n = c.loop-p.p-index in
    let old = m.marked.items in
    let new = c.follow-added.new.marks in
    let p = production_of c.p-item.result in
    let items = c.deref-p-items.ensures.value ∙ ap (λ g. g.now.productions.items) (sym c.loop-p.invariant.grammar) in
    let h = sym (option_of_read production_of m.grammar.now.productions.items n (Some c.p-item.result) (grind (arith, common_steps, gets))) in
    let f = subst (λ (ms : List Bool). Followed m.way p ms new c.follow-added.result) c.deref_mut.ensures.value c.follow-added.ensures in
    let whole = written m.marked.len new old (f.grown.size ∙ sym m.marked.ok.0) in
    record {
      grammar = c.loop-p.invariant.grammar;
      way = c.loop-p.invariant.way;
      round = subst (λ (ms : List Bool). Round m.way s c.args.self.now.marked.items ms (c.loop-p.added || c.follow-added.result) (n + 1)) (sym whole) (round_more m.way s c.args.self.now.marked.items old new c.loop-p.added c.follow-added.result n p h (only_stands m.way s old m.only) c.loop-p.invariant.round f);
    }
