use Rattle.std.proofs.Common.{ℕ, Some, sym, subst, not-suc-le-zero, arith, rules}
use Rattle.std.proofs.lemmas.List.{length-map}
use Rattle.std.proofs.lemmas.Grind.{common_steps}
use Rattle.std.proofs.lemmas.Option.{gets}
use Rattle.std.proofs.lemmas.Result.{err_from_is_err_and}
use Rattle.model.specs.Checking.{Keeps, finite, reached}
use Rattle.grammar.specs.Views.{grammar_of, production_of}
use Rattle.grammar.proofs.Seen.{option_of_read}
use Rattle.scheme.specs.Checked.{FirstFailing}
use Rattle.scheme.proofs.Judgements.{one_more_kept, all_kept}
use Rattle.scheme.proofs.checks.judge.judge_scheme.Goals as goal

pub returns-in-Some : goal.returns-in-Some
returns-in-Some c =
    let h = subst (FirstFailing (λ (x : ℕ). Keeps (grammar_of c.args.g.now) (finite x))) c.in-Some.is c.in_ok-symbol.ensures in
    record { before = (c.is_rooted.ensures.0 c.if-not-is_rooted.false, h.1); broken = h.0 }

pub returns-in-Some-2 : goal.returns-in-Some-2
returns-in-Some-2 c =
    let s = grammar_of c.args.g.now in
    let f = subst (FirstFailing (λ (x : ℕ). Keeps s (finite x))) c.in_default.is c.in_ok-symbol.ensures in
    let h = subst (FirstFailing (λ (x : ℕ). Keeps s (reached x))) c.in-Some-2.is c.in_ok-symbol-2.ensures in
    record { before = (c.is_rooted.ensures.0 c.if-not-is_rooted.false, f, h.1); broken = h.0 }

pub loop-number-init : goal.loop-number-init
loop-number-init c =
    let s = grammar_of c.args.g.now in (
      record {
        is_rooted = c.is_rooted.ensures.0 c.if-not-is_rooted.false;
        all_finite = subst (FirstFailing (λ (x : ℕ). Keeps s (finite x))) c.in_default.is c.in_ok-symbol.ensures;
        all_reached = subst (FirstFailing (λ (x : ℕ). Keeps s (reached x))) c.in_default-2.is c.in_ok-symbol-2.ensures;
      },
      λ m l. absurd (not-suc-le-zero l),
    )

pub judge_production-requires : goal.judge_production-requires
judge_production-requires c = sym (option_of_read production_of c.args.g.now.productions.items c.loop-number.number (Some c.production-item.result) (grind (arith, common_steps, gets)))

pub loop-number-preserved : goal.loop-number-preserved
loop-number-preserved c =
    let before = c.loop-number.invariant in
    (before.0, one_more_kept (grammar_of c.args.g.now) c.loop-number.number before.1 c.in_ok-judge_production.ensures)

pub returns-in_err-judge_production : goal.returns-in_err-judge_production
returns-in_err-judge_production c =
    let p = err_from_is_err_and c.from_residual-in_err-judge_production.result c.from_residual-in_err-judge_production.ensures.1 in
    rw (p.1, p.2) (c.in_err-judge_production.ensures c.loop-number.invariant)

pub returns : goal.returns
returns c =
    let before = c.loop-number.invariant in
    all_kept (grammar_of c.args.g.now) c.loop-number.number (simp length-map (search rules)) before.0 before.1
