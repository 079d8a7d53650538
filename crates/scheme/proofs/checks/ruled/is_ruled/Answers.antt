use Rattle.std.proofs.Common.{rules, length, ℕ}
use Rattle.std.proofs.lemmas.Bool.Decides.{Decides-like}
use Rattle.scheme.specs.Ruling.{RuledOnce}
use Rattle.grammar.specs.Views.{scheme_in, production_in}
use Rattle.scheme.proofs.Chains.{decides_through}
use Rattle.scheme.proofs.Ruling.{all_positions}
use Rattle.scheme.proofs.checks.ruled.is_ruled.Goals as goal

pub returns : goal.returns
returns c =
    let s = scheme_in c.args.scope.now in
    let p = production_in c.args.scope.now in
    Decides-like c.all.result (all_positions s p) (λ h k _ a. h (record { position = k; attribute = a })) (decides_through (λ (k : ℕ). (a : ℕ) → RuledOnce s p (record { position = k; attribute = a })) (length p.children) _ _ _ _ c.all.ensures.ran c.new.ensures.start (search rules) c.new.ensures.exhausted (λ x b q k. search rules))
