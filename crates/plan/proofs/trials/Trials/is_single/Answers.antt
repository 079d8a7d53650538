use Rattle.std.proofs.Common.{ℕ, ◌<◌, Bool, length, Decides, ap, ◌∙◌, subst, arith}
use Rattle.model.specs.Loose.{Alternate}
use Rattle.model.proofs.Main.{truncated_formed}
use Rattle.scheme.specs.Whole.{scheme_of}
use Rattle.lives.specs.Views.{member}
use Rattle.plan.proofs.Lettering.{alone}
use Rattle.plan.proofs.trials.Trials.is_single.Goals as goal

pub returns-clause-decided : goal.returns-clause-decided
returns-clause-decided c =
    let t = c.args.self.now in
    let s = scheme_of t.scheme.now in
    let inside : c.args.number < length t.flags.items = omega arith in
    subst (λ (members : ℕ → Bool). Decides c.alternates-alternates.result (Alternate s members)) (ap member c.deref.ensures.value ∙ alone t.flags.items t.clear c.args.number inside)
    (c.alternates-alternates.ensures.decided s (truncated_formed s t.scheme.now.formed) (record { tape_is = t.tape_is; symbols_are = t.symbols_are }))
