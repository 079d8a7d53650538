use Rattle.std.proofs.Common.{◌≡◌, ℕ, rules}
use Rattle.std.proofs.lemmas.Iterator.{YieldsList-from_slice}
use Rattle.std.proofs.lemmas.Iterator.Consumers.{YieldsList-from_enumerate}
use Rattle.model.specs.Scheme as Model
use Rattle.model.specs.Lawful.{Before}
use Rattle.grammar.specs.Views.{attribute_of}
use Rattle.scheme.specs.Readiness.{scheme_at, production_at}
use Rattle.scheme.proofs.Chains.{decides_each, decides_placed, decides_mapped}
use Rattle.scheme.proofs.Readiness.{decides_defined}
use Rattle.scheme.proofs.checks.ordered.moment.Moment.has_defined_each.Goals as goal

pub returns : goal.returns
returns c =
    let m = c.args.self.now in
    let xs = m.scope.grammar.now.attributes.items in
    let q = attribute_of c.args.figure in
    let Q = λ (n : ℕ) (a : Model.Attribute). a ≡ q → Before (production_at m) m.step (record { position = c.args.position; attribute = n }) in
    decides_defined (scheme_at m) (production_at m) m.step c.args.position q c.all.result (decides_mapped attribute_of Q xs c.all.result (decides_placed (λ n a. Q n (attribute_of a)) xs c.all.result (decides_each (λ e. Q e.0 (attribute_of e.1)) _ _ _ c.all.ensures.ran (YieldsList-from_enumerate (YieldsList-from_slice xs cc) cc) (λ x b q k. search rules))))
