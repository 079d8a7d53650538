use Rattle.std.proofs.Common.{◌≡◌, ◌<◌, true, length, rules}
use Rattle.std.proofs.lemmas.Iterator.{YieldsList-from_slice}
use Rattle.std.proofs.lemmas.Iterator.Adapters.{serves_from_places}
use Rattle.scheme.specs.Marks.{marked}
use Rattle.scheme.proofs.Chains.{decides_each}
use Rattle.scheme.proofs.Marks.{placed_here}
use Rattle.scheme.proofs.checks.marks.all_marked.Goals as goal

pub all-requires-clause-callable : goal.all-requires-clause-callable
all-requires-clause-callable c = serves_from_places (YieldsList-from_slice c.args.symbols.now cc) (λ x q k. search rules) (λ x k l e. let h : x.now < length c.args.marks.now = placed_here c.args.marks.now c.args.symbols.now k x.now c.requires l e in search rules)

pub returns : goal.returns
returns c = decides_each (λ x. marked c.args.marks.now x ≡ true) _ _ _ c.all.ensures.ran (YieldsList-from_slice c.args.symbols.now cc) (λ x b q k. search rules)
