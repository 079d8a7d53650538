use Rattle.std.proofs.Common.{refl}
use Rattle.plan.proofs.span.making.span_at.Goals as goal

pub returns-in-Inherited : goal.returns-in-Inherited
returns-in-Inherited c = rw (c.in-Inherited.is, c.first_giving-opens_at.ensures.value, c.first_visit-last.ensures.value, c.from.ensures) refl
