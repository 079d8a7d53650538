use Rattle.lives.proofs.Writing.{last_use_is}
use Rattle.lives.proofs.uses.is_last_use.Goals as goal

pub returns-then-reads : goal.returns-then-reads
returns-then-reads c = rw (last_use_is c.args.p.now c.args.t c.args.o c.deref.result.now c.in-Some-len1-up.field-0.now c.deref.ensures.value c.in-Some-len1-up.ensures.lookup.0.2 c.in-Some-len1-up.len_at_least, ← c.reads.ensures, ← c.is_read.ensures, c.if-reads.true)

pub returns-else-reads : goal.returns-else-reads
returns-else-reads c = rw (last_use_is c.args.p.now c.args.t c.args.o c.deref.result.now c.in-Some-len1-up.field-0.now c.deref.ensures.value c.in-Some-len1-up.ensures.lookup.0.2 c.in-Some-len1-up.len_at_least, ← c.reads.ensures, c.if-reads.false)
