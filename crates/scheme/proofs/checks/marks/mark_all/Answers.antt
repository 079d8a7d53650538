use Rattle.std.proofs.Common.{arith}
use Rattle.scheme.proofs.Marks.{placed_at, marking_none, marking_more, below_all}
use Rattle.scheme.proofs.checks.marks.mark_all.Goals as goal

pub mark-added-requires : goal.mark-added-requires
mark-added-requires c =
    let l = placed_at c.args.marks.now c.args.symbols.now c.loop-x.x-index c.requires c.loop-x-test.true in
    omega arith

pub loop-x-init : goal.loop-x-init
loop-x-init c = marking_none c.args.symbols.now c.args.marks.now

pub loop-x-preserved : goal.loop-x-preserved
loop-x-preserved c = marking_more c.args.symbols.now c.args.marks.now c.loop-x.marks c.mark-added.new.marks c.loop-x.added c.mark-added.result c.loop-x.x-index c.loop-x-test.true c.loop-x.invariant c.mark-added.ensures.grown c.mark-added.ensures.here

pub returns : goal.returns
returns c = record {
  grown = c.loop-x.invariant.grown;
  here = below_all c.loop-x.marks c.args.symbols.now c.loop-x.x-index c.loop-x-test.false c.loop-x.invariant.here;
}
