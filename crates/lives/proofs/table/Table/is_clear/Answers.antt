use Rattle.std.proofs.Common.{false, refl}
use Rattle.lives.specs.declared.cells.Cells.{Cells}
use Rattle.lives.proofs.Flags.{clear_at}
use Rattle.lives.proofs.table.Table.is_clear.Goals as goal

pub returns-then-not-ends : goal.returns-then-not-ends
returns-then-not-ends c =
    let none : Cells = record { empty = false; held = false; broken = false } in
    rw (clear_at c.args.self.now.symbols.items c.index.result.now c.index-index-1.result c.number.result none c.args.self.now.present c.index.ensures c.index-index-1.is c.number.ensures, c.if-not-ends.true) refl

pub returns-else-not-ends : goal.returns-else-not-ends
returns-else-not-ends c =
    let none : Cells = record { empty = false; held = false; broken = false } in
    rw (clear_at c.args.self.now.symbols.items c.index.result.now c.index-index-1.result c.number.result none c.args.self.now.present c.index.ensures c.index-index-1.is c.number.ensures, c.if-not-ends.false) refl
