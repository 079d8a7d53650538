use Rattle.std.proofs.Common.{◌≡◌, false, get_or, ap}
use Rattle.model.specs.Loose as Loose
use Rattle.model.specs.Loose.{empty, held, broken}
use Rattle.model.specs.Outcomes.{at, code}
use Rattle.lives.specs.declared.cells.Cells.{Cells}
use Rattle.lives.specs.declared.table.Section.{Section}
use Rattle.lives.specs.Views.{cells_of, flags_in}
use Rattle.lives.proofs.Flags.{read_at, read_same, over_each}
use Rattle.lives.proofs.table.Table.through_visit.Goals as goal

pub returns : goal.returns
returns c =
    let t = c.args.self.now.symbols.items in
    let none : Cells = record { empty = false; held = false; broken = false } in
    let s = c.index.result.now in
    let i = c.args.section in
    let read = λ (w : Section) (wi : w ≡ get_or s.sections i w) (from : Loose.Cell). read_at t c.args.symbol i from s (get_or s.sections i w) (get_or (get_or s.sections i w).reached (code from) none) c.requires.symbol_below c.requires.section-below c.index.ensures (ap (get_or s.sections i) wi) (read_same (get_or s.sections i w) from none) in
    let one = read c.index-index-section.result c.index-index-section.is empty in
    let two = read c.index-index-section-2.result c.index-index-section-2.is held in
    let three = read c.index-index-section-3.result c.index-index-section-3.is broken in
    over_each (at (flags_in c.args.self.now)) c.args.symbol c.args.section (cells_of c.args.from) _ _ _ c.only_if.result c.only_if-2.result c.only_if-3.result c.or.result c.or-2.result one two three c.only_if.ensures c.only_if-2.ensures c.only_if-3.ensures c.or.ensures c.or-2.ensures
