use Rattle.std.proofs.Common.{◌≡◌, false, get_or, set, ◌||◌, not, ◌&&◌, refl, sym, ap, arith, rules}
use Rattle.std.proofs.Math.Bool.{beq}
use Rattle.model.specs.Outcomes.{code}
use Rattle.lives.specs.declared.cells.Cells.{Cells}
use Rattle.lives.specs.declared.table.Sections.{Sections}
use Rattle.lives.specs.Views.{cell_of, cells_of}
use Rattle.lives.proofs.Flags.{put_all_at, same_read, read_same}
use Rattle.lives.proofs.table.Table.enter.Goals as goal

pub returns-clause-entered : goal.returns-clause-entered
returns-clause-entered c =
    let t = c.args.self.now.symbols.items in
    let x = c.args.symbol in
    let i = c.args.section in
    let s = c.index_mut.result.now in
    let w = c.index-index_mut-section.result in
    let same_s : c.index.result.now ≡ s = same_read t t x c.index.result.now s refl c.requires.symbol_below c.index.ensures c.index_mut.ensures.value in
    let same_w : c.index-index-section.result ≡ w = same_read c.index.result.now.sections s.sections i c.index-index-section.result w (ap (λ (z : Sections). z.sections) same_s) (omega (arith, s.six)) c.index-index-section.is c.index-index_mut-section.is in
    let none : Cells = record { empty = false; held = false; broken = false } in
    let r = get_or w.reached (code (cell_of c.args.from)) none in
    let all : cells_of c.or-all.result ≡ record { e = r.empty || c.args.to.empty; h = r.held || c.args.to.held; b = r.broken || c.args.to.broken } = search rules in
    let ne : c.ne.result ≡ not (beq c.or-all.result.empty r.empty && (beq c.or-all.result.held r.held && beq c.or-all.result.broken r.broken)) = search rules in
    let put = put_all_at t x i (cell_of c.args.from) s w r c.requires.symbol_below c.requires.section-below c.index_mut.ensures.value c.index-index_mut-section.is (read_same w (cell_of c.args.from) none) in
    let written : set (get_or s.sections i w).reached c.number-from.result c.or-all.result ≡ set w.reached (code (cell_of c.args.from)) c.or-all.result = search rules in
    rw ne (sym (put _ _ c.or-all.result (cells_of c.args.to) c.args.self.now.changed refl written all))
