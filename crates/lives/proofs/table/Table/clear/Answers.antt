use Rattle.std.proofs.Common.{◌≡◌, ℕ, ◌*◌, false, replicate, length, vec_len, ap, rules}
use Rattle.lives.proofs.Flags.{blank_flags}
use Rattle.lives.proofs.table.Table.clear.Goals as goal

pub returns-clause-emptied : goal.returns-clause-emptied
returns-clause-emptied c =
    let n = c.args.self.now.symbols in
    let long : vec_len n ≡ length n.items = search rules in
    rw (c.fill.ensures.items (λ y e. e), blank_flags c.none.result (vec_len n) c.none.ensures) (ap (λ (k : ℕ). replicate (54 * k) false) long)
