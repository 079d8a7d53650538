-- The word of a rule: its fields, and the bits below them. Assumes nothing.
use Rattle.std.proofs.Common.{◌≡◌, ℕ, ◌+◌, ◌*◌, ◌%◌, ◌^◌, ◌≤◌, eqb, arith}
use mathlib.Core.Option.{some}
use Rattle.std.proofs.lemmas.Bool.Decides.{nat_tests}
use Rattle.model.specs.Words.{rule, written, field, kind, fields, well_made}

-- a word of five parts
five_parts : (w n k a c z : ℕ) → w ≡ 5 * 2 ^ 28 + n * 2 ^ 20 + k * 2 ^ 16 + a * 2 ^ 8 + c * 2 ^ 4 + z → eqb z 0 ≡ eqb (written (rule n k a c)) w
five_parts w n k a c z e = grind (arith, nat_tests)

pub well_rule : (w n p a m : ℕ) → fields (kind w) w ≡ some (rule n p a m) → (p ≤ 6) × (m ≤ 3) → eqb (w % 16) 0 ≡ well_made (rule n p a m) w
well_rule w n p a m e h =
    let k : kind w ≡ 5 = grind arith in
    let f = rw k at e in
    let s = five_parts w (field w 20 8) (field w 16 4) (field w 8 8) (field w 4 4) (w % 2 ^ 4) (omega arith) in
    grind (arith, nat_tests)
